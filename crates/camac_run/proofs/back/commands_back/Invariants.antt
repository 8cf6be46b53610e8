use Rattle.std.proofs.Common.{◌≡◌, ◌≤◌, ◌+◌, ◌*◌, ◌-◌, ◌++◌, length, map}
use Rattle.camac_branch.specs.Crates.{branch_of}
use Rattle.camac_run.specs.Back.{back_from, commands_back}
use Rattle.camac_run.specs.declared.progress.Wanted.TheVariants.{Cycle}
use Rattle.camac_run.proofs.back.commands_back.Given as goal

abbrev pub invariant-crates : goal.invariant-crates
invariant-crates l = record {
  items : l.back.items ++ map Cycle (back_from l.plan (branch_of l.now) (branch_of l.was) (8 - l.number) l.number) ≡ map Cycle (commands_back l.plan (branch_of l.now) (branch_of l.was));
  len : length l.back.items + 2 ≤ 2 * l.number;
}
