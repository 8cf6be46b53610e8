use Rattle.std.proofs.Common.{◌≡◌, ◌+◌, ◌-◌, ◌^◌, ◌≤◌, drop}
use Rattle.std.specs.Prelude.{min}
use Rattle.camac_lang.specs.View.{statements_of}
use Rattle.camac_rules.specs.EachLimit.{block_judged}
use Rattle.camac_check_loops.proofs.judged.+judged.Given as goal

abbrev pub invariant-block_judged-statements : goal.invariant-block_judged-statements
invariant-block_judged-statements l = record {
  counted : min (l.sum + block_judged (statements_of (drop l.statement-index l.block))) (2 ^ 64 - 1) ≡ min (block_judged (statements_of l.block)) (2 ^ 64 - 1);
  small : l.sum ≤ 2 ^ 64 - 1;
}
