-- A service that is left before its end, and the run that goes on.
use Rattle.std.proofs.Common.{sym, ap, ◌∙◌}
use Rattle.std.specs.Prelude.{Option}
use Rattle.camac_branch.specs.Crates.{Crates, branch_of}
use Rattle.camac_rules.specs.Checked.{CheckedScript}
use Rattle.camac_run.specs.Abandoned.{AbandoningHolds}
use Rattle.camac_run.specs.Holds.{after}
use Rattle.camac_run.specs.Runner.{rest_from}
use Rattle.camac_machine.specs.MachineState.{context_in}
use Rattle.camac_machine.specs.Rest.{Operation, onward}

pub abandoning_holds : AbandoningHolds
abandoning_holds plan script answers told at old new unlocks holds idle checked crates leaves = record {
  goes = λ more.
      holds.goes more
      ∙ ap (after told)
      (ap (λ (w : Option Operation). rest_from w at more) idle
      ∙ ap (λ (k : CheckedScript). onward (context_in k) k.script.services (branch_of at.crates) more) (sym checked)
      ∙ ap (λ (c : Crates). onward (context_in old.checked) old.checked.script.services (branch_of c) more) (sym crates)
      ∙ sym (leaves.goes more));
}
