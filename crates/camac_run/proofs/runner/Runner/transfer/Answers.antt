use Rattle.std.proofs.Common.{◌≡◌, ◌∙◌, Some, ap, subst}
use Rattle.camac_machine.specs.declared.machine.Pending.TheVariants.{Transfer}
use Rattle.camac_run.specs.Runner.{RunnerState}
use Rattle.camac_run.specs.Transfer.{IsLeft}
use Rattle.camac_run.proofs.Transfers.{is_left}
use Rattle.camac_run.proofs.runner.Runner.transfer.Goals as goal

pub returns-in-Transfer-clause-left : goal.returns-in-Transfer-clause-left
returns-in-Transfer-clause-left g c =
    let r = c.self.inside in
    let w = c.in-Transfer.transfer in
    let e : r.pending ≡ Some (Transfer w) = c.in-Some.is ∙ ap Some c.in-Transfer.is in
    subst (λ (h : RunnerState). IsLeft h c.left_of.result) c.self.view_is
    (is_left r.machine r.pending w e c.self.invariant.awaits c.left_of.result r.fed r.events r.has_event r.overrun r.at_demand r.limit c.self.invariant.fine c.left_of.ensures)
