use Rattle.std.proofs.Common.{◌≡◌, None, false, ap, ◌∙◌}
use Rattle.camac_machine.specs.MachineState.{is_paused_at}
use Rattle.camac_machine.specs.Rest.{is_paused}
use Rattle.camac_run.proofs.Operation.{is_waiting}
use Rattle.camac_run.proofs.runner.Runner.is_waiting.Goals as goal

pub returns : goal.returns
returns g c =
    let r = c.self.inside in
    let first : r.overrun ≡ None = ap (λ h. h.overrun) c.self.view_is ∙ c.requires.first in
    let awake : is_paused_at r.pending ≡ false = ap (λ h. is_paused h.pending) c.self.view_is ∙ c.requires.awake in
    rw (← c.self.view_is) (is_waiting r.machine r.fed r.events r.has_event r.overrun r.at_demand r.limit first r.pending awake c.self.invariant.awaits)
