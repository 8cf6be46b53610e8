use Rattle.std.proofs.Common.{◌≡◌, false, refl, ap, ◌∙◌}
use Rattle.camac_machine.specs.MachineState.{is_paused_at}
use Rattle.camac_machine.specs.Rest.{is_paused}
use Rattle.camac_run.specs.Sound.{runner_state}
use Rattle.camac_run.proofs.Told.{keeps_awake}
use Rattle.camac_run.proofs.runner.Runner.advance.Goals as goal

pub returns-in-Some-clause-stops : goal.returns-in-Some-clause-stops
returns-in-Some-clause-stops g c =
    let r = c.self.inside in
    rw (← c.self.view_is) (record {
      now = rw c.in-Some.is tt;
      again = rw c.in-Some.is refl;
      same = ap (λ o. runner_state r.machine r.pending r.fed r.events r.has_event o r.at_demand r.limit) c.in-Some.is;
    })

pub returns-in-Some-clause-keeps : goal.returns-in-Some-clause-keeps
returns-in-Some-clause-keeps g c =
    let awake : is_paused_at c.self.inside.pending ≡ false = ap (λ h. is_paused h.pending) c.self.view_is ∙ c.requires.awake in
    rw (← c.self.view_is) (keeps_awake _ _ refl awake (rw c.in-Some.is tt))
