use Rattle.std.proofs.Common.{refl}
use Rattle.camac_run.proofs.Told.{rest_short, rest_over}
use Rattle.camac_run.proofs.runner.Runner.in_service.Goals as goal

pub returns-in-Some-clause-some : goal.returns-in-Some-clause-some
returns-in-Some-clause-some g c = rw (← c.self.view_is, c.in-Some.is) refl

pub returns-in-None-clause-some : goal.returns-in-None-clause-some
returns-in-None-clause-some g c = rw (← c.self.view_is, c.in-None.is) refl

pub returns-in-Some-clause-rest : goal.returns-in-Some-clause-rest
returns-in-Some-clause-rest g c =
    let r = c.self.inside in
    rw (← c.self.view_is) (λ awake. rest_short r.machine r.pending c.in-Some.field-0 r.fed r.events r.has_event r.overrun r.at_demand r.limit c.in-Some.is awake c.self.invariant.awaits)

pub returns-in-None-clause-rest : goal.returns-in-None-clause-rest
returns-in-None-clause-rest g c =
    let r = c.self.inside in
    rw (← c.self.view_is) (λ awake. rest_over r.machine r.pending r.fed r.events r.has_event r.overrun r.at_demand r.limit c.in-None.is)
