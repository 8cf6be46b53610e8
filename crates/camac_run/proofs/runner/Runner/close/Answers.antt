use Rattle.std.proofs.Common.{◌+◌, ◌<◌, length, Some, refl, sym, subst, ap, arith}
use Rattle.camac_run.specs.Runner.{RunnerState}
use Rattle.camac_run.proofs.Sizes.{machine_fits}
use Rattle.camac_run.proofs.Told.{sound_counted}
use Rattle.camac_run.proofs.runner.Runner.close.Goals as goal

pub event-requires : goal.event-requires
event-requires g c = (machine_fits _ c.requires-raw.1.1.1.0, subst (λ (h : RunnerState). h.service < length h.checked.script.services) (sym c.self.view_is) c.requires.service)

pub invariant_of-self : goal.invariant_of-self
invariant_of-self g c =
    let inv = c.self.invariant in
    let few = subst (λ (h : RunnerState). h.events < h.fed) (sym c.self.view_is) c.requires.events in
    sound_counted _ _ _ _ _ c.self.inside.fed (c.self.inside.events + 1) inv (omega (arith, few)) inv.most (rw c.in-None.is tt)

pub returns-in-None-clause-ended : goal.returns-in-None-clause-ended
returns-in-None-clause-ended g c = rw (← c.self.view_is, c.in-None.is) (ap Some c.event.ensures, refl)
