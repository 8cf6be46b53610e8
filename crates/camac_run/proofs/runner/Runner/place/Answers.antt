use Rattle.std.proofs.Common.{◌≡◌, true, refl, sym, ap, subst}
use Rattle.camac_lang.specs.declared.spot.Spot.{Spot}
use Rattle.camac_machine.specs.Rest.{is_asking}
use Rattle.camac_run.specs.Runner.{RunnerState}
use Rattle.camac_run.proofs.Told.{begun_some, is_place}
use Rattle.camac_run.proofs.runner.Runner.place.Goals as goal

pub returns : goal.returns
returns g c =
    let r = c.self.inside in
    rw (← c.self.view_is)
    (is_place r.machine r.pending c.in-Some.begun r.fed r.events r.has_event r.overrun r.at_demand r.limit _ (subst (λ (h : RunnerState). is_asking h.pending ≡ true) (sym c.self.view_is) c.requires) c.in-Some.is c.self.invariant.begun refl (ap (λ (s : Spot). s.line) c.spot.ensures))

pub unreachable-requires : goal.unreachable-requires
unreachable-requires g c =
    let r = c.self.inside in
    begun_some r.machine r.pending (subst (λ (h : RunnerState). is_asking h.pending ≡ true) (sym c.self.view_is) c.requires) c.self.invariant.begun c.in-None.is
