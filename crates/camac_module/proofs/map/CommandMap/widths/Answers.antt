use Rattle.std.proofs.Common.{sym, ◌∙◌, ◌≡◌, Some}
use Rattle.camac_module.specs.Commands.{width}
use Rattle.camac_module.proofs.Widths.{extremes-first, extremes-next}
use Rattle.camac_module.proofs.map.CommandMap.widths.Goals as goal

pub places-init : goal.places-init
places-init g c =
    let is : width c.args.self.now c.args.f c.args.first ≡ Some c.in_ok-least.least = sym c.width.ensures.value ∙ c.in_ok-least.was {u = tt} in
    rw (c.get-a.ensures.value, c.get-a-end.ensures.value) (extremes-first (width c.args.self.now c.args.f) c.args.first c.args.last c.in_ok-least.least c.requires is)

pub places-preserved : goal.places-preserved
places-preserved g c =
    let is : width c.args.self.now c.args.f c.places.a ≡ Some c.in_ok-w.w = rw (← c.in_ok-new.ensures.kept) (sym c.width-in-places.ensures.value ∙ c.in_ok-w.was {u = tt}) in
    rw (c.min-least.ensures, c.max-greatest.ensures) (sym (extremes-next (width c.args.self.now c.args.f) _ _ _ _ _ c.places-test.true is) ∙ c.places.invariant)
