use Rattle.std.proofs.Common.{◌≡◌, ℕ, sym, ◌∙◌, Some, None, Option}
use Rattle.camac_module.proofs.Widths.{extremes-first, extremes-next, extremes-none}
use Rattle.camac_branch.specs.Address.{address}
use Rattle.camac_branch.specs.Allowed.{allowed}
use Rattle.camac_branch.proofs.plan.Plan.widths.Goals as goal

pub places-init : goal.places-init
places-init c =
    let w : ℕ → Option ℕ = λ a. allowed c.args.self.now (address c.args.c c.args.n a) c.args.f in
    let is : w c.args.first ≡ Some c.in_ok-least.least = sym c.allowed.ensures.value ∙ c.in_ok-least.was {u = tt} in
    rw (c.get-a.ensures.value, c.get-a-end.ensures.value) (extremes-first w c.args.first c.args.last c.in_ok-least.least c.requires is)

pub returns-in_err-w : goal.returns-in_err-w
returns-in_err-w c =
    let w : ℕ → Option ℕ = λ a. allowed c.args.self.now (address c.args.c c.args.n a) c.args.f in
    let is : w c.places.a ≡ None = rw (← c.in_ok-new.ensures.kept) (sym c.allowed-in-places.ensures.value ∙ c.in_err-w.was {u = tt}) in
    c.from_residual-in_err-w.ensures ∙ extremes-none w _ _ c.places.a _ c.places-test.true is ∙ c.places.invariant

pub places-preserved : goal.places-preserved
places-preserved c =
    let w : ℕ → Option ℕ = λ a. allowed c.args.self.now (address c.args.c c.args.n a) c.args.f in
    let is : w c.places.a ≡ Some c.in_ok-w.w = rw (← c.in_ok-new.ensures.kept) (sym c.allowed-in-places.ensures.value ∙ c.in_ok-w.was {u = tt}) in
    rw (c.min-least.ensures, c.max-greatest.ensures) (sym (extremes-next w _ _ _ _ _ c.places-test.true is) ∙ c.places.invariant)
