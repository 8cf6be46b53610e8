use Rattle.std.proofs.Common.{◌-◌, ◌<◌, length, get_or, ap, ◌∙◌, arith}
use Rattle.camac_branch.proofs.Crates.{bits-read}
use Rattle.camac_branch.proofs.plan.Plan.crate_bits.Goals as goal

pub returns : goal.returns
returns c =
    let (from, to) = c.get.ensures.in_range in
    let below : c.get.result - 1 < length c.self.inside.crates = omega (arith, c.self.invariant.0.crate_places, from, to) in
    rw (← c.self.view_is, ← c.get.ensures.value)
    (ap (λ bits. get_or bits (c.get.result - 1) c.index-self-get.result) c.self.invariant.1 ∙ bits-read c.self.inside.crates c.get.result from below c.index-self-get.result)
