use Rattle.std.proofs.Common.{◌≡◌, ◌-◌, ◌<◌, length, sym, ◌∙◌, ap, option_map, Some, arith}
use Rattle.camac_branch.specs.Plan.{numbered}
use Rattle.camac_branch.proofs.Numbered.{numbered-read}
use Rattle.camac_branch.proofs.plan.Plan.waits.Goals as goal

pub returns-in-Some-clause-in_range : goal.returns-in-Some-clause-in_range
returns-in-Some-clause-in_range c =
    let (from, to) = c.get.ensures.in_range in
    let below : c.get.result - 1 < length c.self.inside.crates = omega (arith, c.self.invariant.0.crate_places, from, to) in
    let here : numbered c.self.inside.crates c.get.result ≡ Some c.in-Some.k = sym (numbered-read c.self.inside.crates c.get.result _ from below) ∙ c.in-Some.is in
    c.self.invariant.0.few_waits c.get.result c.in-Some.k.waits (ap (option_map (λ k. k.waits)) here)
