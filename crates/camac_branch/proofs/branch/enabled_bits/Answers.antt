use Rattle.std.proofs.Common.{◌-◌, ◌<◌, ◌≤◌, length, ap, sym, bit_or, arith, ◌∙◌}
use Rattle.std.specs.Int.Bits.{or_zero_r}
use Rattle.std.proofs.lemmas.Nat.{or_lt}
use Rattle.std.proofs.lemmas.List.{drop_all}
use Rattle.camac_branch.specs.Crates.{branch_of}
use Rattle.camac_branch.proofs.Crates.{or_assoc, enabled-next}
use Rattle.camac_branch.proofs.branch.enabled_bits.Goals as goal

pub crates-preserved : goal.crates-preserved
crates-preserved c =
    let below : c.crates.number - 1 < length c.args.plan.now.crates = omega (arith, c.is_plan.ensures.crate_places, c.crates-test.true, c.crates.auto.number) in
    let step = enabled-next (branch_of c.args.branch.now) c.args.plan.now c.crates.number c.crates.auto.number below in
    let here = ap (bit_or c.crates.bits) step ∙ sym (or_assoc c.crates.bits _ _) in
    record {
      so_far = rw c.bits_if_enabled-bits.ensures.value (sym here ∙ c.crates.invariant.so_far);
      in_range = or_lt 24 c.crates.bits c.bits_if_enabled-bits.result c.crates.invariant.in_range c.bits_if_enabled-bits.ensures.in_range;
    }

pub returns : goal.returns
returns c =
    let past : length c.args.plan.now.crates ≤ c.crates.number - 1 = omega (arith, c.is_plan.ensures.crate_places, c.crates-test.false) in
    let none = drop_all (c.crates.number - 1) c.args.plan.now.crates past in
    c.in-Some.ensures.kept ∙ sym (or_zero_r c.crates.bits) ∙ rw none at c.crates.invariant.so_far
