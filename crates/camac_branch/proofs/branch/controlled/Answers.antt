use Rattle.std.proofs.Common.{◌-◌, ◌<◌, length, ap, arith, ◌∙◌}
use Rattle.camac_crate.specs.State.{CrateBits, effect}
use Rattle.camac_branch.specs.Branch.{with_crate}
use Rattle.camac_branch.specs.Crates.{Crates, branch_of}
use Rattle.camac_branch.proofs.Crates.{branch_of-state, state_read}
use Rattle.camac_branch.proofs.branch.controlled.Goals as goal

pub returns-clause-next : goal.returns-clause-next
returns-clause-next c =
    let (from, to) = c.get.ensures.in_range in
    let kept : Crates = record { states = c.branch.inside.states; locks = c.branch.inside.locks } in
    let below : c.get.result - 1 < length kept.states = omega (arith, c.branch.invariant.0, from, to) in
    let read = state_read kept c.get.result c.index-branch-place.result from below in
    let With : CrateBits → _ = λ bits. with_crate c.get.result (record (branch_of kept c.get.result) { bits = bits }) (branch_of kept) in
    rw (← c.branch.view_is, ← c.get.ensures.value)
    (branch_of-state kept c.get.result c.apply-reply.new.state from below ∙ ap With (c.apply-reply.ensures.next ∙ ap (effect c.args.op) read))
