use Rattle.std.proofs.Common.{◌-◌, ◌<◌, length, arith}
use Rattle.camac_crate.specs.declared.lock.LockState.TheVariants.{Locked}
use Rattle.camac_branch.proofs.Crates.{branch_of-lock}
use Rattle.camac_branch.proofs.branch.lock.Goals as goal

pub returns-clause-next : goal.returns-clause-next
returns-clause-next c =
    let (from, to) = c.get.ensures.in_range in
    let below : c.get.result - 1 < length c.branch.inside.locks = omega (arith, c.branch.invariant.1, from, to) in
    rw (← c.branch.view_is, ← c.get.ensures.value) (branch_of-lock _ c.get.result Locked from below)
