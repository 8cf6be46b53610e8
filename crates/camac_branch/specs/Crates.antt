-- The crates of a branch as they are kept, each under its number, and the branch that they make.
use Rattle.std.specs.Prelude.{ℕ, zero, suc, List, Bool, slice_index_or, unwrap_or}
use Rattle.camac_crate.specs.State.{CrateBits, start_bits}
use Rattle.camac_crate.specs.Lock.{is_locked, permitted}
use Rattle.camac_crate.specs.declared.lock.LockState.{LockState}
use Rattle.camac_crate.specs.declared.lock.LockState.TheVariants.{Free}
use Rattle.camac_branch.specs.Branch.{Branch, start}
use Rattle.camac_branch.specs.Plan.{Layout, crate_waits}

-- of the crates 1 to 7, in this order
pub record Crates : Type 0 where
  pub states : List CrateBits
  pub locks : List LockState

-- what they are; there is nothing else on the branch
abbrev pub branch_of : Crates → Branch
branch_of k zero = start zero
branch_of k (suc i) = record { bits = slice_index_or k.states i start_bits; locked = is_locked (slice_index_or k.locks i Free) }

-- whether a wait is permitted in a crate of the plan
abbrev pub is_permitted : Layout → Branch → (crate_no wait : ℕ) → Bool
is_permitted plan b c wait = permitted (b c).locked (unwrap_or (crate_waits plan c) 0) wait
