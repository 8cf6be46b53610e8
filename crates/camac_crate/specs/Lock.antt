-- The lockout of auxiliary controllers (the project's own, after IEEE 675).
use Rattle.std.specs.Prelude.{ℕ, Bool, true, false, not, ◌&&◌, ◌||◌, nat_eq, nat_le}
use Rattle.camac_crate.specs.declared.lock.LockState.{LockState}
use Rattle.camac_crate.specs.declared.lock.LockState.TheVariants.{Free, Locked}

abbrev pub is_locked : LockState → Bool
is_locked Free = false
is_locked Locked = true

-- whether a cycle may come after this many auxiliary cycles, in a crate that allows so many waits
abbrev pub permitted : (locked : Bool) → (waits wait : ℕ) → Bool
permitted locked waits wait = nat_eq wait 0 || (not locked && nat_le wait waits)
