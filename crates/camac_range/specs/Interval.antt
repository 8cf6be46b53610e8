-- Intervals of whole numbers, both ends included.
use Rattle.std.specs.Prelude.{ℕ, ◌≤◌, Bool, ◌&&◌, Option, Some, None, nat_le, min, max, if◌then◌else◌}

pub record Interval : Type 0 where
  pub lo : ℕ
  pub hi : ℕ

abbrev pub interval : ℕ → ℕ → Interval
interval lo hi = record { lo = lo; hi = hi }

-- one number alone
abbrev pub only : ℕ → Interval
only n = interval n n

-- an interval, if it has a number
abbrev pub span : ℕ → ℕ → Option Interval
span lo hi = if nat_le lo hi then Some (interval lo hi) else None

-- v is in the interval
pub record IsWithin (i : Interval) (v : ℕ) : Type 0 where
  pub low : i.lo ≤ v
  pub high : v ≤ i.hi

abbrev pub is_inside : Interval → Interval → Bool
is_inside r s = nat_le s.lo r.lo && nat_le r.hi s.hi

-- what is in both
abbrev pub meet : Interval → Interval → Option Interval
meet r s = span (max r.lo s.lo) (min r.hi s.hi)

-- the smallest interval around both
abbrev pub hull : Interval → Interval → Interval
hull r s = interval (min r.lo s.lo) (max r.hi s.hi)
