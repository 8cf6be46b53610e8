-- The operators on intervals. There is none where a number would be below 0 or above the greatest.
use Rattle.std.specs.Prelude.{ℕ, ◌+◌, ◌-◌, ◌*◌, ◌/◌, Option, Some, None, nat_eq, nat_lt, nat_le, if◌then◌else◌}
use Rattle.camac_range.specs.Number.{greatest}
use Rattle.camac_range.specs.Interval.{Interval, interval}

abbrev pub add : Interval → Interval → Option Interval
add r s = if nat_le (r.hi + s.hi) greatest then Some (interval (r.lo + s.lo) (r.hi + s.hi)) else None

abbrev pub sub : Interval → Interval → Option Interval
sub r s = if nat_le s.hi r.lo then Some (interval (r.lo - s.hi) (r.hi - s.lo)) else None

abbrev pub mul : Interval → Interval → Option Interval
mul r s = if nat_le (r.hi * s.hi) greatest then Some (interval (r.lo * s.lo) (r.hi * s.hi)) else None

-- by a literal
abbrev pub div : Interval → ℕ → Option Interval
div r d = if nat_eq d 0 then None else Some (interval (r.lo / d) (r.hi / d))

-- by a literal
abbrev pub rem : Interval → ℕ → Option Interval
rem r d = if nat_eq d 0 then None else Some (if nat_lt r.hi d then r else interval 0 (d - 1))
