-- What a comparison with a number of another interval leaves of an interval.
use Rattle.std.specs.Prelude.{ℕ, ◌+◌, ◌-◌, Option, Some, None, nat_eq, if◌then◌else◌}
use Rattle.camac_range.specs.declared.comparison.Cmp.{Cmp}
use Rattle.camac_range.specs.declared.comparison.Cmp.TheVariants.{Less, AtMost, More, AtLeast, Same, Differs}
use Rattle.camac_range.specs.Number.{greatest}
use Rattle.camac_range.specs.Interval.{Interval, interval, meet}

-- the numbers below n
abbrev pub below : Interval → ℕ → Option Interval
below r n = if nat_eq n 0 then None else meet r (interval 0 (n - 1))

-- the numbers above n
abbrev pub above : Interval → ℕ → Option Interval
above r n = meet r (interval (n + 1) greatest)

-- all but n, where n is an end; else the whole
abbrev pub without : Interval → ℕ → Option Interval
without r n = if nat_eq r.lo n then above r n else (if nat_eq r.hi n then below r n else Some r)

abbrev pub narrow : Cmp → Interval → Interval → Option Interval
narrow Less r s = below r s.hi
narrow AtMost r s = meet r (interval 0 s.hi)
narrow More r s = above r s.lo
narrow AtLeast r s = meet r (interval s.lo greatest)
narrow Same r s = meet r s
narrow Differs r s = if nat_eq s.lo s.hi then without r s.lo else Some r
