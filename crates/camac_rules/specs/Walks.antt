-- Walks over the numbers of a range.
use Rattle.std.specs.Prelude.{ℕ, zero, suc, ◌+◌, ◌-◌, Bool, true, ◌&&◌, Option, Some, None, min, max, unwrap_or, if◌then◌else◌}
use Rattle.camac_range.specs.Interval.{Interval, hull}

-- how many numbers of a range are below an end
abbrev pub count_below : ℕ → Interval → ℕ
count_below end r = min (r.hi + 1) end - r.lo

-- the test holds of n numbers from k on
abbrev pub all_from : (ℕ → Bool) → ℕ → ℕ → Bool
all_from test k zero = true
all_from test k (suc n) = test k && all_from test (k + 1) n

-- the first of n numbers from k on of which the test does not hold
abbrev pub first_failing : (ℕ → Bool) → ℕ → ℕ → Option ℕ
first_failing test k zero = None
first_failing test k (suc n) = if test k then first_failing test (k + 1) n else Some k

-- the first number of a range that is not below an end, or of which the test does not hold
abbrev pub first_outside : (end : ℕ) → Interval → (ℕ → Bool) → ℕ
first_outside end r test = unwrap_or (first_failing test r.lo (count_below end r)) (max r.lo end)

-- the greatest of so many values from the first on, 0 of none
abbrev pub greatest_from : (value : ℕ → ℕ) → (first count : ℕ) → ℕ
greatest_from value k zero = 0
greatest_from value k (suc n) = max (value k) (greatest_from value (k + 1) n)

abbrev pub hull_with : Option Interval → Option Interval → Option Interval
hull_with None o = None
hull_with (Some r) None = None
hull_with (Some r) (Some s) = Some (hull r s)

-- the smallest range around n ranges from that of k on, where each of them is there; none of none
abbrev pub hull_from : (ℕ → Option Interval) → ℕ → ℕ → Option Interval
hull_from range k zero = None
hull_from range k (suc zero) = range k
hull_from range k (suc (suc n)) = hull_with (range k) (hull_from range (k + 1) (suc n))
