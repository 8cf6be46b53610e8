-- The five operators on numbers. Each has a value where that is a whole number from 0 to the greatest.
use Rattle.std.specs.Prelude.{ℕ, ◌+◌, ◌-◌, ◌*◌, ◌/◌, ◌%◌, Option, Some, None, nat_eq, nat_le, if◌then◌else◌}

-- M
abbrev pub greatest : ℕ
greatest = 4294967295

-- a number, if it is at most M
abbrev pub in_range : ℕ → Option ℕ
in_range n = if nat_le n greatest then Some n else None

abbrev pub sum_of : ℕ → ℕ → Option ℕ
sum_of v w = in_range (v + w)

-- none below 0
abbrev pub difference_of : ℕ → ℕ → Option ℕ
difference_of v w = if nat_le w v then Some (v - w) else None

abbrev pub product_of : ℕ → ℕ → Option ℕ
product_of v w = in_range (v * w)

-- rounded down; none by 0
abbrev pub quotient_of : ℕ → ℕ → Option ℕ
quotient_of v d = if nat_eq d 0 then None else Some (v / d)

-- 0 up to below the divisor; none by 0
abbrev pub rest_of : ℕ → ℕ → Option ℕ
rest_of v d = if nat_eq d 0 then None else Some (v % d)
