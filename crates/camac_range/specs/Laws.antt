-- What the intervals say of the numbers in them.
use Rattle.std.specs.Prelude.{◌≡◌, ℕ, ◌≤◌, true, not, Option, Some, None, IsTrue, ◌↔◌, ◌⊎◌}
use Rattle.camac_range.specs.declared.comparison.Cmp.{Cmp}
use Rattle.camac_range.specs.Compare.{compared, opposite, turned}
use Rattle.camac_range.specs.Number.{greatest, sum_of, difference_of, product_of, quotient_of, rest_of}
use Rattle.camac_range.specs.Interval.{Interval, only, IsWithin, is_inside, meet, hull}
use Rattle.camac_range.specs.Operators.{add, sub, mul, div, rem}
use Rattle.camac_range.specs.Narrow.{narrow}

abbrev pub HasNumber : Interval → Type 0
HasNumber i = i.lo ≤ i.hi

-- The smallest interval of the numbers with a property.
pub record IsAround (P : ℕ → Type 0) (i : Interval) : Type 0 where
  pub contains : (v : ℕ) → P v → IsWithin i v
  pub lowest : P i.lo
  pub highest : P i.hi

-- The same, where there may be no such number.
abbrev pub IsLeft : (ℕ → Type 0) → Option Interval → Type 0
IsLeft P None = (v : ℕ) → P v → ⊥
IsLeft P (Some i) = IsAround P i

-- an operator on numbers, where it has a value
abbrev pub Operator : Type 0
Operator = ℕ → ℕ → Option ℕ

-- two numbers of two intervals whose value is this
pub record IsValue (operator : Operator) (r s : Interval) (value : Option ℕ) : Type 0 where
  pub left : ℕ
  pub right : ℕ
  pub in_left : IsWithin r left
  pub in_right : IsWithin s right
  pub same : operator left right ≡ value

-- a value, and it is in the interval
abbrev pub IsValueWithin : Interval → Option ℕ → Type 0
IsValueWithin i None = ⊥
IsValueWithin i (Some v) = IsWithin i v

-- Each pair of numbers has its value in the interval.
abbrev pub ContainsValues : Operator → Interval → Interval → Interval → Type 0
ContainsValues operator r s i = (v w : ℕ) → IsWithin r v → IsWithin s w → IsValueWithin i (operator v w)

-- Each pair has its value in the interval, and both ends are such values.
pub record HasValues (operator : Operator) (r s i : Interval) : Type 0 where
  pub contains : ContainsValues operator r s i
  pub lowest : IsValue operator r s (Some i.lo)
  pub highest : IsValue operator r s (Some i.hi)

-- The values of all pairs, or none where some pair has no value.
abbrev pub IsExact : Operator → Interval → Interval → Option Interval → Type 0
IsExact operator r s None = IsValue operator r s None
IsExact operator r s (Some i) = HasValues operator r s i

abbrev pub SumsAreExact : Type 0
SumsAreExact = (r s : Interval) → HasNumber r → HasNumber s → IsExact sum_of r s (add r s)

abbrev pub DifferencesAreExact : Type 0
DifferencesAreExact = (r s : Interval) → HasNumber r → HasNumber s → IsExact difference_of r s (sub r s)

abbrev pub ProductsAreExact : Type 0
ProductsAreExact = (r s : Interval) → HasNumber r → HasNumber s → IsExact product_of r s (mul r s)

abbrev pub QuotientsAreExact : Type 0
QuotientsAreExact = (r : Interval) (d : ℕ) → HasNumber r → IsExact quotient_of r (only d) (div r d)

-- The interval of remainders may be wider than its values.
abbrev pub ContainsRests : Interval → ℕ → Option Interval → Type 0
ContainsRests r d None = d ≡ 0
ContainsRests r d (Some i) = ContainsValues rest_of r (only d) i

abbrev pub RestsAreContained : Type 0
RestsAreContained = (r : Interval) (d : ℕ) → ContainsRests r d (rem r d)

-- a number that is in both, in one of them
pub record IsInBoth (r s : Interval) (v : ℕ) : Type 0 where
  pub first : IsWithin r v
  pub second : IsWithin s v

abbrev pub IsInEither : Interval → Interval → ℕ → Type 0
IsInEither r s v = IsWithin r v ⊎ IsWithin s v

abbrev pub MeetIsWhatIsInBoth : Type 0
MeetIsWhatIsInBoth = (r s : Interval) → IsLeft (IsInBoth r s) (meet r s)

abbrev pub HullIsAround : Type 0
HullIsAround = (r s : Interval) → HasNumber r → HasNumber s → IsAround (IsInEither r s) (hull r s)

abbrev pub InsideMeansEachNumber : Type 0
InsideMeansEachNumber =
    (r s : Interval) → HasNumber r → IsTrue (is_inside r s) ↔ ((v : ℕ) → IsWithin r v → IsWithin s v)

-- a number of r that compares so with some number of s
pub record Meets (c : Cmp) (r s : Interval) (v : ℕ) : Type 0 where
  pub other : ℕ
  pub first : IsWithin r v
  pub second : IsWithin s other
  pub compares : compared c v other ≡ true

abbrev pub NarrowKeeps : Type 0
NarrowKeeps =
    (c : Cmp) (r s : Interval) → HasNumber r → HasNumber s → r.hi ≤ greatest → s.hi ≤ greatest → IsLeft (Meets c r s) (narrow c r s)

abbrev pub OppositeIsNot : Type 0
OppositeIsNot = (c : Cmp) (v w : ℕ) → compared (opposite c) v w ≡ not (compared c v w)

abbrev pub TurnedIsSwapped : Type 0
TurnedIsSwapped = (c : Cmp) (v w : ℕ) → compared (turned c) w v ≡ compared c v w
