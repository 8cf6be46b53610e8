-- What a rule knows where a script breaks it.
use Rattle.std.specs.Prelude.{ℕ, ◌-◌, ◌^◌, min}
use Rattle.camac_range.specs.Interval.{Interval}
use Rattle.camac_func.specs.Class.{class_of}
use Rattle.camac_func.specs.declared.code.FunctionClass.{FunctionClass}
use Rattle.camac_rules.specs.declared.case.Body.{Body}
use Rattle.camac_rules.specs.declared.case.Case.{Case}
use Rattle.camac_rules.specs.declared.case.Case.TheVariants.{Operation, Direction, Kept, Crates, Crate, Judged, Budget}
use Rattle.camac_rules.specs.declared.case.Operator.{Operator}
use Rattle.camac_rules.specs.declared.case.Numbers.{Numbers}

abbrev pub numbers_of : Interval → Numbers
numbers_of r = record { low = r.lo; high = r.hi }

-- an operator and the numbers on both sides
abbrev pub operation : Operator → (left right : Interval) → Case
operation operator r s = Operation operator (numbers_of r) (numbers_of s)

-- a function, and what the statement moves
abbrev pub direction : ℕ → FunctionClass → Case
direction f moves = Direction f (class_of f) moves

-- a kept variable, where it is found, and its range
abbrev pub kept_at : Body → (variable : ℕ) → (found kept : Interval) → Case
kept_at body x found kept = Kept body x (numbers_of found) (numbers_of kept)

-- the crates of two registers
abbrev pub crates_of : (first last : Interval) → Case
crates_of r s = Crates (numbers_of r) (numbers_of s)

-- the numbers of a crate
abbrev pub crate_of : Interval → Case
crate_of r = Crate (numbers_of r)

-- a cost and what is allowed; a cost past 64 bits is given as their greatest number
abbrev pub budget : Body → ℕ → ℕ → Case
budget body needed allowed = Budget body (min needed (2 ^ 64 - 1)) allowed

-- how much the `each` loops of a body judge, and what is allowed, as in a budget
abbrev pub judged_case : Body → ℕ → ℕ → Case
judged_case body needed allowed = Judged body (min needed (2 ^ 64 - 1)) allowed
