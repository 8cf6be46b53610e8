-- What the checker's code answers, seen as what the rules say.
use Rattle.std.specs.Prelude.{◌≡◌, ◌<◌, ◌-◌, ℕ, Bool, Option, Result, Ok, Err}
use Rattle.camac_range.specs.Interval.{Interval}
use Rattle.camac_rules.specs.Fault.{Fault, broken}
use Rattle.camac_rules.specs.Conditions.{Branches, branches}
use Rattle.camac_rules.specs.Walks.{first_failing, hull_from}
use Rattle.camac_check_known.specs.declared.condition.Branches as code
use Rattle.camac_check_known.specs.declared.fault.CheckFault.{CheckFault}
use Rattle.camac_check_known.specs.declared.fault.CheckFault.TheVariants.{OutOfMemory, Broken}

-- the rules refuse so, unless memory ran out
abbrev pub Fails : {Y : Type 0} → CheckFault → Result Y Fault → Type 0
Fails OutOfMemory rules = Unit {0}
Fails (Broken rule spot case) rules = rules ≡ Err (broken rule spot case)

-- What was answered, seen by view, is what the rules give, unless memory ran out.
abbrev pub Gives : {X Y : Type 0} → (X → Y) → Result X CheckFault → Result Y Fault → Type 0
Gives view (Ok x) rules = rules ≡ Ok (view x)
Gives view (Err e) rules = Fails e rules

-- both ways out of a condition
abbrev pub branches_of : code.Branches → Branches
branches_of b = branches b.holds b.fails

-- the first number below an end for which a test does not hold, whose calls give these answers
abbrev pub IsFirstFailing : (ℕ → Bool → Type 0) → (from end : ℕ) → Option ℕ → Type 0
IsFirstFailing answers from end found =
    (holds : ℕ → Bool) → ((n : ℕ) (b : Bool) → n < end → answers n b → b ≡ holds n) → found ≡ first_failing holds from (end - from)

-- the smallest range around those of all numbers below an end, whose calls give these
abbrev pub IsHull : (ℕ → Option Interval → Type 0) → (from end : ℕ) → Option Interval → Type 0
IsHull answers from end found =
    (range : ℕ → Option Interval) → ((n : ℕ) (o : Option Interval) → n < end → answers n o → o ≡ range n) → found ≡ hull_from range from (end - from)
