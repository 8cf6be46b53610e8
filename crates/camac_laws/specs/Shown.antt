-- What the case of a refusal shows of arguments and kept variables, and of turns.
use Rattle.std.specs.Prelude.{◌≡◌, ℕ, ◌+◌, ◌-◌, ◌/◌, ◌<◌, ◌≤◌, List, Some, Ok, Err, true, false, length, slice_get, ◌⊎◌, ◌∷◌, ◌++◌, Option, None}
use Rattle.camac_lang.specs.Tree.{Expression, Parameter, Keep, Block, number, variable, group, add, subtract, multiply, divide, remainder, Test, compare, Part, plain, negated, Condition}
use Rattle.camac_range.specs.Interval.{Interval, is_inside}
use Rattle.camac_rules.specs.declared.case.Body.{Body}
use Rattle.camac_rules.specs.declared.case.Case.{Case}
use Rattle.camac_rules.specs.declared.case.Case.TheVariants.{Argument, Kept, Turns, Annotation, Malformed, Operation}
use Rattle.camac_rules.specs.declared.case.Numbers.{Numbers}
use Rattle.camac_rules.specs.declared.rule.CheckRule.TheVariants.{TooManyTurns, ValueOutOfRange}
use Rattle.camac_rules.specs.Cases.{numbers_of}
use Rattle.camac_rules.specs.Cycles.{Around}
use Rattle.camac_rules.specs.Each.{each_begins}
use Rattle.camac_rules.specs.Expressions.{range_of}
use Rattle.camac_rules.specs.Fault.{broken, Fault}
use Rattle.camac_rules.specs.Known.{Facts, range_at}
use Rattle.camac_rules.specs.Loops.{turn_limit, kept_range, keeps_hold, unkept, limits, turns_between, for_limits, while_head}
use Rattle.camac_rules.specs.Procedures.{parameter_range, arguments_fit, unfit}
use Rattle.camac_rules.specs.Writes.{fall_of}
use Rattle.camac_lang.specs.declared.spot.Spot.{Spot}
use Rattle.camac_range.specs.Number.{greatest}
use Rattle.camac_range.specs.Operators as range
use Rattle.camac_rules.specs.declared.case.Operator.{Operator}
use Rattle.camac_rules.specs.declared.case.Operator.TheVariants.{Add, Sub, Mul}
use Rattle.camac_rules.specs.declared.rule.CheckRule.{CheckRule}
use Rattle.camac_rules.specs.Conditions.{Branches, split, split_part}

-- What the case of a refusal shows of an expression and of a condition.

-- the first is a part of the second, or the whole of it
abbrev pub HasPart : Expression → Expression → Type 0
HasPart p (number n) = p ≡ number n
HasPart p (variable x) = p ≡ variable x
HasPart p (group e) = (p ≡ group e) ⊎ HasPart p e
HasPart p (add a b) = (p ≡ add a b) ⊎ (HasPart p a ⊎ HasPart p b)
HasPart p (subtract a b) = (p ≡ subtract a b) ⊎ (HasPart p a ⊎ HasPart p b)
HasPart p (multiply a b) = (p ≡ multiply a b) ⊎ (HasPart p a ⊎ HasPart p b)
HasPart p (divide a d) = (p ≡ divide a d) ⊎ HasPart p a
HasPart p (remainder a d) = (p ≡ remainder a d) ⊎ HasPart p a

abbrev pub applied : Operator → Expression → Expression → Expression
applied Add a b = add a b
applied Sub a b = subtract a b
applied Mul a b = multiply a b

abbrev pub result_of : Operator → Interval → Interval → Option Interval
result_of Add r s = range.add r s
result_of Sub r s = range.sub r s
result_of Mul r s = range.mul r s

-- An operator in the expression stands between two parts with these numbers, and has no result on them.
pub record IsWithoutResult (spot : Spot) (e : Expression) (rs : List Interval) (operator : Operator) (l h : Numbers) : Type 0 where
  pub left : Expression
  pub right : Expression
  pub part : HasPart (applied operator left right) e
  pub r : Interval
  pub s : Interval
  pub of_left : range_of spot left rs ≡ Ok r
  pub of_right : range_of spot right rs ≡ Ok s
  pub is_left : l ≡ numbers_of r
  pub is_right : h ≡ numbers_of s
  pub none : result_of operator r s ≡ None

-- what no text gives: a number above the greatest, or a division by 0
abbrev pub IsOfNoText : Expression → Type 0
IsOfNoText e =
    ((n : ℕ) × (HasPart (number n) e) × (greatest < n))
    ⊎ (((a : Expression) × HasPart (divide a 0) e) ⊎ ((a : Expression) × HasPart (remainder a 0) e))

abbrev pub ExpressionShown : Spot → Expression → List Interval → Case → Type 0
ExpressionShown spot e rs (Operation operator l h) = IsWithoutResult spot e rs operator l h
ExpressionShown spot e rs Malformed = IsOfNoText e
ExpressionShown spot e rs case = ⊥

abbrev pub ExpressionsAreShown : Type 0
ExpressionsAreShown =
    (spot : Spot) (e : Expression) (rs : List Interval) (rule : CheckRule) (at : Spot) (case : Case)
    → range_of spot e rs ≡ Err (broken rule at case) → (rule ≡ ValueOutOfRange) × ((at ≡ spot) × ExpressionShown spot e rs case)

-- One part of the condition is refused, in the state in which all parts before it hold.
pub record IsRefusedThere (spot : Spot) (ps : Condition) (k : Facts) (fault : Fault) : Type 0 where
  pub earlier : Condition
  pub part : Part
  pub later : Condition
  pub is : ps ≡ earlier ++ (part ∷ later)
  pub ways : Branches
  pub there : Facts
  pub judged : split spot earlier k ≡ Ok ways
  pub hold : ways.holds ≡ Some there
  pub refused : split_part spot part there ≡ Err fault

abbrev pub ConditionsAreShown : Type 0
ConditionsAreShown =
    (spot : Spot) (ps : Condition) (k : Facts) (fault : Fault) → split spot ps k ≡ Err fault → IsRefusedThere spot ps k fault

-- an expression on one side of the comparison in a part
abbrev pub IsSide : Expression → Test → Type 0
IsSide e (compare a c b) = (e ≡ a) ⊎ (e ≡ b)
IsSide e t = ⊥

abbrev pub HasSide : Expression → Part → Type 0
HasSide e (plain t) = IsSide e t
HasSide e (negated t) = IsSide e t

-- The fault of a part is that of one of the two expressions in it.
abbrev pub PartsAreShown : Type 0
PartsAreShown =
    (spot : Spot) (p : Part) (k : Facts) (fault : Fault) → split_part spot p k ≡ Err fault
    → (e : Expression) × HasSide e p × (range_of spot e k.ranges ≡ Err fault)

-- ---- arguments

-- the i-th range is the first that is not inside that of its parameter
pub record IsFirstUnfit (rs : List Interval) (ps : List Parameter) (i : ℕ) (found wanted : Numbers) : Type 0 where
  pub argument : Interval
  pub parameter : Parameter
  pub is_argument : slice_get rs i ≡ Some argument
  pub is_parameter : slice_get ps i ≡ Some parameter
  pub outside : is_inside argument (parameter_range parameter) ≡ false
  pub is_found : found ≡ numbers_of argument
  pub is_wanted : wanted ≡ numbers_of (parameter_range parameter)
  pub earlier : (j : ℕ) (r : Interval) (p : Parameter) → j < i → slice_get rs j ≡ Some r → slice_get ps j ≡ Some p
      → is_inside r (parameter_range p) ≡ true

unfoldable pub ArgumentsAreShown : Type 0
ArgumentsAreShown =
    (procedure which i : ℕ) (rs : List Interval) (ps : List Parameter) (found wanted : Numbers)
    → unfit procedure 0 rs ps ≡ Argument which i found wanted → (which ≡ procedure) × IsFirstUnfit rs ps i found wanted

-- Where one of as many arguments as parameters does not fit, the case is such a one.
unfoldable pub UnfitHaveOne : Type 0
UnfitHaveOne =
    (procedure : ℕ) (rs : List Interval) (ps : List Parameter) → length rs ≡ length ps → arguments_fit rs ps ≡ false
    → (i : ℕ) × (found : Numbers) × (wanted : Numbers) × (unfit procedure 0 rs ps ≡ Argument procedure i found wanted)

-- ---- kept variables

-- the variable of the first range of the list that is not kept
pub record IsFirstUnkept (qs : List Keep) (k : Facts) (x : ℕ) (found kept : Numbers) : Type 0 where
  pub place : ℕ
  pub keep : Keep
  pub is_keep : slice_get qs place ≡ Some keep
  pub is_variable : x ≡ keep.variable
  pub outside : is_inside (range_at k.ranges x) (kept_range keep) ≡ false
  pub is_found : found ≡ numbers_of (range_at k.ranges x)
  pub is_kept : kept ≡ numbers_of (kept_range keep)
  pub earlier : (j : ℕ) (q : Keep) → j < place → slice_get qs j ≡ Some q → is_inside (range_at k.ranges q.variable) (kept_range q) ≡ true

unfoldable pub KeptAreShown : Type 0
KeptAreShown =
    (place shown : Body) (qs : List Keep) (k : Facts) (x : ℕ) (found kept : Numbers)
    → unkept place qs k ≡ Kept shown x found kept → (shown ≡ place) × IsFirstUnkept qs k x found kept

-- Where a variable is not in its kept range, the case is such a one.
unfoldable pub UnkeptHaveOne : Type 0
UnkeptHaveOne =
    (place : Body) (qs : List Keep) (k : Facts) → keeps_hold qs k ≡ false
    → (x : ℕ) × (found : Numbers) × (kept : Numbers) × (unkept place qs k ≡ Kept place x found kept)

-- ---- turns

-- The greatest value of the measure, divided by its step, is above the number after `turns`.
pub record NeedsMore (place : Body) (spot : Spot) (most m : ℕ) (keeps : List Keep) (body : Block) (k : Facts) (needed : ℕ) : Type 0 where
  pub step : ℕ
  pub is_step : fall_of m body ≡ Some step
  pub is_needed : needed ≡ (range_at k.ranges m).hi / step
  pub above : most < needed
  -- with any number from there on that a loop may have, it is not refused by this rule
  pub fixed : (n : ℕ) → needed ≤ n → n ≤ turn_limit
      → (at : Spot) (c : Case) → while_head place spot n m keeps body k ≡ Err (broken TooManyTurns at c) → ⊥

abbrev pub WhileShown : Body → (spot : Spot) (most measure : ℕ) → List Keep → Block → Facts → Case → Type 0
WhileShown place spot most m keeps body k (Turns needed allowed) = (allowed ≡ most) × NeedsMore place spot most m keeps body k needed
WhileShown place spot most m keeps body k (Annotation turns allowed) = (turns ≡ most) × ((allowed ≡ turn_limit) × (allowed < turns))
WhileShown place spot most m keeps body k case = ⊥

abbrev pub WhileTurnsAreShown : Type 0
WhileTurnsAreShown =
    (place : Body) (spot : Spot) (most m : ℕ) (keeps : List Keep) (body : Block) (k : Facts) (at : Spot) (case : Case)
    → while_head place spot most m keeps body k ≡ Err (broken TooManyTurns at case) → WhileShown place spot most m keeps body k case

-- the turns from the least first value to the greatest last one, of which there are more than a loop may have
pub record IsLongFor (spot : Spot) (e1 e2 : Expression) (k : Facts) (case : Case) : Type 0 where
  pub first : Interval
  pub last : Interval
  pub is_first : range_of spot e1 k.ranges ≡ Ok first
  pub is_last : range_of spot e2 k.ranges ≡ Ok last
  pub above : turn_limit < turns_between (limits first last)
  pub shown : case ≡ Turns (turns_between (limits first last)) turn_limit

unfoldable pub ForTurnsAreShown : Type 0
ForTurnsAreShown =
    (around : Around) (spot : Spot) (x : ℕ) (e1 e2 : Expression) (keeps : List Keep) (k : Facts) (at : Spot) (case : Case)
    → for_limits around spot x e1 e2 keeps k ≡ Err (broken TooManyTurns at case) → IsLongFor spot e1 e2 k case

-- The turns of an `each` are those from its first number to its last one.
unfoldable pub EachTurnsAreShown : Type 0
EachTurnsAreShown =
    (around : Around) (spot : Spot) (x v last : ℕ) (at : Spot) (case : Case) → each_begins around spot x v last ≡ Err (broken TooManyTurns at case)
    → (turn_limit < last + 1 - v) × (case ≡ Turns (last + 1 - v) turn_limit)
