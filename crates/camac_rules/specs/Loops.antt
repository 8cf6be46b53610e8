-- The rules of loops: what is known at the head, how many turns there are, what they cost.
use Rattle.std.specs.Prelude.{ℕ, ◌+◌, ◌-◌, ◌/◌, Bool, true, ◌&&◌, List, [], ◌∷◌, Some, None, Result, Ok, nat_lt, nat_le, if◌then◌else◌}
use Rattle.camac_lang.specs.Tree.{Expression, Condition, Keep, Block}
use Rattle.camac_range.specs.Interval.{Interval, interval, is_inside, hull}
use Rattle.camac_rules.specs.declared.case.Body.{Body}
use Rattle.camac_rules.specs.declared.case.Case.{Case}
use Rattle.camac_rules.specs.declared.case.Case.TheVariants.{Malformed, Measure, Turns, Annotation, Counted}
use Rattle.camac_rules.specs.declared.rule.CheckRule.TheVariants.{MeasureBroken, KeepFailsAtEntry, KeepFailsAfterTurn, TooManyTurns, LoopVariableAssigned}
use Rattle.camac_rules.specs.Cases.{kept_at}
use Rattle.camac_rules.specs.Fault.{Fault}
use Rattle.camac_rules.specs.Refusal.{◌>>=◌, ◌>>◌, required, given, if_reached}
use Rattle.camac_rules.specs.Known.{Facts, Known, range_at, with_range}
use Rattle.camac_rules.specs.Expressions.{range_of}
use Rattle.camac_rules.specs.Conditions.{split}
use Rattle.camac_rules.specs.Costs.{loop_costs, Verdict, verdict, unreached}
use Rattle.camac_rules.specs.Writes.{forget_block, fall_of}
use Rattle.camac_rules.specs.Cycles.{Context, Around, may_write}
use Rattle.camac_lang.specs.declared.spot.Spot.{Spot}

-- the most turns of a loop
abbrev pub turn_limit : ℕ
turn_limit = 65535

abbrev pub with_fixed : ℕ → Around → Around
with_fixed x around = record { body = around.body; fixed = x ∷ around.fixed; locked = around.locked }

abbrev pub kept_range : Keep → Interval
kept_range q = interval q.low q.high

-- each kept variable is in its range
abbrev pub keeps_hold : List Keep → Facts → Bool
keeps_hold [] k = true
keeps_hold (q ∷ qs) k = is_inside (range_at k.ranges q.variable) (kept_range q) && keeps_hold qs k

abbrev pub keeps_hold_after : List Keep → Known → Bool
keeps_hold_after qs None = true
keeps_hold_after qs (Some k) = keeps_hold qs k

-- the first kept variable that is not in its range
abbrev pub unkept : Body → List Keep → Facts → Case
unkept body [] k = Malformed
unkept body (q ∷ qs) k =
    if is_inside (range_at k.ranges q.variable) (kept_range q) then unkept body qs k
    else kept_at body q.variable (range_at k.ranges q.variable) (kept_range q)

abbrev pub unkept_after : Body → List Keep → Known → Case
unkept_after body qs None = Malformed
unkept_after body qs (Some k) = unkept body qs k

abbrev pub with_keeps : List Keep → Facts → Facts
with_keeps [] k = k
with_keeps (q ∷ qs) k = with_range q.variable (kept_range q) (with_keeps qs k)

-- what is known where each turn of this body begins
abbrev pub head : Block → List Keep → Facts → Facts
head body keeps k = with_keeps keeps (forget_block body k)

-- the ranges of the two values of a `for`
pub record Limits : Type 0 where
  pub first : Interval
  pub last : Interval

abbrev pub limits : (first last : Interval) → Limits
limits first last = record { first = first; last = last }

-- the most turns of a `for`, and all values of its variable
abbrev pub turns_between : Limits → ℕ
turns_between l = l.last.hi + 1 - l.first.lo

abbrev pub values_between : Limits → Interval
values_between l = interval l.first.lo l.last.hi

-- the limits of a `for`, by whose rules it may begin
abbrev pub for_limits : Around → (spot : Spot) (variable : ℕ) → (first last : Expression) → List Keep → Facts → Result Limits Fault
for_limits around spot x e1 e2 keeps k = do
  r ← range_of spot e1 k.ranges
  s ← range_of spot e2 k.ranges
  required (may_write around x) LoopVariableAssigned spot (Counted around.body x)
  required (nat_le (turns_between (limits r s)) turn_limit) TooManyTurns spot (Turns (turns_between (limits r s)) turn_limit)
  required (keeps_hold keeps k) KeepFailsAtEntry spot (unkept around.body keeps k)
  Ok (limits r s)

-- what is known where the body of a `for` begins, if there may be a turn
abbrev pub for_head : (variable : ℕ) → Limits → List Keep → Block → Facts → Known
for_head x l keeps body k =
    if nat_lt l.last.hi l.first.lo then None else Some (with_range x (values_between l) (head body keeps k))

-- what is known after it; without a turn all stays
abbrev pub for_after : (variable : ℕ) → Limits → List Keep → Block → Facts → Known
for_after x l keeps body k =
    if nat_lt l.last.hi l.first.lo then Some k
    else Some (with_range x (hull (range_at k.ranges x) (values_between l)) (head body keeps k))

-- where `check` checks its body
abbrev pub for_rule :
    Context → Around → (spot : Spot) (variable : ℕ) → (first last : Expression) → List Keep → Block → (Facts → Result Verdict Fault) → Facts → Result Verdict Fault
for_rule c around spot x e1 e2 keeps body check k = do
  l ← for_limits around spot x e1 e2 keeps k
  turn ← if_reached unreached (for_head x l keeps body k) check
  required (keeps_hold_after keeps turn.after) KeepFailsAfterTurn spot (unkept_after around.body keeps turn.after)
  Ok (verdict (for_after x l keeps body k) (c.limit (loop_costs (turns_between l) turn.costs)))

-- the turns that a `while` may need, or its own number, where that is above the most of any loop
abbrev pub turns_case : (needed most : ℕ) → Case
turns_case needed most = if nat_le most turn_limit then Turns needed most else Annotation most turn_limit

-- what is known at the head of a `while` of at most so many turns with measure m, by whose rules it may begin
abbrev pub while_head : Body → (spot : Spot) (most measure : ℕ) → List Keep → Block → Facts → Result Facts Fault
while_head place spot most m keeps body k = do
  fall ← given (fall_of m body) MeasureBroken spot (Measure place m)
  required (nat_le most turn_limit && nat_le ((range_at k.ranges m).hi / fall) most) TooManyTurns spot (turns_case ((range_at k.ranges m).hi / fall) most)
  required (keeps_hold keeps k) KeepFailsAtEntry spot (unkept place keeps k)
  Ok (with_range m (interval 0 (range_at k.ranges m).hi) (head body keeps k))

-- no turn where the condition never holds
abbrev pub turn_bound : Known → (most : ℕ) → ℕ
turn_bound None most = 0
turn_bound (Some k) most = most

-- where `check` checks its body
abbrev pub while_rule :
    Context → Around → (spot : Spot) → Condition → (most measure : ℕ) → List Keep → Block → (Facts → Result Verdict Fault) → Facts → Result Verdict Fault
while_rule c around spot test most m keeps body check k = do
  top ← while_head around.body spot most m keeps body k
  arms ← split spot test top
  turn ← if_reached unreached arms.holds check
  required (keeps_hold_after keeps turn.after) KeepFailsAfterTurn spot (unkept_after around.body keeps turn.after)
  Ok (verdict arms.fails (c.limit (loop_costs (turn_bound arms.holds most) turn.costs)))
