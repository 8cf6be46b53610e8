-- The rule of a `for` with the word `each`: its block is judged once for each turn, from what is known where that turn begins.
use Rattle.std.specs.Prelude.{ℕ, zero, suc, ◌+◌, ◌-◌, ◌&&◌, Some, Result, Ok, nat_le}
use Rattle.camac_range.specs.Number.{greatest}
use Rattle.camac_range.specs.Interval.{only}
use Rattle.camac_model.specs.Fine.{Bounds}
use Rattle.camac_rules.specs.declared.case.Case.TheVariants.{Malformed, Turns, Counted}
use Rattle.camac_rules.specs.declared.rule.CheckRule.TheVariants.{ValueOutOfRange, TooManyTurns, LoopVariableAssigned}
use Rattle.camac_rules.specs.Fault.{Fault}
use Rattle.camac_rules.specs.Refusal.{◌>>=◌, ◌>>◌, required, if_reached}
use Rattle.camac_rules.specs.Known.{Facts, with_range}
use Rattle.camac_rules.specs.Costs.{costs, no_costs, plus, Verdict, verdict, unreached}
use Rattle.camac_rules.specs.Cycles.{Context, Around, may_write}
use Rattle.camac_rules.specs.Loops.{turn_limit}
use Rattle.camac_lang.specs.declared.spot.Spot.{Spot}

-- a step, and the body
abbrev pub turn_costs : Bounds → Bounds
turn_costs body = costs body.cycles body.words (1 + body.steps)

-- further turns, where the variable has the current value in the next one: each begins with what the one before has left, and the costs add. After them
-- it has the last value. What can't be reached any more is not judged.
abbrev pub each_turns : (Bounds → Bounds) → (turns variable current last : ℕ) → (Facts → Result Verdict Fault) → Facts → Result Verdict Fault
each_turns limit zero x v last check k = Ok (verdict (Some (with_range x (only last) k)) no_costs)
each_turns limit (suc n) x v last check k = do
  turn ← check (with_range x (only v) k)
  rest ← if_reached unreached turn.after (each_turns limit n x (v + 1) last check)
  Ok (verdict rest.after (limit (plus (turn_costs turn.costs) rest.costs)))

-- all turns; without one all stays
abbrev pub each_from : (Bounds → Bounds) → (turns variable first last : ℕ) → (Facts → Result Verdict Fault) → Facts → Result Verdict Fault
each_from limit zero x v last check k = Ok (verdict (Some k) no_costs)
each_from limit (suc n) x v last check k = each_turns limit (suc n) x v last check k

-- how many turns there are, by whose rules it may begin: those of a `for` between these numbers that keeps nothing
abbrev pub each_begins : Around → (spot : Spot) (variable first last : ℕ) → Result ℕ Fault
each_begins around spot x v last = do
  required (nat_le v greatest && nat_le last greatest) ValueOutOfRange spot Malformed
  required (may_write around x) LoopVariableAssigned spot (Counted around.body x)
  required (nat_le (last + 1 - v) turn_limit) TooManyTurns spot (Turns (last + 1 - v) turn_limit)
  Ok (last + 1 - v)

-- where `check` checks its body
abbrev pub each_rule : Context → Around → (spot : Spot) (variable first last : ℕ) → (Facts → Result Verdict Fault) → Facts → Result Verdict Fault
each_rule c around spot x v last check k = do
  n ← each_begins around spot x v last
  turns ← each_from c.limit n x v last check k
  Ok (verdict turns.after (c.limit (plus (costs 0 0 1) turns.costs)))
