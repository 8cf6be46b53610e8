-- What follows a turn of a loop by the rules, as code follows them.
use Rattle.std.specs.Prelude.{ℕ, List, Some, None, Result, Ok}
use Rattle.camac_lang.specs.Tree.{Keep}
use Rattle.camac_range.specs.Interval.{only}
use Rattle.camac_rules.specs.declared.case.Body.{Body}
use Rattle.camac_rules.specs.declared.rule.CheckRule.TheVariants.{KeepFailsAfterTurn}
use Rattle.camac_rules.specs.Capped.{capped}
use Rattle.camac_rules.specs.Costs.{costs, plus, loop_costs, Verdict, verdict}
use Rattle.camac_rules.specs.Each.{turn_costs, each_from}
use Rattle.camac_rules.specs.Fault.{Fault}
use Rattle.camac_rules.specs.Known.{Facts, Known, with_range}
use Rattle.camac_rules.specs.Loops.{keeps_hold_after, unkept_after}
use Rattle.camac_rules.specs.Refusal.{◌>>=◌, ◌>>◌, required}
use Rattle.camac_check_rows.specs.declared.row.Row.{Row}
use Rattle.camac_check_rows.specs.Turns.{merge}
use Rattle.camac_lang.specs.declared.spot.Spot.{Spot}

abbrev pub loop_end : Body → Spot → List Keep → Known → ℕ → Verdict → Result Verdict Fault
loop_end body spot keeps after turns turn = do
  required (keeps_hold_after keeps turn.after) KeepFailsAfterTurn spot (unkept_after body keeps turn.after)
  Ok (verdict after (capped (loop_costs turns turn.costs)))

-- all turns of an `each`, and the statement's own step
abbrev pub each_judged : (turns variable first last : ℕ) → (Facts → Result Verdict Fault) → Facts → Result Verdict Fault
each_judged n x v last check k = do
  turns ← each_from capped n x v last check k
  Ok (verdict turns.after (capped (plus (costs 0 0 1) turns.costs)))

-- one turn by itself, with its own step
abbrev pub turn_rule : (variable value : ℕ) → (Facts → Result Verdict Fault) → Facts → Result Verdict Fault
turn_rule x v check k = do
  turn ← check (with_range x (only v) k)
  Ok (verdict turn.after (capped (turn_costs turn.costs)))

-- the rows of the turns so far with those of one more, if it can be reached
abbrev pub with_turn : (variable value : ℕ) → (Known → List Row) → Known → List Row → List Row
with_turn x v rows None so_far = so_far
with_turn x v rows (Some k) so_far = merge capped so_far (rows (Some (with_range x (only v) k)))
