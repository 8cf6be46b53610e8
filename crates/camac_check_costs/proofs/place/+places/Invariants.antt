use Rattle.std.proofs.Common.{◌≡◌, ◌+◌, ◌-◌, [], None, drop}
use Rattle.camac_lang.specs.View.{statements_of}
use Rattle.camac_check_simple.specs.Gives.{by_code}
use Rattle.camac_rules.specs.Known.{Facts}
use Rattle.camac_rules.specs.Loops.{with_fixed}
use Rattle.camac_rules.specs.Refusal.{if_reached}
use Rattle.camac_rules.specs.Statements.{accept_block}
use Rattle.camac_check_costs.specs.Places.{over_turns, place_in_block}
use Rattle.camac_check_costs.specs.Stands.{place_found}
use Rattle.camac_check_costs.proofs.place.+places.Given as goal

abbrev pub invariant-place_in_block-statements : goal.invariant-place_in_block-statements
invariant-place_in_block-statements l =
    if_reached None l.here (λ k. place_in_block (by_code l.context) l.around (statements_of (drop l.statement-index l.block)) k l.left l.turns)
    ≡ if_reached None l.fn.known (λ k. place_in_block (by_code l.context) l.fn.around (statements_of l.block) k l.left l.turns)

abbrev pub invariant-place_over_turns-turns : goal.invariant-place_over_turns-turns
invariant-place_over_turns-turns l =
    let context = by_code l.place.context.now in
    let inside = with_fixed l.head.variable l.place.around.now in
    let body = statements_of l.body in
    let check = accept_block context inside body in
    let find = λ (t : Facts). place_in_block context inside body t l.left [] in
    over_turns (l.turns - l.turn) l.head.variable (l.head.first + l.turn) check find l.here (place_found l.told)
    ≡ over_turns l.turns l.head.variable l.head.first check find l.fn.known None
