use Rattle.std.proofs.Common.{◌≡◌, ◌+◌, ◌-◌, ◌<◌, ◌≤◌, ◌∙◌, [], None, Ok, Err, length, take, drop, ap, ap₂, subst, sym, arith}
use Rattle.std.specs.Prelude.{get_or}
use Rattle.std.proofs.lemmas.Result.{err_from_is_err_and}
use Rattle.camac_lang.specs.Tree.{for_each}
use Rattle.camac_lang.specs.View.{statements_of}
use Rattle.camac_range.specs.Interval.{only}
use Rattle.camac_rules.specs.Costs.{verdict}
use Rattle.camac_rules.specs.Known.{Facts, with_range}
use Rattle.camac_rules.specs.Loops.{with_fixed}
use Rattle.camac_rules.specs.Refusal.{if_reached}
use Rattle.camac_rules.specs.Statements.{accept_block}
use Rattle.camac_check_simple.specs.Gives.{Fails, Gives, by_code}
use Rattle.camac_check_costs.specs.Places.{at_turn, left_by, over_turns, place_in, place_in_block}
use Rattle.camac_check_costs.specs.Stands.{place_found}
use Rattle.camac_check_costs.proofs.PlaceLaws.{place_on, place_refused}
use Rattle.camac_check_costs.proofs.PlaceTurns.{first_and_rest, in_that_turn, left_is, no_turn, over_all, over_at, turn_ends, turn_fails, turn_told}
use Rattle.camac_check_costs.proofs.place.+places.Goals as goal

pub place_in_block-returns-in_err-accept_next : goal.place_in_block-returns-in_err-accept_next
place_in_block-returns-in_err-accept_next t c =
    let context = by_code c.args.context.now in
    let xs = c.args.block.now in
    let i = c.statements.statement-index in
    let lt : i < length xs = omega arith in
    let fault = c.in_err-accept_next.field-0.0 in
    let p = err_from_is_err_and c.from_residual.result c.from_residual.ensures.1 in
    subst (λ r. Gives place_found r (if_reached None c.args.known (λ k. place_in_block context c.args.around (statements_of xs) k c.args.left c.args.turns.now)))
    (sym (p.1 ∙ ap (λ e. Err e) p.2))
    (subst (λ r. Fails fault r) c.statements.invariant
    (place_refused context c.statements.around xs i c.args.left c.args.turns.now c.statement-item.result lt c.statement-item.is c.statements.here fault
    (sym c.is_in.ensures ∙ c.if-is_in.false) c.in_err-accept_next.ensures.found))

pub place_in_block-statements-preserved : goal.place_in_block-statements-preserved
place_in_block-statements-preserved t c =
    let xs = c.args.block.now in
    let i = c.statements.statement-index in
    let lt : i < length xs = omega arith in
    place_on (by_code c.args.context.now) c.statements.around xs i c.args.left c.args.turns.now c.statement-item.result lt c.statement-item.is c.statements.here
    (verdict c.accept_next.new.known c.in_ok-accept_next.field-0) (sym c.is_in.ensures ∙ c.if-is_in.false) c.in_ok-accept_next.ensures.found
    ∙ c.statements.invariant

pub place_in_each-returns : goal.place_in_each-returns
place_in_each-returns t c =
    let context = by_code c.args.place.now.context.now in
    let around = c.args.place.now.around.now in
    let it = c.args.head in
    let inside = with_fixed it.variable around in
    let body = statements_of c.args.body.now in
    let turns = c.args.turns.now in
    let value = get_or turns 0 0 in
    let inner = take (length turns - 1) (drop 1 turns) in
    let le : it.first ≤ value = omega (arith, c.if-value-head.false) in
    let lt : value - it.first < c.in_ok-count.count = omega (arith, c.if-count-value.false) in
    let known : at_turn (accept_block context inside body) it.variable it.first (value - it.first) c.args.known ≡ Ok c.in_ok-begun.begun =
    ap (λ a. at_turn (accept_block context a body) it.variable it.first (value - it.first) c.args.known) (sym c.in_ok-fixed.ensures) ∙ c.in_ok-begun.ensures in
    subst (λ r. Gives place_found c.place_in_block.result r)
    (ap (λ a. if_reached None c.in_ok-begun.begun (λ k. place_in_block context a body k c.args.left inner)) c.in_ok-fixed.ensures
    ∙ sym (in_that_turn context around it body c.args.known c.args.left c.in_ok-count.count c.requires c.in_ok-count.ensures.rule value inner c.in_ok-begun.begun le lt known)
    ∙ ap (λ ts. place_in context around (for_each it.spot it.variable it.first it.last body) c.args.known c.args.left ts) (sym (first_and_rest turns c.in-len1-up.len_at_least)))
    c.place_in_block.ensures

pub place_over_turns-turns-init : goal.place_over_turns-turns-init
place_over_turns-turns-init t c =
    let context = by_code c.args.place.now.context.now in
    let it = c.args.head in
    let inside = with_fixed it.variable c.args.place.now.around.now in
    let body = statements_of c.args.body.now in
    let turns = c.in_ok-turns.turns in
    let check = accept_block context inside body in
    let find = λ (t : Facts). place_in_block context inside body t c.args.left [] in
    over_at (turns - 0) turns it.variable (it.first + 0) it.first check find c.args.known None (omega arith) (omega arith)

pub place_over_turns-turns-preserved : goal.place_over_turns-turns-preserved
unfolding if_reached
place_over_turns-turns-preserved t c =
    let context = by_code c.args.place.now.context.now in
    let it = c.args.head in
    let inside = with_fixed it.variable c.args.place.now.around.now in
    let body = statements_of c.args.body.now in
    let turns = c.in_ok-turns.turns in
    let check = accept_block context inside body in
    let find = λ (t : Facts). place_in_block context inside body t c.args.left [] in
    let turn = c.turns.turn in
    let lt : turn < turns = c.turns-test.true in
    let told = place_found c.turns.told in
    let now = with_range it.variable (only (it.first + turn)) c.turns.here in
    let moved : c.put_range.new.self ≡ now = c.in_ok-put_range.ensures.ok ∙ ap (λ r. with_range it.variable r c.turns.here) c.between.ensures in
    let f : find now ≡ Ok (place_found c.in-Ok.found) =
    ap₂ (λ a k. place_in_block context a body k c.args.left []) (sym c.in_ok-fixed.ensures) (sym (c.in_ok-begun.ensures ∙ moved)) ∙ c.in-Ok.ensures in
    let after : left_by (check now) ≡ c.in_ok-left_by.field-0 =
    ap₂ (λ a k. left_by (accept_block context a body k)) (sym c.in_ok-inside.ensures) (sym moved) ∙ left_is _ _ c.in_ok-left_by.ensures in
    ap (over_turns (turns - (turn + 1)) it.variable (it.first + (turn + 1)) check find c.in-Some.known) c.in_ok-told.ensures
    ∙ turn_told turns turn it.variable it.first check find c.turns.here told (place_found c.in-Ok.found) c.in-Some.known lt f (after ∙ c.in-Some.is)
    ∙ c.turns.invariant

pub place_over_turns-returns-in-Err : goal.place_over_turns-returns-in-Err
unfolding if_reached
place_over_turns-returns-in-Err t c =
    let context = by_code c.args.place.now.context.now in
    let it = c.args.head in
    let inside = with_fixed it.variable c.args.place.now.around.now in
    let body = statements_of c.args.body.now in
    let turns = c.in_ok-turns.turns in
    let check = accept_block context inside body in
    let find = λ (t : Facts). place_in_block context inside body t c.args.left [] in
    let turn = c.turns.turn in
    let lt : turn < turns = c.turns-test.true in
    let told = place_found c.turns.told in
    let now = with_range it.variable (only (it.first + turn)) c.turns.here in
    let moved : c.put_range.new.self ≡ now = c.in_ok-put_range.ensures.ok ∙ ap (λ r. with_range it.variable r c.turns.here) c.between.ensures in
    subst (λ r. Fails c.in-Err.fault r) (c.turns.invariant ∙ sym (over_all context c.args.place.now.around.now it body c.args.known c.args.left turns c.requires c.in_ok-turns.ensures.rule))
    (turn_fails turns turn it.variable it.first check find c.turns.here told c.in-Err.fault lt
    (subst (λ r. Fails c.in-Err.fault r) (ap₂ (λ a k. place_in_block context a body k c.args.left []) c.in_ok-fixed.ensures (c.in_ok-begun.ensures ∙ moved)) c.in-Err.ensures))

pub place_over_turns-returns-in-None : goal.place_over_turns-returns-in-None
unfolding if_reached
place_over_turns-returns-in-None t c =
    let context = by_code c.args.place.now.context.now in
    let it = c.args.head in
    let inside = with_fixed it.variable c.args.place.now.around.now in
    let body = statements_of c.args.body.now in
    let turns = c.in_ok-turns.turns in
    let check = accept_block context inside body in
    let find = λ (t : Facts). place_in_block context inside body t c.args.left [] in
    let turn = c.turns.turn in
    let lt : turn < turns = c.turns-test.true in
    let told = place_found c.turns.told in
    let now = with_range it.variable (only (it.first + turn)) c.turns.here in
    let moved : c.put_range.new.self ≡ now = c.in_ok-put_range.ensures.ok ∙ ap (λ r. with_range it.variable r c.turns.here) c.between.ensures in
    let f : find now ≡ Ok (place_found c.in-Ok.found) =
    ap₂ (λ a k. place_in_block context a body k c.args.left []) (sym c.in_ok-fixed.ensures) (sym (c.in_ok-begun.ensures ∙ moved)) ∙ c.in-Ok.ensures in
    let after : left_by (check now) ≡ c.in_ok-left_by.field-0 =
    ap₂ (λ a k. left_by (accept_block context a body k)) (sym c.in_ok-inside.ensures) (sym moved) ∙ left_is _ _ c.in_ok-left_by.ensures in
    over_all context c.args.place.now.around.now it body c.args.known c.args.left turns c.requires c.in_ok-turns.ensures.rule
    ∙ sym c.turns.invariant
    ∙ turn_ends turns turn it.variable it.first check find c.turns.here told (place_found c.in-Ok.found) lt f (after ∙ c.in-None.is)
    ∙ ap Ok (sym c.in_ok-told.ensures)

pub place_over_turns-returns : goal.place_over_turns-returns
place_over_turns-returns t c =
    let context = by_code c.args.place.now.context.now in
    let it = c.args.head in
    let inside = with_fixed it.variable c.args.place.now.around.now in
    let body = statements_of c.args.body.now in
    let turns = c.in_ok-turns.turns in
    let check = accept_block context inside body in
    let find = λ (t : Facts). place_in_block context inside body t c.args.left [] in
    let le : turns ≤ c.turns.turn = omega (arith, c.turns-test.false) in
    over_all context c.args.place.now.around.now it body c.args.known c.args.left turns c.requires c.in_ok-turns.ensures.rule
    ∙ sym c.turns.invariant
    ∙ no_turn turns c.turns.turn it.variable it.first check find c.turns.here (place_found c.turns.told) le
