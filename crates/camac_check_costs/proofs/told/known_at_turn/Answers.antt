use Rattle.std.proofs.Common.{◌≡◌, ◌<◌, ◌∙◌, ap, sym}
use Rattle.camac_lang.specs.View.{statements_of}
use Rattle.camac_range.specs.Interval.{only}
use Rattle.camac_rules.specs.Known.{with_range}
use Rattle.camac_rules.specs.Statements.{accept_block}
use Rattle.camac_check_simple.specs.Gives.{by_code, verdict_of}
use Rattle.camac_check_costs.proofs.PlaceTurns.{never_passed, turn_passed}
use Rattle.camac_check_costs.proofs.told.known_at_turn.Goals as goal

pub turns-preserved : goal.turns-preserved
turns-preserved c =
    let check = accept_block (by_code c.args.context.now) c.args.around.now (statements_of c.args.body.now) in
    let x = c.args.head.variable in
    let lt : c.turns.value < c.args.wanted = c.turns-test.true in
    let moved : c.put_range.new.self ≡ with_range x (only c.turns.value) c.turns.here = c.in_ok-put_range.ensures.ok ∙ ap (λ r. with_range x r c.turns.here) c.between.ensures in
    turn_passed c.args.wanted x c.turns.value check c.turns.here c.put_range.new.self (verdict_of c.in_ok-found.found) lt moved c.in_ok-found.ensures.found c.in-Some.known c.in-Some.is
    ∙ c.turns.invariant

pub returns-in-None : goal.returns-in-None
returns-in-None c =
    let check = accept_block (by_code c.args.context.now) c.args.around.now (statements_of c.args.body.now) in
    let x = c.args.head.variable in
    let lt : c.turns.value < c.args.wanted = c.turns-test.true in
    let moved : c.put_range.new.self ≡ with_range x (only c.turns.value) c.turns.here = c.in_ok-put_range.ensures.ok ∙ ap (λ r. with_range x r c.turns.here) c.between.ensures in
    sym c.turns.invariant
    ∙ never_passed c.args.wanted x c.turns.value check c.turns.here c.put_range.new.self (verdict_of c.in_ok-found.found) lt moved c.in_ok-found.ensures.found c.in-None.is
