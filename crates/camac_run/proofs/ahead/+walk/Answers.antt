use Rattle.std.proofs.Common.{◌≡◌, List, [], length, false, Some, map, refl, sym, ap, subst, ◌∙◌, arith}
use Rattle.std.proofs.lemmas.List.{length-map}
use Rattle.std.specs.Prelude.{slice_get}
use Rattle.camac_lang.specs.Tree.{choose, choose_else, for_each, locked}
use Rattle.camac_lang.specs.View.{action_of, call_of, condition_of, expression_of, for_of, keep_of, procedure_of, statement_of, statements_of}
use Rattle.camac_model.specs.Behaviour.{Action}
use Rattle.camac_model.specs.Fine.{most_turns}
use Rattle.camac_model.specs.Meaning.{block_meaning, effect, for_state}
use Rattle.camac_model.specs.State.{stepped}
use Rattle.camac_machine.proofs.Lams.{procedure_at}
use Rattle.camac_lang.specs.declared.tree.Action.TheVariants as act
use Rattle.camac_lang.proofs.Trees.{action_is, choose_else_is, choose_is, each_is, for_is, lock_is}
use Rattle.camac_run.specs.Sure.{Adds, chooses, context_of}
use Rattle.camac_run.proofs.Arms.{adds_first_arm, adds_goes, adds_second_arm, goes_either, goes_known, less_both, less_same}
use Rattle.camac_run.proofs.Making.{ArePassed, adds_call, adds_for, adds_in_turn, adds_inside, adds_lock, adds_no_release, adds_no_turns, adds_turns, adds_unknown, its_step, block_ends, block_goes_on, block_stops, turns_end, turns_go_on, turns_stop}
use Rattle.camac_run.specs.declared.ahead.Known.{Known}
use Rattle.camac_run.specs.declared.list.Coming.{Coming}
use Rattle.camac_run.specs.declared.member.Member.{Member}
use Rattle.camac_run.proofs.ahead.+walk.Goals as goal

pub add_block-returns-then-not-add_statement : goal.add_block-returns-then-not-add_statement
add_block-returns-then-not-add_statement t c =
    let i = c.statements.statement-index in
    block_stops (context_of c.args.inside.now) c.args.block.now i c.args.known.now c.statements.known c.args.coming.now.ahead.items c.statements.coming.ahead.items c.statements.invariant c.statement-item.result (omega arith) c.statement-item.is c.add_statement.result c.add_statement.new.known c.add_statement.new.known c.add_statement.new.coming.ahead.items c.if-not-add_statement.true c.add_statement.ensures

pub add_block-statements-preserved : goal.add_block-statements-preserved
add_block-statements-preserved t c =
    let i = c.statements.statement-index in
    block_goes_on (context_of c.args.inside.now) c.args.block.now i c.args.known.now c.statements.known c.args.coming.now.ahead.items c.statements.coming.ahead.items c.statements.invariant c.statement-item.result (omega arith) c.statement-item.is c.add_statement.result c.add_statement.new.known c.add_statement.new.coming.ahead.items c.if-not-add_statement.false c.add_statement.ensures

pub add_block-returns : goal.add_block-returns
add_block-returns t c =
    let i = c.statements.statement-index in
    block_ends (context_of c.args.inside.now) c.args.block.now i c.args.known.now c.statements.known c.args.coming.now.ahead.items c.statements.coming.ahead.items c.statements.invariant (omega arith)

pub add_turns-returns-then-not-add_turn : goal.add_turns-returns-then-not-add_turn
add_turns-returns-then-not-add_turn t c =
    turns_stop c.args.inside.now.checked.now.plan c.args.variable c.args.first c.args.last c.turns.value (block_meaning (context_of c.args.inside.now) most_turns (statements_of c.args.body.now)) c.args.known.now c.turns.known c.args.coming.now.ahead.items c.turns.coming.ahead.items c.turns.invariant c.add_turn.result c.add_turn.new.known c.add_turn.new.coming.ahead.items c.add_turn.ensures (omega arith) c.if-not-add_turn.true c.add_turn.new.known

pub add_turns-turns-preserved : goal.add_turns-turns-preserved
add_turns-turns-preserved t c =
    turns_go_on c.args.inside.now.checked.now.plan c.args.variable c.args.first c.args.last c.turns.value (block_meaning (context_of c.args.inside.now) most_turns (statements_of c.args.body.now)) c.args.known.now c.turns.known c.args.coming.now.ahead.items c.turns.coming.ahead.items c.turns.invariant c.add_turn.result c.add_turn.new.known c.add_turn.new.coming.ahead.items c.add_turn.ensures (omega arith) (omega arith) c.if-not-add_turn.false

pub add_turns-returns-then-not-add_turn-2 : goal.add_turns-returns-then-not-add_turn-2
add_turns-returns-then-not-add_turn-2 t c =
    let there : c.turns.value ≡ c.args.last = omega (arith, c.requires) in
    turns_stop c.args.inside.now.checked.now.plan c.args.variable c.args.first c.args.last c.turns.value (block_meaning (context_of c.args.inside.now) most_turns (statements_of c.args.body.now)) c.args.known.now c.turns.known c.args.coming.now.ahead.items c.turns.coming.ahead.items c.turns.invariant c.add_turn-2.result c.add_turn-2.new.known c.add_turn-2.new.coming.ahead.items (rw there c.add_turn-2.ensures) (omega (arith, there)) c.if-not-add_turn-2.true c.add_turn-2.new.known

pub add_turns-returns : goal.add_turns-returns
add_turns-returns t c =
    let there : c.turns.value ≡ c.args.last = omega (arith, c.requires) in
    rw c.note.ensures
    (turns_end c.args.inside.now.checked.now.plan c.args.variable c.args.first c.args.last c.turns.value (block_meaning (context_of c.args.inside.now) most_turns (statements_of c.args.body.now)) c.args.known.now c.turns.known c.args.coming.now.ahead.items c.turns.coming.ahead.items c.turns.invariant c.add_turn-2.result c.add_turn-2.new.known c.add_turn-2.new.coming.ahead.items (rw there c.add_turn-2.ensures) there c.if-not-add_turn-2.false)

pub add_turn-returns-then-inside-eq0 : goal.add_turn-returns-then-inside-eq0
add_turn-returns-then-inside-eq0 t c =
    adds_unknown c.args.inside.now.checked.now.plan c.args.known.now c.args.known.now (λ s. block_meaning (context_of c.args.inside.now) most_turns (statements_of c.args.body.now) (for_state c.args.variable c.args.value s)) c.args.coming.now.ahead.items c.args.coming.now.ahead.items refl

pub add_turn-returns-then-not-step : goal.add_turn-returns-then-not-step
add_turn-returns-then-not-step t c =
    adds_unknown c.args.inside.now.checked.now.plan c.args.known.now c.args.known.now (λ s. block_meaning (context_of c.args.inside.now) most_turns (statements_of c.args.body.now) (for_state c.args.variable c.args.value s)) c.args.coming.now.ahead.items c.step.new.self.ahead.items (ap (λ (m : Coming). m.ahead.items) c.step.ensures)

pub add_turn-returns : goal.add_turn-returns
add_turn-returns t c =
    let plan = c.args.inside.now.checked.now.plan in
    let go = block_meaning (context_of c.args.inside.now) most_turns (statements_of c.args.body.now) in
    let inner = rw (c.within.ensures, c.note.ensures) at c.add_block.ensures in
    subst (λ (os : List Member). Adds plan (λ s. go (for_state c.args.variable c.args.value s)) c.args.known.now os c.add_block.result c.add_block.new.known c.add_block.new.coming.ahead.items) (ap (λ (m : Coming). m.ahead.items) c.step.ensures)
    (adds_in_turn plan c.args.known.now c.add_block.new.known c.args.variable c.args.value go c.step.new.self.ahead.items c.add_block.new.coming.ahead.items c.add_block.result inner)

pub add_from-returns-then-first-last : goal.add_from-returns-then-first-last
add_from-returns-then-first-last t c =
    adds_no_turns c.args.inside.now.checked.now.plan most_turns c.args.variable c.args.first c.args.last (block_meaning (context_of c.args.inside.now) most_turns (statements_of c.args.body.now)) c.args.known.now c.args.coming.now.ahead.items c.if-first-last.true

pub add_from-returns : goal.add_from-returns
add_from-returns t c =
    adds_turns c.args.inside.now.checked.now.plan most_turns c.args.variable c.args.first c.args.last (block_meaning (context_of c.args.inside.now) most_turns (statements_of c.args.body.now)) c.args.known.now c.args.coming.now.ahead.items c.add_turns.new.known c.add_turns.new.coming.ahead.items c.add_turns.result (omega (arith, c.if-first-last.false)) (c.add_turns.ensures most_turns)

pub add_for-returns-in_default : goal.add_for-returns-in_default
add_for-returns-in_default t c =
    adds_unknown c.args.inside.now.checked.now.plan c.args.known.now c.args.known.now (effect (context_of c.args.inside.now) most_turns (for_of c.args.head.now (statements_of c.args.body.now))) c.args.coming.now.ahead.items c.args.coming.now.ahead.items refl

pub add_for-returns-in_default-value_of : goal.add_for-returns-in_default-value_of
add_for-returns-in_default-value_of t c =
    adds_unknown c.args.inside.now.checked.now.plan c.args.known.now c.args.known.now (effect (context_of c.args.inside.now) most_turns (for_of c.args.head.now (statements_of c.args.body.now))) c.args.coming.now.ahead.items c.args.coming.now.ahead.items refl

pub add_for-returns : goal.add_for-returns
add_for-returns t c =
    let h = c.args.head.now in
    adds_for (context_of c.args.inside.now) h.spot h.variable (expression_of h.from) (expression_of h.to) (map keep_of h.keeps.items) (statements_of c.args.body.now) c.args.known.now c.add_from.new.known c.in-Some.first c.in-Some-value_of.last c.args.coming.now.ahead.items c.add_from.new.coming.ahead.items c.add_from.result c.in-Some.ensures.sure c.in-Some-value_of.ensures.sure c.add_from.ensures

pub add_call-returns-then-number-inside : goal.add_call-returns-then-number-inside
add_call-returns-then-number-inside t c =
    adds_unknown c.args.inside.now.checked.now.plan c.args.known.now c.args.known.now (effect (context_of c.args.inside.now) most_turns (call_of c.args.call.now)) c.args.coming.now.ahead.items c.args.coming.now.ahead.items refl

pub add_call-returns : goal.add_call-returns
add_call-returns t c =
    let checked = c.args.inside.now.checked.now in
    let its = c.args.call.now in
    let e : map procedure_of c.procedures-procedures.result.now ≡ checked.script.procedures = c.procedures-procedures.ensures ∙ ap (λ s. s.procedures) c.script.ensures in
    let r = c.index-procedures-number.result in
    let n : length checked.script.procedures ≡ length c.procedures-procedures.result.now = sym (ap length e) ∙ length-map c.procedures-procedures.result.now procedure_of in
    let there : slice_get checked.script.procedures its.procedure ≡ Some (procedure_of r) = procedure_at c.procedures-procedures.result.now checked.script.procedures its.procedure r e (omega (arith, n, c.if-number-procedures.false)) c.index-procedures-number.is in
    let passed : Known = record c.nothing-entered.result { variables = c.pass.new.known } in
    let inner = rw (c.within.ensures, c.as_slice-body.ensures.value) at c.add_block.ensures in
    adds_call checked c.args.inside.now.procedures its.procedure its.spot (map expression_of its.arguments.items) (procedure_of r) c.args.known.now passed c.add_block.new.known (omega (arith, c.if-number-inside.false)) there
    (subst (λ l. ArePassed (map expression_of l) c.args.known.now.variables c.pass.new.known) c.as_slice.ensures.value c.pass.ensures)
    (ap (λ (k : Known). k.registers) c.nothing-entered.ensures)
    c.args.coming.now.ahead.items c.add_block.new.coming.ahead.items c.add_block.result inner

pub add_statement-returns-then-is_full : goal.add_statement-returns-then-is_full
add_statement-returns-then-is_full t c =
    adds_unknown c.args.inside.now.checked.now.plan c.args.known.now c.args.known.now (λ s. effect (context_of c.args.inside.now) most_turns (statement_of c.args.statement.now) (stepped s)) c.args.coming.now.ahead.items c.args.coming.now.ahead.items refl

pub add_statement-returns-then-not-step : goal.add_statement-returns-then-not-step
add_statement-returns-then-not-step t c =
    adds_unknown c.args.inside.now.checked.now.plan c.args.known.now c.args.known.now (λ s. effect (context_of c.args.inside.now) most_turns (statement_of c.args.statement.now) (stepped s)) c.args.coming.now.ahead.items c.step.new.self.ahead.items (ap (λ (m : Coming). m.ahead.items) c.step.ensures)

pub add_statement-returns-in-For : goal.add_statement-returns-in-For
add_statement-returns-in-For t c =
    let w = c.in-For in
    let mid = ap (λ (m : Coming). m.ahead.items) c.step.ensures in
    rw (w.is, for_is w.head w.body)
    (its_step (context_of c.args.inside.now) (for_of w.head (statements_of w.body.items)) c.args.known.now c.add_for.new.known c.args.coming.now.ahead.items c.step.new.self.ahead.items c.add_for.new.coming.ahead.items c.add_for.result mid (rw c.deref.ensures.value at c.add_for.ensures))

pub add_statement-returns-in-ForEach : goal.add_statement-returns-in-ForEach
add_statement-returns-in-ForEach t c =
    let w = c.in-ForEach in
    let mid = ap (λ (m : Coming). m.ahead.items) c.step.ensures in
    rw (w.is, each_is w.spot w.variable w.first w.last w.body)
    (its_step (context_of c.args.inside.now) (for_each w.spot w.variable w.first w.last (statements_of w.body.items)) c.args.known.now c.add_from.new.known c.args.coming.now.ahead.items c.step.new.self.ahead.items c.add_from.new.coming.ahead.items c.add_from.result mid (rw c.deref-in-ForEach.ensures.value at c.add_from.ensures))

pub add_statement-returns-in-Call : goal.add_statement-returns-in-Call
add_statement-returns-in-Call t c =
    let w = c.in-Call in
    let mid = ap (λ (m : Coming). m.ahead.items) c.step.ensures in
    rw (c.in-Action.is, w.is, action_is (act.Call w.call))
    (its_step (context_of c.args.inside.now) (call_of w.call) c.args.known.now c.args.known.now c.args.coming.now.ahead.items c.step.new.self.ahead.items c.add_call.new.coming.ahead.items c.add_call.result mid c.add_call.ensures)

pub add_statement-returns-in_default : goal.add_statement-returns-in_default
add_statement-returns-in_default t c =
    let w = c.in-Action in
    let mid = ap (λ (m : Coming). m.ahead.items) c.step.ensures in
    rw (w.is, action_is w.action)
    (its_step (context_of c.args.inside.now) (action_of w.action) c.args.known.now c.add_action.new.known c.args.coming.now.ahead.items c.step.new.self.ahead.items c.add_action.new.coming.ahead.items c.add_action.result mid c.add_action.ensures.adds)

pub add_statement-returns-in-While : goal.add_statement-returns-in-While
add_statement-returns-in-While t c =
    let plan = c.args.inside.now.checked.now.plan in
    let its = c.forget in
    let k = c.args.known.now in
    let k1 = its.new.known in
    let go : Action = λ s. effect (context_of c.args.inside.now) most_turns (statement_of c.args.statement.now) (stepped s) in
    let none = ap (λ (m : Coming). m.ahead.items) (its.ensures.none ∙ ap (λ (m : Coming). record m { steps = its.new.coming.steps }) c.step.ensures) in
    adds_goes plan go k k1 its.result c.args.coming.now.ahead.items its.new.coming.ahead.items none (goes_known k k1 its.ensures.less plan go k1 [] its.result (its.ensures.keeps k1 (less_same k1)))

pub add_statement-returns-in-If : goal.add_statement-returns-in-If
add_statement-returns-in-If t c =
    let w = c.in-If in
    let mid = ap (λ (m : Coming). m.ahead.items) c.step.ensures in
    rw (w.is, choose_is w.spot w.test w.then)
    (its_step (context_of c.args.inside.now) (choose w.spot (condition_of w.test) (statements_of w.then.items)) c.args.known.now c.add_if.new.known c.args.coming.now.ahead.items c.step.new.self.ahead.items c.add_if.new.coming.ahead.items c.add_if.result mid (rw c.deref-in-If.ensures.value at c.add_if.ensures))

pub add_statement-returns-in-IfElse : goal.add_statement-returns-in-IfElse
add_statement-returns-in-IfElse t c =
    let w = c.in-IfElse in
    let mid = ap (λ (m : Coming). m.ahead.items) c.step.ensures in
    rw (w.is, choose_else_is w.spot w.test w.then w.otherwise)
    (its_step (context_of c.args.inside.now) (choose_else w.spot (condition_of w.test) (statements_of w.then.items) (statements_of w.otherwise.items)) c.args.known.now c.add_if-in-IfElse.new.known c.args.coming.now.ahead.items c.step.new.self.ahead.items c.add_if-in-IfElse.new.coming.ahead.items c.add_if-in-IfElse.result mid (rw (c.deref-in-IfElse.ensures.value, c.deref-in-IfElse-2.ensures.value) at c.add_if-in-IfElse.ensures))

pub add_if-returns-then-forget_block : goal.add_if-returns-then-forget_block
add_if-returns-then-forget_block t c =
    let x = context_of c.args.inside.now in
    let first = block_meaning x most_turns (statements_of c.args.then.now) in
    let second = block_meaning x most_turns (statements_of c.args.otherwise.now) in
    let its = c.forget_block-then-forget_block in
    let k = c.args.known.now in
    let k1 = c.forget_block.new.known in
    let k2 = its.new.known in
    let none = ap (λ (m : Coming). m.ahead.items) (its.ensures.none ∙ ap (λ (m : Coming). record m { steps = its.new.coming.steps }) c.forget_block.ensures.none) in
    let inner = rw c.if-forget_block.true at c.forget_block.ensures.keeps in
    adds_goes x.plan (chooses (condition_of c.args.test.now) first second) k k2 its.result c.args.coming.now.ahead.items its.new.coming.ahead.items none
    (goes_known k k2 (less_both k k1 c.forget_block.ensures.less k2 its.ensures.less) x.plan (chooses (condition_of c.args.test.now) first second) k2 [] its.result
    (goes_either x.plan (condition_of c.args.test.now) first second k2 (inner k2 its.ensures.less) its.result (its.ensures.keeps k2 (less_same k2))))

pub add_if-returns-then-inside-eq0 : goal.add_if-returns-then-inside-eq0
add_if-returns-then-inside-eq0 t c =
    let x = context_of c.args.inside.now in
    adds_unknown x.plan c.args.known.now c.args.known.now (chooses (condition_of c.args.test.now) (block_meaning x most_turns (statements_of c.args.then.now)) (block_meaning x most_turns (statements_of c.args.otherwise.now))) c.args.coming.now.ahead.items c.args.coming.now.ahead.items refl

pub add_if-returns-then-holds : goal.add_if-returns-then-holds
add_if-returns-then-holds t c =
    let x = context_of c.args.inside.now in
    let truth_is = rw c.as_slice.ensures.value at c.in-Some.ensures.sure in
    adds_first_arm x.plan (condition_of c.args.test.now) (block_meaning x most_turns (statements_of c.args.then.now)) (block_meaning x most_turns (statements_of c.args.otherwise.now)) c.args.known.now c.add_block.new.known c.args.coming.now.ahead.items c.add_block.new.coming.ahead.items c.add_block.result c.in-Some.holds c.if-holds.true truth_is
    (rw c.within-arm.ensures at c.add_block.ensures)

pub add_if-returns-else-holds : goal.add_if-returns-else-holds
add_if-returns-else-holds t c =
    let x = context_of c.args.inside.now in
    let truth_is = rw c.as_slice.ensures.value at c.in-Some.ensures.sure in
    adds_second_arm x.plan (condition_of c.args.test.now) (block_meaning x most_turns (statements_of c.args.then.now)) (block_meaning x most_turns (statements_of c.args.otherwise.now)) c.args.known.now c.add_block-else-holds.new.known c.args.coming.now.ahead.items c.add_block-else-holds.new.coming.ahead.items c.add_block-else-holds.result c.in-Some.holds c.if-holds.false truth_is
    (rw c.within-arm.ensures at c.add_block-else-holds.ensures)

pub add_statement-returns-in-Lock : goal.add_statement-returns-in-Lock
add_statement-returns-in-Lock t c =
    let w = c.in-Lock in
    let mid = ap (λ (m : Coming). m.ahead.items) c.step.ensures in
    rw (w.is, lock_is w.spot w.crate_no w.body)
    (its_step (context_of c.args.inside.now) (locked w.spot (expression_of w.crate_no) (statements_of w.body.items)) c.args.known.now c.add_lock.new.known c.args.coming.now.ahead.items c.step.new.self.ahead.items c.add_lock.new.coming.ahead.items c.add_lock.result mid (rw c.deref-in-Lock.ensures.value at (c.add_lock.ensures w.spot)))

pub add_lock-returns-then-not-add_block : goal.add_lock-returns-then-not-add_block
add_lock-returns-then-not-add_block t c =
    let x = context_of c.args.inside.now in
    let inner = rw c.within.ensures at c.add_block.ensures in
    let k1 = c.add_block.new.known in
    λ spot.
    adds_lock x c.in-Some.c (statements_of c.args.body.now) c.args.known.now k1 k1 spot (expression_of c.args.crate_no.now) c.args.coming.now.ahead.items c.lock.new.self.ahead.items c.add_block.new.coming.ahead.items false c.in-Some.ensures.sure c.lock.ensures
    (adds_no_release x c.in-Some.c (statements_of c.args.body.now) c.args.known.now k1 k1 c.lock.new.self.ahead.items c.add_block.new.coming.ahead.items c.add_block.result c.if-not-add_block.true inner)

pub add_lock-returns : goal.add_lock-returns
add_lock-returns t c =
    let x = context_of c.args.inside.now in
    let inner = rw c.within.ensures at c.add_block.ensures in
    let k1 = c.add_block.new.known in
    λ spot.
    adds_lock x c.in-Some.c (statements_of c.args.body.now) c.args.known.now k1 k1 spot (expression_of c.args.crate_no.now) c.args.coming.now.ahead.items c.lock.new.self.ahead.items c.release.new.self.ahead.items c.release.result c.in-Some.ensures.sure c.lock.ensures
    (adds_inside x c.in-Some.c (statements_of c.args.body.now) c.args.known.now k1 k1 c.lock.new.self.ahead.items c.add_block.new.coming.ahead.items c.release.new.self.ahead.items c.add_block.result c.release.result c.if-not-add_block.false inner c.release.ensures)

pub add_lock-returns-in_default : goal.add_lock-returns-in_default
add_lock-returns-in_default t c =
    let x = context_of c.args.inside.now in
    λ spot. adds_unknown x.plan c.args.known.now c.args.known.now (effect x most_turns (locked spot (expression_of c.args.crate_no.now) (statements_of c.args.body.now))) c.args.coming.now.ahead.items c.args.coming.now.ahead.items refl

pub add_lock-returns-then-inside-eq0 : goal.add_lock-returns-then-inside-eq0
add_lock-returns-then-inside-eq0 t c =
    let x = context_of c.args.inside.now in
    λ spot. adds_unknown x.plan c.args.known.now c.args.known.now (effect x most_turns (locked spot (expression_of c.args.crate_no.now) (statements_of c.args.body.now))) c.args.coming.now.ahead.items c.args.coming.now.ahead.items refl
