use Rattle.std.proofs.Common.{◌≡◌, ◌∙◌, [], length, None, Some, map, set, true, refl, sym, ap, arith}
use Rattle.std.proofs.lemmas.List.{length-map}
use Rattle.std.specs.Prelude.{slice_get}
use Rattle.camac_lang.specs.Tree.{choose, choose_else, for_each}
use Rattle.camac_lang.specs.View.{action_of, condition_of, expression_of, for_of, keep_of, procedure_of, put_of, statement_of, statements_of, while_of}
use Rattle.camac_lang.specs.declared.tree.Action.TheVariants as act
use Rattle.camac_lang.proofs.Trees.{action_is, choose_else_is, choose_is, each_is, for_is, while_is}
use Rattle.camac_model.specs.Fine.{most_turns}
use Rattle.camac_model.specs.Meaning.{block_meaning, effect}
use Rattle.camac_model.specs.State.{stepped}
use Rattle.camac_machine.proofs.Lams.{procedure_at}
use Rattle.camac_run.specs.Sure.{context_of}
use Rattle.camac_run.specs.declared.list.Coming.{Coming}
use Rattle.camac_run.specs.declared.ahead.Known.{Known}
use Rattle.camac_run.proofs.Arms.{adds_goes, goes_adds, goes_assign, goes_call, goes_each, goes_either, goes_for, goes_if, goes_lone, goes_passing, goes_register, goes_stepped, goes_while, less_both, less_nothing, nothing, variable_forgotten}
use Rattle.camac_run.proofs.Making.{block_ends, block_goes_on}
use Rattle.camac_run.proofs.Steps.{put_needs_none}
use Rattle.camac_run.proofs.sure.+forget.Goals as goal

pub forget_action-returns-in-Put-clause-keeps : goal.forget_action-returns-in-Put-clause-keeps
forget_action-returns-in-Put-clause-keeps t c =
    let s = c.in-Put.field-0 in
    let x = context_of c.args.inside.now in
    rw c.in-Put.is (λ k less. goes_passing x k (put_of s) (put_needs_none x k.variables k.registers s.spot (expression_of s.value)))

pub forget_action-returns-in-Assign-clause-keeps : goal.forget_action-returns-in-Assign-clause-keeps
forget_action-returns-in-Assign-clause-keeps t c =
    let s = c.in-Assign.assignment in
    rw (c.in-Assign.is, c.note.ensures) (λ k less. goes_assign (context_of c.args.inside.now) k c.args.known.now s.spot s.variable (expression_of s.value) less)

pub forget_action-returns-in-SetRegister-clause-keeps : goal.forget_action-returns-in-SetRegister-clause-keeps
forget_action-returns-in-SetRegister-clause-keeps t c =
    let s = c.in-SetRegister.setting in
    rw (c.in-SetRegister.is, c.note-in-SetRegister.ensures)
    (λ k less. goes_register (context_of c.args.inside.now) k c.args.known.now s.spot s.register (expression_of s.crate_no) (expression_of s.station) (expression_of s.sub_address) less)

pub forget_action-returns-in-Call-clause-keeps : goal.forget_action-returns-in-Call-clause-keeps
forget_action-returns-in-Call-clause-keeps t c = rw c.in-Call.is (λ k less. c.forget_call.ensures.keeps k)

pub forget_call-returns-clause-keeps : goal.forget_call-returns-clause-keeps
forget_call-returns-clause-keeps t c =
    let checked = c.args.inside.now.checked.now in
    let its = c.args.call.now in
    let e : map procedure_of c.procedures-procedures.result.now ≡ checked.script.procedures = c.procedures-procedures.ensures ∙ ap (λ s. s.procedures) c.script.ensures in
    let r = c.index-procedures-number.result in
    let n : length checked.script.procedures ≡ length c.procedures-procedures.result.now = sym (ap length e) ∙ length-map c.procedures-procedures.result.now procedure_of in
    let there : slice_get checked.script.procedures its.procedure ≡ Some (procedure_of r) = procedure_at c.procedures-procedures.result.now checked.script.procedures its.procedure r e (omega (arith, n, c.if-number-procedures.false)) c.index-procedures-number.is in
    let inner = rw (c.within.ensures, c.as_slice-body.ensures.value) at c.forget_block.ensures.keeps in
    λ k.
    goes_call checked c.args.inside.now.procedures its.procedure its.spot (map expression_of its.arguments.items) (procedure_of r) k c.forget_block.result (omega (arith, c.if-number-inside.false)) there
    (inner nothing (less_nothing c.forget_block.new.known))

pub forget_turns-returns-clause-keeps : goal.forget_turns-returns-clause-keeps
forget_turns-returns-clause-keeps t c =
    let x = context_of c.args.inside.now in
    let inner = rw c.if-not-forget_block.false at c.forget_block.ensures.keeps in
    λ k less. goes_if x.plan (block_meaning x most_turns (statements_of c.args.body.now)) k c.step-2.result (inner k less)

pub forget_for-returns-clause-keeps : goal.forget_for-returns-clause-keeps
forget_for-returns-clause-keeps t c =
    let x = context_of c.args.inside.now in
    let h = c.args.head.now in
    let known = c.args.known.now in
    let known' : Known = record known { variables = set known.variables h.variable None } in
    let less_inside = rw c.note.ensures at c.forget_turns.ensures.less in
    λ k less.
    goes_for x (statements_of c.args.body.now) k h.spot (map keep_of h.keeps.items) known h.variable (less_both known' c.forget_turns.new.known less_inside k less) (expression_of h.from) (expression_of h.to) c.forget_turns.result (c.forget_turns.ensures.keeps k less)

pub forget_for-returns-clause-less : goal.forget_for-returns-clause-less
forget_for-returns-clause-less t c =
    let h = c.args.head.now in
    let known = c.args.known.now in
    let known' : Known = record known { variables = set known.variables h.variable None } in
    less_both known known' (variable_forgotten known h.variable) c.forget_turns.new.known (rw c.note.ensures at c.forget_turns.ensures.less)

pub forget-returns-in-Action-clause-keeps : goal.forget-returns-in-Action-clause-keeps
forget-returns-in-Action-clause-keeps t c =
    let a = c.in-Action.action in
    rw (c.in-Action.is, action_is a) (λ k less. goes_stepped (context_of c.args.inside.now) k (action_of a) c.forget_action.result (c.forget_action.ensures.keeps k less))

pub forget-returns-in-If-clause-keeps : goal.forget-returns-in-If-clause-keeps
forget-returns-in-If-clause-keeps t c =
    let w = c.in-If in
    let x = context_of c.args.inside.now in
    let inner = rw (c.within-arm.ensures, c.deref.ensures.value) at c.forget_block.ensures.keeps in
    rw (w.is, choose_is w.spot w.test w.then)
    (λ k less.
    goes_stepped x k (choose w.spot (condition_of w.test) (statements_of w.then.items)) c.forget_block.result
    (goes_lone x.plan (condition_of w.test) (block_meaning x most_turns (statements_of w.then.items)) k c.forget_block.result (inner k less)))

pub forget-returns-then-forget_block-clause-keeps : goal.forget-returns-then-forget_block-clause-keeps
forget-returns-then-forget_block-clause-keeps t c =
    let w = c.in-IfElse in
    let x = context_of c.args.inside.now in
    let k1 = c.forget_block-in-IfElse.new.known in
    let k2 = c.forget_block-then-forget_block.new.known in
    let all = c.forget_block-then-forget_block.result in
    let first = rw (c.within-arm.ensures, c.deref-in-IfElse.ensures.value, c.if-forget_block.true) at c.forget_block-in-IfElse.ensures.keeps in
    let second = rw (c.within-arm.ensures, c.deref-then-forget_block.ensures.value) at c.forget_block-then-forget_block.ensures.keeps in
    rw (w.is, choose_else_is w.spot w.test w.then w.otherwise)
    (λ k less.
    goes_stepped x k (choose_else w.spot (condition_of w.test) (statements_of w.then.items) (statements_of w.otherwise.items)) all
    (goes_either x.plan (condition_of w.test) (block_meaning x most_turns (statements_of w.then.items)) (block_meaning x most_turns (statements_of w.otherwise.items)) k
    (first k (less_both k1 k2 c.forget_block-then-forget_block.ensures.less k less)) all (second k less)))

pub forget-returns-then-forget_block-clause-less : goal.forget-returns-then-forget_block-clause-less
forget-returns-then-forget_block-clause-less t c =
    less_both c.args.known.now c.forget_block-in-IfElse.new.known c.forget_block-in-IfElse.ensures.less c.forget_block-then-forget_block.new.known c.forget_block-then-forget_block.ensures.less

pub forget-returns-in-For-clause-keeps : goal.forget-returns-in-For-clause-keeps
forget-returns-in-For-clause-keeps t c =
    let w = c.in-For in
    let inner = rw (c.within-arm.ensures, c.deref-in-For.ensures.value) at c.forget_for.ensures.keeps in
    rw (w.is, for_is w.head w.body)
    (λ k less. goes_stepped (context_of c.args.inside.now) k (for_of w.head (statements_of w.body.items)) c.forget_for.result (inner k less))

pub forget-returns-in-ForEach-clause-keeps : goal.forget-returns-in-ForEach-clause-keeps
forget-returns-in-ForEach-clause-keeps t c =
    let w = c.in-ForEach in
    let x = context_of c.args.inside.now in
    let known = c.args.known.now in
    let known' : Known = record known { variables = set known.variables w.variable None } in
    let less_inside = rw c.note.ensures at c.forget_turns.ensures.less in
    let inner = rw (c.within-arm.ensures, c.deref-in-ForEach.ensures.value) at c.forget_turns.ensures.keeps in
    rw (w.is, each_is w.spot w.variable w.first w.last w.body)
    (λ k less.
    goes_stepped x k (for_each w.spot w.variable w.first w.last (statements_of w.body.items)) c.forget_turns.result
    (goes_each x (statements_of w.body.items) k w.spot [] known w.variable (less_both known' c.forget_turns.new.known less_inside k less) w.first w.last c.forget_turns.result (inner k less)))

pub forget-returns-in-ForEach-clause-less : goal.forget-returns-in-ForEach-clause-less
forget-returns-in-ForEach-clause-less t c =
    let x = c.in-ForEach.variable in
    let known = c.args.known.now in
    let known' : Known = record known { variables = set known.variables x None } in
    less_both known known' (variable_forgotten known x) c.forget_turns.new.known (rw c.note.ensures at c.forget_turns.ensures.less)

pub forget-returns-in-While-clause-keeps : goal.forget-returns-in-While-clause-keeps
forget-returns-in-While-clause-keeps t c =
    let w = c.in-While in
    let h = w.head in
    let x = context_of c.args.inside.now in
    let inner = rw (c.within-arm.ensures, c.deref-in-While.ensures.value) at c.forget_turns-in-While.ensures.keeps in
    rw (w.is, while_is h w.body)
    (λ k less.
    goes_stepped x k (while_of h (statements_of w.body.items)) c.forget_turns-in-While.result
    (goes_while x (statements_of w.body.items) k h.spot (map keep_of h.keeps.items) (condition_of h.test) h.turns h.measure c.forget_turns-in-While.result (inner k less)))

pub forget_block-returns-then-not-forget-clause-less : goal.forget_block-returns-then-not-forget-clause-less
forget_block-returns-then-not-forget-clause-less t c = less_both c.args.known.now c.statements.known c.statements.invariant.less c.forget.new.known c.forget.ensures.less

pub forget_block-statements-preserved : goal.forget_block-statements-preserved
forget_block-statements-preserved t c =
    let i = c.statements.statement-index in
    let y = context_of c.args.inside.now in
    let its = c.forget.new.known in
    let x = c.statement-item.result in
    record {
      keeps = λ k less.
          block_goes_on y c.args.block.now i k k [] [] (c.statements.invariant.keeps k (less_both c.statements.known its c.forget.ensures.less k less)) x (omega arith) c.statement-item.is c.forget.result k [] c.if-not-forget.false
          (adds_goes y.plan (λ s. effect y most_turns (statement_of x) (stepped s)) k k c.forget.result [] [] refl (c.forget.ensures.keeps k less));
      less = less_both c.args.known.now c.statements.known c.statements.invariant.less its c.forget.ensures.less;
      none = c.forget.ensures.none ∙ ap (λ (m : Coming). record m { steps = c.forget.new.coming.steps }) c.statements.invariant.none;
    }

pub forget_block-returns-clause-keeps : goal.forget_block-returns-clause-keeps
forget_block-returns-clause-keeps t c =
    let y = context_of c.args.inside.now in
    λ k less.
    goes_adds y.plan (block_meaning y most_turns (statements_of c.args.block.now)) k k true
    (block_ends y c.args.block.now c.statements.statement-index k k [] [] (c.statements.invariant.keeps k less) (omega arith))
