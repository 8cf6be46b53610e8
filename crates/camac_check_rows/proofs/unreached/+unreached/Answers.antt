use Rattle.std.proofs.Common.{◌<◌, ◌+◌, ◌++◌, None, length, drop, sym, ap, ◌∙◌, append_assoc, arith}
use Rattle.camac_lang.specs.View.{statement_of, statements_of}
use Rattle.camac_check_simple.specs.Gives.{by_code}
use Rattle.camac_lang.proofs.Trees.{action_is, next_of, choose_else_is, each_is}
use Rattle.camac_check_rows.specs.Rows.{block_rows, inside}
use Rattle.camac_rules.specs.Loops.{with_fixed}
use Rattle.camac_check_rows.proofs.Merged.{none_action, none_choice, none_each, none_next}
use Rattle.camac_check_rows.proofs.unreached.+unreached.Goals as goal

pub push_unreached-statements-preserved : goal.push_unreached-statements-preserved
push_unreached-statements-preserved t c = λ around.
    let context = by_code c.args.context.now in
    let w = c.args.weight in
    let xs = c.args.block.now in
    let i = c.statements.statement-index in
    let lt : i < length xs = omega arith in
    let rows = c.statements.rows.items in
    let s = statement_of c.statement-item.result in
    let rest = statements_of (drop (i + 1) xs) in
    let after = inside context w (block_rows context around rest None) in
    let there = next_of xs i c.statement-item.result lt c.statement-item.is in
    ap (λ ys. ys ++ after) c.in_ok-push_inside.ensures
    ∙ append_assoc rows (inside context w c.deref.result.now) after
    ∙ ap (λ ys. rows ++ (inside context w ys ++ after)) (c.deref.ensures.value ∙ c.in_ok-inner.ensures around)
    ∙ ap (λ ys. rows ++ ys) (sym (none_next context around w s rest))
    ∙ ap (λ b. rows ++ inside context w (block_rows context around b None)) (sym there)
    ∙ c.statements.invariant around

pub unreached_rows-returns-in_ok-push-in-Action : goal.unreached_rows-returns-in_ok-push-in-Action
unreached_rows-returns-in_ok-push-in-Action t c = λ around.
    let a = c.in-Action.action in
    rw (c.in-Action.is, action_is a)
    (none_action (by_code c.args.context.now) around a c.new-nothing.result c.in_ok-detail-in-Action.detail c.action_row.result c.new-rows.result.items c.push.new.self.items
    c.new-nothing.ensures c.in_ok-detail-in-Action.ensures c.action_row.ensures c.new-rows.ensures.items c.in_ok-push-in-Action.ensures.items)

pub unreached_rows-returns-in_ok-push_unreached-in-IfElse-2 : goal.unreached_rows-returns-in_ok-push_unreached-in-IfElse-2
unreached_rows-returns-in_ok-push_unreached-in-IfElse-2 t c = λ around.
    none_choice (by_code c.args.context.now) around (statement_of c.args.statement.now) c.in-IfElse.spot _ _ _
    (statements_of c.deref-in-IfElse.result.now) (statements_of c.deref-in-IfElse-2.result.now)
    c.new-nothing.result c.unreached_row-in-IfElse.result c.else_row.result c.first_arm-first.result c.second_arm-second.result
    c.new-rows.result.items c.push-in-IfElse.new.self.items c.push_unreached-in-IfElse.new.rows.items c.push-in-IfElse-2.new.self.items c.push_unreached-in-IfElse-2.new.rows.items
    (ap statement_of c.in-IfElse.is ∙ choose_else_is c.in-IfElse.spot c.in-IfElse.test c.in-IfElse.then c.in-IfElse.otherwise) (ap statements_of c.deref-in-IfElse.ensures.value) (ap statements_of c.deref-in-IfElse-2.ensures.value)
    c.new-nothing.ensures c.unreached_row-in-IfElse.ensures c.else_row.ensures c.first_arm-first.ensures c.second_arm-second.ensures
    c.new-rows.ensures.items c.in_ok-push-in-IfElse.ensures.items (c.in_ok-push_unreached-in-IfElse.ensures around)
    c.in_ok-push-in-IfElse-2.ensures.items (c.in_ok-push_unreached-in-IfElse-2.ensures around)

pub unreached_rows-returns-in_ok-push_unreached-in-ForEach : goal.unreached_rows-returns-in_ok-push_unreached-in-ForEach
unreached_rows-returns-in_ok-push_unreached-in-ForEach t c = λ around.
    let it = c.in-ForEach in
    none_each (by_code c.args.context.now) around (statement_of c.args.statement.now) it.spot it.variable it.first it.last (statements_of it.body.items) (statements_of c.deref-in-ForEach.result.now)
    c.unreached_row-in-ForEach.result c.once-in-ForEach.result
    c.new-rows.result.items c.push-in-ForEach.new.self.items c.push_unreached-in-ForEach.new.rows.items
    (ap statement_of it.is ∙ each_is it.spot it.variable it.first it.last it.body) (ap statements_of c.deref-in-ForEach.ensures.value)
    c.unreached_row-in-ForEach.ensures c.once-in-ForEach.ensures
    c.new-rows.ensures.items c.in_ok-push-in-ForEach.ensures.items (c.in_ok-push_unreached-in-ForEach.ensures (with_fixed it.variable around))
