use Rattle.std.proofs.Common.{◌≡◌, ◌<◌, ◌≤◌, ◌+◌, ◌-◌, ◌++◌, suc, List, ◌∷◌, Some, None, Ok, Err, length, drop, map, refl, sym, ap, ap₂, ◌∙◌, subst, arith}
use Rattle.std.specs.Prelude.{OnOk, option_map}
use Rattle.std.proofs.lemmas.List.{drop_all}
use Rattle.std.proofs.lemmas.Result.{err_from_is_err_and}
use Rattle.camac_lang.specs.Tree.{for_each}
use Rattle.camac_lang.specs.View.{condition_of, expression_of, for_of, keep_of, part_of, statement_of, statements_of, while_of}
use Rattle.camac_model.specs.Fine.{Bounds}
use Rattle.camac_rules.specs.Capped.{capped}
use Rattle.camac_rules.specs.Conditions.{branches, split}
use Rattle.camac_rules.specs.Costs.{choice_costs, costs, lock_costs, no_costs, plus, unreached, verdict}
use Rattle.camac_rules.specs.Cycles.{Around, with_locked}
use Rattle.camac_rules.specs.Known.{Known}
use Rattle.camac_rules.specs.Loops.{for_head, turn_bound, while_head, with_fixed}
use Rattle.camac_rules.specs.Refusal.{if_reached}
use Rattle.camac_rules.specs.Statements.{accept_block, accept_statement}
use Rattle.camac_check_simple.specs.Gives.{Fails, Gives, by_code, verdict_of}
use Rattle.camac_check_rows.specs.declared.row.Detail.TheVariants as detail
use Rattle.camac_check_rows.specs.declared.row.Kind.TheVariants as kind
use Rattle.camac_check_rows.specs.declared.row.Row.{Row}
use Rattle.camac_check_rows.specs.Rows.{block_rows, block_verdict, statement_rows, times_at, with_rows}
use Rattle.camac_check_rows.specs.Statements.{first_row}
use Rattle.camac_check_rows.specs.Turns.{turned, turns_over}
use Rattle.camac_check_rows.specs.Weights.{inside_row, once}
use Rattle.camac_check_rows.proofs.Kept.{arms_put, block_put, no_more, then_rows}
use Rattle.camac_lang.proofs.Trees as tree
use Rattle.camac_lang.proofs.Trees.{choose_else_is, next_of}
use Rattle.camac_check.specs.Ends.{each_judged, loop_end}
use Rattle.camac_check.proofs.Blocks.{rest_rule, capped_twice, block_starts, block_goes_on, block_stops, block_ends, no_turns, rest_at, turn_goes_on, turn_stops, turns_begin, turns_end}
use Rattle.camac_check.proofs.Rows.{each_is, each_rows, each_stops, known_next, times_few, turned_at, turns_go_on, choice_rows, end_is, for_is, for_rows, if_rows, lock_rows, loop_row_is, own_row_is, rows_next, while_is, while_rows}
use Rattle.camac_check.proofs.statement.+statements.Goals as goal

pub accept_block-statements-init : goal.accept_block-statements-init
accept_block-statements-init t c =
    let context = c.args.context.now in
    let around = c.args.around.now in
    let block = statements_of c.args.block.now in
    let Cut : Bounds → Type 0 = λ a. capped a ≡ a in
    record {
      rest =
          ap (λ a. rest_rule context around (verdict c.args.known a) block) c.new-costs.ensures
          ∙ block_starts context around block c.args.known;
      cut = subst Cut (sym c.new-costs.ensures) refl;
      rows = refl;
    }

pub accept_block-returns-in-Err-clause-found : goal.accept_block-returns-in-Err-clause-found
accept_block-returns-in-Err-clause-found t c =
    let context = c.args.context.now in
    let around = c.args.around.now in
    let xs = c.args.block.now in
    let i = c.statements.statement-index in
    let lt : i < length xs = omega arith in
    let known = c.statements.here in
    let costs = c.statements.costs in
    subst (λ r. Fails c.in-Err.fault r)
    (ap (λ b. rest_rule context around (verdict known costs) b) (sym (next_of xs i c.statement-item.result lt c.statement-item.is)) ∙ c.statements.invariant.rest)
    (block_stops context around known costs (statement_of c.statement-item.result) (statements_of (drop (i + 1) xs)) c.in-Err.fault c.in-Err.ensures.found)

pub accept_block-statements-preserved : goal.accept_block-statements-preserved
accept_block-statements-preserved t c =
    let context = c.args.context.now in
    let around = c.args.around.now in
    let xs = c.args.block.now in
    let i = c.statements.statement-index in
    let lt : i < length xs = omega arith in
    let known = c.statements.here in
    let costs = c.statements.costs in
    let s = statement_of c.statement-item.result in
    let rest = statements_of (drop (i + 1) xs) in
    let here = c.accept_next.new.known in
    let found = verdict here c.in-Ok.next in
    let after = block_rows (by_code context) around rest here in
    let rows = c.statements.rows in
    let there = next_of xs i c.statement-item.result lt c.statement-item.is in
    let Cut : Bounds → Type 0 = λ a. capped a ≡ a in
    record {
      rest =
          ap (λ a. rest_rule context around (verdict here a) rest) c.then-costs.ensures
          ∙ block_goes_on context around known costs (statement_of c.statement-item.result) rest found c.in-Ok.ensures.found
          ∙ ap (λ b. rest_rule context around (verdict known costs) b) (sym there)
          ∙ c.statements.invariant.rest;
      cut = subst Cut (sym c.then-costs.ensures) (capped_twice (plus costs c.in-Ok.next));
      rows =
          ap (λ k. with_rows k after) c.in-Ok.ensures.rows
          ∙ then_rows rows (statement_rows (by_code context) around s known) after
          ∙ ap (with_rows rows) (sym (rows_next (by_code context) around s rest known found c.in-Ok.ensures.found))
          ∙ ap (λ b. with_rows rows (block_rows (by_code context) around b known)) (sym there)
          ∙ c.statements.invariant.rows;
    }

pub accept_block-returns-clause-found : goal.accept_block-returns-clause-found
accept_block-returns-clause-found t c =
    let context = c.args.context.now in
    let around = c.args.around.now in
    let xs = c.args.block.now in
    let known = c.statements.here in
    let costs = c.statements.costs in
    let le : length xs ≤ c.statements.statement-index = omega arith in
    sym c.statements.invariant.rest
    ∙ ap (λ l. rest_rule context around (verdict known costs) (statements_of l)) (drop_all c.statements.statement-index xs le)
    ∙ block_ends context around (verdict known costs) c.statements.invariant.cut

pub accept_block-returns-clause-rows : goal.accept_block-returns-clause-rows
accept_block-returns-clause-rows t c =
    let context = c.args.context.now in
    let around = c.args.around.now in
    let xs = c.args.block.now in
    let rows = c.statements.rows in
    let le : length xs ≤ c.statements.statement-index = omega arith in
    sym (no_more rows)
    ∙ ap (λ l. with_rows rows (block_rows (by_code context) around (statements_of l) c.statements.here)) (sym (drop_all c.statements.statement-index xs le))
    ∙ c.statements.invariant.rows

pub accept_next-returns-in-None-clause-rows : goal.accept_next-returns-in-None-clause-rows
accept_next-returns-in-None-clause-rows t c =
    subst (λ k. OnOk c.pass_over.result (c.pass_over.new.rows ≡ with_rows c.args.rows.now (statement_rows (by_code c.args.context.now) c.args.around.now (statement_of c.args.statement.now) k)))
    (sym c.in-None.is) (c.pass_over.ensures.rows c.args.around.now)

pub accept_if-returns-clause-rows : goal.accept_if-returns-clause-rows
accept_if-returns-clause-rows t c =
    let context = by_code c.args.place.now.context.now in
    let around = c.args.place.now.around.now in
    let holds = c.in_ok-ways.ways.holds in
    let first = verdict_of c.in_ok-first.first in
    let inner = block_rows context around (statements_of c.args.then.now) holds in
    block_put c.args.rows.now c.inside-inner.result c.accept_block.new.rows c.put_block.new.self inner c.if_row.result c.once.result
    c.inside-inner.ensures c.in_ok-first.ensures.rows c.in_ok-put_block.ensures
    ∙ ap (with_rows c.args.rows.now) (sym (if_rows context around c.args.spot (map part_of c.args.test.now) (statements_of c.args.then.now) c.args.known (branches holds c.in_ok-ways.ways.fails) first c.in_ok-ways.ensures c.in_ok-first.ensures.found
    ∙ own_row_is c.args.spot kind.If _ _ _ _ detail.Nothing c.if_row.result inner c.once.result once c.if_row.ensures
    (c.or-costs.ensures ∙ ap (λ z. capped (choice_costs first.costs z)) c.new.ensures) refl c.once.ensures))

pub accept_lock-returns-clause-rows : goal.accept_lock-returns-clause-rows
unfolding if_reached
accept_lock-returns-clause-rows t c =
    let context = by_code c.args.place.now.context.now in
    let around = c.args.place.now.around.now in
    let n = c.in_ok-c.c in
    let inner = block_rows context (with_locked n around) (statements_of c.args.body.now) (Some c.args.known) in
    block_put c.args.rows.now c.inside-inner.result c.accept_block.new.rows c.put_block.new.self inner c.lock_row.result c.once.result
    c.inside-inner.ensures (c.in_ok-found.ensures.rows ∙ ap (λ r. with_rows c.inside-inner.result (block_rows context r (statements_of c.args.body.now) (Some c.args.known))) c.in_ok-inside.ensures) c.in_ok-put_block.ensures
    ∙ ap (with_rows c.args.rows.now) (sym (lock_rows context around c.args.spot (expression_of c.args.crate_no.now) (statements_of c.args.body.now) c.args.known n (verdict_of c.in_ok-found.found) c.in_ok-c.ensures
    (ap (λ r. accept_block context r (statements_of c.args.body.now) c.args.known) (sym c.in_ok-inside.ensures) ∙ c.in_ok-found.ensures.found)
    ∙ own_row_is c.args.spot kind.Lock _ _ _ _ _ c.lock_row.result inner c.once.result once c.lock_row.ensures
    (c.in_lock-costs.ensures ∙ ap (λ w. capped (lock_costs w (verdict_of c.in_ok-found.found).costs)) c.waits_of-waits.ensures)
    (ap (λ w. costs w 0 2) c.waits_of-waits.ensures) c.once.ensures))

pub accept_while-returns-clause-rows : goal.accept_while-returns-clause-rows
accept_while-returns-clause-rows t c =
    let context = c.args.place.now.context.now in
    let around = c.args.place.now.around.now in
    let it = c.args.limited.now in
    let test = condition_of it.test in
    let keeps = map keep_of it.keeps.items in
    let body = statements_of c.args.body.now in
    let top = c.in_ok-top.top in
    let arms = branches c.in_ok-ways.ways.holds c.in_ok-ways.ways.fails in
    let inner = block_rows (by_code context) around body arms.holds in
    let v = verdict_of c.in_ok-found.found in
    let turns : c.from-most.result ≡ turn_bound arms.holds it.turns = c.from-most.ensures ∙ c.turn_bound-most.ensures in
    let ways = ap (λ ps. split it.spot (map part_of ps) top) (sym c.deref.ensures.value) ∙ c.in_ok-ways.ensures in
    let end = ap (λ ks. loop_end c.body-2.result it.spot (map keep_of ks) arms.fails c.from-most.result (verdict_of c.in_ok-turn.turn)) (sym c.deref-2.ensures.value) ∙ c.in_ok-found.ensures in
    block_put c.args.rows.now c.inside-inner.result c.accept_block.new.rows c.put_block.new.self inner c.loop_row-own.result c.turning.result
    c.inside-inner.ensures c.in_ok-turn.ensures.rows c.in_ok-put_block.ensures
    ∙ ap (with_rows c.args.rows.now) (sym (while_rows (by_code context) around it.spot test it.turns it.measure keeps body c.args.known top arms v (ap (λ b. while_head b it.spot it.turns it.measure keeps body c.args.known) (sym c.body.ensures) ∙ c.in_ok-top.ensures) ways
    (while_is context around it.spot test it.turns it.measure keeps body c.args.known top arms (verdict_of c.in_ok-turn.turn) v
    (ap (λ b. while_head b it.spot it.turns it.measure keeps body c.args.known) (sym c.body.ensures) ∙ c.in_ok-top.ensures) ways c.in_ok-turn.ensures.found
    (end_is c.body-2.result around.body it.spot keeps arms.fails arms.fails c.from-most.result _ _ _ c.body-2.ensures refl turns end))
    ∙ loop_row_is it.spot kind.While v.costs c.from-most.result _ c.loop_row-own.result inner c.turning.result c.loop_row-own.ensures turns c.turning.ensures))

pub accept_for-returns-clause-rows : goal.accept_for-returns-clause-rows
accept_for-returns-clause-rows t c =
    let context = c.args.place.now.context.now in
    let around = c.args.place.now.around.now in
    let it = c.args.counted.now in
    let first = expression_of it.from in
    let last = expression_of it.to in
    let keeps = map keep_of it.keeps.items in
    let body = statements_of c.args.body.now in
    let l = c.in_ok-limits.limits in
    let k = c.args.known in
    let v = verdict_of c.in_ok-found.found in
    let rows_at : Around → Known → List Row = λ r h. block_rows (by_code context) r body h in
    let inner = rows_at (with_fixed it.variable around) (for_head it.variable l keeps body k) in
    let there = c.in_ok-turn.ensures.rows ∙ ap₂ (λ r h. with_rows c.inside-inner.result (rows_at r h)) c.in_ok-inside.ensures c.in_ok-facts.ensures.head in
    let end = ap (λ ks. loop_end c.body.result it.spot (map keep_of ks) (Some c.in_ok-facts.facts.after) c.turns-turns.result (verdict_of c.in_ok-turn.turn)) (sym c.deref.ensures.value) ∙ c.in_ok-found.ensures in
    let turn = ap₂ (λ r h. if_reached unreached h (accept_block (by_code context) r body)) (sym c.in_ok-inside.ensures) (sym c.in_ok-facts.ensures.head) ∙ c.in_ok-turn.ensures.found in
    block_put c.args.rows.now c.inside-inner.result c.accept_block.new.rows c.put_block.new.self inner c.loop_row-own.result c.turning.result
    c.inside-inner.ensures there c.in_ok-put_block.ensures
    ∙ ap (with_rows c.args.rows.now) (sym (for_rows (by_code context) around it.spot it.variable first last keeps body k l v c.in_ok-limits.ensures.rule
    (for_is context around it.spot it.variable first last keeps body k l (verdict_of c.in_ok-turn.turn) v c.in_ok-limits.ensures.rule turn
    (end_is c.body.result around.body it.spot keeps (Some c.in_ok-facts.facts.after) _ c.turns-turns.result _ _ _ c.body.ensures c.in_ok-facts.ensures.after c.turns-turns.ensures end))
    ∙ loop_row_is it.spot kind.For v.costs c.turns-turns.result _ c.loop_row-own.result inner c.turning.result c.loop_row-own.ensures c.turns-turns.ensures c.turning.ensures))

pub accept_reached-returns-in_ok-join-in-IfElse-clause-rows : goal.accept_reached-returns-in_ok-join-in-IfElse-clause-rows
accept_reached-returns-in_ok-join-in-IfElse-clause-rows t c =
    let context = by_code c.args.place.now.context.now in
    let around = c.args.place.now.around.now in
    let spot = c.in-IfElse.spot in
    let test = condition_of c.in-IfElse.test in
    let a = statements_of c.in-IfElse.then.items in
    let b = statements_of c.in-IfElse.otherwise.items in
    let holds = c.in_ok-ways-in-IfElse.ways.holds in
    let fails = c.in_ok-ways-in-IfElse.ways.fails in
    let one = verdict_of c.in_ok-first-in-IfElse.first in
    let two = verdict_of c.in_ok-second-in-IfElse.second in
    let old = c.args.rows.now in
    let xs = block_rows context around a holds in
    let ys = block_rows context around b fails in
    let own : c.if_row-own.result ≡ first_row spot kind.If 1 (capped (choice_costs one.costs two.costs)) (costs 0 0 1) detail.Nothing =
    c.if_row-own.ensures ∙ ap (λ x. first_row spot kind.If 1 x (costs 0 0 1) detail.Nothing) c.or-costs.ensures in
    let other : c.else_row-other.result ≡ first_row spot kind.Else (times_at fails) two.costs no_costs detail.Nothing =
    c.else_row-other.ensures ∙ ap (λ n. first_row spot kind.Else n two.costs no_costs detail.Nothing) c.times_at-times.ensures in
    arms_put old c.inside-one.result c.inside-two.result c.accept_block.new.rows c.accept_block-in-IfElse.new.rows c.put_block.new.self c.put_block-in-IfElse.new.self xs ys
    c.if_row-own.result c.else_row-other.result c.first_arm.result c.second_arm.result c.inside-one.ensures c.inside-two.ensures
    (c.in_ok-first-in-IfElse.ensures.rows ∙ ap (λ p. with_rows c.inside-one.result (block_rows context around (statements_of p) holds)) c.deref-in-IfElse-2.ensures.value)
    (c.in_ok-second-in-IfElse.ensures.rows ∙ ap (λ p. with_rows c.inside-two.result (block_rows context around (statements_of p) fails)) c.deref-in-IfElse-3.ensures.value)
    c.in_ok-put_block-in-IfElse.ensures c.in_ok-put_block-in-IfElse-2.ensures
    ∙ ap₂ (λ x y. with_rows old (x ∷ map (inside_row capped c.first_arm.result) xs ++ y ∷ map (inside_row capped c.second_arm.result) ys)) own other
    ∙ ap₂ (λ v w. with_rows old (first_row spot kind.If 1 (capped (choice_costs one.costs two.costs)) (costs 0 0 1) detail.Nothing ∷ map (inside_row capped v) xs
    ++ first_row spot kind.Else (times_at fails) two.costs no_costs detail.Nothing ∷ map (inside_row capped w) ys)) c.first_arm.ensures c.second_arm.ensures
    ∙ ap (with_rows old)
    (sym (choice_rows context around spot test a b c.args.known (branches holds fails) one two
    (ap (λ p. split spot (map part_of p) c.args.known) (sym c.deref-in-IfElse.ensures.value) ∙ c.in_ok-ways-in-IfElse.ensures)
    (ap (λ p. if_reached unreached holds (accept_block context around (statements_of p))) (sym c.deref-in-IfElse-2.ensures.value) ∙ c.in_ok-first-in-IfElse.ensures.found)
    (ap (λ p. if_reached unreached fails (accept_block context around (statements_of p))) (sym c.deref-in-IfElse-3.ensures.value) ∙ c.in_ok-second-in-IfElse.ensures.found))
    ∙ sym (ap (λ q. statement_rows context around q (Some c.args.known)) (ap statement_of c.in-IfElse.is ∙ choose_else_is spot c.in-IfElse.test c.in-IfElse.then c.in-IfElse.otherwise)))

pub accept_reached-returns-in-For-clause-rows : goal.accept_reached-returns-in-For-clause-rows
accept_reached-returns-in-For-clause-rows t c =
    let it = c.in-For in
    subst (λ s. OnOk c.accept_for.result (c.accept_for.new.rows ≡ with_rows c.args.rows.now (statement_rows (by_code c.args.place.now.context.now) c.args.place.now.around.now s (Some c.args.known))))
    (ap (λ b. for_of it.head (statements_of b)) c.deref-in-For.ensures.value ∙ sym (ap statement_of it.is ∙ tree.for_is it.head it.body))
    c.accept_for.ensures.rows

pub accept_reached-returns-in-While-clause-rows : goal.accept_reached-returns-in-While-clause-rows
accept_reached-returns-in-While-clause-rows t c =
    let it = c.in-While in
    subst (λ s. OnOk c.accept_while.result (c.accept_while.new.rows ≡ with_rows c.args.rows.now (statement_rows (by_code c.args.place.now.context.now) c.args.place.now.around.now s (Some c.args.known))))
    (ap (λ b. while_of it.head (statements_of b)) c.deref-in-While.ensures.value ∙ sym (ap statement_of it.is ∙ tree.while_is it.head it.body))
    c.accept_while.ensures.rows

pub accept_outer-returns-in-None-clause-rows : goal.accept_outer-returns-in-None-clause-rows
accept_outer-returns-in-None-clause-rows t c =
    let place = c.args.place.now in
    subst (λ k. OnOk c.pass_over.result (c.pass_over.new.rows ≡ with_rows c.args.rows.now (statement_rows (by_code place.context.now) place.around.now (statement_of c.args.statement.now) k)))
    (sym (sym c.take.ensures.value ∙ c.in-None.is)) (c.pass_over.ensures.rows place.around.now)

pub accept_turns-turns-init : goal.accept_turns-turns-init
accept_turns-turns-init t c =
    let context = by_code c.args.inside.now.context.now in
    let around = c.args.inside.now.around.now in
    let body = statements_of c.args.body.now in
    let it = c.args.head in
    let Cut : Bounds → Type 0 = λ a. capped a ≡ a in
    record {
      rest = rest_at _ _ _ _ _ _ _ _ _ (omega arith) (omega arith) (ap (verdict (Some c.args.known)) c.new-costs.ensures);
      cut = subst Cut (sym c.new-costs.ensures) refl;
      few = omega arith;
      rows = turned_at (c.args.turns - 0) c.args.turns it.variable (it.first + 0) it.first (block_verdict context around body) (block_rows context around body) (Some c.args.known) 0 c.args.rows.now (omega arith) (omega arith);
    }

pub accept_turns-turns-preserved : goal.accept_turns-turns-preserved
accept_turns-turns-preserved t c =
    let context = by_code c.args.inside.now.context.now in
    let around = c.args.inside.now.around.now in
    let body = statements_of c.args.body.now in
    let check = accept_block context around body in
    let judge = block_verdict context around body in
    let rows = block_rows context around body in
    let it = c.args.head in
    let x = it.variable in
    let turn = c.turns.turn in
    let value = it.first + turn in
    let lt : turn < c.args.turns = c.turns-test.true in
    let n = c.args.turns - (turn + 1) in
    let before = c.turns.here in
    let here = c.accept_turn.new.known in
    let found = verdict here c.in-Ok.next in
    let Cut : Bounds → Type 0 = λ a. capped a ≡ a in
    record {
      rest =
          rest_at _ n x _ (value + 1) it.last check _ _ (omega arith) (omega arith) (ap (verdict here) c.then-costs.ensures)
          ∙ turn_goes_on n x value it.last check before c.turns.costs found c.in-Ok.ensures.found
          ∙ rest_at (suc n) (c.args.turns - turn) x value value it.last check _ _ (omega arith) refl refl
          ∙ c.turns.invariant.rest;
      cut = subst Cut (sym c.then-costs.ensures) (capped_twice (plus c.turns.costs c.in-Ok.next));
      few = omega (arith, c.times_at-reached.ensures, times_few before, c.turns.invariant.few);
      rows =
          turned_at _ n x _ (value + 1) judge rows here _ c.accept_turn.new.rows (omega arith) (omega arith)
          ∙ turns_go_on n x value judge rows before here c.turns.reached (c.turns.reached + c.times_at-reached.result) c.turns.rows c.accept_turn.new.rows c.in-Ok.ensures.rows
          (known_next context around body x value before found c.in-Ok.ensures.found) (ap (λ m. c.turns.reached + m) c.times_at-reached.ensures)
          ∙ turned_at (suc n) (c.args.turns - turn) x value value judge rows before c.turns.reached c.turns.rows (omega arith) refl
          ∙ c.turns.invariant.rows;
    }

pub accept_turns-returns-in-Err-clause-found : goal.accept_turns-returns-in-Err-clause-found
accept_turns-returns-in-Err-clause-found t c =
    let check = accept_block (by_code c.args.inside.now.context.now) c.args.inside.now.around.now (statements_of c.args.body.now) in
    let it = c.args.head in
    let x = it.variable in
    let turn = c.turns.turn in
    let value = it.first + turn in
    let lt : turn < c.args.turns = c.turns-test.true in
    let n = c.args.turns - (turn + 1) in
    subst (λ r. Fails c.in-Err.fault r)
    (rest_at (suc n) (c.args.turns - turn) x value value it.last check _ _ (omega arith) refl refl
    ∙ c.turns.invariant.rest ∙ sym (turns_begin c.args.turns x it.first it.last check c.args.known (λ e. absurd (omega (arith, e)))))
    (turn_stops n x value it.last check c.turns.here c.turns.costs c.in-Err.fault c.in-Err.ensures.found)

pub accept_turns-returns-clause-found : goal.accept_turns-returns-clause-found
accept_turns-returns-clause-found t c =
    let check = accept_block (by_code c.args.inside.now.context.now) c.args.inside.now.around.now (statements_of c.args.body.now) in
    let it = c.args.head in
    let x = it.variable in
    let turn = c.turns.turn in
    let value = it.first + turn in
    turns_begin c.args.turns x it.first it.last check c.args.known (λ e. absurd (omega (arith, e)))
    ∙ sym c.turns.invariant.rest
    ∙ rest_at (c.args.turns - turn) 0 x value value it.last check _ _ (omega arith) refl refl
    ∙ turns_end x value it.last check c.turns.here c.turns.costs c.turns.invariant.cut
    ∙ ap (λ k. Ok (verdict k c.turns.costs)) (sym c.in_ok-leave_last.ensures)

pub accept_turns-returns-clause-rows : goal.accept_turns-returns-clause-rows
accept_turns-returns-clause-rows t c =
    let context = by_code c.args.inside.now.context.now in
    let around = c.args.inside.now.around.now in
    let body = statements_of c.args.body.now in
    let it = c.args.head in
    let value = it.first + c.turns.turn in
    turned_at 0 (c.args.turns - c.turns.turn) it.variable value value (block_verdict context around body) (block_rows context around body) c.turns.here c.turns.reached c.turns.rows (omega arith) refl
    ∙ c.turns.invariant.rows

pub accept_turns-returns-then-turns-eq0-clause-found : goal.accept_turns-returns-then-turns-eq0-clause-found
accept_turns-returns-then-turns-eq0-clause-found t c =
    let check = accept_block (by_code c.args.inside.now.context.now) c.args.inside.now.around.now (statements_of c.args.body.now) in
    let it = c.args.head in
    no_turns c.args.turns it.variable it.first it.last check c.args.known c.if-turns-eq0.true ∙ ap (λ a. Ok (verdict (Some c.args.known) a)) (sym c.new-costs.ensures)

pub accept_each-returns-in_err-found-clause-found : goal.accept_each-returns-in_err-found-clause-found
accept_each-returns-in_err-found-clause-found t c =
    let context = c.args.place.now.context.now in
    let around = c.args.place.now.around.now in
    let it = c.args.head in
    let body = statements_of c.args.body.now in
    let p = err_from_is_err_and c.from_residual-in_err-found.result c.from_residual-in_err-found.ensures.1 in
    subst (λ r. Gives verdict_of r (accept_statement (by_code context) around (for_each it.spot it.variable it.first it.last body) c.args.known)) (sym (p.1 ∙ ap (λ e. Err e) p.2))
    (each_stops context around c.in_ok-around.around it.spot it.variable it.first it.last body c.args.known c.in_ok-turns.turns c.in_err-found.field-0.0 c.in_ok-turns.ensures.rule c.in_ok-around.ensures c.in_err-found.ensures.found)

pub accept_each-returns-clause-found : goal.accept_each-returns-clause-found
accept_each-returns-clause-found t c =
    let context = c.args.place.now.context.now in
    let around = c.args.place.now.around.now in
    let it = c.args.head in
    let body = statements_of c.args.body.now in
    let k = c.args.known in
    let n = c.in_ok-turns.turns in
    each_is context around it.spot it.variable it.first it.last body k n (verdict_of c.in_ok-found.field-0.found) c.in_ok-turns.ensures.rule
    (ap (λ r. each_judged n it.variable it.first it.last (accept_block (by_code context) r body) k) (sym c.in_ok-around.ensures) ∙ c.in_ok-found.ensures.found)

pub accept_each-returns-clause-rows : goal.accept_each-returns-clause-rows
accept_each-returns-clause-rows t c =
    let context = c.args.place.now.context.now in
    let around = c.args.place.now.around.now in
    let it = c.args.head in
    let body = statements_of c.args.body.now in
    let k = c.args.known in
    let n = c.in_ok-turns.turns in
    let end = c.in_ok-found.field-0 in
    let rows_at : Around → Known → List Row = λ r h. block_rows (by_code context) r body h in
    let w = verdict_of end.found in
    each_rows context around it.spot it.variable it.first it.last body k n end.reached w
    c.args.rows.now c.in_ok-all.all c.accept_turns.new.rows c.put_block.new.self c.loop_row-own.result c.once.result
    (each_is context around it.spot it.variable it.first it.last body k n w c.in_ok-turns.ensures.rule
    (ap (λ r. each_judged n it.variable it.first it.last (accept_block (by_code context) r body) k) (sym c.in_ok-around.ensures) ∙ c.in_ok-found.ensures.found))
    c.in_ok-turns.ensures.turns
    (c.in_ok-all.ensures.rows ∙ ap (λ r. option_map (λ before. rows_at r None) c.args.rows.now) c.in_ok-around.ensures)
    (c.in_ok-found.ensures.rows
    ∙ ap (λ r. option_map (λ xs. turns_over capped n it.variable it.first (block_verdict (by_code context) r body) (rows_at r) (Some k) (turned 0 xs)) c.in_ok-all.all) c.in_ok-around.ensures)
    c.loop_row-own.ensures c.once.ensures c.in_ok-put_block.ensures

pub accept_reached-returns-in-ForEach-clause-rows : goal.accept_reached-returns-in-ForEach-clause-rows
accept_reached-returns-in-ForEach-clause-rows t c =
    let it = c.in-ForEach in
    subst (λ s. OnOk c.accept_each.result (c.accept_each.new.rows ≡ with_rows c.args.rows.now (statement_rows (by_code c.args.place.now.context.now) c.args.place.now.around.now s (Some c.args.known))))
    (ap (λ b. for_each it.spot it.variable it.first it.last (statements_of b)) c.deref-in-ForEach.ensures.value ∙ sym (ap statement_of it.is ∙ tree.each_is it.spot it.variable it.first it.last it.body))
    c.accept_each.ensures.rows
