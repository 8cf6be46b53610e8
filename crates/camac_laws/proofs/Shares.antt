-- The shares of a statement and of a block add up to what it can cost, and those of a script to its bounds.
use Rattle.std.proofs.Common.{◌≡◌, ℕ, ◌+◌, ◌-◌, ◌*◌, ◌^◌, ◌<◌, zero, suc, List, [], ◌∷◌, ◌++◌, map, Option, Some, None, Result, Ok, Err, refl, sym, ap, subst, ◌∙◌, arith, ◌≤◌, Bool, true, false, lit<}
use Rattle.std.proofs.lemmas.Bool.{leb-true}
use Rattle.std.specs.Prelude.{unwrap_or, nat_le, slice_get}
use Rattle.camac_lang.specs.Tree.{Expression, Condition, Keep, Statement, assign, set_register, single, address_scan, q_stop, q_repeat, put, crate_call, lam_call, choose, choose_else, for_, for_each, while_, locked, call, Block, done, next, Procedure, Service, Item, next_table, next_lam, next_variables, next_procedure, next_service}
use Rattle.camac_lang.specs.declared.spot.Spot.{Spot}
use Rattle.camac_lang.proofs.Standing.{procedures_stand, services_stand}
use Rattle.camac_range.specs.Interval.{only}
use Rattle.camac_range.specs.Number.{greatest}
use Rattle.camac_branch.specs.Plan.{crate_waits}
use Rattle.camac_model.specs.Fine.{Bounds, annotated}
use Rattle.camac_rules.specs.Fault.{Fault}
use Rattle.camac_rules.specs.Refusal.{go_on, required, if_reached}
use Rattle.camac_rules.specs.Known.{Facts, Known, with_range}
use Rattle.camac_rules.specs.Conditions.{Branches, branches, split}
use Rattle.camac_rules.specs.Capped.{capped}
use Rattle.camac_rules.specs.Costs.{costs, no_costs, plus, choice_costs, lock_costs, loop_costs, Verdict, unreached}
use Rattle.camac_rules.specs.Cycles.{Context, Around, alone_in, with_locked}
use Rattle.camac_rules.specs.Calls.{lock_rule}
use Rattle.camac_rules.specs.Loops.{with_fixed, for_limits, for_head, keeps_hold_after, turns_between, while_head, turn_bound}
use Rattle.camac_rules.specs.Each.{turn_costs, each_turns, each_from, each_begins}
use Rattle.camac_rules.specs.Statements.{accept_statement, accept_block}
use Rattle.camac_rules.specs.declared.case.Body.TheVariants as body
use Rattle.camac_rules.specs.Accept.{Section, of_procedure, of_service, at_start, bare, own_body, with_procedure, sections, within, accept_procedure, accept_service, accept_items}
use Rattle.camac_rules.specs.Procedures.{at_entry}
use Rattle.camac_rules.specs.declared.case.Case.{Case}
use Rattle.camac_rules.specs.declared.case.Body.{Body}
use Rattle.camac_rules.specs.declared.rule.CheckRule.{CheckRule}
use Rattle.camac_rules.specs.declared.rule.CheckRule.TheVariants.{TooManyWords, TooManyCycles, TooManySteps}
use Rattle.camac_rules.specs.EachLimit.{count_block}
use Rattle.camac_check_costs.specs.declared.bodies.Owner.{Owner}
use Rattle.camac_check_costs.specs.declared.bodies.Owner.TheVariants as owner
use Rattle.camac_check_costs.specs.Bodies.{rows_if, body_costs, costs_over, sections_of}
use Rattle.camac_check_costs.specs.Body.{BodyRows}
use Rattle.camac_check_rows.specs.declared.row.Row.{Row}
use Rattle.camac_check_rows.specs.declared.inside.Weight.{Weight}
use Rattle.camac_check_rows.specs.Weights.{once, turning, first_arm, second_arm, weighed, inside_row}
use Rattle.camac_check_rows.specs.Turns.{merge, Turned, turned, turns_over, each_turned}
use Rattle.camac_check_rows.specs.Rows.{found, block_verdict, Turning, turning_from, loop_share, lock_share, lock_inside, lock_head, simple_row, else_row, inside, statement_rows, block_rows}
use Rattle.camac_laws.specs.CostsBounds.{total, IsBelow, AddUp, SharesAddUp, service_bounds, AreBounds, CostsAreBounds}
use Rattle.camac_laws.proofs.Sums.{same_costs, plus_none, none_plus, total_append, total_arms, total_inside, total_of_none, if_sum, if_below, choice_sum, choice_below, lock_sum, lock_below, loop_sum, no_turns, loop_weighed, turn_below, then_sum, then_below, total_merged, turn_sum, turns_sum, turns_below, each_sum, each_below, begun, no_turn}
use Rattle.camac_check.proofs.Capped.{in_code, in_rules, cut, cut_all, if_reached_cut, block_cut}

-- The shares of a statement and of a block add up to what it can cost.

-- these costs stay at the greatest number of 64 bits
pub go_ok : {A B : Type 0} (r : Result A Fault) (f : A → Result B Fault) (y : B) → go_on r f ≡ Ok y → (x : A) × (r ≡ Ok x) × (f x ≡ Ok y)
unfolding go_on
go_ok (Ok x) f y e = (x, refl, e)
go_ok (Err g) f y e = absurd (cc)

pub ok_same : {A : Type 0} (x y : A) → ◌≡◌ {A = Result A Fault} (Ok x) (Ok y) → x ≡ y
ok_same x y e = cc

-- the rows of a block, none of which has a share
none_inside : (w : Weight) (rs : List Row) → total rs ≡ no_costs → total (map (inside_row capped w) rs) ≡ no_costs
none_inside w rs e = total_inside w rs no_costs e (zero_below w.cycles, zero_below w.words, zero_below w.steps) ∙ zeros w
  where
    zero_below : (n : ℕ) → n * 0 < 2 ^ 64 - 1
    zero_below n = omega arith

    zeros : (w : Weight) → weighed w no_costs ≡ no_costs
    zeros w = same_costs _ _ _ _ _ _ (omega arith) (omega arith) (omega arith)

-- ---- what can't be reached has no share

mutual
  unfolding if_reached

  statement_none : (r : Context) (around : Around) (s : Statement) → total (statement_rows (in_code r) around s None) ≡ no_costs
  statement_none r around (assign spot x e) = refl
  statement_none r around (set_register spot p e1 e2 e3) = refl
  statement_none r around (single spot size f p move) = refl
  statement_none r around (address_scan spot f r1 r2 max x) = refl
  statement_none r around (q_stop spot f p t max x) = refl
  statement_none r around (q_repeat spot f p t max limit x) = refl
  statement_none r around (put spot e) = refl
  statement_none r around (crate_call spot which e) = refl
  statement_none r around (lam_call spot which l) = refl
  statement_none r around (call spot p es) = refl
  statement_none r around (choose spot test a) =
      none_plus _ ∙ none_inside once (block_rows (in_code r) around a None) (block_none r around a)
  statement_none r around (choose_else spot test a b) =
      none_plus _
      ∙ total_append (inside (in_code r) (first_arm no_costs no_costs) (block_rows (in_code r) around a None)) _
      ∙ ap (λ t. plus t (plus no_costs (total (inside (in_code r) (second_arm no_costs no_costs) (block_rows (in_code r) around b None))))) (none_inside (first_arm no_costs no_costs) (block_rows (in_code r) around a None) (block_none r around a))
      ∙ none_plus _ ∙ none_plus _
      ∙ none_inside (second_arm no_costs no_costs) (block_rows (in_code r) around b None) (block_none r around b)
  statement_none r around (for_ spot x e1 e2 keeps body) =
      none_plus _ ∙ none_inside (turning 0) (block_rows (in_code r) (with_fixed x around) body None) (block_none r (with_fixed x around) body)
  statement_none r around (for_each spot x v last body) =
      let judge = block_verdict (in_code r) (with_fixed x around) body in
      let rows = block_rows (in_code r) (with_fixed x around) body in
      none_plus _
      ∙ none_inside once (each_turned capped x v last judge rows None).rows
      (ap (λ (t : Turned). total t.rows) (no_turn (last + 1 - v) x v judge rows (turned 0 (rows None))) ∙ block_none r (with_fixed x around) body)
  statement_none r around (while_ spot test most m keeps body) =
      none_plus _ ∙ none_inside (turning 0) (block_rows (in_code r) around body None) (block_none r around body)
  statement_none r around (locked spot e body) =
      none_plus _ ∙ none_inside once (block_rows (in_code r) around body None) (block_none r around body)

  block_none : (r : Context) (around : Around) (b : Block) → total (block_rows (in_code r) around b None) ≡ no_costs
  block_none r around done = refl
  block_none r around (next s rest) =
      total_append (statement_rows (in_code r) around s None) (block_rows (in_code r) around rest None)
      ∙ ap (λ t. plus t (total (block_rows (in_code r) around rest None))) (statement_none r around s)
      ∙ none_plus _ ∙ block_none r around rest

-- ---- what is accepted

-- a statement that holds no others
simple_adds : (c : Context) (around : Around) (s : Statement) (k : Facts) (v : Verdict) → accept_statement c around s k ≡ Ok v → total (simple_row c around s (Some k) ∷ []) ≡ v.costs
unfolding if_reached
simple_adds c around s k v e = plus_none _ ∙ ap (λ q. (found unreached q).costs) e

-- what a block adds up to
abbrev BlockAdds : Context → Around → Block → Type 0
BlockAdds r around b = (k : Known) (v : Verdict) → if_reached unreached k (accept_block (in_code r) around b) ≡ Ok v → IsBelow v.costs → total (block_rows (in_code r) around b k) ≡ v.costs

if_adds : (r : Context) (around : Around) (spot : Spot) (test : Condition) (a : Block) (k : Facts) (v : Verdict)
    → BlockAdds r around a → accept_statement (in_code r) around (choose spot test a) k ≡ Ok v → IsBelow v.costs
    → total (statement_rows (in_code r) around (choose spot test a) (Some k)) ≡ v.costs
unfolding go_on if_reached
if_adds r around spot test a k v adds e below =
    let split' = go_ok (split spot test k) _ v e in
    let arms = split'.0 in
    let first' = go_ok (if_reached unreached arms.holds (accept_block (in_code r) around a)) _ v split'.2 in
    let first = first'.0 in
    let same : capped (choice_costs first.costs no_costs) ≡ v.costs = ap (λ w. w.costs) (ok_same _ _ first'.2) in
    let low = subst IsBelow (sym same) below in
    let parts = if_below first.costs low in
    let rows = adds arms.holds first first'.1 parts.0 in
    subst (λ (w : Branches). plus (costs 0 0 1) (total (inside (in_code r) once (block_rows (in_code r) around a w.holds))) ≡ v.costs)
    (sym (ap (λ q. found (branches None None) q) split'.1))
    (ap (λ t. plus (costs 0 0 1) t) (total_inside once (block_rows (in_code r) around a arms.holds) first.costs rows parts.1) ∙ if_sum first.costs low ∙ same)

choice_adds : (r : Context) (around : Around) (spot : Spot) (test : Condition) (a b : Block) (k : Facts) (v : Verdict)
    → BlockAdds r around a → BlockAdds r around b → accept_statement (in_code r) around (choose_else spot test a b) k ≡ Ok v → IsBelow v.costs
    → total (statement_rows (in_code r) around (choose_else spot test a b) (Some k)) ≡ v.costs
unfolding go_on if_reached
choice_adds r around spot test a b k v adds others e below =
    let c = in_code r in
    let split' = go_ok (split spot test k) _ v e in
    let arms = split'.0 in
    let first' = go_ok (if_reached unreached arms.holds (accept_block c around a)) _ v split'.2 in
    let first = first'.0 in
    let second' = go_ok (if_reached unreached arms.fails (accept_block c around b)) _ v first'.2 in
    let second = second'.0 in
    let same : capped (choice_costs first.costs second.costs) ≡ v.costs = ap (λ w. w.costs) (ok_same _ _ second'.2) in
    let low = subst IsBelow (sym same) below in
    let parts = choice_below first.costs second.costs low in
    let first_rows = adds arms.holds first first'.1 parts.0.0 in
    let second_rows = others arms.fails second second'.1 parts.0.1 in
    let first_is : (block_verdict c around a arms.holds).costs ≡ first.costs = ap (λ q. (found unreached q).costs) first'.1 in
    let second_is : (block_verdict c around b arms.fails).costs ≡ second.costs = ap (λ q. (found unreached q).costs) second'.1 in
    let Adds : Branches → Bounds → Bounds → Type 0 = λ w x y.
    plus (costs 0 0 1) (total (inside c (first_arm x y) (block_rows c around a w.holds)
    ++ else_row c around spot b w.fails ∷ inside c (second_arm x y) (block_rows c around b w.fails))) ≡ v.costs in
    let one = total_inside (first_arm first.costs second.costs) (block_rows c around a arms.holds) first.costs first_rows parts.1.0 in
    let two = total_inside (second_arm first.costs second.costs) (block_rows c around b arms.fails) second.costs second_rows parts.1.1 in
    let main : Adds arms first.costs second.costs =
    ap (λ t. plus (costs 0 0 1) t)
    (total_arms (inside c (first_arm first.costs second.costs) (block_rows c around a arms.holds)) (inside c (second_arm first.costs second.costs) (block_rows c around b arms.fails))
    (else_row c around spot b arms.fails) (weighed (first_arm first.costs second.costs) first.costs) (weighed (second_arm first.costs second.costs) second.costs) one two refl)
    ∙ choice_sum first.costs second.costs low ∙ same in
    subst (λ w. Adds w (block_verdict c around a w.holds).costs (block_verdict c around b w.fails).costs)
    (sym (ap (λ q. found (branches None None) q) split'.1))
    (subst (λ x. Adds arms x (block_verdict c around b arms.fails).costs) (sym first_is) (subst (λ y. Adds arms first.costs y) (sym second_is) main))

lock_adds : (r : Context) (around : Around) (spot : Spot) (e1 : Expression) (body : Block) (k : Facts) (v : Verdict)
    → ((around' : Around) → BlockAdds r around' body) → accept_statement (in_code r) around (locked spot e1 body) k ≡ Ok v → IsBelow v.costs
    → total (statement_rows (in_code r) around (locked spot e1 body) (Some k)) ≡ v.costs
unfolding go_on if_reached
lock_adds r around spot e1 body k v adds e below =
    let c = in_code r in
    let crate' = go_ok (lock_rule c around spot e1 k) _ v e in
    let n = crate'.0 in
    let inner' = go_ok (accept_block c (with_locked n around) body k) _ v crate'.2 in
    let inner = inner'.0 in
    let waits = unwrap_or (crate_waits r.plan n) 0 in
    let same : capped (lock_costs waits inner.costs) ≡ v.costs = ap (λ w. w.costs) (ok_same _ _ inner'.2) in
    let low = subst IsBelow (sym same) below in
    let parts = lock_below waits inner.costs low in
    let rows = adds (with_locked n around) (Some k) inner inner'.1 parts.0 in
    subst (λ (o : Option ℕ). plus (lock_share c o) (total (inside c once (block_rows c (lock_inside o around) body (lock_head o (Some k))))) ≡ v.costs)
    (sym (ap (λ q. found None (go_on q (λ m. Ok (Some m)))) crate'.1))
    (ap (λ t. plus (costs waits 0 2) t) (total_inside once (block_rows c (with_locked n around) body (Some k)) inner.costs rows parts.1) ∙ lock_sum waits inner.costs low ∙ same)

-- a loop of so many turns
loop_adds : (r : Context) (around : Around) (body : Block) (head : Known) (turns : ℕ) (turn : Verdict)
    → BlockAdds r around body → if_reached unreached head (accept_block (in_code r) around body) ≡ Ok turn → IsBelow (capped (loop_costs turns turn.costs))
    → plus (costs 0 0 (turns + 1)) (total (inside (in_code r) (turning turns) (block_rows (in_code r) around body head))) ≡ capped (loop_costs turns turn.costs)
loop_adds r around body head zero turn adds e low =
    ap (λ t. plus (costs 0 0 (0 + 1)) t) (total_of_none (block_rows (in_code r) around body head)) ∙ no_turns turn.costs
loop_adds r around body head (suc t) turn adds e low =
    let all = loop_weighed (suc t) turn.costs low in
    let rows = adds head turn e (turn_below t turn.costs all) in
    ap (λ x. plus (costs 0 0 (suc t + 1)) x) (total_inside (turning (suc t)) (block_rows (in_code r) around body head) turn.costs rows all) ∙ loop_sum (suc t) turn.costs low

for_adds : (r : Context) (around : Around) (spot : Spot) (x : ℕ) (e1 e2 : Expression) (keeps : List Keep) (body : Block) (k : Facts) (v : Verdict)
    → BlockAdds r (with_fixed x around) body → accept_statement (in_code r) around (for_ spot x e1 e2 keeps body) k ≡ Ok v → IsBelow v.costs
    → total (statement_rows (in_code r) around (for_ spot x e1 e2 keeps body) (Some k)) ≡ v.costs
unfolding go_on if_reached
for_adds r around spot x e1 e2 keeps body k v adds e below =
    let c = in_code r in
    let limits' = go_ok (for_limits around spot x e1 e2 keeps k) _ v e in
    let l = limits'.0 in
    let turn' = go_ok (if_reached unreached (for_head x l keeps body k) (accept_block c (with_fixed x around) body)) _ v limits'.2 in
    let turn = turn'.0 in
    let keeps' = go_ok (required (keeps_hold_after keeps turn.after) _ spot _) _ v turn'.2 in
    let same : capped (loop_costs (turns_between l) turn.costs) ≡ v.costs = ap (λ w. w.costs) (ok_same _ _ keeps'.2) in
    let low = subst IsBelow (sym same) below in
    subst (λ (t : Turning). plus (loop_share (Some k) t.turns) (total (inside c (turning t.turns) (block_rows c (with_fixed x around) body t.head))) ≡ v.costs)
    (sym (ap (λ q. found (turning_from 0 None) (go_on q (λ m. Ok (turning_from (turns_between m) (for_head x m keeps body k))))) limits'.1))
    (loop_adds r (with_fixed x around) body (for_head x l keeps body k) (turns_between l) turn adds turn'.1 low ∙ same)

while_adds : (r : Context) (around : Around) (spot : Spot) (test : Condition) (most m : ℕ) (keeps : List Keep) (body : Block) (k : Facts) (v : Verdict)
    → BlockAdds r around body → accept_statement (in_code r) around (while_ spot test most m keeps body) k ≡ Ok v → IsBelow v.costs
    → total (statement_rows (in_code r) around (while_ spot test most m keeps body) (Some k)) ≡ v.costs
unfolding go_on if_reached
while_adds r around spot test most m keeps body k v adds e below =
    let c = in_code r in
    let top' = go_ok (while_head around.body spot most m keeps body k) _ v e in
    let top = top'.0 in
    let split' = go_ok (split spot test top) _ v top'.2 in
    let arms = split'.0 in
    let turn' = go_ok (if_reached unreached arms.holds (accept_block c around body)) _ v split'.2 in
    let turn = turn'.0 in
    let keeps' = go_ok (required (keeps_hold_after keeps turn.after) _ spot _) _ v turn'.2 in
    let same : capped (loop_costs (turn_bound arms.holds most) turn.costs) ≡ v.costs = ap (λ w. w.costs) (ok_same _ _ keeps'.2) in
    let low = subst IsBelow (sym same) below in
    subst (λ (t : Turning). plus (loop_share (Some k) t.turns) (total (inside c (turning t.turns) (block_rows c around body t.head))) ≡ v.costs)
    (sym (
    ap (λ q. found (turning_from 0 None) (go_on q (λ h. go_on (split spot test h) (λ w. Ok (turning_from (turn_bound w.holds most) w.holds))))) top'.1
    ∙ ap (λ q. found (turning_from 0 None) (go_on q (λ w. Ok (turning_from (turn_bound w.holds most) w.holds)))) split'.1
    ))
    (loop_adds r around body arms.holds (turn_bound arms.holds most) turn adds turn'.1 low ∙ same)

-- so many turns, a step for each, and what the rows of the block add up to
abbrev turned_total : Turned → Bounds
turned_total t = plus (costs 0 0 t.turns) (total t.rows)

turns_add : (r : Context) (around : Around) (body : Block) → BlockAdds r around body → (n x v last : ℕ) (k : Known) (so_far : Turned) (w : Verdict)
    → if_reached unreached k (each_turns capped n x v last (accept_block (in_code r) around body)) ≡ Ok w → IsBelow (plus (turned_total so_far) w.costs)
    → turned_total (turns_over capped n x v (block_verdict (in_code r) around body) (block_rows (in_code r) around body) k so_far) ≡ plus (turned_total so_far) w.costs
unfolding go_on if_reached
turns_add r around body adds zero x v last None so_far w e below = sym (plus_none (turned_total so_far)) ∙ ap (λ (u : Verdict). plus (turned_total so_far) u.costs) (ok_same unreached w e)
turns_add r around body adds zero x v last (Some q) so_far w e below = sym (plus_none (turned_total so_far)) ∙ ap (λ (u : Verdict). plus (turned_total so_far) u.costs) (ok_same _ w e)
turns_add r around body adds (suc n) x v last None so_far w e below = sym (plus_none (turned_total so_far)) ∙ ap (λ (u : Verdict). plus (turned_total so_far) u.costs) (ok_same unreached w e)
turns_add r around body adds (suc n) x v last (Some q) so_far w e below =
    let c = in_code r in
    let check = accept_block c around body in
    let head : Facts = with_range x (only v) q in
    let turn' = go_ok (check head) _ w e in
    let turn = turn'.0 in
    let rest' = go_ok (if_reached unreached turn.after (each_turns capped n x (v + 1) last check)) _ w turn'.2 in
    let rest = rest'.0 in
    let same : capped (plus (turn_costs turn.costs) rest.costs) ≡ w.costs = ap (λ u. u.costs) (ok_same _ _ rest'.2) in
    let low = subst (λ b. IsBelow (plus (turned_total so_far) b)) (sym same) below in
    let parts = turns_below so_far.turns (total so_far.rows) turn.costs rest.costs low in
    let rows = block_rows c around body (Some head) in
    let turn_rows = adds (Some head) turn turn'.1 parts.0 in
    let sum : total (merge capped so_far.rows rows) ≡ plus (total so_far.rows) turn.costs =
    total_merged so_far.rows rows (subst (λ b. IsBelow (plus (total so_far.rows) b)) (sym turn_rows) parts.1) ∙ ap (λ b. plus (total so_far.rows) b) turn_rows in
    let after : Turned = turned (1 + so_far.turns) (merge capped so_far.rows rows) in
    let here : turned_total after ≡ plus (turned_total so_far) (turn_costs turn.costs) =
    ap (λ b. plus (costs 0 0 (1 + so_far.turns)) b) sum ∙ turn_sum so_far.turns (total so_far.rows) turn.costs in
    let all : plus (turned_total after) rest.costs ≡ plus (turned_total so_far) w.costs =
    ap (λ b. plus b rest.costs) here ∙ turns_sum (turned_total so_far) turn.costs rest.costs low ∙ ap (λ b. plus (turned_total so_far) b) same in
    subst (λ (u : Verdict). turned_total (turns_over capped n x (v + 1) (block_verdict c around body) (block_rows c around body) u.after after) ≡ plus (turned_total so_far) w.costs)
    (sym (ap (λ u. found unreached u) turn'.1))
    (turns_add r around body adds n x (v + 1) last turn.after after rest rest'.1 (subst IsBelow (sym all) below) ∙ all)

-- with and without a turn
turns_from_add : (r : Context) (around : Around) (body : Block) → BlockAdds r around body → (n x v last : ℕ) (k : Facts) (w : Verdict)
    → each_from capped n x v last (accept_block (in_code r) around body) k ≡ Ok w → IsBelow w.costs
    → turned_total (turns_over capped n x v (block_verdict (in_code r) around body) (block_rows (in_code r) around body) (Some k) (turned 0 (block_rows (in_code r) around body None))) ≡ w.costs
unfolding if_reached
turns_from_add r around body adds zero x v last k w e below = none_plus _ ∙ block_none r around body ∙ ap (λ (u : Verdict). u.costs) (ok_same _ w e)
turns_from_add r around body adds (suc n) x v last k w e below =
    let none : turned_total (turned 0 (block_rows (in_code r) around body None)) ≡ no_costs = none_plus _ ∙ block_none r around body in
    let all : plus (turned_total (turned 0 (block_rows (in_code r) around body None))) w.costs ≡ w.costs = ap (λ b. plus b w.costs) none ∙ none_plus w.costs in
    turns_add r around body adds (suc n) x v last (Some k) (turned 0 (block_rows (in_code r) around body None)) w e (subst IsBelow (sym all) below) ∙ all

each_adds : (r : Context) (around : Around) (spot : Spot) (x v last : ℕ) (body : Block) (k : Facts) (w : Verdict)
    → BlockAdds r (with_fixed x around) body → accept_statement (in_code r) around (for_each spot x v last body) k ≡ Ok w → IsBelow w.costs
    → total (statement_rows (in_code r) around (for_each spot x v last body) (Some k)) ≡ w.costs
unfolding go_on if_reached
each_adds r around spot x v last body k w adds e below =
    let c = in_code r in
    let count' = go_ok (each_begins around spot x v last) _ w e in
    let turns' = go_ok (each_from capped count'.0 x v last (accept_block c (with_fixed x around) body) k) _ w count'.2 in
    let turns = turns'.0 in
    let same : capped (plus (costs 0 0 1) turns.costs) ≡ w.costs = ap (λ u. u.costs) (ok_same _ _ turns'.2) in
    let low = subst IsBelow (sym same) below in
    let parts = then_below (costs 0 0 1) turns.costs low in
    let t : Turned = each_turned capped x v last (block_verdict c (with_fixed x around) body) (block_rows c (with_fixed x around) body) (Some k) in
    let sum : turned_total t ≡ turns.costs =
    subst (λ n. turned_total (turns_over capped n x v (block_verdict c (with_fixed x around) body) (block_rows c (with_fixed x around) body) (Some k) (turned 0 (block_rows c (with_fixed x around) body None))) ≡ turns.costs)
    (begun around spot x v last count'.0 count'.1).is
    (turns_from_add r (with_fixed x around) body adds count'.0 x v last k turns turns'.1 parts.1) in
    ap (λ b. plus (costs 0 0 (t.turns + 1)) b) (total_inside once t.rows (total t.rows) refl (each_below t.turns (total t.rows) (subst IsBelow (sym sum) parts.1)))
    ∙ each_sum t.turns (total t.rows) ∙ ap (λ b. plus (costs 0 0 1) b) sum ∙ then_sum (costs 0 0 1) turns.costs low ∙ same

mutual
  unfolding go_on if_reached

  statement_adds : (r : Context) (around : Around) (s : Statement) (k : Facts) (v : Verdict) → accept_statement (in_code r) around s k ≡ Ok v → IsBelow v.costs
      → total (statement_rows (in_code r) around s (Some k)) ≡ v.costs
  statement_adds r around (assign spot x e1) k v e below = simple_adds (in_code r) around (assign spot x e1) k v e
  statement_adds r around (set_register spot p e1 e2 e3) k v e below = simple_adds (in_code r) around (set_register spot p e1 e2 e3) k v e
  statement_adds r around (single spot size f p move) k v e below = simple_adds (in_code r) around (single spot size f p move) k v e
  statement_adds r around (address_scan spot f r1 r2 max x) k v e below = simple_adds (in_code r) around (address_scan spot f r1 r2 max x) k v e
  statement_adds r around (q_stop spot f p t max x) k v e below = simple_adds (in_code r) around (q_stop spot f p t max x) k v e
  statement_adds r around (q_repeat spot f p t max limit x) k v e below = simple_adds (in_code r) around (q_repeat spot f p t max limit x) k v e
  statement_adds r around (put spot e1) k v e below = simple_adds (in_code r) around (put spot e1) k v e
  statement_adds r around (crate_call spot which e1) k v e below = simple_adds (in_code r) around (crate_call spot which e1) k v e
  statement_adds r around (lam_call spot which l) k v e below = simple_adds (in_code r) around (lam_call spot which l) k v e
  statement_adds r around (call spot p es) k v e below = simple_adds (in_code r) around (call spot p es) k v e
  statement_adds r around (choose spot test a) k v e below = if_adds r around spot test a k v (block_adds r around a) e below
  statement_adds r around (choose_else spot test a b) k v e below = choice_adds r around spot test a b k v (block_adds r around a) (block_adds r around b) e below
  statement_adds r around (for_ spot x e1 e2 keeps body) k v e below = for_adds r around spot x e1 e2 keeps body k v (block_adds r (with_fixed x around) body) e below
  statement_adds r around (for_each spot x first last body) k v e below = each_adds r around spot x first last body k v (block_adds r (with_fixed x around) body) e below
  statement_adds r around (while_ spot test most m keeps body) k v e below = while_adds r around spot test most m keeps body k v (block_adds r around body) e below
  statement_adds r around (locked spot e1 body) k v e below = lock_adds r around spot e1 body k v (λ around'. block_adds r around' body) e below

  pub block_adds : (r : Context) (around : Around) (b : Block) (k : Known) (v : Verdict) → if_reached unreached k (accept_block (in_code r) around b) ≡ Ok v → IsBelow v.costs
      → total (block_rows (in_code r) around b k) ≡ v.costs
  block_adds r around b None v e below = block_none r around b ∙ ap (λ w. w.costs) (ok_same unreached v e)
  block_adds r around done (Some k) v e below = ap (λ w. w.costs) (ok_same _ v e)
  block_adds r around (next s rest) (Some k) v e below =
      let c = in_code r in
      let first' = go_ok (accept_statement c around s k) _ v e in
      let first = first'.0 in
      let second' = go_ok (if_reached unreached first.after (accept_block c around rest)) _ v first'.2 in
      let second = second'.0 in
      let same : capped (plus first.costs second.costs) ≡ v.costs = ap (λ w. w.costs) (ok_same _ _ second'.2) in
      let low = subst IsBelow (sym same) below in
      let parts = then_below first.costs second.costs low in
      let one = statement_adds r around s k first first'.1 parts.0 in
      let two = block_adds r around rest first.after second second'.1 parts.1 in
      subst (λ (w : Verdict). total (statement_rows c around s (Some k) ++ block_rows c around rest w.after) ≡ v.costs)
      (sym (ap (λ q. found unreached q) first'.1))
      (total_append (statement_rows c around s (Some k)) (block_rows c around rest first.after)
      ∙ ap (λ t. plus t (total (block_rows c around rest first.after))) one ∙ ap (λ t. plus first.costs t) two
      ∙ then_sum first.costs second.costs low ∙ same)

-- ---- bodies

pub body_adds : (r : Context) (whose : Owner) (around : Around) (b : Block) (k : Known) → IsBelow (body_costs (in_code r) whose around b k).costs
    → total (body_costs (in_code r) whose around b k).rows ≡ (body_costs (in_code r) whose around b k).costs
body_adds r whose around b k below = go (if_reached unreached k (accept_block (in_code r) around b)) refl below
  where
    go : (q : Result Verdict Fault) → if_reached unreached k (accept_block (in_code r) around b) ≡ q → IsBelow (found unreached q).costs
        → total (rows_if q (block_rows (in_code r) around b k)) ≡ (found unreached q).costs
    go (Ok v) e low = block_adds r around b k v e low
    go (Err f) e low = refl

sections_add : (r : Context) (i j : ℕ) (ss : List Section) → AddUp (costs_over (in_code r) i j ss)
sections_add r i j [] = tt
sections_add r i j (of_procedure p ∷ rest) = (body_adds r (owner.Procedure i) (alone_in (own_body r)) p.body (at_entry p.parameters), sections_add (with_procedure p r) (i + 1) j rest)
sections_add r i j (of_service v ∷ rest) = (body_adds r (owner.Service j) (alone_in (body.Service v.lam)) v.body (Some at_start), sections_add r i (j + 1) rest)

pub shares_add_up : SharesAddUp
shares_add_up plan script = sections_add (bare capped plan script) 0 0 (sections_of script)

-- The bounds of the costs of an accepted script are those of the check.

-- ---- what is within a heading

pub required_ok : (b : Bool) (rule : CheckRule) (spot : Spot) (case : Case) (u : Unit {0}) → required b rule spot case ≡ Ok u → b ≡ true
unfolding required
required_ok true rule spot case u e = refl
required_ok false rule spot case u e = absurd (cc)

record Within (m found k : Bounds) : Type 0 where
  same : found ≡ k
  cycles : found.cycles ≤ m.cycles
  words : found.words ≤ m.words
  steps : found.steps ≤ m.steps

within_ok : (place : Body) (m found k : Bounds) (spot : Spot) → within place m found spot ≡ Ok k → Within m found k
within_ok place m found k spot e =
    let a = go_ok (required (nat_le found.words m.words) TooManyWords spot _) _ k e in
    let b = go_ok (required (nat_le found.cycles m.cycles) TooManyCycles spot _) _ k a.2 in
    let c = go_ok (required (nat_le found.steps m.steps) TooManySteps spot _) _ k b.2 in
    record {
      same = ok_same found k c.2;
      cycles = leb-true found.cycles m.cycles (required_ok (nat_le found.cycles m.cycles) TooManyCycles spot _ b.0 b.1);
      words = leb-true found.words m.words (required_ok (nat_le found.words m.words) TooManyWords spot _ a.0 a.1);
      steps = leb-true found.steps m.steps (required_ok (nat_le found.steps m.steps) TooManySteps spot _ c.0 c.1);
    }

uncapped : (k : Bounds) → IsBelow k → capped k ≡ k
uncapped k low = same_costs _ _ _ _ _ _ (omega arith) (omega arith) (omega arith)

below : (m found k : Bounds) → m.cycles < 2 ^ 64 - 1 → m.words < 2 ^ 64 - 1 → m.steps < 2 ^ 64 - 1 → Within m found k → IsBelow found
below m found k hc hw hs w =
    let c = w.cycles in
    let d = w.words in
    let s = w.steps in
    (omega arith, omega arith, omega arith)

-- ---- a body

-- its bound is what the rules find, and the shares of its rows add up to it
abbrev Bound : BodyRows → Bounds → Type 0
Bound b k = (b.costs ≡ k) × (total b.rows ≡ b.costs)

-- what is found of it with costs in 64 bits
pub record InCode (r : Context) (around : Around) (b : Block) (k : Known) (bound : Bounds) : Type 0 where
  pub whole : Verdict
  pub is : if_reached unreached k (accept_block (in_code r) around b) ≡ Ok whole
  pub same : whole.costs ≡ bound
  pub below : IsBelow whole.costs

body_in_code : (r : Context) (around : Around) (b : Block) (k : Known) (place : Body) (m bound : Bounds) (spot : Spot) → m.cycles < 2 ^ 64 - 1 → m.words < 2 ^ 64 - 1 → m.steps < 2 ^ 64 - 1
    → go_on (if_reached unreached k (accept_block (in_rules r) around b)) (λ v. within place m v.costs spot) ≡ Ok bound → InCode r around b k bound
body_in_code r around b k place m bound spot hc hw hs e =
    let judged : Result Verdict Fault = if_reached unreached k (accept_block (in_rules r) around b) in
    let (v, is, inside) = go_ok judged (λ v. within place m v.costs spot) bound e in
    let w = within_ok place m v.costs bound spot inside in
    let low = below m v.costs bound hc hw hs w in
    let same = uncapped v.costs low in
    record {
      whole = cut v;
      is = if_reached_cut k (accept_block (in_code r) around b) (accept_block (in_rules r) around b) (λ q. block_cut r around b q) ∙ ap cut_all is;
      same = same ∙ w.same;
      below = subst IsBelow (sym same) low;
    }

pub procedure_in_code : (r : Context) (p : Procedure) (k : Bounds) → p.cycles < 2 ^ 64 - 1 → p.words < 2 ^ 64 - 1 → p.steps < 2 ^ 64 - 1 → accept_procedure (in_rules r) p ≡ Ok k
    → InCode r (alone_in (own_body r)) p.body (at_entry p.parameters) k
procedure_in_code r p k hc hw hs e =
    let counted = go_ok (count_block (own_body r) p.body 0) _ k e in
    body_in_code r (alone_in (own_body r)) p.body (at_entry p.parameters) (own_body r) (annotated p) k p.spot hc hw hs counted.2

pub service_in_code : (r : Context) (v : Service) (k : Bounds) → v.cycles < 2 ^ 64 - 1 → v.words < 2 ^ 64 - 1 → accept_service (in_rules r) v ≡ Ok k
    → InCode r (alone_in (body.Service v.lam)) v.body (Some at_start) k
unfolding if_reached
service_in_code r v k hc hw e =
    let counted = go_ok (count_block (body.Service v.lam) v.body 0) _ k e in
    body_in_code r (alone_in (body.Service v.lam)) v.body (Some at_start) (body.Service v.lam) (costs v.cycles v.words greatest) k v.spot hc hw (lit< tt) counted.2

body_bound : (r : Context) (whose : Owner) (around : Around) (b : Block) (k : Known) (bound : Bounds) → InCode r around b k bound → Bound (body_costs (in_code r) whose around b k) bound
body_bound r whose around b k bound h =
    let costs_are : (body_costs (in_code r) whose around b k).costs ≡ h.whole.costs = ap (λ q. (found unreached q).costs) h.is in
    (costs_are ∙ h.same, body_adds r whose around b k (subst IsBelow (sym costs_are) h.below))

-- ---- the sections of a script

pub record Low (cycles words steps : ℕ) : Type 0 where
  pub cycles_low : cycles ≤ 4294967295
  pub words_low : words ≤ 4294967295
  pub steps_low : steps ≤ 4294967295

abbrev ProceduresLow : List Procedure → Type 0
ProceduresLow ps = (j : ℕ) (p : Procedure) → slice_get ps j ≡ Some p → Low p.cycles p.words p.steps

abbrev ServicesLow : List Service → Type 0
ServicesLow vs = (j : ℕ) (v : Service) → slice_get vs j ≡ Some v → Low v.cycles v.words 0

pub low : (n : ℕ) → n ≤ 4294967295 → n < 2 ^ 64 - 1
low n le = omega arith

abbrev AllBounds : Context → List Section → List BodyRows → List Bounds → Type 0
AllBounds c ss bs ks = (service_bounds bs ≡ ks) × AreBounds c ss bs

items_bound : (r : Context) (i j : ℕ) (items : List Item) (ps : List Procedure) (vs : List Service) (ks : List Bounds) → ProceduresLow ps → ServicesLow vs
    → accept_items (in_rules r) items ps vs ≡ Ok ks → AllBounds (in_rules r) (sections items ps vs) (costs_over (in_code r) i j (sections items ps vs)) ks
items_bound r i j [] ps vs ks hp hv a = (ok_same [] ks a, tt)
items_bound r i j (next_table ∷ rest) ps vs ks hp hv a = items_bound r i j rest ps vs ks hp hv a
items_bound r i j (next_lam ∷ rest) ps vs ks hp hv a = items_bound r i j rest ps vs ks hp hv a
items_bound r i j (next_variables spot n ∷ rest) ps vs ks hp hv a = items_bound r i j rest ps vs ks hp hv a
items_bound r i j (next_procedure ∷ rest) [] vs ks hp hv a = items_bound r i j rest [] vs ks hp hv a
items_bound r i j (next_procedure ∷ rest) (p ∷ ps) vs ks hp hv a =
    let (k, accepted, others) = go_ok (accept_procedure (in_rules r) p) (λ k. accept_items (in_rules (with_procedure p r)) rest ps vs) ks a in
    let h = hp 0 p refl in
    let bound = body_bound r (owner.Procedure i) (alone_in (own_body r)) p.body (at_entry p.parameters) k (procedure_in_code r p k (low p.cycles h.cycles_low) (low p.words h.words_low) (low p.steps h.steps_low) accepted) in
    let all = items_bound (with_procedure p r) (i + 1) j rest ps vs ks (λ n q e. hp (suc n) q e) hv others in
    (all.0, (accepted ∙ ap (λ b. Ok b) (sym bound.0), bound.1, all.1))
items_bound r i j (next_service ∷ rest) ps [] ks hp hv a = items_bound r i j rest ps [] ks hp hv a
items_bound r i j (next_service ∷ rest) ps (v ∷ vs) ks hp hv a =
    let next_ones : Result (List Bounds) Fault = accept_items (in_rules r) rest ps vs in
    let (k, accepted, then) = go_ok (accept_service (in_rules r) v) (λ k. go_on next_ones (λ others. Ok (k ∷ others))) ks a in
    let (others, rest_ok, same) = go_ok next_ones (λ others. Ok (k ∷ others)) ks then in
    let h = hv 0 v refl in
    let bound = body_bound r (owner.Service j) (alone_in (body.Service v.lam)) v.body (Some at_start) k (service_in_code r v k (low v.cycles h.cycles_low) (low v.words h.words_low) accepted) in
    let all = items_bound r i (j + 1) rest ps vs others hp (λ n w e. hv (suc n) w e) rest_ok in
    (both bound.0 all.0 ∙ ok_same (k ∷ others) ks same, (accepted ∙ ap (λ b. Ok b) (sym bound.0), bound.1, all.1))
  where
    both : {a b : Bounds} {xs ys : List Bounds} → a ≡ b → xs ≡ ys → a ∷ xs ≡ b ∷ ys
    both p q = cc

pub costs_are_bounds : CostsAreBounds
costs_are_bounds plan script ks fits accepted =
    items_bound (bare capped plan script) 0 0 script.order script.procedures script.services ks
    (λ j p at. (let h = procedures_stand script fits j p at in record { cycles_low = h.cycles; words_low = h.words; steps_low = h.steps }))
    (λ j v at. (let h = services_stand script fits j v at in record { cycles_low = h.cycles; words_low = h.words; steps_low = omega arith })) accepted
