-- A statement is made at most as often as its body has steps: each of its turns and its own step counts there.
use Rattle.std.proofs.Common.{◌≡◌, ℕ, zero, suc, ◌+◌, ◌-◌, ◌*◌, ◌^◌, ◌≤◌, List, [], ◌∷◌, ◌++◌, map, Option, Some, None, Result, Ok, Err, refl, sym, ap, subst, ◌∙◌, le_trans, arith}
use Rattle.std.proofs.Math.Nat.{mul-le-mul_left}
use Rattle.std.specs.Prelude.{min, unwrap_or}
use Rattle.camac_lang.specs.declared.word.CrateCall.{CrateCall}
use Rattle.camac_lang.specs.declared.word.LamCall.{LamCall}
use Rattle.camac_lang.specs.declared.word.WordSize.{WordSize}
use Rattle.camac_lang.specs.Tree.{Expression, Condition, Keep, Move, no_data, into, from, Statement, assign, set_register, single, address_scan, q_stop, q_repeat, put, crate_call, lam_call, choose, choose_else, for_, for_each, while_, locked, call, Block, done, next}
use Rattle.camac_range.specs.Interval.{only}
use Rattle.camac_branch.specs.Plan.{crate_waits}
use Rattle.camac_model.specs.Fine.{Bounds}
use Rattle.camac_rules.specs.Fault.{Fault}
use Rattle.camac_rules.specs.Refusal.{go_on, required, if_reached}
use Rattle.camac_rules.specs.Known.{Facts, Known, with_range}
use Rattle.camac_rules.specs.Conditions.{Branches, branches, split}
use Rattle.camac_rules.specs.Capped.{capped}
use Rattle.camac_rules.specs.Costs.{costs, no_costs, plus, choice_costs, lock_costs, loop_costs, Verdict, unreached}
use Rattle.camac_rules.specs.Cycles.{Context, Around, alone_in, with_locked}
use Rattle.camac_rules.specs.Calls.{lock_rule}
use Rattle.camac_rules.specs.Loops.{with_fixed, for_limits, for_head, keeps_hold_after, turns_between, while_head, turn_bound}
use Rattle.camac_rules.specs.Each.{turn_costs, each_turns, each_from, each_begins}
use Rattle.camac_rules.specs.Statements.{accept_statement, accept_block}
use Rattle.camac_rules.specs.declared.case.Body.TheVariants as body
use Rattle.camac_rules.specs.Accept.{Section, of_procedure, of_service, at_start, bare, own_body, with_procedure}
use Rattle.camac_rules.specs.Procedures.{at_entry}
use Rattle.camac_check_costs.specs.declared.bodies.Owner.{Owner}
use Rattle.camac_check_costs.specs.declared.bodies.Owner.TheVariants as owner
use Rattle.camac_check.proofs.Capped.{in_code}
use Rattle.camac_check_rows.specs.declared.row.Row.{Row}
use Rattle.camac_check_rows.specs.declared.inside.Weight.{Weight}
use Rattle.camac_check_rows.specs.Weights.{once, turning, first_arm, second_arm, in_64_bits, inside_row}
use Rattle.camac_check_rows.specs.Turns.{merge, Turned, turned, turns_over, each_turned}
use Rattle.camac_check_rows.specs.Rows.{found, block_verdict, Turning, turning_from, lock_inside, lock_head, simple_row, else_row, inside, times_at, statement_rows, block_rows}
use Rattle.camac_check_costs.specs.Bodies.{rows_if, body_costs, costs_over, sections_of}
use Rattle.camac_laws.specs.Made.{NoMore, InSteps, TimesInSteps}
use Rattle.camac_laws.proofs.Sums.{begun, no_turn}
use Rattle.camac_laws.proofs.Shares.{go_ok, ok_same}
use Rattle.camac_lang.specs.declared.spot.Spot.{Spot}

pub no_more_up : (m n : ℕ) (rs : List Row) → m ≤ n → NoMore m rs → NoMore n rs
no_more_up m n [] le h = tt
no_more_up m n (r ∷ rs) le (first, h) = (le_trans first le, no_more_up m n rs le h)

no_more_both : (n : ℕ) (xs ys : List Row) → NoMore n xs → NoMore n ys → NoMore n (xs ++ ys)
no_more_both n [] ys h more = more
no_more_both n (x ∷ xs) ys (first, h) more = (first, no_more_both n xs ys h more)

-- of two turns
pub no_more_merged : (m n : ℕ) (xs ys : List Row) → NoMore (in_64_bits m) xs → NoMore (in_64_bits n) ys → NoMore (in_64_bits (m + n)) (merge capped xs ys)
no_more_merged m n [] ys h g = no_more_up (in_64_bits n) (in_64_bits (m + n)) ys (omega arith) g
no_more_merged m n (a ∷ xs) [] h g = no_more_up (in_64_bits m) (in_64_bits (m + n)) (a ∷ xs) (omega arith) h
no_more_merged m n (a ∷ xs) (b ∷ ys) (first, h) (second, g) = (omega (arith, first, second), no_more_merged m n xs ys h g)

cut_both : (a b k : ℕ) → a ≤ b → min a k ≤ min (min b k) k
cut_both a b k le = omega (arith, le)

-- of a block that counts so often, where its statement has so many steps
no_more_inside : (w : Weight) (m n : ℕ) (rs : List Row) → w.times * m ≤ n → NoMore m rs → NoMore (in_64_bits (min n (2 ^ 64 - 1))) (map (inside_row capped w) rs)
no_more_inside w m n [] le h = tt
no_more_inside w m n (r ∷ rs) le (first, h) =
    (cut_both (w.times * r.times) n (2 ^ 64 - 1) (le_trans (mul-le-mul_left w.times first) le), no_more_inside w m n rs le h)

none_inside : (w : Weight) (rs : List Row) → NoMore 0 rs → NoMore 0 (map (inside_row capped w) rs)
none_inside w rs h = no_more_up (in_64_bits (min 0 (2 ^ 64 - 1))) 0 _ (omega arith) (no_more_inside w 0 0 rs (omega arith) h)

-- ---- what can't be reached is never made

mutual
  unfolding if_reached

  statement_never : (r : Context) (around : Around) (s : Statement) → NoMore 0 (statement_rows (in_code r) around s None)
  statement_never r around (assign spot x e) = (omega arith, tt)
  statement_never r around (set_register spot p e1 e2 e3) = (omega arith, tt)
  statement_never r around (single spot size f p move) = (omega arith, tt)
  statement_never r around (address_scan spot f r1 r2 max x) = (omega arith, tt)
  statement_never r around (q_stop spot f p t max x) = (omega arith, tt)
  statement_never r around (q_repeat spot f p t max limit x) = (omega arith, tt)
  statement_never r around (put spot e) = (omega arith, tt)
  statement_never r around (crate_call spot which e) = (omega arith, tt)
  statement_never r around (lam_call spot which l) = (omega arith, tt)
  statement_never r around (call spot p es) = (omega arith, tt)
  statement_never r around (choose spot test a) = (omega arith, none_inside once (block_rows (in_code r) around a None) (block_never r around a))
  statement_never r around (choose_else spot test a b) = (
    omega arith,
    no_more_both 0 (inside (in_code r) (first_arm no_costs no_costs) (block_rows (in_code r) around a None)) _
        (none_inside (first_arm no_costs no_costs) (block_rows (in_code r) around a None) (block_never r around a))
        (omega arith, none_inside (second_arm no_costs no_costs) (block_rows (in_code r) around b None) (block_never r around b)),
  )
  statement_never r around (for_ spot x e1 e2 keeps body) = (omega arith, none_inside (turning 0) (block_rows (in_code r) (with_fixed x around) body None) (block_never r (with_fixed x around) body))
  statement_never r around (for_each spot x v last body) =
      let judge = block_verdict (in_code r) (with_fixed x around) body in
      let rows = block_rows (in_code r) (with_fixed x around) body in (
        omega arith,
        none_inside once (each_turned capped x v last judge rows None).rows
            (subst (λ (t : Turned). NoMore 0 t.rows) (sym (no_turn (last + 1 - v) x v judge rows (turned 0 (rows None)))) (block_never r (with_fixed x around) body)),
      )
  statement_never r around (while_ spot test most m keeps body) = (omega arith, none_inside (turning 0) (block_rows (in_code r) around body None) (block_never r around body))
  statement_never r around (locked spot e body) = (omega arith, none_inside once (block_rows (in_code r) around body None) (block_never r around body))

  pub block_never : (r : Context) (around : Around) (b : Block) → NoMore 0 (block_rows (in_code r) around b None)
  block_never r around done = tt
  block_never r around (next s rest) = no_more_both 0 (statement_rows (in_code r) around s None) (block_rows (in_code r) around rest None) (statement_never r around s) (block_never r around rest)

-- ---- a statement that holds no others has a step

abbrev HasStep : Result Verdict Fault → Type 0
HasStep (Ok v) = 1 ≤ v.costs.steps
HasStep (Err f) = Unit {0}

step_after : {A : Type 0} (r : Result A Fault) (f : A → Result Verdict Fault) → ((x : A) → HasStep (f x)) → HasStep (go_on r f)
unfolding go_on
step_after (Ok x) f h = h x
step_after (Err g) f h = tt

single_step : (r : Context) (around : Around) (spot : Spot) (size : WordSize) (f p : ℕ) (move : Move) (k : Facts) → HasStep (accept_statement (in_code r) around (single spot size f p move) k)
single_step r around spot size f p no_data k = step_after _ _ (λ g. step_after _ _ (λ w. step_after _ _ (λ u. omega arith)))
single_step r around spot size f p (into x) k = step_after _ _ (λ u. step_after _ _ (λ g. step_after _ _ (λ w. step_after _ _ (λ u2. omega arith))))
single_step r around spot size f p (from e) k = step_after _ _ (λ v. step_after _ _ (λ g. step_after _ _ (λ w. step_after _ _ (λ u. step_after _ _ (λ u2. omega arith)))))

scan_step : (r : Context) (around : Around) (spot : Spot) (f r1 r2 : ℕ) (e : Expression) (x : ℕ) (k : Facts) → HasStep (accept_statement (in_code r) around (address_scan spot f r1 r2 e x) k)
scan_step r around spot f r1 r2 e x k =
    step_after _ _ (λ m. step_after _ _ (λ u. step_after _ _ (λ g. step_after _ _ (λ h. step_after _ _ (λ u2. step_after _ _ (λ u3. step_after _ _ (λ u4. step_after _ _ (λ u5. omega arith))))))))

assign_step : (r : Context) (around : Around) (spot : Spot) (x : ℕ) (e : Expression) (k : Facts) → HasStep (accept_statement (in_code r) around (assign spot x e) k)
assign_step r around spot x e k = step_after _ _ (λ x1. step_after _ _ (λ x2. omega arith))

register_step : (r : Context) (around : Around) (spot : Spot) (p : ℕ) (e1 e2 e3 : Expression) (k : Facts) → HasStep (accept_statement (in_code r) around (set_register spot p e1 e2 e3) k)
register_step r around spot p e1 e2 e3 k = step_after _ _ (λ x1. step_after _ _ (λ x2. step_after _ _ (λ x3. omega arith)))

q_stop_step : (r : Context) (around : Around) (spot : Spot) (f p : ℕ) (t : Option ℕ) (e : Expression) (x : ℕ) (k : Facts) → HasStep (accept_statement (in_code r) around (q_stop spot f p t e x) k)
q_stop_step r around spot f p t e x k = step_after _ _ (λ x1. step_after _ _ (λ x2. omega arith))

q_repeat_step : (r : Context) (around : Around) (spot : Spot) (f p : ℕ) (t : Option ℕ) (e1 e2 : Expression) (x : ℕ) (k : Facts) → HasStep (accept_statement (in_code r) around (q_repeat spot f p t e1 e2 x) k)
q_repeat_step r around spot f p t e1 e2 x k = step_after _ _ (λ x1. step_after _ _ (λ x2. step_after _ _ (λ x3. omega arith)))

put_step : (r : Context) (around : Around) (spot : Spot) (e : Expression) (k : Facts) → HasStep (accept_statement (in_code r) around (put spot e) k)
put_step r around spot e k = step_after _ _ (λ x1. step_after _ _ (λ x2. omega arith))

crate_step : (r : Context) (around : Around) (spot : Spot) (which : CrateCall) (e : Expression) (k : Facts) → HasStep (accept_statement (in_code r) around (crate_call spot which e) k)
crate_step r around spot which e k = step_after _ _ (λ x1. step_after _ _ (λ x2. omega arith))

lam_step : (r : Context) (around : Around) (spot : Spot) (which : LamCall) (l : ℕ) (k : Facts) → HasStep (accept_statement (in_code r) around (lam_call spot which l) k)
lam_step r around spot which l k = step_after _ _ (λ x1. step_after _ _ (λ x2. omega arith))

call_step : (r : Context) (around : Around) (spot : Spot) (p : ℕ) (es : List Expression) (k : Facts) → HasStep (accept_statement (in_code r) around (call spot p es) k)
call_step r around spot p es k = step_after _ _ (λ x1. step_after _ _ (λ x2. step_after _ _ (λ x3. omega arith)))

-- such a statement, with its costs
simple_in_steps : (c : Context) (around : Around) (s : Statement) (k : Facts) (v : Verdict) → HasStep (accept_statement c around s k) → accept_statement c around s k ≡ Ok v → NoMore (in_64_bits v.costs.steps) (simple_row c around s (Some k) ∷ [])
simple_in_steps c around s k v h e = let one : 1 ≤ v.costs.steps = subst HasStep e h in (omega (arith, one), tt)

-- ---- a statement that holds others

abbrev BlockInSteps : Context → Around → Block → Type 0
BlockInSteps r around b = (k : Known) (v : Verdict) → if_reached unreached k (accept_block (in_code r) around b) ≡ Ok v → NoMore (in_64_bits v.costs.steps) (block_rows (in_code r) around b k)

if_in_steps : (r : Context) (around : Around) (spot : Spot) (test : Condition) (a : Block) (k : Facts) (v : Verdict)
    → BlockInSteps r around a → accept_statement (in_code r) around (choose spot test a) k ≡ Ok v
    → NoMore (in_64_bits v.costs.steps) (statement_rows (in_code r) around (choose spot test a) (Some k))
unfolding go_on if_reached
if_in_steps r around spot test a k v fits e =
    let c = in_code r in
    let split' = go_ok (split spot test k) _ v e in
    let arms = split'.0 in
    let first' = go_ok (if_reached unreached arms.holds (accept_block c around a)) _ v split'.2 in
    let first = first'.0 in
    let same : capped (choice_costs first.costs no_costs) ≡ v.costs = ap (λ w. w.costs) (ok_same _ _ first'.2) in
    subst (λ (b : Bounds). NoMore (in_64_bits b.steps) (statement_rows c around (choose spot test a) (Some k))) same (
      omega arith,
      subst (λ (w : Branches). NoMore (in_64_bits (capped (choice_costs first.costs no_costs)).steps) (inside c once (block_rows c around a w.holds)))
          (sym (ap (λ q. found (branches None None) q) split'.1))
          (no_more_inside once (in_64_bits first.costs.steps) _ (block_rows c around a arms.holds) (omega arith) (fits arms.holds first first'.1)),
    )

-- once at most
at_most_once : (k : Known) (n : ℕ) → 1 ≤ n → times_at k ≤ n
at_most_once None n le = omega arith
at_most_once (Some k) n le = le

choice_in_steps : (r : Context) (around : Around) (spot : Spot) (test : Condition) (a b : Block) (k : Facts) (v : Verdict)
    → BlockInSteps r around a → BlockInSteps r around b → accept_statement (in_code r) around (choose_else spot test a b) k ≡ Ok v
    → NoMore (in_64_bits v.costs.steps) (statement_rows (in_code r) around (choose_else spot test a b) (Some k))
unfolding go_on if_reached
choice_in_steps r around spot test a b k v fits others e =
    let c = in_code r in
    let split' = go_ok (split spot test k) _ v e in
    let arms = split'.0 in
    let first' = go_ok (if_reached unreached arms.holds (accept_block c around a)) _ v split'.2 in
    let first = first'.0 in
    let second' = go_ok (if_reached unreached arms.fails (accept_block c around b)) _ v first'.2 in
    let second = second'.0 in
    let same : capped (choice_costs first.costs second.costs) ≡ v.costs = ap (λ w. w.costs) (ok_same _ _ second'.2) in
    let most = in_64_bits (capped (choice_costs first.costs second.costs)).steps in
    let Fits : Branches → Bounds → Bounds → Type 0 = λ w x y.
    NoMore most (inside c (first_arm x y) (block_rows c around a w.holds)
    ++ else_row c around spot b w.fails ∷ inside c (second_arm x y) (block_rows c around b w.fails)) in
    let main : (x y : Bounds) → Fits arms x y = λ x y.
    no_more_both most (inside c (first_arm x y) (block_rows c around a arms.holds)) _
    (no_more_inside (first_arm x y) (in_64_bits first.costs.steps) _ (block_rows c around a arms.holds) (omega arith) (fits arms.holds first first'.1)) (
      at_most_once arms.fails most (omega arith),
      no_more_inside (second_arm x y) (in_64_bits second.costs.steps) _ (block_rows c around b arms.fails) (omega arith) (others arms.fails second second'.1),
    ) in
    subst (λ (q : Bounds). NoMore (in_64_bits q.steps) (statement_rows c around (choose_else spot test a b) (Some k))) same (
      omega arith,
      subst (λ w. Fits w (block_verdict c around a w.holds).costs (block_verdict c around b w.fails).costs)
          (sym (ap (λ q. found (branches None None) q) split'.1))
          (main (block_verdict c around a arms.holds).costs (block_verdict c around b arms.fails).costs),
    )

lock_in_steps : (r : Context) (around : Around) (spot : Spot) (e1 : Expression) (body : Block) (k : Facts) (v : Verdict)
    → ((around' : Around) → BlockInSteps r around' body) → accept_statement (in_code r) around (locked spot e1 body) k ≡ Ok v
    → NoMore (in_64_bits v.costs.steps) (statement_rows (in_code r) around (locked spot e1 body) (Some k))
unfolding go_on if_reached
lock_in_steps r around spot e1 body k v fits e =
    let c = in_code r in
    let crate' = go_ok (lock_rule c around spot e1 k) _ v e in
    let n = crate'.0 in
    let inner' = go_ok (accept_block c (with_locked n around) body k) _ v crate'.2 in
    let inner = inner'.0 in
    let waits = unwrap_or (crate_waits r.plan n) 0 in
    let same : capped (lock_costs waits inner.costs) ≡ v.costs = ap (λ w. w.costs) (ok_same _ _ inner'.2) in
    subst (λ (b : Bounds). NoMore (in_64_bits b.steps) (statement_rows c around (locked spot e1 body) (Some k))) same (
      omega arith,
      subst (λ (o : Option ℕ). NoMore (in_64_bits (capped (lock_costs waits inner.costs)).steps) (inside c once (block_rows c (lock_inside o around) body (lock_head o (Some k)))))
          (sym (ap (λ q. found None (go_on q (λ m. Ok (Some m)))) crate'.1))
          (no_more_inside once (in_64_bits inner.costs.steps) _ (block_rows c (with_locked n around) body (Some k)) (omega arith) (fits (with_locked n around) (Some k) inner inner'.1)),
    )

-- a turn is a step of the loop, and one of what stands in it
turns_in_steps : (turns s : ℕ) → turns * in_64_bits s ≤ 1 + turns * (1 + s)
turns_in_steps turns s =
    let more : turns * in_64_bits s ≤ turns * (1 + s) = mul-le-mul_left turns (omega arith) in
    omega (arith, more)

for_in_steps : (r : Context) (around : Around) (spot : Spot) (x : ℕ) (e1 e2 : Expression) (keeps : List Keep) (body : Block) (k : Facts) (v : Verdict)
    → BlockInSteps r (with_fixed x around) body → accept_statement (in_code r) around (for_ spot x e1 e2 keeps body) k ≡ Ok v
    → NoMore (in_64_bits v.costs.steps) (statement_rows (in_code r) around (for_ spot x e1 e2 keeps body) (Some k))
unfolding go_on if_reached
for_in_steps r around spot x e1 e2 keeps body k v fits e =
    let c = in_code r in
    let limits' = go_ok (for_limits around spot x e1 e2 keeps k) _ v e in
    let l = limits'.0 in
    let turn' = go_ok (if_reached unreached (for_head x l keeps body k) (accept_block c (with_fixed x around) body)) _ v limits'.2 in
    let turn = turn'.0 in
    let keeps' = go_ok (required (keeps_hold_after keeps turn.after) _ spot _) _ v turn'.2 in
    let same : capped (loop_costs (turns_between l) turn.costs) ≡ v.costs = ap (λ w. w.costs) (ok_same _ _ keeps'.2) in
    subst (λ (b : Bounds). NoMore (in_64_bits b.steps) (statement_rows c around (for_ spot x e1 e2 keeps body) (Some k))) same (
      omega arith,
      subst (λ (t : Turning). NoMore (in_64_bits (capped (loop_costs (turns_between l) turn.costs)).steps) (inside c (turning t.turns) (block_rows c (with_fixed x around) body t.head)))
          (sym (ap (λ q. found (turning_from 0 None) (go_on q (λ m. Ok (turning_from (turns_between m) (for_head x m keeps body k))))) limits'.1))
          (no_more_inside (turning (turns_between l)) (in_64_bits turn.costs.steps) _ (block_rows c (with_fixed x around) body (for_head x l keeps body k)) (turns_in_steps (turns_between l) turn.costs.steps)
          (fits (for_head x l keeps body k) turn turn'.1)),
    )

-- so many of these, and each further turn's steps more
turns_over_in_steps : (r : Context) (around : Around) (body : Block) → BlockInSteps r around body → (n x v last : ℕ) (k : Known) (so_far : Turned) (m : ℕ) (w : Verdict)
    → if_reached unreached k (each_turns capped n x v last (accept_block (in_code r) around body)) ≡ Ok w → NoMore (in_64_bits m) so_far.rows
    → NoMore (in_64_bits (m + w.costs.steps)) (turns_over capped n x v (block_verdict (in_code r) around body) (block_rows (in_code r) around body) k so_far).rows
unfolding go_on if_reached
turns_over_in_steps r around body fits zero x v last k so_far m w e h = no_more_up (in_64_bits m) (in_64_bits (m + w.costs.steps)) so_far.rows (omega arith) h
turns_over_in_steps r around body fits (suc n) x v last None so_far m w e h = no_more_up (in_64_bits m) (in_64_bits (m + w.costs.steps)) so_far.rows (omega arith) h
turns_over_in_steps r around body fits (suc n) x v last (Some q) so_far m w e h =
    let c = in_code r in
    let check = accept_block c around body in
    let head : Facts = with_range x (only v) q in
    let turn' = go_ok (check head) _ w e in
    let turn = turn'.0 in
    let rest' = go_ok (if_reached unreached turn.after (each_turns capped n x (v + 1) last check)) _ w turn'.2 in
    let rest = rest'.0 in
    let same : capped (plus (turn_costs turn.costs) rest.costs) ≡ w.costs = ap (λ u. u.costs) (ok_same _ _ rest'.2) in
    let rows = block_rows c around body (Some head) in
    let after : Turned = turned (1 + so_far.turns) (merge capped so_far.rows rows) in
    subst (λ (b : Bounds). NoMore (in_64_bits (m + b.steps)) (turns_over capped n x (v + 1) (block_verdict c around body) (block_rows c around body) (found unreached (check head)).after after).rows) same
    (subst (λ (u : Verdict). NoMore (in_64_bits (m + (capped (plus (turn_costs turn.costs) rest.costs)).steps)) (turns_over capped n x (v + 1) (block_verdict c around body) (block_rows c around body) u.after after).rows)
    (sym (ap (λ u. found unreached u) turn'.1))
    (no_more_up (in_64_bits (m + turn.costs.steps + rest.costs.steps)) _ (turns_over capped n x (v + 1) (block_verdict c around body) (block_rows c around body) turn.after after).rows (omega arith)
    (turns_over_in_steps r around body fits n x (v + 1) last turn.after after (m + turn.costs.steps) rest rest'.1
    (no_more_merged m turn.costs.steps so_far.rows rows h (fits (Some head) turn turn'.1)))))

-- with and without a turn
pub turns_from_in_steps : (r : Context) (around : Around) (body : Block) → BlockInSteps r around body → (n x v last : ℕ) (k : Facts) (w : Verdict)
    → each_from capped n x v last (accept_block (in_code r) around body) k ≡ Ok w
    → NoMore (in_64_bits w.costs.steps) (turns_over capped n x v (block_verdict (in_code r) around body) (block_rows (in_code r) around body) (Some k) (turned 0 (block_rows (in_code r) around body None))).rows
unfolding if_reached
turns_from_in_steps r around body fits zero x v last k w e = no_more_up 0 (in_64_bits w.costs.steps) (block_rows (in_code r) around body None) (omega arith) (block_never r around body)
turns_from_in_steps r around body fits (suc n) x v last k w e =
    no_more_up (in_64_bits (0 + w.costs.steps)) (in_64_bits w.costs.steps) _ (omega arith)
    (turns_over_in_steps r around body fits (suc n) x v last (Some k) (turned 0 (block_rows (in_code r) around body None)) 0 w e
    (no_more_up 0 (in_64_bits 0) (block_rows (in_code r) around body None) (omega arith) (block_never r around body)))

each_in_steps : (r : Context) (around : Around) (spot : Spot) (x v last : ℕ) (body : Block) (k : Facts) (w : Verdict)
    → BlockInSteps r (with_fixed x around) body → accept_statement (in_code r) around (for_each spot x v last body) k ≡ Ok w
    → NoMore (in_64_bits w.costs.steps) (statement_rows (in_code r) around (for_each spot x v last body) (Some k))
unfolding go_on if_reached
each_in_steps r around spot x v last body k w fits e =
    let c = in_code r in
    let count' = go_ok (each_begins around spot x v last) _ w e in
    let turns' = go_ok (each_from capped count'.0 x v last (accept_block c (with_fixed x around) body) k) _ w count'.2 in
    let turns = turns'.0 in
    let same : capped (plus (costs 0 0 1) turns.costs) ≡ w.costs = ap (λ u. u.costs) (ok_same _ _ turns'.2) in
    let t : ℕ → Turned = λ n. turns_over capped n x v (block_verdict c (with_fixed x around) body) (block_rows c (with_fixed x around) body) (Some k) (turned 0 (block_rows c (with_fixed x around) body None)) in
    subst (λ (b : Bounds). NoMore (in_64_bits b.steps) (statement_rows c around (for_each spot x v last body) (Some k))) same (
      omega arith,
      no_more_inside once (in_64_bits turns.costs.steps) _ (t (last + 1 - v)).rows (omega arith)
          (subst (λ n. NoMore (in_64_bits turns.costs.steps) (t n).rows) (begun around spot x v last count'.0 count'.1).is
          (turns_from_in_steps r (with_fixed x around) body fits count'.0 x v last k turns turns'.1)),
    )

while_in_steps : (r : Context) (around : Around) (spot : Spot) (test : Condition) (most m : ℕ) (keeps : List Keep) (body : Block) (k : Facts) (v : Verdict)
    → BlockInSteps r around body → accept_statement (in_code r) around (while_ spot test most m keeps body) k ≡ Ok v
    → NoMore (in_64_bits v.costs.steps) (statement_rows (in_code r) around (while_ spot test most m keeps body) (Some k))
unfolding go_on if_reached
while_in_steps r around spot test most m keeps body k v fits e =
    let c = in_code r in
    let top' = go_ok (while_head around.body spot most m keeps body k) _ v e in
    let top = top'.0 in
    let split' = go_ok (split spot test top) _ v top'.2 in
    let arms = split'.0 in
    let turn' = go_ok (if_reached unreached arms.holds (accept_block c around body)) _ v split'.2 in
    let turn = turn'.0 in
    let keeps' = go_ok (required (keeps_hold_after keeps turn.after) _ spot _) _ v turn'.2 in
    let same : capped (loop_costs (turn_bound arms.holds most) turn.costs) ≡ v.costs = ap (λ w. w.costs) (ok_same _ _ keeps'.2) in
    subst (λ (b : Bounds). NoMore (in_64_bits b.steps) (statement_rows c around (while_ spot test most m keeps body) (Some k))) same (
      omega arith,
      subst (λ (t : Turning). NoMore (in_64_bits (capped (loop_costs (turn_bound arms.holds most) turn.costs)).steps) (inside c (turning t.turns) (block_rows c around body t.head)))
          (sym (
          ap (λ q. found (turning_from 0 None) (go_on q (λ h. go_on (split spot test h) (λ w. Ok (turning_from (turn_bound w.holds most) w.holds))))) top'.1
          ∙ ap (λ q. found (turning_from 0 None) (go_on q (λ w. Ok (turning_from (turn_bound w.holds most) w.holds)))) split'.1
          ))
          (no_more_inside (turning (turn_bound arms.holds most)) (in_64_bits turn.costs.steps) _ (block_rows c around body arms.holds) (turns_in_steps (turn_bound arms.holds most) turn.costs.steps)
          (fits arms.holds turn turn'.1)),
    )

mutual
  unfolding go_on if_reached

  statement_in_steps : (r : Context) (around : Around) (s : Statement) (k : Facts) (v : Verdict) → accept_statement (in_code r) around s k ≡ Ok v
      → NoMore (in_64_bits v.costs.steps) (statement_rows (in_code r) around s (Some k))
  statement_in_steps r around (assign spot x e1) k v e = simple_in_steps (in_code r) around (assign spot x e1) k v (assign_step r around spot x e1 k) e
  statement_in_steps r around (set_register spot p e1 e2 e3) k v e = simple_in_steps (in_code r) around (set_register spot p e1 e2 e3) k v (register_step r around spot p e1 e2 e3 k) e
  statement_in_steps r around (single spot size f p move) k v e = simple_in_steps (in_code r) around (single spot size f p move) k v (single_step r around spot size f p move k) e
  statement_in_steps r around (address_scan spot f r1 r2 max x) k v e = simple_in_steps (in_code r) around (address_scan spot f r1 r2 max x) k v (scan_step r around spot f r1 r2 max x k) e
  statement_in_steps r around (q_stop spot f p t max x) k v e = simple_in_steps (in_code r) around (q_stop spot f p t max x) k v (q_stop_step r around spot f p t max x k) e
  statement_in_steps r around (q_repeat spot f p t max limit x) k v e = simple_in_steps (in_code r) around (q_repeat spot f p t max limit x) k v (q_repeat_step r around spot f p t max limit x k) e
  statement_in_steps r around (put spot e1) k v e = simple_in_steps (in_code r) around (put spot e1) k v (put_step r around spot e1 k) e
  statement_in_steps r around (crate_call spot which e1) k v e = simple_in_steps (in_code r) around (crate_call spot which e1) k v (crate_step r around spot which e1 k) e
  statement_in_steps r around (lam_call spot which l) k v e = simple_in_steps (in_code r) around (lam_call spot which l) k v (lam_step r around spot which l k) e
  statement_in_steps r around (call spot p es) k v e = simple_in_steps (in_code r) around (call spot p es) k v (call_step r around spot p es k) e
  statement_in_steps r around (choose spot test a) k v e = if_in_steps r around spot test a k v (block_in_steps r around a) e
  statement_in_steps r around (choose_else spot test a b) k v e = choice_in_steps r around spot test a b k v (block_in_steps r around a) (block_in_steps r around b) e
  statement_in_steps r around (for_ spot x e1 e2 keeps body) k v e = for_in_steps r around spot x e1 e2 keeps body k v (block_in_steps r (with_fixed x around) body) e
  statement_in_steps r around (for_each spot x first last body) k v e = each_in_steps r around spot x first last body k v (block_in_steps r (with_fixed x around) body) e
  statement_in_steps r around (while_ spot test most m keeps body) k v e = while_in_steps r around spot test most m keeps body k v (block_in_steps r around body) e
  statement_in_steps r around (locked spot e1 body) k v e = lock_in_steps r around spot e1 body k v (λ around'. block_in_steps r around' body) e

  pub block_in_steps : (r : Context) (around : Around) (b : Block) (k : Known) (v : Verdict) → if_reached unreached k (accept_block (in_code r) around b) ≡ Ok v
      → NoMore (in_64_bits v.costs.steps) (block_rows (in_code r) around b k)
  block_in_steps r around b None v e = no_more_up 0 (in_64_bits v.costs.steps) _ (omega arith) (block_never r around b)
  block_in_steps r around done (Some k) v e = tt
  block_in_steps r around (next s rest) (Some k) v e =
      let c = in_code r in
      let first' = go_ok (accept_statement c around s k) _ v e in
      let first = first'.0 in
      let second' = go_ok (if_reached unreached first.after (accept_block c around rest)) _ v first'.2 in
      let second = second'.0 in
      let same : capped (plus first.costs second.costs) ≡ v.costs = ap (λ w. w.costs) (ok_same _ _ second'.2) in
      let one = statement_in_steps r around s k first first'.1 in
      let two = block_in_steps r around rest first.after second second'.1 in
      subst (λ (b : Bounds). NoMore (in_64_bits b.steps) (statement_rows c around s (Some k) ++ block_rows c around rest (found unreached (accept_statement c around s k)).after)) same
      (subst (λ (w : Verdict). NoMore (in_64_bits (capped (plus first.costs second.costs)).steps) (statement_rows c around s (Some k) ++ block_rows c around rest w.after))
      (sym (ap (λ q. found unreached q) first'.1))
      (no_more_both _ (statement_rows c around s (Some k)) (block_rows c around rest first.after)
      (no_more_up _ _ (statement_rows c around s (Some k)) (omega arith) one)
      (no_more_up _ _ (block_rows c around rest first.after) (omega arith) two)))

-- ---- bodies

body_in_steps : (r : Context) (whose : Owner) (around : Around) (b : Block) (k : Known) → NoMore (body_costs (in_code r) whose around b k).costs.steps (body_costs (in_code r) whose around b k).rows
body_in_steps r whose around b k = go (if_reached unreached k (accept_block (in_code r) around b)) refl
  where
    go : (q : Result Verdict Fault) → if_reached unreached k (accept_block (in_code r) around b) ≡ q → NoMore (found unreached q).costs.steps (rows_if q (block_rows (in_code r) around b k))
    go (Ok v) e = no_more_up (in_64_bits v.costs.steps) v.costs.steps _ (omega arith) (block_in_steps r around b k v e)
    go (Err f) e = tt

sections_in_steps : (r : Context) (i j : ℕ) (ss : List Section) → InSteps (costs_over (in_code r) i j ss)
sections_in_steps r i j [] = tt
sections_in_steps r i j (of_procedure p ∷ rest) = (body_in_steps r (owner.Procedure i) (alone_in (own_body r)) p.body (at_entry p.parameters), sections_in_steps (with_procedure p r) (i + 1) j rest)
sections_in_steps r i j (of_service v ∷ rest) = (body_in_steps r (owner.Service j) (alone_in (body.Service v.lam)) v.body (Some at_start), sections_in_steps r i (j + 1) rest)

pub times_in_steps : TimesInSteps
times_in_steps plan script = sections_in_steps (bare capped plan script) 0 0 (sections_of script)
