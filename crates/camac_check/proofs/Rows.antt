-- The rows of each statement, and of the turns of an `each`.
use Rattle.std.proofs.Common.{◌≡◌, ℕ, ◌+◌, List, [], ◌∷◌, ◌++◌, map, Option, Some, None, Result, Ok, false, refl, sym, ap, ap₂, ◌∙◌, suc, ◌-◌, ◌≤◌, Err, arith}
use Rattle.std.specs.Prelude.{is_some, unwrap_or, option_map}
use Rattle.camac_lang.specs.Tree.{Expression, Condition, Keep, Statement, choose, choose_else, for_, for_each, while_, locked, Block, next, spot_of}
use Rattle.camac_lang.specs.View.{action_of}
use Rattle.camac_lang.specs.declared.tree.Action.{Action}
use Rattle.camac_lang.specs.declared.spot.Spot.{Spot}
use Rattle.camac_range.specs.Interval.{only}
use Rattle.camac_branch.specs.Plan.{crate_waits}
use Rattle.camac_model.specs.Fine.{Bounds}
use Rattle.camac_rules.specs.Refusal.{go_on, if_reached}
use Rattle.camac_rules.specs.Fault.{Fault}
use Rattle.camac_rules.specs.declared.case.Body.{Body}
use Rattle.camac_rules.specs.Known.{Facts, Known, with_range}
use Rattle.camac_rules.specs.Joined.{join}
use Rattle.camac_rules.specs.Conditions.{Branches, branches, split}
use Rattle.camac_rules.specs.Costs.{costs, no_costs, choice_costs, lock_costs, Verdict, verdict, unreached}
use Rattle.camac_rules.specs.Cycles.{Context, Around, with_locked}
use Rattle.camac_rules.specs.Calls.{lock_rule}
use Rattle.camac_rules.specs.Loops.{Limits, with_fixed, for_limits, for_head, for_after, turns_between, while_head, turn_bound}
use Rattle.camac_rules.specs.Statements.{accept_statement, accept_block}
use Rattle.camac_rules.specs.Capped.{capped}
use Rattle.camac_rules.specs.Each.{turn_costs, each_begins}
use Rattle.camac_check_simple.specs.declared.context.Context as code
use Rattle.camac_check_simple.specs.Gives.{by_code}
use Rattle.camac_check.specs.Ends.{loop_end, each_judged, turn_rule, with_turn}
use Rattle.camac_check_rows.specs.declared.row.Kind.{Kind}
use Rattle.camac_check_rows.specs.declared.row.Kind.TheVariants as kind
use Rattle.camac_check_rows.specs.declared.row.Detail.{Detail}
use Rattle.camac_check_rows.specs.declared.row.Detail.TheVariants as detail
use Rattle.camac_check_rows.specs.declared.row.Row.{Row}
use Rattle.camac_check_rows.specs.declared.inside.Weight.{Weight}
use Rattle.camac_check_rows.specs.Statements.{kind_of, detail_of, first_row}
use Rattle.camac_check_rows.specs.Weights.{once, turning, first_arm, second_arm, inside_row}
use Rattle.camac_check_rows.specs.Rows.{found, Turning, turning_from, loop_detail, loop_share, lock_share, lock_detail, lock_inside, lock_head, statement_verdict, block_verdict, simple_row, else_row, times_at, inside, statement_rows, block_rows, with_rows}
use Rattle.camac_check_rows.specs.Turns.{merge, Turned, turned, turns_over, each_turned}
use Rattle.camac_check_rows.proofs.Merged.{action_rows, none_turned}
use Rattle.camac_check_known.specs.declared.fault.CheckFault.{CheckFault}
use Rattle.camac_check_known.specs.declared.fault.CheckFault.TheVariants.{OutOfMemory, Broken}
use Rattle.camac_check_known.specs.Gives.{Fails}

-- The rows of each statement, from what the steps of its rule found.

-- what was found is the verdict
pub verdict_is : (c : Context) (around : Around) (s : Statement) (k : Known) (v : Verdict) → if_reached unreached k (accept_statement c around s) ≡ Ok v → statement_verdict c around s k ≡ v
verdict_is c around s k v e = ap (λ q. found unreached q) e

pub simple_is : (c : Context) (around : Around) (s : Statement) (k : Facts) (v : Verdict) → if_reached unreached (Some k) (accept_statement c around s) ≡ Ok v
    → simple_row c around s (Some k) ≡ first_row (spot_of s) (kind_of s) 1 v.costs v.costs (detail_of c s (Some k))
simple_is c around s k v e = ap (λ w. first_row (spot_of s) (kind_of s) 1 w.costs w.costs (detail_of c s (Some k))) (verdict_is c around s (Some k) v e)

-- the one row of an action
pub action_found : (c : Context) (around : Around) (a : Action) (k : Facts) (v : Verdict) (told : Detail) (rows : List Row)
    → if_reached unreached (Some k) (accept_statement c around (action_of a)) ≡ Ok v → told ≡ detail_of c (action_of a) (Some k)
    → rows ≡ first_row (spot_of (action_of a)) (kind_of (action_of a)) 1 v.costs v.costs told ∷ [] → rows ≡ statement_rows c around (action_of a) (Some k)
action_found c around a k v told rows e d r =
    let s = action_of a in
    r
    ∙ ap (λ x. first_row (spot_of s) (kind_of s) 1 v.costs v.costs x ∷ []) d
    ∙ ap (λ x. x ∷ []) (sym (simple_is c around s k v e))
    ∙ sym (action_rows c around a (Some k))

pub if_rows : (c : Context) (around : Around) (spot : Spot) (test : Condition) (a : Block) (k : Facts) (arms : Branches) (first : Verdict)
    → split spot test k ≡ Ok arms → if_reached unreached arms.holds (accept_block c around a) ≡ Ok first
    → statement_rows c around (choose spot test a) (Some k) ≡ first_row spot kind.If 1 (c.limit (choice_costs first.costs no_costs)) (costs 0 0 1) detail.Nothing ∷ inside c once (block_rows c around a arms.holds)
unfolding go_on if_reached
if_rows c around spot test a k arms first is one =
    ap₂ (λ q w. first_row spot kind.If 1 (found unreached q).costs (costs 0 0 1) detail.Nothing ∷ inside c once (block_rows c around a (found (branches None None) w).holds))
    (ap (λ q. go_on q (λ b. go_on (if_reached unreached b.holds (accept_block c around a)) (λ v. Ok (verdict (join v.after b.fails) (c.limit (choice_costs v.costs no_costs)))))) is
    ∙ ap (λ q. go_on q (λ v. Ok (verdict (join v.after arms.fails) (c.limit (choice_costs v.costs no_costs))))) one)
    is

pub choice_rows : (c : Context) (around : Around) (spot : Spot) (test : Condition) (a b : Block) (k : Facts) (arms : Branches) (first second : Verdict)
    → split spot test k ≡ Ok arms → if_reached unreached arms.holds (accept_block c around a) ≡ Ok first → if_reached unreached arms.fails (accept_block c around b) ≡ Ok second
    → statement_rows c around (choose_else spot test a b) (Some k) ≡ first_row spot kind.If 1 (c.limit (choice_costs first.costs second.costs)) (costs 0 0 1) detail.Nothing
    ∷ inside c (first_arm first.costs second.costs) (block_rows c around a arms.holds)
    ++ first_row spot kind.Else (times_at arms.fails) second.costs no_costs detail.Nothing
    ∷ inside c (second_arm first.costs second.costs) (block_rows c around b arms.fails)
unfolding go_on if_reached
choice_rows c around spot test a b k arms first second is one two =
    let each = ap (λ q. go_on q (λ w. go_on (if_reached unreached w.holds (accept_block c around a)) (λ v. go_on (if_reached unreached w.fails (accept_block c around b)) (λ u. Ok (verdict (join v.after u.after) (c.limit (choice_costs v.costs u.costs))))))) is
    ∙ ap (λ q. go_on q (λ v. go_on (if_reached unreached arms.fails (accept_block c around b)) (λ u. Ok (verdict (join v.after u.after) (c.limit (choice_costs v.costs u.costs)))))) one
    ∙ ap (λ q. go_on q (λ u. Ok (verdict (join first.after u.after) (c.limit (choice_costs first.costs u.costs))))) two in
    ap₂
    (λ q w. first_row spot kind.If 1 (found unreached q).costs (costs 0 0 1) detail.Nothing
    ∷ inside c (first_arm (block_verdict c around a (found (branches None None) w).holds).costs (block_verdict c around b (found (branches None None) w).fails).costs) (block_rows c around a (found (branches None None) w).holds)
    ++ else_row c around spot b (found (branches None None) w).fails
    ∷ inside c (second_arm (block_verdict c around a (found (branches None None) w).holds).costs (block_verdict c around b (found (branches None None) w).fails).costs) (block_rows c around b (found (branches None None) w).fails))
    each is
    ∙ ap₂
    (λ p q. first_row spot kind.If 1 (c.limit (choice_costs first.costs second.costs)) (costs 0 0 1) detail.Nothing
    ∷ inside c (first_arm (found unreached p).costs (found unreached q).costs) (block_rows c around a arms.holds)
    ++ first_row spot kind.Else (times_at arms.fails) (found unreached q).costs no_costs detail.Nothing
    ∷ inside c (second_arm (found unreached p).costs (found unreached q).costs) (block_rows c around b arms.fails))
    one two

pub lock_rows : (c : Context) (around : Around) (spot : Spot) (e : Expression) (body : Block) (k : Facts) (n : ℕ) (inner : Verdict)
    → lock_rule c around spot e k ≡ Ok n → accept_block c (with_locked n around) body k ≡ Ok inner
    → statement_rows c around (locked spot e body) (Some k)
    ≡ first_row spot kind.Lock 1 (c.limit (lock_costs (unwrap_or (crate_waits c.plan n) 0) inner.costs)) (costs (unwrap_or (crate_waits c.plan n) 0) 0 2) (detail.Crates (only n))
    ∷ inside c once (block_rows c (with_locked n around) body (Some k))
unfolding go_on if_reached
lock_rows c around spot e body k n inner is one =
    let each = ap (λ q. go_on q (λ m. go_on (accept_block c (with_locked m around) body k) (λ v. Ok (verdict v.after (c.limit (lock_costs (unwrap_or (crate_waits c.plan m) 0) v.costs)))))) is
    ∙ ap (λ q. go_on q (λ v. Ok (verdict v.after (c.limit (lock_costs (unwrap_or (crate_waits c.plan n) 0) v.costs))))) one in
    ap₂
    (λ q o. first_row spot kind.Lock 1 (found unreached q).costs (lock_share c o) (lock_detail o) ∷ inside c once (block_rows c (lock_inside o around) body (lock_head o (Some k))))
    each (ap (λ q. found None (go_on q (λ m. Ok (Some m)))) is)

pub for_rows : (c : Context) (around : Around) (spot : Spot) (x : ℕ) (e1 e2 : Expression) (keeps : List Keep) (body : Block) (k : Facts) (l : Limits) (v : Verdict)
    → for_limits around spot x e1 e2 keeps k ≡ Ok l → accept_statement c around (for_ spot x e1 e2 keeps body) k ≡ Ok v
    → statement_rows c around (for_ spot x e1 e2 keeps body) (Some k)
    ≡ first_row spot kind.For 1 v.costs (costs 0 0 (turns_between l + 1)) (detail.Turns (turns_between l))
    ∷ inside c (turning (turns_between l)) (block_rows c (with_fixed x around) body (for_head x l keeps body k))
unfolding go_on if_reached
for_rows c around spot x e1 e2 keeps body k l v is all =
    ap₂
    (λ q (t : Turning). first_row spot kind.For 1 (found unreached q).costs (loop_share (Some k) t.turns) (loop_detail (Some k) t.turns)
    ∷ inside c (turning t.turns) (block_rows c (with_fixed x around) body t.head))
    all (ap (λ q. found (turning_from 0 None) (go_on q (λ m. Ok (turning_from (turns_between m) (for_head x m keeps body k))))) is)

pub while_rows : (c : Context) (around : Around) (spot : Spot) (test : Condition) (most m : ℕ) (keeps : List Keep) (body : Block) (k top : Facts) (arms : Branches) (v : Verdict)
    → while_head around.body spot most m keeps body k ≡ Ok top → split spot test top ≡ Ok arms → accept_statement c around (while_ spot test most m keeps body) k ≡ Ok v
    → statement_rows c around (while_ spot test most m keeps body) (Some k)
    ≡ first_row spot kind.While 1 v.costs (costs 0 0 (turn_bound arms.holds most + 1)) (detail.Turns (turn_bound arms.holds most))
    ∷ inside c (turning (turn_bound arms.holds most)) (block_rows c around body arms.holds)
unfolding go_on if_reached
while_rows c around spot test most m keeps body k top arms v is split_is all =
    ap₂
    (λ q (t : Turning). first_row spot kind.While 1 (found unreached q).costs (loop_share (Some k) t.turns) (loop_detail (Some k) t.turns)
    ∷ inside c (turning t.turns) (block_rows c around body t.head))
    all
    (ap (λ q. found (turning_from 0 None) (go_on q (λ h. go_on (split spot test h) (λ w. Ok (turning_from (turn_bound w.holds most) w.holds))))) is
    ∙ ap (λ q. found (turning_from 0 None) (go_on q (λ w. Ok (turning_from (turn_bound w.holds most) w.holds)))) split_is)

-- a block, one statement on
pub rows_next : (c : Context) (around : Around) (s : Statement) (rest : Block) (k : Known) (v : Verdict) → if_reached unreached k (accept_statement c around s) ≡ Ok v
    → block_rows c around (next s rest) k ≡ statement_rows c around s k ++ block_rows c around rest v.after
rows_next c around s rest k v e = ap (λ w. statement_rows c around s k ++ block_rows c around rest w.after) (verdict_is c around s k v e)

-- nothing is kept
pub off : (k : Option (List Row)) (xs : List Row) → is_some k ≡ false → k ≡ with_rows k xs
off None xs h = refl
off (Some rows) xs h = absurd (cc)

-- the row of a statement, in its parts
pub own_row_is : (spot : Spot) (word : Kind) (each share a b : Bounds) (told : Detail) (row : Row) (xs : List Row) (v w : Weight)
    → row ≡ first_row spot word 1 a b told → a ≡ each → b ≡ share → v ≡ w
    → first_row spot word 1 each share told ∷ map (inside_row capped w) xs ≡ row ∷ map (inside_row capped v) xs
own_row_is spot word each share a b told row xs v w er ea eb ew =
    ap₂ (λ r u. r ∷ map (inside_row capped u) xs) (sym (er ∙ ap₂ (λ x y. first_row spot word 1 x y told) ea eb)) (sym ew)

-- a `for` by what its turn and its end give, where costs are those of the code
pub for_is : (context : code.Context) (around : Around) (spot : Spot) (x : ℕ) (e1 e2 : Expression) (keeps : List Keep) (body : Block) (k : Facts) (l : Limits) (turn v : Verdict)
    → for_limits around spot x e1 e2 keeps k ≡ Ok l → if_reached unreached (for_head x l keeps body k) (accept_block (by_code context) (with_fixed x around) body) ≡ Ok turn
    → loop_end around.body spot keeps (for_after x l keeps body k) (turns_between l) turn ≡ Ok v → accept_statement (by_code context) around (for_ spot x e1 e2 keeps body) k ≡ Ok v
unfolding go_on if_reached
for_is context around spot x e1 e2 keeps body k l turn v is one last =
    ap (λ q. go_on q (λ m. go_on (if_reached unreached (for_head x m keeps body k) (accept_block (by_code context) (with_fixed x around) body)) (λ t. loop_end around.body spot keeps (for_after x m keeps body k) (turns_between m) t))) is
    ∙ ap (λ q. go_on q (λ t. loop_end around.body spot keeps (for_after x l keeps body k) (turns_between l) t)) one
    ∙ last

-- so is a `while`
pub while_is : (context : code.Context) (around : Around) (spot : Spot) (test : Condition) (most m : ℕ) (keeps : List Keep) (body : Block) (k top : Facts) (arms : Branches) (turn v : Verdict)
    → while_head around.body spot most m keeps body k ≡ Ok top → split spot test top ≡ Ok arms → if_reached unreached arms.holds (accept_block (by_code context) around body) ≡ Ok turn
    → loop_end around.body spot keeps arms.fails (turn_bound arms.holds most) turn ≡ Ok v → accept_statement (by_code context) around (while_ spot test most m keeps body) k ≡ Ok v
unfolding go_on if_reached
while_is context around spot test most m keeps body k top arms turn v is split_is one last =
    ap (λ q. go_on q (λ h. go_on (split spot test h) (λ w. go_on (if_reached unreached w.holds (accept_block (by_code context) around body)) (λ t. loop_end around.body spot keeps w.fails (turn_bound w.holds most) t)))) is
    ∙ ap (λ q. go_on q (λ w. go_on (if_reached unreached w.holds (accept_block (by_code context) around body)) (λ t. loop_end around.body spot keeps w.fails (turn_bound w.holds most) t))) split_is
    ∙ ap (λ q. go_on q (λ t. loop_end around.body spot keeps arms.fails (turn_bound arms.holds most) t)) one
    ∙ last

-- the end of a loop, as code finds its parts
pub end_is : (a b : Body) (spot : Spot) (keeps : List Keep) (p q : Known) (m n : ℕ) (turn : Verdict) (r : Result Verdict Fault)
    → a ≡ b → p ≡ q → m ≡ n → loop_end a spot keeps p m turn ≡ r → loop_end b spot keeps q n turn ≡ r
end_is a b spot keeps p q m n turn r ea ep em h =
    sym (ap (λ x. loop_end x spot keeps p m turn) ea ∙ ap (λ x. loop_end b spot keeps x m turn) ep ∙ ap (λ x. loop_end b spot keeps q x turn) em) ∙ h

-- the row of a loop, in its parts
pub loop_row_is : (spot : Spot) (word : Kind) (each : Bounds) (m n : ℕ) (row : Row) (xs : List Row) (w : Weight)
    → row ≡ first_row spot word 1 each (costs 0 0 (m + 1)) (detail.Turns m) → m ≡ n → w ≡ turning m
    → first_row spot word 1 each (costs 0 0 (n + 1)) (detail.Turns n) ∷ map (inside_row capped (turning n)) xs ≡ row ∷ map (inside_row capped w) xs
loop_row_is spot word each m n row xs w er em ew =
    ap (λ i. first_row spot word 1 each (costs 0 0 (i + 1)) (detail.Turns i) ∷ map (inside_row capped (turning i)) xs) (sym em)
    ∙ ap₂ (λ r u. r ∷ map (inside_row capped u) xs) (sym er) (sym ew)

-- The rows of the turns of an `each`, as code merges them.

-- what a turn leaves
abbrev pub next_known : (Known → Verdict) → (variable value : ℕ) → Known → Known
next_known judge x v None = None
next_known judge x v (Some q) = (judge (Some (with_range x (only v) q))).after

pub known_next : (c : Context) (around : Around) (body : Block) (x v : ℕ) (known : Known) (turn : Verdict) → if_reached unreached known (turn_rule x v (accept_block c around body)) ≡ Ok turn → turn.after ≡ next_known (block_verdict c around body) x v known
unfolding go_on if_reached
known_next c around body x v None turn e = cc
known_next c around body x v (Some q) turn e = go (accept_block c around body (with_range x (only v) q)) e
  where
    go : (r : Result Verdict Fault) → go_on r (λ t. Ok (verdict t.after (capped (turn_costs t.costs)))) ≡ Ok turn → turn.after ≡ (found unreached r).after
    go (Ok t) h = cc
    go (Err f) h = absurd (cc)

-- one more turn, whether it is reached or not
turn_over : (n x v : ℕ) (judge : Known → Verdict) (rows : Known → List Row) (known : Known) (t : ℕ) (kept : List Row)
    → turns_over capped n x (v + 1) judge rows (next_known judge x v known) (turned (t + times_at known) (with_turn x v rows known kept)) ≡ turns_over capped (suc n) x v judge rows known (turned t kept)
turn_over n x v judge rows None t kept = none_turned capped n x (v + 1) judge rows (turned (t + 0) kept) ∙ ap (λ m. turned m kept) (omega arith)
turn_over n x v judge rows (Some q) t kept =
    ap (λ m. turns_over capped n x (v + 1) judge rows (judge (Some (with_range x (only v) q))).after (turned m (merge capped kept (rows (Some (with_range x (only v) q)))))) (omega arith)

pub turns_go_on : (n x v : ℕ) (judge : Known → Verdict) (rows : Known → List Row) (known here : Known) (t u : ℕ) (kept new : Option (List Row))
    → new ≡ option_map (with_turn x v rows known) kept → here ≡ next_known judge x v known → u ≡ t + times_at known
    → option_map (λ xs. turns_over capped n x (v + 1) judge rows here (turned u xs)) new ≡ option_map (λ xs. turns_over capped (suc n) x v judge rows known (turned t xs)) kept
turns_go_on n x v judge rows known here t u kept new a b e =
    ap (λ m. option_map (λ xs. turns_over capped n x (v + 1) judge rows here (turned m xs)) new) e
    ∙ ap (λ h. option_map (λ xs. turns_over capped n x (v + 1) judge rows h (turned (t + times_at known) xs)) new) b
    ∙ ap (λ z. option_map (λ xs. turns_over capped n x (v + 1) judge rows (next_known judge x v known) (turned (t + times_at known) xs)) z) a
    ∙ go kept
  where
    go : (z : Option (List Row)) → option_map (λ xs. turns_over capped n x (v + 1) judge rows (next_known judge x v known) (turned (t + times_at known) xs)) (option_map (with_turn x v rows known) z)
        ≡ option_map (λ xs. turns_over capped (suc n) x v judge rows known (turned t xs)) z
    go None = refl
    go (Some xs) = ap (λ y. Some y) (turn_over n x v judge rows known t xs)

pub turned_at : (n m x v w : ℕ) (judge : Known → Verdict) (rows : Known → List Row) (known : Known) (t : ℕ) (kept : Option (List Row)) → n ≡ m → v ≡ w
    → option_map (λ xs. turns_over capped n x v judge rows known (turned t xs)) kept ≡ option_map (λ xs. turns_over capped m x w judge rows known (turned t xs)) kept
turned_at n m x v w judge rows known t kept p q = ap₂ (λ a b. option_map (λ xs. turns_over capped a x b judge rows known (turned t xs)) kept) p q

-- an `each` by what its turns give, where costs are those of the code
pub each_is : (context : code.Context) (around : Around) (spot : Spot) (x v last : ℕ) (body : Block) (k : Facts) (n : ℕ) (w : Verdict)
    → each_begins around spot x v last ≡ Ok n → each_judged n x v last (accept_block (by_code context) (with_fixed x around) body) k ≡ Ok w
    → accept_statement (by_code context) around (for_each spot x v last body) k ≡ Ok w
unfolding go_on
each_is context around spot x v last body k n w is judged = ap (λ q. go_on q (λ m. each_judged m x v last (accept_block (by_code context) (with_fixed x around) body) k)) is ∙ judged

pub each_stops : (context : code.Context) (around inside : Around) (spot : Spot) (x v last : ℕ) (body : Block) (k : Facts) (n : ℕ) (e : CheckFault)
    → each_begins around spot x v last ≡ Ok n → inside ≡ with_fixed x around → Fails e (each_judged n x v last (accept_block (by_code context) inside body) k)
    → Fails e (accept_statement (by_code context) around (for_each spot x v last body) k)
unfolding go_on
each_stops context around inside spot x v last body k n OutOfMemory is same h = tt
each_stops context around inside spot x v last body k n (Broken rule spot' case) is same h =
    ap (λ q. go_on q (λ m. each_judged m x v last (accept_block (by_code context) (with_fixed x around) body) k)) is
    ∙ ap (λ r. each_judged n x v last (accept_block (by_code context) r body) k) (sym same) ∙ h

-- the row of an `each`, and then those of its turns
each_put : (k before after new : Option (List Row)) (none : List Row) (over : List Row → Turned) (t : ℕ) (own : ℕ → Row)
    → before ≡ option_map (λ rows. none) k → option_map (turned t) after ≡ option_map over before → new ≡ with_rows k (own t ∷ map (inside_row capped once) (unwrap_or after []))
    → new ≡ with_rows k (own (over none).turns ∷ map (inside_row capped once) (over none).rows)
each_put k before after new none over t own a b e = e ∙ go k after (b ∙ ap (option_map over) a)
  where
    go : (z after : Option (List Row)) → option_map (turned t) after ≡ option_map over (option_map (λ rows. none) z)
        → with_rows z (own t ∷ map (inside_row capped once) (unwrap_or after [])) ≡ with_rows z (own (over none).turns ∷ map (inside_row capped once) (over none).rows)
    go None after h = refl
    go (Some rows) None h = absurd (cc)
    go (Some rows) (Some xs) h =
        let same : turned t xs ≡ over none = cc in
        ap (λ (all : Turned). Some (rows ++ own all.turns ∷ map (inside_row capped once) all.rows)) same

pub each_rows : (context : code.Context) (around : Around) (spot : Spot) (x v last : ℕ) (body : Block) (k : Facts) (n t : ℕ) (w : Verdict) (kept before after new : Option (List Row)) (own : Row) (weight : Weight)
    → accept_statement (by_code context) around (for_each spot x v last body) k ≡ Ok w → n ≡ last + 1 - v
    → before ≡ option_map (λ rows. block_rows (by_code context) (with_fixed x around) body None) kept
    → option_map (turned t) after ≡ option_map (λ xs. turns_over capped n x v (block_verdict (by_code context) (with_fixed x around) body) (block_rows (by_code context) (with_fixed x around) body) (Some k) (turned 0 xs)) before
    → own ≡ first_row spot kind.For 1 w.costs (costs 0 0 (t + 1)) (detail.Turns t) → weight ≡ once
    → new ≡ with_rows kept (own ∷ map (inside_row capped weight) (unwrap_or after []))
    → new ≡ with_rows kept (statement_rows (by_code context) around (for_each spot x v last body) (Some k))
unfolding if_reached
each_rows context around spot x v last body k n t w kept before after new own weight is numbers a b o ew e =
    let c = by_code context in
    let judge = block_verdict c (with_fixed x around) body in
    let rows = block_rows c (with_fixed x around) body in
    let row : Bounds → ℕ → Row = λ each m. first_row spot kind.For 1 each (costs 0 0 (m + 1)) (detail.Turns m) in
    each_put kept before after new (rows None) (λ xs. turns_over capped n x v judge rows (Some k) (turned 0 xs)) t (row w.costs) a b
    (e ∙ ap₂ (λ r u. with_rows kept (r ∷ map (inside_row capped u) (unwrap_or after []))) o ew)
    ∙ ap (λ m. with_rows kept (row w.costs (turns_over capped m x v judge rows (Some k) (turned 0 (rows None))).turns ∷ map (inside_row capped once) (turns_over capped m x v judge rows (Some k) (turned 0 (rows None))).rows)) numbers
    ∙ ap (λ (u : Verdict). with_rows kept (row u.costs (each_turned capped x v last judge rows (Some k)).turns ∷ inside c once (each_turned capped x v last judge rows (Some k)).rows))
    (sym (verdict_is c around (for_each spot x v last body) (Some k) w is))

pub times_few : (known : Known) → times_at known ≤ 1
times_few None = omega arith
times_few (Some k) = omega arith
