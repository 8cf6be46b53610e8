-- Rows of turns, merged in place, and the rows of what can't be reached.
use Rattle.std.proofs.Common.{◌≡◌, ℕ, zero, suc, ◌-◌, ◌<◌, List, [], ◌∷◌, ◌++◌, length, take, drop, set, get_or, None, append-nil, length-drop, refl, sym, ap, ◌∙◌, arith, ◌+◌, map, append_assoc}
use Rattle.std.proofs.lemmas.List.{take_all}
use Rattle.std.specs.Prelude.{min}
use Rattle.camac_model.specs.Fine.{Bounds}
use Rattle.camac_rules.specs.Costs.{Verdict, no_costs}
use Rattle.camac_rules.specs.Known.{Known}
use Rattle.camac_rules.specs.Refusal.{if_reached}
use Rattle.camac_rules.specs.Cycles.{Context, Around}
use Rattle.camac_rules.specs.Loops.{with_fixed}
use Rattle.camac_check_rows.specs.declared.row.Row.{Row}
use Rattle.camac_check_rows.specs.Turns.{merge, merged, Turned, turns_over, turned}
use Rattle.camac_check_rows.specs.declared.row.Kind.TheVariants as kind
use Rattle.camac_check_rows.specs.declared.row.Detail.{Detail}
use Rattle.camac_check_rows.specs.declared.row.Detail.TheVariants as detail
use Rattle.camac_check_rows.specs.declared.inside.Weight.{Weight}
use Rattle.camac_check_rows.specs.Statements.{kind_of, detail_of, first_row}
use Rattle.camac_check_rows.specs.Weights.{once, first_arm, second_arm, inside_row}
use Rattle.camac_check_rows.specs.Rows.{inside, block_verdict, simple_row, statement_rows, block_rows}
use Rattle.camac_lang.specs.View.{action_of}
use Rattle.camac_lang.specs.declared.tree.Action.{Action}
use Rattle.camac_lang.specs.declared.tree.Action.TheVariants as act
use Rattle.camac_lang.specs.Tree.{Condition, Statement, choose_else, for_each, Block, next, spot_of}
use Rattle.camac_lang.specs.declared.spot.Spot.{Spot}

-- Rows of turns, merged in place.

-- one more row
pub merge_more : (limit : Bounds → Bounds) (rows turn : List Row) (i : ℕ) (x y : Row) → i < length rows → i < length turn → x ≡ get_or rows i x → y ≡ get_or turn i y
    → take (suc i) (set rows i (merged limit x y)) ++ merge limit (drop (suc i) (set rows i (merged limit x y))) (drop (suc i) turn) ≡ take i rows ++ merge limit (drop i rows) (drop i turn)
merge_more limit [] turn i x y a b p q = absurd (omega (arith, a))
merge_more limit (r ∷ rows) [] i x y a b p q = absurd (omega (arith, b))
merge_more limit (r ∷ rows) (t ∷ turn) zero x y a b p q = ap (λ z. merged limit z y ∷ merge limit rows turn) p ∙ ap (λ z. merged limit r z ∷ merge limit rows turn) q
merge_more limit (r ∷ rows) (t ∷ turn) (suc i) x y a b p q =
    let in_rows : i < length rows = omega (arith, a) in
    let in_turn : i < length turn = omega (arith, b) in
    ap (λ zs. r ∷ zs) (merge_more limit rows turn i x y in_rows in_turn p q)

-- what is longer stays
pub merge_end : (limit : Bounds → Bounds) (rows turn : List Row) (i : ℕ) → i ≡ min (length rows) (length turn) → take i rows ++ merge limit (drop i rows) (drop i turn) ≡ rows ++ drop i turn
merge_end limit [] turn zero e = refl
merge_end limit [] turn (suc i) e = absurd (omega (arith, e))
merge_end limit (r ∷ rows) [] zero e = ap (λ zs. r ∷ zs) (sym (append-nil rows))
merge_end limit (r ∷ rows) [] (suc i) e = absurd (omega (arith, e))
merge_end limit (r ∷ rows) (t ∷ turn) zero e = absurd (omega (arith, e))
merge_end limit (r ∷ rows) (t ∷ turn) (suc i) e = let less : i ≡ min (length rows) (length turn) = omega (arith, e) in ap (λ zs. r ∷ zs) (merge_end limit rows turn i less)

-- the end of a list by how long it is
pub rest_of : (rows : List Row) (i : ℕ) → take (length rows - i) (drop i rows) ≡ drop i rows
rest_of rows i = take_all (length rows - i) (drop i rows) (omega (arith, length-drop i rows))

-- none of the turns that are left is reached
pub none_turned : (limit : Bounds → Bounds) (n x v : ℕ) (judge : Known → Verdict) (rows : Known → List Row) (so_far : Turned) → turns_over limit n x v judge rows None so_far ≡ so_far
none_turned limit zero x v judge rows so_far = refl
none_turned limit (suc n) x v judge rows so_far = refl

-- The rows of what can't be reached.

map_both : {A B : Type 0} (f : A → B) (xs ys : List A) → map f (xs ++ ys) ≡ map f xs ++ map f ys
map_both f [] ys = refl
map_both f (x ∷ xs) ys = ap (λ zs. f x ∷ zs) (map_both f xs ys)

-- a block that can't be reached, one statement on
pub none_next : (c : Context) (around : Around) (w : Weight) (s : Statement) (rest : Block)
    → inside c w (block_rows c around (next s rest) None) ≡ inside c w (statement_rows c around s None) ++ inside c w (block_rows c around rest None)
unfolding if_reached
none_next c around w s rest = map_both (inside_row c.limit w) (statement_rows c around s None) (block_rows c around rest None)

-- an action has one row
pub action_rows : (c : Context) (around : Around) (a : Action) (k : Known) → statement_rows c around (action_of a) k ≡ simple_row c around (action_of a) k ∷ []
action_rows c around (act.Assign s) k = refl
action_rows c around (act.SetRegister s) k = refl
action_rows c around (act.Single s) k = refl
action_rows c around (act.Scan s) k = refl
action_rows c around (act.QStop s) k = refl
action_rows c around (act.QRepeat s limit) k = refl
action_rows c around (act.Put s) k = refl
action_rows c around (act.CrateCall s) k = refl
action_rows c around (act.LamCall s) k = refl
action_rows c around (act.Call s) k = refl

-- an action that can't be reached, a part at a time
pub none_action : (c : Context) (around : Around) (a : Action) (n : Bounds) (told : Detail) (own : Row) (r0 r1 : List Row)
    → n ≡ no_costs → told ≡ detail_of c (action_of a) None → own ≡ first_row (spot_of (action_of a)) (kind_of (action_of a)) 0 n n told
    → r0 ≡ [] → r1 ≡ r0 ++ (own ∷ []) → r1 ≡ statement_rows c around (action_of a) None
unfolding if_reached
none_action c around a n told own r0 r1 en et eo p0 p1 =
    let s = action_of a in
    p1
    ∙ ap (λ r. r ++ (own ∷ [])) p0
    ∙ ap (λ x. x ∷ []) (eo ∙ ap (λ m. first_row (spot_of s) (kind_of s) 0 m m told) en ∙ ap (λ d. first_row (spot_of s) (kind_of s) 0 no_costs no_costs d) et)
    ∙ sym (action_rows c around a None)

-- a choice that can't be reached, a part at a time
pub none_choice : (c : Context) (around : Around) (s : Statement) (spot : Spot) (test : Condition) (a b first_block second_block : Block) (n : Bounds)
    (first other : Row) (w1 w2 : Weight) (r0 r1 r2 r3 r4 : List Row)
    → s ≡ choose_else spot test a b → first_block ≡ a → second_block ≡ b → n ≡ no_costs
    → first ≡ first_row spot kind.If 0 no_costs no_costs detail.Nothing → other ≡ first_row spot kind.Else 0 n no_costs detail.Nothing
    → w1 ≡ first_arm n n → w2 ≡ second_arm n n
    → r0 ≡ [] → r1 ≡ r0 ++ (first ∷ []) → r2 ≡ r1 ++ inside c w1 (block_rows c around first_block None)
    → r3 ≡ r2 ++ (other ∷ []) → r4 ≡ r3 ++ inside c w2 (block_rows c around second_block None)
    → r4 ≡ statement_rows c around s None
unfolding if_reached
none_choice c around s spot test a b first_block second_block n first other w1 w2 r0 r1 r2 r3 r4 is ea eb en first_is eo e1 e2 p0 p1 p2 p3 p4 =
    let other_is : other ≡ first_row spot kind.Else 0 no_costs no_costs detail.Nothing =
    eo ∙ ap (λ m. first_row spot kind.Else 0 m no_costs detail.Nothing) en in
    let w1_is : w1 ≡ first_arm no_costs no_costs = e1 ∙ ap (λ m. first_arm m m) en in
    let w2_is : w2 ≡ second_arm no_costs no_costs = e2 ∙ ap (λ m. second_arm m m) en in
    p4
    ∙ ap (λ r. r ++ inside c w2 (block_rows c around second_block None)) (p3
    ∙ ap (λ r. r ++ (other ∷ [])) (p2
    ∙ ap (λ r. r ++ inside c w1 (block_rows c around first_block None)) (p1
    ∙ ap (λ r. r ++ (first ∷ [])) p0)))
    ∙ ap (λ ys. first ∷ ys) (append_assoc (inside c w1 (block_rows c around first_block None)) (other ∷ []) (inside c w2 (block_rows c around second_block None)))
    ∙ ap (λ x. first ∷ (inside c w1 (block_rows c around x None) ++ (other ∷ inside c w2 (block_rows c around second_block None)))) ea
    ∙ ap (λ x. first ∷ (inside c w1 (block_rows c around a None) ++ (other ∷ inside c w2 (block_rows c around x None)))) eb
    ∙ ap (λ w. first ∷ (inside c w (block_rows c around a None) ++ (other ∷ inside c w2 (block_rows c around b None)))) w1_is
    ∙ ap (λ w. first ∷ (inside c (first_arm no_costs no_costs) (block_rows c around a None) ++ (other ∷ inside c w (block_rows c around b None)))) w2_is
    ∙ ap (λ o. first ∷ (inside c (first_arm no_costs no_costs) (block_rows c around a None) ++ (o ∷ inside c (second_arm no_costs no_costs) (block_rows c around b None)))) other_is
    ∙ ap (λ f. f ∷ (inside c (first_arm no_costs no_costs) (block_rows c around a None) ++ (first_row spot kind.Else 0 no_costs no_costs detail.Nothing ∷ inside c (second_arm no_costs no_costs) (block_rows c around b None)))) first_is
    ∙ sym (ap (λ q. statement_rows c around q None) is)

-- an `each` that can't be reached, a part at a time
pub none_each : (c : Context) (around : Around) (s : Statement) (spot : Spot) (x v last : ℕ) (body block : Block) (own : Row) (w : Weight) (r0 r1 r2 : List Row)
    → s ≡ for_each spot x v last body → block ≡ body
    → own ≡ first_row spot kind.For 0 no_costs no_costs detail.Nothing → w ≡ once
    → r0 ≡ [] → r1 ≡ r0 ++ (own ∷ []) → r2 ≡ r1 ++ inside c w (block_rows c (with_fixed x around) block None)
    → r2 ≡ statement_rows c around s None
unfolding if_reached
none_each c around s spot x v last body block own w r0 r1 r2 is eb own_is ew p0 p1 p2 =
    p2
    ∙ ap (λ r. r ++ inside c w (block_rows c (with_fixed x around) block None)) (p1 ∙ ap (λ r. r ++ (own ∷ [])) p0)
    ∙ ap (λ b. own ∷ inside c w (block_rows c (with_fixed x around) b None)) eb
    ∙ ap (λ u. own ∷ inside c u (block_rows c (with_fixed x around) body None)) ew
    ∙ ap (λ o. o ∷ inside c once (block_rows c (with_fixed x around) body None)) own_is
    ∙ ap (λ (t : Turned). first_row spot kind.For 0 no_costs no_costs detail.Nothing ∷ inside c once t.rows)
    (sym (none_turned c.limit (last + 1 - v) x v (block_verdict c (with_fixed x around) body) (block_rows c (with_fixed x around) body) (turned 0 (block_rows c (with_fixed x around) body None))))
    ∙ sym (ap (λ q. statement_rows c around q None) is)
