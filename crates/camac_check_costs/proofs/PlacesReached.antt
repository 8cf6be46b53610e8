-- Each place to which the checker comes is found.
use Rattle.std.proofs.Common.{◌≡◌, ℕ, zero, suc, ◌+◌, ◌<◌, ◌≤◌, Bool, true, false, List, [], Some, None, Result, Ok, refl, sym, ap, ap₂, ◌∙◌, subst, ⊎_elim, arith}
use Rattle.std.specs.Prelude.{◌||◌, nat_lt, if◌then◌else◌}
use Rattle.std.proofs.lemmas.Bool.{le-ltb, lt-ltb}
use Rattle.camac_lang.specs.Tree.{Statement, choose, choose_else, for_, for_each, while_, locked, Block, done, next}
use Rattle.camac_rules.specs.Calls.{lock_rule}
use Rattle.camac_rules.specs.Conditions.{Branches, split}
use Rattle.camac_rules.specs.Costs.{Verdict}
use Rattle.camac_rules.specs.Cycles.{Context, Around, with_locked}
use Rattle.camac_rules.specs.Each.{each_begins}
use Rattle.camac_rules.specs.Fault.{Fault}
use Rattle.camac_rules.specs.Known.{Facts, Known}
use Rattle.camac_rules.specs.Loops.{Limits, with_fixed, for_limits, for_head, while_head}
use Rattle.camac_rules.specs.Refusal.{go_on, if_reached}
use Rattle.camac_rules.specs.Statements.{accept_statement, accept_block}
use Rattle.camac_check_costs.specs.Places.{Place, place, HasPlace, BlockHasPlace, IsCovered, PlacesAreReached, begin_in, begin_inside, begins_at, holds, holds_inside, in_turns, place_inside, place_in_block}
use Rattle.camac_check_costs.proofs.PlaceLaws.{Found, placed_in, statement_in}
use Rattle.camac_check_costs.proofs.PlaceTurns.{covers_itself, turn_covered}

-- ---- a statement holds it exactly if one begins there

abbrev one_of : Bool → ℕ
one_of b = if b then 1 else 0

either : (m n : ℕ) → (nat_lt 0 m || nat_lt 0 n) ≡ nat_lt 0 (m + n)
either zero n = let same : n ≡ zero + n = omega arith in ap (λ m. nat_lt 0 m) same
either (suc m) n =
    let first : 0 < suc m = omega arith in
    let both : 0 < suc m + n = omega arith in
    ap (λ b. b || nat_lt 0 n) (lt-ltb 0 (suc m) first) ∙ sym (lt-ltb 0 (suc m + n) both)

or_one : (b : Bool) (n : ℕ) → (b || nat_lt 0 n) ≡ nat_lt 0 (one_of b + n)
or_one true n = let some : 0 < one_of true + n = omega arith in sym (lt-ltb 0 (one_of true + n) some)
or_one false n = let same : n ≡ one_of false + n = omega arith in ap (λ m. nat_lt 0 m) same

mutual
  held_inside : (n : ℕ) (s : Statement) → holds_inside n s ≡ nat_lt 0 (begin_inside n s)
  held_inside n (choose spot test a) = held n a
  held_inside n (choose_else spot test a b) = ap₂ ◌||◌ (held n a) (held n b) ∙ either (begin_in n a) (begin_in n b)
  held_inside n (for_ spot x e1 e2 keeps body) = held n body
  held_inside n (for_each spot x v last body) = held n body
  held_inside n (while_ spot test most x keeps body) = held n body
  held_inside n (locked spot e body) = held n body
  held_inside n s = refl

  held : (n : ℕ) (b : Block) → holds n b ≡ nat_lt 0 (begin_in n b)
  held n done = refl
  held n (next s rest) =
      ap₂ ◌||◌ (ap (λ h. begins_at n s || h) (held_inside n s) ∙ or_one (begins_at n s) (begin_inside n s)) (held n rest)
      ∙ either (one_of (begins_at n s) + begin_inside n s) (begin_in n rest)

is_held : (n : ℕ) (b : Block) → 1 ≤ begin_in n b → holds n b ≡ true
is_held n b h = held n b ∙ lt-ltb 0 (begin_in n b) (omega (arith, h))

is_not_held : (n : ℕ) (b : Block) → begin_in n b ≡ 0 → holds n b ≡ false
is_not_held n b h = held n b ∙ le-ltb 0 (begin_in n b) (omega (arith, h))

-- a place is that of a statement
mutual
  counted_inside : (c : Context) (p : Place) (around : Around) (s : Statement) (k : Facts) (n : ℕ) → begins_at n p.statement ≡ true → HasPlace c p around s k → 1 ≤ begin_inside n s
  counted_inside c p around (choose spot test a) k n e i = counted c p around a i.2.0 n e i.2.2
  counted_inside c p around (choose_else spot test a b) k n e i =
      ⊎_elim (λ t. let h = counted c p around a t.0 n e t.2 in omega (arith, h)) (λ t. let h = counted c p around b t.0 n e t.2 in omega (arith, h)) i.2
  counted_inside c p around (locked spot x body) k n e i = counted c p (with_locked i.0 around) body k n e i.2
  counted_inside c p around (for_ spot x e1 e2 keeps body) k n e i = counted c p (with_fixed x around) body i.2.0 n e i.2.2
  counted_inside c p around (for_each spot x v last body) k n e i = counted c p (with_fixed x around) body i.2.2.0 n e i.2.2.2
  counted_inside c p around (while_ spot test most x keeps body) k n e i = counted c p around body i.2.2.0 n e i.2.2.2
  counted_inside c p around s k n e i = absurd i

  counted : (c : Context) (p : Place) (around : Around) (b : Block) (k : Facts) (n : ℕ) → begins_at n p.statement ≡ true → BlockHasPlace c p around b k → 1 ≤ begin_in n b
  counted c p around done k n e i = absurd i
  counted c p around (next s rest) k n e i =
      ⊎_elim (λ is. let h : one_of (begins_at n s) ≡ 1 = ap one_of (ap (λ (q : Place). begins_at n q.statement) (sym is) ∙ e) in omega (arith, h))
      (λ j. ⊎_elim (λ u. let h = counted_inside c p around s k n e u in omega (arith, h)) (λ v. let h = counted c p around rest v.2.0 n e v.2.2 in omega (arith, h)) j) i

not_one : (b : Bool) → one_of b ≡ 0 → b ≡ false
not_one true h = absurd (omega (arith, h))
not_one false h = refl

-- ---- what is told there

comes_on : {A : Type 0} (r : Result A Fault) (y : A) (g : A → Found) (p : Place) → r ≡ Ok y → IsCovered p (g y) → IsCovered p (go_on r g)
unfolding go_on
comes_on r y g p e h = subst (λ q. IsCovered p (go_on q g)) (sym e) h

comes_there : (o : Known) (t : Facts) (g : Facts → Found) (p : Place) → o ≡ Some t → IsCovered p (g t) → IsCovered p (if_reached None o g)
unfolding if_reached
comes_there o t g p e h = subst (λ q. IsCovered p (if_reached None q g)) (sym e) h

mutual
  reached_inside : (c : Context) (around : Around) (s : Statement) (k : Facts) (n : ℕ) (p : Place) → begin_inside n s ≤ 1 → begins_at n p.statement ≡ true
      → HasPlace c p around s k → IsCovered p (place_inside c around s k n [])
  reached_inside c around (choose spot test a) k n p one e i =
      let find : Facts → Found = λ t. place_in_block c around a t n [] in
      comes_on (split spot test k) i.0 (λ arms. if_reached None arms.holds find) p i.1
      (comes_there i.0.holds i.2.0 find p i.2.1 (reached c around a i.2.0 n p one e i.2.2))
  reached_inside c around (choose_else spot test a b) k n p one e i =
      let arms : Branches = i.0 in
      let find : Facts → Found = λ t. place_in_block c around a t n [] in
      let other : Facts → Found = λ t. place_in_block c around b t n [] in
      let of_arms : Bool → Branches → Found = λ in_first ways. if in_first then if_reached None ways.holds find else if_reached None ways.fails other in
      comes_on (split spot test k) arms (of_arms (holds n a)) p i.1
      (⊎_elim
      (λ t. let first = counted c p around a t.0 n e t.2 in
      subst (λ h. IsCovered p (of_arms h arms)) (sym (is_held n a first)) (comes_there arms.holds t.0 find p t.1 (reached c around a t.0 n p (omega (arith, one)) e t.2)))
      (λ t. let second = counted c p around b t.0 n e t.2 in
      subst (λ h. IsCovered p (of_arms h arms)) (sym (is_not_held n a (omega (arith, one, second)))) (comes_there arms.fails t.0 other p t.1 (reached c around b t.0 n p (omega (arith, one)) e t.2)))
      i.2)
  reached_inside c around (locked spot x body) k n p one e i =
      comes_on (lock_rule c around spot x k) i.0 (λ m. place_in_block c (with_locked m around) body k n []) p i.1 (reached c (with_locked i.0 around) body k n p one e i.2)
  reached_inside c around (for_ spot x e1 e2 keeps body) k n p one e i =
      let find : Facts → Found = λ t. place_in_block c (with_fixed x around) body t n [] in
      comes_on (for_limits around spot x e1 e2 keeps k) i.0 (λ l. if_reached None (for_head x l keeps body k) find) p i.1
      (comes_there (for_head x i.0 keeps body k) i.2.0 find p i.2.1 (reached c (with_fixed x around) body i.2.0 n p one e i.2.2))
  reached_inside c around (for_each spot x v last body) k n p one e i =
      let check : Facts → Result Verdict Fault = accept_block c (with_fixed x around) body in
      let find : List ℕ → Facts → Found = λ inner t. place_in_block c (with_fixed x around) body t n inner in
      let turn = i.2 in
      let t : Facts = turn.2.0 in
      comes_on (each_begins around spot x v last) i.0 (λ count. in_turns count x v check find k []) p i.1
      (turn_covered (statement_in body n) around.body p i.0 x v check (find []) k None (λ u q. placed_in c (with_fixed x around) body u n [] q) tt turn.0 turn.1 t turn.2.1
      (reached c (with_fixed x around) body t n p one e turn.2.2))
  reached_inside c around (while_ spot test most x keeps body) k n p one e i =
      let find : Facts → Found = λ t. place_in_block c around body t n [] in
      comes_on (while_head around.body spot most x keeps body k) i.0 (λ top. go_on (split spot test top) (λ arms. if_reached None arms.holds find)) p i.1
      (comes_on (split spot test i.0) i.2.0 (λ arms. if_reached None arms.holds find) p i.2.1
      (comes_there i.2.0.holds i.2.2.0 find p i.2.2.1 (reached c around body i.2.2.0 n p one e i.2.2.2)))
  reached_inside c around s k n p one e i = absurd i

  reached : (c : Context) (around : Around) (b : Block) (k : Facts) (n : ℕ) (p : Place) → begin_in n b ≤ 1 → begins_at n p.statement ≡ true
      → BlockHasPlace c p around b k → IsCovered p (place_in_block c around b k n [])
  reached c around done k n p one e i = absurd i
  reached c around (next s rest) k n p one e i =
      let here : Found = Ok (Some (place around s k)) in
      let within : Found = place_inside c around s k n [] in
      let find : Facts → Found = λ t. place_in_block c around rest t n [] in
      let behind : Found = go_on (accept_statement c around s k) (λ v. if_reached None v.after find) in
      let told : Bool → Bool → Found = λ begins inside. if begins || inside then (if begins then here else within) else behind in
      ⊎_elim
      (λ is. let begins : begins_at n s ≡ true = ap (λ (q : Place). begins_at n q.statement) (sym is) ∙ e in
      covers_itself (told (begins_at n s) (holds_inside n s)) p (ap (λ b. told b (holds_inside n s)) begins ∙ ap (λ q. Ok (Some q)) (sym is)))
      (λ j. ⊎_elim
      (λ u. let inside = counted_inside c p around s k n e u in
      let begins = not_one (begins_at n s) (omega (arith, one, inside)) in
      let holds : holds_inside n s ≡ true = held_inside n s ∙ lt-ltb 0 (begin_inside n s) (omega (arith, inside)) in
      subst (IsCovered p) (sym (ap₂ told begins holds)) (reached_inside c around s k n p (omega (arith, one)) e u))
      (λ v. let later = counted c p around rest v.2.0 n e v.2.2 in
      let begins = not_one (begins_at n s) (omega (arith, one, later)) in
      let holds : holds_inside n s ≡ false = held_inside n s ∙ le-ltb 0 (begin_inside n s) (omega (arith, one, later)) in
      subst (IsCovered p) (sym (ap₂ told begins holds))
      (comes_on (accept_statement c around s k) v.0 (λ w. if_reached None w.after find) p v.1
      (comes_there v.0.after v.2.0 find p v.2.1 (reached c around rest v.2.0 n p (omega (arith, one)) e v.2.2))))
      j) i

pub places_are_reached : PlacesAreReached
places_are_reached c around block start left p one i = reached c around block start left p one i.1 i.0
