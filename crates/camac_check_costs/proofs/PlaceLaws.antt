-- The place of a statement, and what holds of the places that are found.
use Rattle.std.proofs.Common.{◌≡◌, ℕ, ◌<◌, ◌≤◌, ◌+◌, true, false, List, [], Option, Some, None, Result, Ok, drop, length, map, option_map, refl, slice_get, sym, ap, ◌∙◌, zero, suc, ◌-◌, Bool, ◌∷◌, Err, subst, inl, inr, arith}
use Rattle.std.proofs.lemmas.List.{drop_all}
use Rattle.std.proofs.lemmas.Option.{slice_get-map}
use Rattle.std.proofs.lemmas.Bool.{and_parts, ltb-true}
use Rattle.std.specs.Prelude.{◌||◌, get_or, if◌then◌else◌, ◌&&◌, nat_le, nat_lt}
use Rattle.camac_lang.specs.View.{statement_of, statements_of}
use Rattle.camac_lang.specs.declared.tree.Stmt.{Stmt}
use Rattle.camac_lang.specs.Tree.{Statement, choose, choose_else, for_, for_each, while_, locked, Block, done, next}
use Rattle.camac_check_known.specs.declared.fault.CheckFault.{CheckFault}
use Rattle.camac_check_known.specs.declared.fault.CheckFault.TheVariants.{OutOfMemory, Broken}
use Rattle.camac_rules.specs.Costs.{Verdict, unreached}
use Rattle.camac_rules.specs.Cycles.{Context, Around, with_locked}
use Rattle.camac_rules.specs.Fault.{Fault}
use Rattle.camac_rules.specs.Known.{Facts, Known, with_range}
use Rattle.camac_rules.specs.Refusal.{go_on, if_reached}
use Rattle.camac_rules.specs.Statements.{accept_statement, accept_block}
use Rattle.camac_rules.specs.declared.case.Body.{Body}
use Rattle.camac_rules.specs.Addresses.{crate_end, is_among}
use Rattle.camac_rules.specs.Calls.{lock_rule}
use Rattle.camac_rules.specs.Conditions.{Branches, split}
use Rattle.camac_rules.specs.Each.{each_begins}
use Rattle.camac_rules.specs.Loops.{Limits, with_fixed, for_limits, for_head, while_head}
use Rattle.camac_check_simple.specs.Gives.{Fails}
use Rattle.camac_lang.proofs.Trees.{next_of}
use Rattle.camac_check_costs.specs.Places.{Place, holds, holds_at, each_around, each_at, place_in, place_in_block, place, HasPlace, BlockHasPlace, at_turn, IsTold, at_one, at_both, IsAt, PlacesAreFound, TurnsAreTold, begins_at, each_inside, chosen_inside, are_chosen, locked_in_both, told_of_both, left_by, over_turns, in_turns, place_inside}
use Rattle.camac_check_costs.specs.declared.turns.EachLoop.{EachLoop}
use Rattle.camac_range.specs.Interval.{only}

-- The place of a statement, from what the statements before it come to.

-- ---- what a block holds

pub holds_on : (left : ℕ) (xs : List Stmt) (i : ℕ) (x : Stmt) → i < length xs → x ≡ get_or xs i x → holds_at left (statement_of x) ≡ false
    → holds left (statements_of (drop (i + 1) xs)) ≡ holds left (statements_of (drop i xs))
holds_on left xs i x h is e = sym (ap (holds left) (next_of xs i x h is) ∙ ap (λ b. b || holds left (statements_of (drop (i + 1) xs))) e)

pub holds_here : (left : ℕ) (xs : List Stmt) (i : ℕ) (x : Stmt) → i < length xs → x ≡ get_or xs i x → holds_at left (statement_of x) ≡ true
    → holds left (statements_of (drop i xs)) ≡ true
holds_here left xs i x h is e = ap (holds left) (next_of xs i x h is) ∙ ap (λ b. b || holds left (statements_of (drop (i + 1) xs))) e

pub holds_none : (left : ℕ) (xs : List Stmt) (i : ℕ) → length xs ≤ i → holds left (statements_of (drop i xs)) ≡ false
holds_none left xs i le = ap (λ l. holds left (statements_of l)) (drop_all i xs le)

-- ---- the loops around

pub around_on : (left : ℕ) (xs : List Stmt) (i : ℕ) (x : Stmt) → i < length xs → x ≡ get_or xs i x → holds_at left (statement_of x) ≡ false
    → each_around left (statements_of (drop (i + 1) xs)) ≡ each_around left (statements_of (drop i xs))
around_on left xs i x h is e =
    sym (ap (each_around left) (next_of xs i x h is) ∙ ap (λ b. if b then each_at left (statement_of x) else each_around left (statements_of (drop (i + 1) xs))) e)

pub around_here : (left : ℕ) (xs : List Stmt) (i : ℕ) (x : Stmt) → i < length xs → x ≡ get_or xs i x → holds_at left (statement_of x) ≡ true
    → each_around left (statements_of (drop i xs)) ≡ each_at left (statement_of x)
around_here left xs i x h is e =
    ap (each_around left) (next_of xs i x h is) ∙ ap (λ b. if b then each_at left (statement_of x) else each_around left (statements_of (drop (i + 1) xs))) e

pub around_none : (left : ℕ) (xs : List Stmt) (i : ℕ) → length xs ≤ i → each_around left (statements_of (drop i xs)) ≡ []
around_none left xs i le = ap (λ l. each_around left (statements_of l)) (drop_all i xs le)

-- ---- places

module _ (c : Context) (around : Around) (xs : List Stmt) (i : ℕ) (left : ℕ) (turns : List ℕ) where
  abbrev from : ℕ → Known → Result (Option Place) Fault
  from n o = if_reached None o (λ k. place_in_block c around (statements_of (drop n xs)) k left turns)

  pub place_done : (o : Known) → length xs ≤ i → from i o ≡ Ok None
  unfolding if_reached
  place_done None le = refl
  place_done (Some k) le = ap (λ l. place_in_block c around (statements_of l) k left turns) (drop_all i xs le)

  module _ (x : Stmt) (h : i < length xs) (is : x ≡ get_or xs i x) where
    abbrev after : Result Verdict Fault → Result (Option Place) Fault
    after q = go_on q (λ v. from (i + 1) v.after)

    there : (k : Facts) → from i (Some k) ≡ (if holds_at left (statement_of x) then place_in c around (statement_of x) k left turns else after (accept_statement c around (statement_of x) k))
    unfolding if_reached
    there k = ap (λ b. place_in_block c around b k left turns) (next_of xs i x h is)

    behind : (k : Facts) → holds_at left (statement_of x) ≡ false → from i (Some k) ≡ after (accept_statement c around (statement_of x) k)
    behind k e = there k ∙ ap (λ b. if b then place_in c around (statement_of x) k left turns else after (accept_statement c around (statement_of x) k)) e

    pub place_here : (k : Facts) → holds_at left (statement_of x) ≡ true → from i (Some k) ≡ place_in c around (statement_of x) k left turns
    place_here k e = there k ∙ ap (λ b. if b then place_in c around (statement_of x) k left turns else after (accept_statement c around (statement_of x) k)) e

    pub place_on : (o : Known) (v : Verdict) → holds_at left (statement_of x) ≡ false → if_reached unreached o (accept_statement c around (statement_of x)) ≡ Ok v → from (i + 1) v.after ≡ from i o
    unfolding go_on if_reached
    place_on None v e one = let same : v ≡ unreached = cc in ap (λ (w : Verdict). from (i + 1) w.after) same
    place_on (Some k) v e one = sym (behind k e ∙ ap after one)

    pub place_refused : (o : Known) (f : CheckFault) → holds_at left (statement_of x) ≡ false → Fails f (if_reached unreached o (accept_statement c around (statement_of x))) → Fails f (from i o)
    unfolding go_on if_reached
    place_refused o OutOfMemory e one = tt
    place_refused None (Broken rule spot case) e one = absurd (cc)
    place_refused (Some k) (Broken rule spot case) e one = behind k e ∙ ap after one

-- ---- names

pub found : {A B : Type 0} (f : A → B) (xs : List A) (i : ℕ) → slice_get (map f xs) i ≡ option_map f (slice_get xs i)
found f xs i = slice_get-map f xs i

-- What holds of the places that are found.

-- ---- what led to an answer

abbrev pub Found : Type 0
Found = Result (Option Place) Fault

pub went_on : {A : Type 0} (r : Result A Fault) (g : A → Found) (p : Place) → go_on r g ≡ Ok (Some p) → (y : A) × (r ≡ Ok y) × (g y ≡ Ok (Some p))
unfolding go_on
went_on (Ok y) g p e = (y, refl, e)
went_on (Err f) g p e = absurd (cc)

pub was_reached : (o : Known) (g : Facts → Found) (p : Place) → if_reached None o g ≡ Ok (Some p) → (t : Facts) × (o ≡ Some t) × (g t ≡ Ok (Some p))
unfolding if_reached
was_reached None g p e = absurd (cc)
was_reached (Some t) g p e = (t, refl, e)

same_place : (q p : Place) → ◌≡◌ {A = Found} (Ok (Some q)) (Ok (Some p)) → q ≡ p
same_place q p e = cc

-- ---- a place, or what is told over several

-- where a turn is chosen of each `each`, the place itself
abbrev TellsOver : (Place → Type 0) → Bool → Place → Type 0
TellsOver P true told = P told
TellsOver P false told = IsTold P told

told_more : (P Q : Place → Type 0) → ((p : Place) → P p → Q p) → (told : Place) → IsTold P told → IsTold Q told
told_more P Q more told (at_one p i) = at_one p (more p i)
told_more P Q more told (at_both p q i j) = at_both p q (told_more P Q more p i) (told_more P Q more q j)

tells_more : (P Q : Place → Type 0) → ((p : Place) → P p → Q p) → (b : Bool) (told : Place) → TellsOver P b told → TellsOver Q b told
tells_more P Q more true told h = more told h
tells_more P Q more false told h = told_more P Q more told h

is_told : (P : Place → Type 0) (b : Bool) (told : Place) → TellsOver P b told → IsTold P told
is_told P true told h = at_one told h
is_told P false told h = h

by_choice : (P : Option Statement → Place → Type 0) (b : Bool) (s : Option Statement) (xs : List EachLoop) (turns : List ℕ) (here p : Place) (f : Found)
    → (b ≡ true → P (Some here.statement) here) → (f ≡ Ok (Some p) → TellsOver (P s) (are_chosen xs turns) p)
    → (if b then Ok (Some here) else f) ≡ Ok (Some p) → TellsOver (P (if b then Some here.statement else s)) (are_chosen (if b then [] else xs) turns) p
by_choice P true s xs turns here p f h g e = subst (P (Some here.statement)) (same_place here p e) (h refl)
by_choice P false s xs turns here p f h g e = g e

in_either : (P : Option Statement → Place → Type 0) (b : Bool) (first other : Found) (s u : Option Statement) (xs ys : List EachLoop) (turns : List ℕ) (p : Place)
    → (first ≡ Ok (Some p) → TellsOver (P s) (are_chosen xs turns) p) → (other ≡ Ok (Some p) → TellsOver (P u) (are_chosen ys turns) p)
    → (if b then first else other) ≡ Ok (Some p) → TellsOver (P (if b then s else u)) (are_chosen (if b then xs else ys) turns) p
in_either P true first other s u xs ys turns p h g e = h e
in_either P false first other s u xs ys turns p h g e = g e

-- ---- turns

abbrev IfTold : (Place → Type 0) → Option Place → Type 0
IfTold P None = Unit {0}
IfTold P (Some told) = IsTold P told

both_told : (P : Place → Type 0) (a b : Option Place) → IfTold P a → IfTold P b → IfTold P (told_of_both a b)
both_told P None b h g = g
both_told P (Some p) None h g = h
both_told P (Some p) (Some q) h g = at_both p q h g

-- a place of one of these turns is told so
abbrev EachTells : (P : Place → Type 0) (count x v : ℕ) (check : Facts → Result Verdict Fault) (k : Facts) → (Facts → Place → Type 0) → Type 0
EachTells P count x v check k Says = (turn : ℕ) → turn < count → (t : Facts) → at_turn check x v turn k ≡ Ok (Some t) → (p : Place) → Says t p

pub next_turn : (check : Facts → Result Verdict Fault) (x v turn : ℕ) (k q : Facts) (left : Verdict) → check (with_range x (only v) k) ≡ Ok left → left.after ≡ Some q
    → at_turn check x v (suc turn) k ≡ at_turn check x (v + 1) turn q
unfolding go_on if_reached
next_turn check x v turn k q left e after =
    ap (λ r. go_on r (λ (w : Verdict). if_reached None w.after (at_turn check x (v + 1) turn))) e ∙ ap (λ o. if_reached None o (at_turn check x (v + 1) turn)) after

some_place : (o : Option Place) (p : Place) → ◌≡◌ {A = Found} (Ok o) (Ok (Some p)) → o ≡ Some p
some_place o p e = cc

place_told : (P : Place → Type 0) (o : Option Place) → ((p : Place) → o ≡ Some p → IsTold P p) → IfTold P o
place_told P None h = tt
place_told P (Some p) h = h p refl

-- behind a turn
after_told : (P : Place → Type 0) (w : Option Place) (o : Known) (g : Facts → Found) (p : Place) → IfTold P w → ((q : Facts) → o ≡ Some q → g q ≡ Ok (Some p) → IsTold P p)
    → if_reached w o g ≡ Ok (Some p) → IsTold P p
unfolding if_reached
after_told P w None g p h more e = subst (IfTold P) (some_place w p e) h
after_told P w (Some q) g p h more e = more q refl e

-- a turn that leaves this known
left_so : (r : Result Verdict Fault) (q : Facts) → left_by r ≡ Some q → (left : Verdict) × (r ≡ Ok left) × (left.after ≡ Some q)
left_so (Ok left) q e = (left, refl, e)
left_so (Err f) q e = absurd (cc)

all_told : (P : Place → Type 0) (count x v : ℕ) (check : Facts → Result Verdict Fault) (find : Facts → Found) (k : Facts) (so_far : Option Place) (p : Place)
    → EachTells P count x v check k (λ t q. find t ≡ Ok (Some q) → IsTold P q) → IfTold P so_far → over_turns count x v check find k so_far ≡ Ok (Some p) → IsTold P p
all_told P zero x v check find k so_far p each h e = subst (IfTold P) (some_place so_far p e) h
all_told P (suc n) x v check find k so_far p each h e =
    let t : Facts = with_range x (only v) k in
    let here = went_on (find t) (λ o. if_reached (told_of_both so_far o) (left_by (check t)) (λ q. over_turns n x (v + 1) check find q (told_of_both so_far o))) p e in
    let o : Option Place = here.0 in
    let told = both_told P so_far o h (place_told P o (λ q is. each 0 (omega arith) t refl q (here.1 ∙ ap Ok is))) in
    after_told P (told_of_both so_far o) (left_by (check t)) (λ q. over_turns n x (v + 1) check find q (told_of_both so_far o)) p told
    (λ q is. let left = left_so (check t) q is in
    all_told P n x (v + 1) check find q (told_of_both so_far o) p
    (λ turn lt u at. each (suc turn) (omega arith) u (next_turn check x v turn k q left.0 left.1 left.2 ∙ at)) told)
    here.2

pub if_so : (b : Bool) (f : Found) (p : Place) → (if b then f else Ok None) ≡ Ok (Some p) → (b ≡ true) × (f ≡ Ok (Some p))
if_so true f p e = (refl, e)
if_so false f p e = absurd (cc)

turns_tell : (P : Place → Type 0) (test : List ℕ → Bool) (count x v : ℕ) (check : Facts → Result Verdict Fault) (find : List ℕ → Facts → Found) (k : Facts) (turns : List ℕ) (p : Place)
    → ((inner : List ℕ) → EachTells P count x v check k (λ t q. find inner t ≡ Ok (Some q) → TellsOver P (test inner) q))
    → in_turns count x v check find k turns ≡ Ok (Some p) → TellsOver P (chosen_inside test turns) p
turns_tell P test count x v check find k [] p each e =
    all_told P count x v check (find []) k None p (λ turn lt t at q i. is_told P (test []) q (each [] turn lt t at q i)) tt e
turns_tell P test count x v check find k (value ∷ inner) p each e =
    let turn : ℕ = value - v in
    let h = if_so (nat_le v value && nat_lt turn count) (go_on (at_turn check x v turn k) (λ o. if_reached None o (find inner))) p e in
    let o = went_on (at_turn check x v turn k) (λ o. if_reached None o (find inner)) p h.1 in
    let known : Known = o.0 in
    let t = was_reached known (find inner) p o.2 in
    each inner turn (ltb-true turn count (and_parts (nat_le v value) (nat_lt turn count) h.0).1) t.0 (o.1 ∙ ap Ok t.1) p t.2

-- ---- places

-- the statement that begins there
abbrev mutual
  pub statement_inside : Statement → (left : ℕ) → Option Statement
  statement_inside (choose spot test a) n = statement_in a n
  statement_inside (choose_else spot test a b) n = if holds n a then statement_in a n else statement_in b n
  statement_inside (for_ spot x e1 e2 keeps body) n = statement_in body n
  statement_inside (for_each spot x v last body) n = statement_in body n
  statement_inside (while_ spot test most x keeps body) n = statement_in body n
  statement_inside (locked spot e body) n = statement_in body n
  statement_inside s n = None

  pub statement_in : Block → (left : ℕ) → Option Statement
  statement_in done n = None
  statement_in (next s rest) n = if holds_at n s then (if begins_at n s then Some s else statement_inside s n) else statement_in rest n

pub record IsPlaced (s : Option Statement) (b : Body) (p : Place) : Type 0 where
  pub statement : s ≡ Some p.statement
  pub body : b ≡ p.around.body

one_body : (b : Bool) (c : ℕ) (a d : Around) → a.body ≡ d.body → (if b then with_locked c a else a).body ≡ d.body
one_body true c a d e = e
one_body false c a d e = e

pub body_of_both : (n : ℕ) (a b : Around) → (locked_in_both n a b).body ≡ a.body
body_of_both zero a b = refl
body_of_both (suc c) a b = one_body (is_among c a.locked && is_among c b.locked) c (locked_in_both c a b) a (body_of_both c a b)

told_placed : (s : Option Statement) (b : Body) (p : Place) → IsTold (IsPlaced s b) p → IsPlaced s b p
told_placed s b p (at_one q i) = i
told_placed s b p (at_both q r i j) =
    let h = told_placed s b q i in
    record { statement = h.statement; body = h.body ∙ sym (body_of_both crate_end q.around r.around) }

abbrev Inside : Context → Around → Statement → Facts → ℕ → Option Statement → Place → Type 0
Inside c around s k n o p = (HasPlace c p around s k × (begins_at n p.statement ≡ true)) × IsPlaced o around.body p

abbrev There : Context → Around → Block → Facts → ℕ → Option Statement → Place → Type 0
There c around b k n o p = IsAt c around b k n p × IsPlaced o around.body p

mutual
  inside : (c : Context) (around : Around) (s : Statement) (k : Facts) (n : ℕ) (turns : List ℕ) (p : Place) → place_inside c around s k n turns ≡ Ok (Some p)
      → TellsOver (Inside c around s k n (statement_inside s n)) (are_chosen (each_inside n s) turns) p
  inside c around (choose spot test a) k n turns p e =
      let find : Facts → Found = λ t. place_in_block c around a t n turns in
      let o : Option Statement = statement_in a n in
      let s = went_on (split spot test k) (λ arms. if_reached None arms.holds find) p e in
      let arms : Branches = s.0 in
      let r = was_reached arms.holds find p s.2 in
      tells_more (There c around a r.0 n o) (Inside c around (choose spot test a) k n o) (λ q i. (((arms, s.1, (r.0, r.1, i.0.0)), i.0.1), i.1)) (are_chosen (each_around n a) turns) p (block_inside c around a r.0 n turns p r.2)
  inside c around (choose_else spot test a b) k n turns p e =
      let find : Facts → Found = λ t. place_in_block c around a t n turns in
      let other : Facts → Found = λ t. place_in_block c around b t n turns in
      let here : Option Statement → Place → Type 0 = Inside c around (choose_else spot test a b) k n in
      let s = went_on (split spot test k) (λ arms. if holds n a then if_reached None arms.holds find else if_reached None arms.fails other) p e in
      let arms : Branches = s.0 in
      in_either here (holds n a) (if_reached None arms.holds find) (if_reached None arms.fails other) (statement_in a n) (statement_in b n) (each_around n a) (each_around n b) turns p
      (λ f. let r = was_reached arms.holds find p f in
      tells_more (There c around a r.0 n (statement_in a n)) (here (statement_in a n)) (λ q i. (((arms, s.1, inl (r.0, r.1, i.0.0)), i.0.1), i.1)) (are_chosen (each_around n a) turns) p
      (block_inside c around a r.0 n turns p r.2))
      (λ g. let r = was_reached arms.fails other p g in
      tells_more (There c around b r.0 n (statement_in b n)) (here (statement_in b n)) (λ q i. (((arms, s.1, inr (r.0, r.1, i.0.0)), i.0.1), i.1)) (are_chosen (each_around n b) turns) p
      (block_inside c around b r.0 n turns p r.2))
      s.2
  inside c around (locked spot x body) k n turns p e =
      let find : ℕ → Found = λ m. place_in_block c (with_locked m around) body k n turns in
      let o : Option Statement = statement_in body n in
      let s = went_on (lock_rule c around spot x k) find p e in
      tells_more (There c (with_locked s.0 around) body k n o) (Inside c around (locked spot x body) k n o) (λ q i. (((s.0, s.1, i.0.0), i.0.1), i.1)) (are_chosen (each_around n body) turns) p
      (block_inside c (with_locked s.0 around) body k n turns p s.2)
  inside c around (for_ spot x e1 e2 keeps body) k n turns p e =
      let find : Facts → Found = λ t. place_in_block c (with_fixed x around) body t n turns in
      let o : Option Statement = statement_in body n in
      let s = went_on (for_limits around spot x e1 e2 keeps k) (λ l. if_reached None (for_head x l keeps body k) find) p e in
      let l : Limits = s.0 in
      let r = was_reached (for_head x l keeps body k) find p s.2 in
      tells_more (There c (with_fixed x around) body r.0 n o) (Inside c around (for_ spot x e1 e2 keeps body) k n o) (λ q i. (((l, s.1, (r.0, r.1, i.0.0)), i.0.1), i.1)) (are_chosen (each_around n body) turns) p
      (block_inside c (with_fixed x around) body r.0 n turns p r.2)
  inside c around (for_each spot x v last body) k n turns p e =
      let check : Facts → Result Verdict Fault = accept_block c (with_fixed x around) body in
      let find : List ℕ → Facts → Found = λ inner t. place_in_block c (with_fixed x around) body t n inner in
      let o : Option Statement = statement_in body n in
      let here : Place → Type 0 = Inside c around (for_each spot x v last body) k n o in
      let s = went_on (each_begins around spot x v last) (λ count. in_turns count x v check find k turns) p e in
      turns_tell here (are_chosen (each_around n body)) s.0 x v check find k turns p
      (λ inner turn lt t at q i. tells_more (There c (with_fixed x around) body t n o) here (λ r j. (((s.0, s.1, (turn, lt, (t, at, j.0.0))), j.0.1), j.1)) (are_chosen (each_around n body) inner) q
      (block_inside c (with_fixed x around) body t n inner q i))
      s.2
  inside c around (while_ spot test most x keeps body) k n turns p e =
      let find : Facts → Found = λ t. place_in_block c around body t n turns in
      let o : Option Statement = statement_in body n in
      let s = went_on (while_head around.body spot most x keeps body k) (λ top. go_on (split spot test top) (λ arms. if_reached None arms.holds find)) p e in
      let top : Facts = s.0 in
      let q = went_on (split spot test top) (λ arms. if_reached None arms.holds find) p s.2 in
      let arms : Branches = q.0 in
      let r = was_reached arms.holds find p q.2 in
      tells_more (There c around body r.0 n o) (Inside c around (while_ spot test most x keeps body) k n o) (λ j i. (((top, s.1, (arms, q.1, (r.0, r.1, i.0.0))), i.0.1), i.1)) (are_chosen (each_around n body) turns) p
      (block_inside c around body r.0 n turns p r.2)
  inside c around s k n turns p e = absurd (cc)

  block_inside : (c : Context) (around : Around) (b : Block) (k : Facts) (n : ℕ) (turns : List ℕ) (p : Place) → place_in_block c around b k n turns ≡ Ok (Some p)
      → TellsOver (There c around b k n (statement_in b n)) (are_chosen (each_around n b) turns) p
  block_inside c around done k n turns p e = absurd (cc)
  block_inside c around (next s rest) k n turns p e =
      let find : Facts → Found = λ t. place_in_block c around rest t n turns in
      let there : Option Statement → Place → Type 0 = There c around (next s rest) k n in
      let here : Found = if begins_at n s then Ok (Some (place around s k)) else place_inside c around s k n turns in
      let named : Option Statement = if begins_at n s then Some s else statement_inside s n in
      let loops : List EachLoop = if begins_at n s then [] else each_inside n s in
      in_either there (holds_at n s) here (go_on (accept_statement c around s k) (λ v. if_reached None v.after find)) named (statement_in rest n) loops (each_around n rest) turns p
      (by_choice there (begins_at n s) (statement_inside s n) (each_inside n s) turns (place around s k) p (place_inside c around s k n turns)
      (λ begins. ((inl refl, begins), record { statement = refl; body = refl }))
      (λ f. tells_more (Inside c around s k n (statement_inside s n)) (there (statement_inside s n)) (λ q i. ((inr (inl i.0.0), i.0.1), i.1)) (are_chosen (each_inside n s) turns) p (inside c around s k n turns p f)))
      (λ g. let v = went_on (accept_statement c around s k) (λ w. if_reached None w.after find) p g in
      let found : Verdict = v.0 in
      let r = was_reached found.after find p v.2 in
      tells_more (There c around rest r.0 n (statement_in rest n)) (there (statement_in rest n)) (λ q i. ((inr (inr (found, v.1, (r.0, r.1, i.0.0))), i.0.1), i.1)) (are_chosen (each_around n rest) turns) p
      (block_inside c around rest r.0 n turns p r.2))
      e

block_told : (c : Context) (around : Around) (b : Block) (k : Facts) (n : ℕ) (turns : List ℕ) (p : Place) → place_in_block c around b k n turns ≡ Ok (Some p)
    → IsTold (There c around b k n (statement_in b n)) p
block_told c around b k n turns p e = is_told (There c around b k n (statement_in b n)) (are_chosen (each_around n b) turns) p (block_inside c around b k n turns p e)

pub placed_in : (c : Context) (around : Around) (b : Block) (k : Facts) (n : ℕ) (turns : List ℕ) (p : Place) → place_in_block c around b k n turns ≡ Ok (Some p)
    → IsPlaced (statement_in b n) around.body p
placed_in c around b k n turns p e =
    told_placed (statement_in b n) around.body p
    (told_more (There c around b k n (statement_in b n)) (IsPlaced (statement_in b n) around.body) (λ q i. i.1) p (block_told c around b k n turns p e))

pub places_are_found : PlacesAreFound
places_are_found c around block start n turns p are e =
    (subst (λ b. TellsOver (There c around block start n (statement_in block n)) b p) are (block_inside c around block start n turns p e)).0

pub turns_are_told : TurnsAreTold
turns_are_told c around block start n turns told e =
    told_more (There c around block start n (statement_in block n)) (IsAt c around block start n) (λ q i. i.0) told (block_told c around block start n turns told e)
