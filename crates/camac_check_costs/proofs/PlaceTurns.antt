-- What is told over several turns holds in each of them.
use Rattle.std.proofs.Common.{◌≡◌, ◌⊎◌, ℕ, zero, suc, ◌+◌, ◌-◌, ◌<◌, ◌≤◌, Bool, false, List, [], ◌∷◌, length, take, drop, Option, Some, None, Result, Ok, Err, refl, sym, ap, ap₂, ◌∙◌, ⊎_elim, arith, true, ◌++◌, subst}
use Rattle.std.proofs.Math.Bool.{and-false}
use Rattle.std.proofs.lemmas.List.{take_all}
use Rattle.std.proofs.lemmas.Bool.{le-leb, le-ltb, lt-leb, lt-ltb, and_parts, eqb-true, or_cases, ltb-true}
use Rattle.std.specs.Prelude.{◌&&◌, get_or, nat_eq, nat_le, nat_lt, if◌then◌else◌}
use Rattle.camac_lang.specs.Tree.{Statement, for_each, Block, assign, set_register, single, address_scan, q_stop, q_repeat, put, crate_call, lam_call, choose, choose_else, for_, while_, locked, call, done, next}
use Rattle.camac_range.specs.Interval.{only, IsWithin}
use Rattle.camac_range.proofs.Within.{hull_left, hull_right}
use Rattle.camac_check_known.specs.declared.fault.CheckFault.{CheckFault}
use Rattle.camac_check_known.specs.declared.fault.CheckFault.TheVariants.{OutOfMemory, Broken}
use Rattle.camac_check_loops.specs.declared.each.EachHead.{EachHead}
use Rattle.camac_check_simple.specs.Gives.{Fails}
use Rattle.camac_rules.specs.Costs.{Verdict, unreached}
use Rattle.camac_rules.specs.Cycles.{Context, Around, with_locked}
use Rattle.camac_rules.specs.Each.{each_begins}
use Rattle.camac_rules.specs.Fault.{Fault}
use Rattle.camac_rules.specs.Known.{Facts, Known, with_range, Region, range_at, region_at}
use Rattle.camac_rules.specs.Loops.{with_fixed, for_limits, for_head, while_head}
use Rattle.camac_rules.specs.Refusal.{go_on, if_reached}
use Rattle.camac_rules.specs.Statements.{accept_block, accept_statement}
use Rattle.camac_rules.specs.declared.case.Body.{Body}
use Rattle.camac_rules.specs.Addresses.{crate_end, is_among}
use Rattle.camac_rules.specs.Calls.{lock_rule}
use Rattle.camac_rules.specs.Conditions.{Branches, split}
use Rattle.camac_rules.specs.Joined.{join_set}
use Rattle.camac_rules.proofs.Joined.{range_at-hulls, region_at-join}
use Rattle.camac_check_costs.specs.Places.{Place, place, at_turn, told_of_both, left_by, over_turns, in_turns, place_in, place_in_block, begins_at, holds, holds_at, locked_in_both, place_of_both, place_inside, IsSetSo, HoldsAt, IsCovered, TurnsAreCovered}
use Rattle.camac_check_costs.proofs.PlaceLaws.{Found as PlaceFound, IsPlaced, body_of_both, if_so, placed_in, statement_in, was_reached, went_on}

-- What is told over turns, and what is known where one begins, one turn at a time.

abbrev Found : Type 0
Found = Result (Option Place) Fault

-- ---- what a block leaves

abbrev left : Known → Result Known Fault
left o = Ok o

pub known_left : (c : Context) (around : Around) (b : Block) (k : Facts) (v : Verdict) → if_reached unreached (Some k) (accept_block c around b) ≡ Ok v → left (left_by (accept_block c around b k)) ≡ left v.after
unfolding if_reached
known_left c around b k v e = ap (λ r. left (left_by r)) e

pub none_left : (c : Context) (around : Around) (b : Block) (k : Facts) (f : Fault) → if_reached unreached (Some k) (accept_block c around b) ≡ Err f → left (left_by (accept_block c around b k)) ≡ left None
unfolding if_reached
none_left c around b k f e = ap (λ r. left (left_by r)) e

pub left_is : (o p : Known) → ◌≡◌ {A = Result Known Fault} (Ok o) (Ok p) → o ≡ p
left_is o p e = cc

-- ---- turns

pub over_at : (n m x v w : ℕ) (check : Facts → Result Verdict Fault) (find : Facts → Found) (k : Facts) (so_far : Option Place) → n ≡ m → v ≡ w
    → over_turns n x v check find k so_far ≡ over_turns m x w check find k so_far
over_at n m x v w check find k so_far p q = cc

-- so many turns, of which i were told
module _ (n i x v : ℕ) (check : Facts → Result Verdict Fault) (find : Facts → Found) (k : Facts) (so_far : Option Place) where
  abbrev now : Facts
  now = with_range x (only (v + i)) k

  abbrev rest : ℕ → ℕ → Option Place → Found
  rest m w here = if_reached (told_of_both so_far here) (left_by (check now)) (λ q. over_turns m x w check find q (told_of_both so_far here))

  one_more : i < n → over_turns (n - i) x (v + i) check find k so_far ≡ go_on (find now) (rest (n - (i + 1)) (v + i + 1))
  one_more lt = over_at (n - i) (suc (n - (i + 1))) x (v + i) (v + i) check find k so_far (omega arith) refl

  pub turn_told : (here : Option Place) (q : Facts) → i < n → find now ≡ Ok here → left_by (check now) ≡ Some q
      → over_turns (n - (i + 1)) x (v + (i + 1)) check find q (told_of_both so_far here) ≡ over_turns (n - i) x (v + i) check find k so_far
  unfolding go_on if_reached
  turn_told here q lt f l =
      over_at (n - (i + 1)) (n - (i + 1)) x (v + (i + 1)) (v + i + 1) check find q (told_of_both so_far here) refl (omega arith)
      ∙ sym
      (one_more lt ∙ ap (λ r. go_on r (rest (n - (i + 1)) (v + i + 1))) f
      ∙ ap (λ o. if_reached (told_of_both so_far here) o (λ u. over_turns (n - (i + 1)) x (v + i + 1) check find u (told_of_both so_far here))) l)

  pub turn_ends : (here : Option Place) → i < n → find now ≡ Ok here → left_by (check now) ≡ None → over_turns (n - i) x (v + i) check find k so_far ≡ Ok (told_of_both so_far here)
  unfolding go_on if_reached
  turn_ends here lt f l =
      one_more lt ∙ ap (λ r. go_on r (rest (n - (i + 1)) (v + i + 1))) f
      ∙ ap (λ o. if_reached (told_of_both so_far here) o (λ u. over_turns (n - (i + 1)) x (v + i + 1) check find u (told_of_both so_far here))) l

  pub turn_fails : (e : CheckFault) → i < n → Fails e (find now) → Fails e (over_turns (n - i) x (v + i) check find k so_far)
  unfolding go_on
  turn_fails OutOfMemory lt f = tt
  turn_fails (Broken rule spot case) lt f = one_more lt ∙ ap (λ r. go_on r (rest (n - (i + 1)) (v + i + 1))) f

  pub no_turn : n ≤ i → over_turns (n - i) x (v + i) check find k so_far ≡ Ok so_far
  no_turn le = over_at (n - i) zero x (v + i) (v + i) check find k so_far (omega arith) refl

-- before the turn that is chosen
module _ (w x v : ℕ) (check : Facts → Result Verdict Fault) (k here : Facts) (t : Verdict) (lt : v < w) (moved : here ≡ with_range x (only v) k) (is : if_reached unreached (Some here) check ≡ Ok t) where
  judged : check (with_range x (only v) k) ≡ Ok t
  unfolding if_reached
  judged = ap check (sym moved) ∙ is

  one_before : at_turn check x v (w - v) k ≡ go_on (check (with_range x (only v) k)) (λ u. if_reached None u.after (at_turn check x (v + 1) (w - (v + 1))))
  one_before =
      let n : w - v ≡ suc (w - (v + 1)) = omega arith in
      ap (λ i. at_turn check x v i k) n

  pub turn_passed : (q : Facts) → t.after ≡ Some q → at_turn check x (v + 1) (w - (v + 1)) q ≡ at_turn check x v (w - v) k
  unfolding go_on if_reached
  turn_passed q after =
      sym
      (one_before ∙ ap (λ r. go_on r (λ u. if_reached None u.after (at_turn check x (v + 1) (w - (v + 1))))) judged
      ∙ ap (λ o. if_reached None o (at_turn check x (v + 1) (w - (v + 1)))) after)

  pub never_passed : t.after ≡ None → at_turn check x v (w - v) k ≡ Ok None
  unfolding go_on if_reached
  never_passed after =
      one_before ∙ ap (λ r. go_on r (λ u. if_reached None u.after (at_turn check x (v + 1) (w - (v + 1))))) judged
      ∙ ap (λ o. if_reached None o (at_turn check x (v + 1) (w - (v + 1)))) after

-- the numbers that are chosen
pub first_and_rest : (ts : List ℕ) → 1 ≤ length ts → ts ≡ get_or ts 0 0 ∷ take (length ts - 1) (drop 1 ts)
first_and_rest [] some = absurd (omega (arith, some))
first_and_rest (t ∷ ts) some =
    let fits : length ts ≤ length (t ∷ ts) - 1 = omega arith in
    ap (λ us. t ∷ us) (sym (take_all (length (t ∷ ts) - 1) ts fits))

-- ---- an `each`

-- of a statement inside
module _ (c : Context) (around : Around) (head : EachHead) (body : Block) (k : Facts) (left turns : ℕ) (inside : nat_eq head.spot.left left ≡ false)
    (begins : each_begins around head.spot head.variable head.first head.last ≡ Ok turns) where
  abbrev statement : Statement
  statement = for_each head.spot head.variable head.first head.last body

  abbrev of_each : List ℕ → Found
  of_each chosen = place_in c around statement k left chosen

  abbrev found_in : (chosen : List ℕ) → Facts → Found
  found_in chosen t = place_in_block c (with_fixed head.variable around) body t left chosen

  abbrev judged_in : Facts → Result Verdict Fault
  judged_in = accept_block c (with_fixed head.variable around) body

  abbrev turned : List ℕ → Result ℕ Fault → Found
  turned chosen r = go_on r (λ m. in_turns m head.variable head.first judged_in found_in k chosen)

  begun : (chosen : List ℕ) → of_each chosen ≡ in_turns turns head.variable head.first judged_in found_in k chosen
  unfolding go_on
  begun chosen =
      ap (λ b. if b then Ok (Some (place around statement k)) else turned chosen (each_begins around head.spot head.variable head.first head.last)) inside
      ∙ ap (turned chosen) begins

  pub over_all : of_each [] ≡ over_turns turns head.variable head.first judged_in (found_in []) k None
  over_all = begun []

  -- where a number is chosen, before others
  module _ (value : ℕ) (inner : List ℕ) where
    abbrev known_there : Result Known Fault
    known_there = at_turn judged_in head.variable head.first (value - head.first) k

    abbrev if_a_turn : Bool → Found
    if_a_turn b = if b then go_on known_there (λ o. if_reached None o (found_in inner)) else Ok None

    pub no_such_turn : (value < head.first) ⊎ (turns ≤ value - head.first) → of_each (value ∷ inner) ≡ Ok None
    no_such_turn outside =
        let none : (nat_le head.first value && nat_lt (value - head.first) turns) ≡ false =
        ⊎_elim (λ below. ap (λ b. b && nat_lt (value - head.first) turns) (lt-leb head.first value below))
        (λ past. ap (λ b. nat_le head.first value && b) (le-ltb (value - head.first) turns past) ∙ and-false (nat_le head.first value)) outside in
        begun (value ∷ inner) ∙ ap if_a_turn none

    pub in_that_turn : (o : Known) → head.first ≤ value → value - head.first < turns → known_there ≡ Ok o → of_each (value ∷ inner) ≡ if_reached None o (found_in inner)
    unfolding go_on
    in_that_turn o le lt known =
        begun (value ∷ inner) ∙ ap if_a_turn (ap₂ ◌&&◌ (le-leb head.first value le) (lt-ltb (value - head.first) turns lt))
        ∙ ap (λ r. go_on r (λ o. if_reached None o (found_in inner))) known

    pub fails_before : (e : CheckFault) → head.first ≤ value → value - head.first < turns → Fails e known_there → Fails e (of_each (value ∷ inner))
    unfolding go_on
    fails_before OutOfMemory le lt f = tt
    fails_before (Broken rule spot case) le lt f =
        begun (value ∷ inner) ∙ ap if_a_turn (ap₂ ◌&&◌ (le-leb head.first value le) (lt-ltb (value - head.first) turns lt))
        ∙ ap (λ r. go_on r (λ o. if_reached None o (found_in inner))) f

-- What is told over several turns holds in each of them.

-- ---- of two places

set_left : (g h o : Option Region) → IsSetSo g o → IsSetSo (join_set g h) o
set_left None h o i = tt
set_left (Some g) None o i = tt
set_left (Some g) (Some h) None i = i
set_left (Some g) (Some h) (Some o) i = record {
  crates = λ v w. hull_left g.crates h.crates v (i.crates v w);
  stations = λ v w. hull_left g.stations h.stations v (i.stations v w);
  sub_addresses = λ v w. hull_left g.sub_addresses h.sub_addresses v (i.sub_addresses v w);
}

set_right : (g h o : Option Region) → IsSetSo h o → IsSetSo (join_set g h) o
set_right None h o i = tt
set_right (Some g) None o i = tt
set_right (Some g) (Some h) None i = i
set_right (Some g) (Some h) (Some o) i = record {
  crates = λ v w. hull_right g.crates h.crates v (i.crates v w);
  stations = λ v w. hull_right g.stations h.stations v (i.stations v w);
  sub_addresses = λ v w. hull_right g.sub_addresses h.sub_addresses v (i.sub_addresses v w);
}

-- a crate that is added is one of these
added : (P : ℕ → Type 0) (t : Bool) (c d : ℕ) (a : Around) → (t ≡ true → P c) → (is_among d a.locked ≡ true → P d) → is_among d (if t then with_locked c a else a).locked ≡ true → P d
added P true c d a new old e = ⊎_elim (λ h. subst P (sym (eqb-true d c h)) (new refl)) old (or_cases (nat_eq d c) (is_among d a.locked) e)
added P false c d a new old e = old e

in_first : (n : ℕ) (a b : Around) (d : ℕ) → is_among d (locked_in_both n a b).locked ≡ true → is_among d a.locked ≡ true
in_first zero a b d e = absurd (cc)
in_first (suc c) a b d e =
    added (λ m. is_among m a.locked ≡ true) (is_among c a.locked && is_among c b.locked) c d (locked_in_both c a b)
    (λ t. (and_parts (is_among c a.locked) (is_among c b.locked) t).0) (in_first c a b d) e

in_second : (n : ℕ) (a b : Around) (d : ℕ) → is_among d (locked_in_both n a b).locked ≡ true → is_among d b.locked ≡ true
in_second zero a b d e = absurd (cc)
in_second (suc c) a b d e =
    added (λ m. is_among m b.locked ≡ true) (is_among c a.locked && is_among c b.locked) c d (locked_in_both c a b)
    (λ t. (and_parts (is_among c a.locked) (is_among c b.locked) t).1) (in_second c a b d) e

holds_left : (p a b : Place) → HoldsAt p a → HoldsAt p (place_of_both a b)
holds_left p a b h = record {
  statement = h.statement;
  body = h.body ∙ sym (body_of_both crate_end a.around b.around);
  ranges = λ x v w. subst (λ r. IsWithin r v) (sym (range_at-hulls a.known.ranges b.known.ranges x)) (hull_left (range_at a.known.ranges x) (range_at b.known.ranges x) v (h.ranges x v w));
  registers = λ r. subst (λ g. IsSetSo g (region_at p.known.registers r)) (sym (region_at-join a.known.registers b.known.registers r))
      (set_left (region_at a.known.registers r) (region_at b.known.registers r) (region_at p.known.registers r) (h.registers r));
  locked = λ d e. h.locked d (in_first crate_end a.around b.around d e);
}

-- of one statement in one body
record IsSame (a b : Place) : Type 0 where
  statement : b.statement ≡ a.statement
  body : b.around.body ≡ a.around.body

holds_right : (p a b : Place) → IsSame a b → HoldsAt p b → HoldsAt p (place_of_both a b)
holds_right p a b s h = record {
  statement = h.statement ∙ s.statement;
  body = h.body ∙ s.body ∙ sym (body_of_both crate_end a.around b.around);
  ranges = λ x v w. subst (λ r. IsWithin r v) (sym (range_at-hulls a.known.ranges b.known.ranges x)) (hull_right (range_at a.known.ranges x) (range_at b.known.ranges x) v (h.ranges x v w));
  registers = λ r. subst (λ g. IsSetSo g (region_at p.known.registers r)) (sym (region_at-join a.known.registers b.known.registers r))
      (set_right (region_at a.known.registers r) (region_at b.known.registers r) (region_at p.known.registers r) (h.registers r));
  locked = λ d e. h.locked d (in_second crate_end a.around b.around d e);
}

set_itself : (o : Option Region) → IsSetSo o o
set_itself None = tt
set_itself (Some g) = record { crates = λ v w. w; stations = λ v w. w; sub_addresses = λ v w. w }

itself : (p : Place) → HoldsAt p p
itself p = record { statement = refl; body = refl; ranges = λ x v w. w; registers = λ r. set_itself (region_at p.known.registers r); locked = λ d e. e }

-- ---- over turns

pub covers_itself : (f : PlaceFound) (p : Place) → f ≡ Ok (Some p) → IsCovered p f
covers_itself f p e = subst (IsCovered p) (sym e) (itself p)

abbrev IfNumbered : Option Statement → Body → Option Place → Type 0
IfNumbered s b None = Unit {0}
IfNumbered s b (Some p) = IsPlaced s b p

abbrev IfHeld : Place → Option Place → Type 0
IfHeld p None = ⊥
IfHeld p (Some told) = HoldsAt p told

same_of : (s : Option Statement) (b : Body) (p q : Place) → IsPlaced s b p → IsPlaced s b q → IsSame p q
same_of s b p q i j = record {
  statement = let both : ◌≡◌ {A = Option Statement} (Some q.statement) (Some p.statement) = sym j.statement ∙ i.statement in cc;
  body = sym j.body ∙ i.body;
}

both_placed : (s : Option Statement) (b : Body) (p q : Option Place) → IfNumbered s b p → IfNumbered s b q → IfNumbered s b (told_of_both p q)
both_placed s b None q i j = j
both_placed s b (Some p) None i j = i
both_placed s b (Some p) (Some q) i j = record { statement = i.statement; body = i.body ∙ sym (body_of_both crate_end p.around q.around) }

held_before : (p : Place) (a b : Option Place) → IfHeld p a → IfHeld p (told_of_both a b)
held_before p None b h = absurd h
held_before p (Some a) None h = h
held_before p (Some a) (Some b) h = holds_left p a b h

held_now : (s : Option Statement) (w : Body) (p : Place) (a b : Option Place) → IfNumbered s w a → IfNumbered s w b → IfHeld p b → IfHeld p (told_of_both a b)
held_now s w p None b i j h = h
held_now s w p (Some a) None i j h = absurd h
held_now s w p (Some a) (Some b) i j h = holds_right p a b (same_of s w a b i j) h

covered_by : (p : Place) (o : Option Place) → IfHeld p o → IsCovered p (Ok o)
covered_by p None h = h
covered_by p (Some told) h = h

-- a turn that is judged, and those behind it
goes_on : (p : Place) (f : PlaceFound) (g : Option Place → PlaceFound) → ((o : Option Place) → f ≡ Ok o → IsCovered p (g o)) → IsCovered p (go_on f g)
unfolding go_on
goes_on p (Ok o) g h = h o refl
goes_on p (Err e) g h = tt

goes_behind : (p : Place) (w : Option Place) (o : Known) (g : Facts → PlaceFound) → IfHeld p w → ((q : Facts) → IsCovered p (g q)) → IsCovered p (if_reached w o g)
unfolding if_reached
goes_behind p w None g h more = covered_by p w h
goes_behind p w (Some q) g h more = more q

placed_by : (s : Option Statement) (b : Body) (f : PlaceFound) → ((q : Place) → f ≡ Ok (Some q) → IsPlaced s b q) → (o : Option Place) → f ≡ Ok o → IfNumbered s b o
placed_by s b f each None e = tt
placed_by s b f each (Some q) e = each q e

-- what holds of what is told so far holds to the end
stays : (p : Place) (count x v : ℕ) (check : Facts → Result Verdict Fault) (find : Facts → PlaceFound) (k : Facts) (so_far : Option Place) → IfHeld p so_far → IsCovered p (over_turns count x v check find k so_far)
stays p zero x v check find k so_far h = covered_by p so_far h
stays p (suc n) x v check find k so_far h =
    goes_on p (find (with_range x (only v) k)) _ (λ here e.
    goes_behind p (told_of_both so_far here) (left_by (check (with_range x (only v) k))) _ (held_before p so_far here h)
    (λ q. stays p n x (v + 1) check find q (told_of_both so_far here) (held_before p so_far here h)))

held_of : (p : Place) (f : PlaceFound) (o : Option Place) → f ≡ Ok o → IsCovered p f → IfHeld p o
held_of p f None e h = subst (IsCovered p) e h
held_of p f (Some told) e h = subst (IsCovered p) e h

-- the turn before comes to this one
came : (check : Facts → Result Verdict Fault) (x v turn : ℕ) (k t : Facts) → at_turn check x v (suc turn) k ≡ Ok (Some t)
    → (q : Facts) × (left_by (check (with_range x (only v) k)) ≡ Some q) × (at_turn check x (v + 1) turn q ≡ Ok (Some t))
unfolding go_on if_reached
came check x v turn k t e = go (check (with_range x (only v) k)) e
  where
    reached : (o : Known) → if_reached None o (at_turn check x (v + 1) turn) ≡ Ok (Some t) → (q : Facts) × (o ≡ Some q) × (at_turn check x (v + 1) turn q ≡ Ok (Some t))
    reached None h = absurd (let bad : ◌≡◌ {A = Result Known Fault} (Ok None) (Ok (Some t)) = h in cc)
    reached (Some q) h = (q, refl, h)

    go : (r : Result Verdict Fault) → go_on r (λ w. if_reached None w.after (at_turn check x (v + 1) turn)) ≡ Ok (Some t)
        → (q : Facts) × (left_by r ≡ Some q) × (at_turn check x (v + 1) turn q ≡ Ok (Some t))
    go (Ok w) h = reached w.after h
    go (Err f) h = absurd (let bad : ◌≡◌ {A = Result Known Fault} (Err f) (Ok (Some t)) = h in cc)

-- what is told over all turns holds in this one
pub turn_covered : (s : Option Statement) (b : Body) (p : Place) (count x v : ℕ) (check : Facts → Result Verdict Fault) (find : Facts → PlaceFound) (k : Facts) (so_far : Option Place)
    → ((t : Facts) (q : Place) → find t ≡ Ok (Some q) → IsPlaced s b q) → IfNumbered s b so_far
    → (turn : ℕ) → turn < count → (t : Facts) → at_turn check x v turn k ≡ Ok (Some t) → IsCovered p (find t) → IsCovered p (over_turns count x v check find k so_far)
unfolding if_reached
turn_covered s b p zero x v check find k so_far each i turn lt t at h = absurd (omega arith)
turn_covered s b p (suc n) x v check find k so_far each i zero lt t at h =
    let now : Facts = with_range x (only v) k in
    let same : t ≡ now = cc in
    goes_on p (find now) _ (λ here e.
    let held = held_now s b p so_far here i (placed_by s b (find now) (each now) here e) (held_of p (find now) here e (subst (λ u. IsCovered p (find u)) same h)) in
    goes_behind p (told_of_both so_far here) (left_by (check now)) _ held
    (λ q. stays p n x (v + 1) check find q (told_of_both so_far here) held))
turn_covered s b p (suc n) x v check find k so_far each i (suc turn) lt t at h =
    let now : Facts = with_range x (only v) k in
    let q = came check x v turn k t at in
    goes_on p (find now) _ (λ here e.
    subst (λ o. IsCovered p (if_reached (told_of_both so_far here) o (λ r. over_turns n x (v + 1) check find r (told_of_both so_far here)))) (sym q.1)
    (turn_covered s b p n x (v + 1) check find q.0 (told_of_both so_far here) each
    (both_placed s b so_far here i (placed_by s b (find now) (each now) here e)) turn (omega arith) t q.2 h))

-- ---- places

covers_here : (b : Bool) (here p : Place) (f g : PlaceFound) → (g ≡ Ok (Some p) → IsCovered p f) → (if b then Ok (Some here) else g) ≡ Ok (Some p) → IsCovered p (if b then Ok (Some here) else f)
covers_here true here p f g h e = covers_itself (Ok (Some here)) p e
covers_here false here p f g h e = h e

in_either : (b : Bool) (p : Place) (first first' other other' : PlaceFound) → (first' ≡ Ok (Some p) → IsCovered p first) → (other' ≡ Ok (Some p) → IsCovered p other)
    → (if b then first' else other') ≡ Ok (Some p) → IsCovered p (if b then first else other)
in_either true p first first' other other' h g e = h e
in_either false p first first' other other' h g e = g e

covers_step : {A : Type 0} (r : Result A Fault) (p : Place) (f g : A → PlaceFound) → ((y : A) → g y ≡ Ok (Some p) → IsCovered p (f y)) → go_on r g ≡ Ok (Some p) → IsCovered p (go_on r f)
unfolding go_on
covers_step (Ok y) p f g h e = h y e
covers_step (Err fault) p f g h e = tt

covers_reached : (o : Known) (p : Place) (f g : Facts → PlaceFound) → ((t : Facts) → g t ≡ Ok (Some p) → IsCovered p (f t)) → if_reached None o g ≡ Ok (Some p) → IsCovered p (if_reached None o f)
unfolding if_reached
covers_reached None p f g h e = absurd (cc)
covers_reached (Some t) p f g h e = h t e

if_same : (b : Bool) (p : Place) (f g : PlaceFound) → (g ≡ Ok (Some p) → IsCovered p f) → (if b then g else Ok None) ≡ Ok (Some p) → IsCovered p (if b then f else Ok None)
if_same true p f g h e = h e
if_same false p f g h e = absurd (cc)

turns_covered : (s : Option Statement) (b : Body) (p : Place) (count x v : ℕ) (check : Facts → Result Verdict Fault) (find : List ℕ → Facts → PlaceFound) (k : Facts) (turns inner : List ℕ)
    → ((t : Facts) (q : Place) → find [] t ≡ Ok (Some q) → IsPlaced s b q) → ((us vs : List ℕ) (t : Facts) → find (us ++ vs) t ≡ Ok (Some p) → IsCovered p (find us t))
    → in_turns count x v check find k (turns ++ inner) ≡ Ok (Some p) → IsCovered p (in_turns count x v check find k turns)
turns_covered s b p count x v check find k (value ∷ us) inner each covers e =
    let turn : ℕ = value - v in
    if_same (nat_le v value && nat_lt turn count) p (go_on (at_turn check x v turn k) (λ o. if_reached None o (find us))) (go_on (at_turn check x v turn k) (λ o. if_reached None o (find (us ++ inner))))
    (covers_step (at_turn check x v turn k) p (λ o. if_reached None o (find us)) (λ o. if_reached None o (find (us ++ inner)))
    (λ o. covers_reached o p (find us) (find (us ++ inner)) (covers us inner))) e
turns_covered s b p count x v check find k [] [] each covers e = covers_itself (over_turns count x v check (find []) k None) p e
turns_covered s b p count x v check find k [] (value ∷ inner) each covers e =
    let turn : ℕ = value - v in
    let h = if_so (nat_le v value && nat_lt turn count) (go_on (at_turn check x v turn k) (λ o. if_reached None o (find inner))) p e in
    let o = went_on (at_turn check x v turn k) (λ o. if_reached None o (find inner)) p h.1 in
    let known : Known = o.0 in
    let t = was_reached known (find inner) p o.2 in
    turn_covered s b p count x v check (find []) k None each tt turn (ltb-true turn count (and_parts (nat_le v value) (nat_lt turn count) h.0).1) t.0 (o.1 ∙ ap Ok t.1) (covers [] inner t.0 t.2)

mutual
  covered : (c : Context) (around : Around) (s : Statement) (k : Facts) (n : ℕ) (turns inner : List ℕ) (p : Place) → place_inside c around s k n (turns ++ inner) ≡ Ok (Some p)
      → IsCovered p (place_inside c around s k n turns)
  covered c around (choose spot test a) k n turns inner p e =
      let find : List ℕ → Facts → PlaceFound = λ ts t. place_in_block c around a t n ts in
      covers_step (split spot test k) p (λ arms. if_reached None arms.holds (find turns)) (λ arms. if_reached None arms.holds (find (turns ++ inner))) (λ arms.
      covers_reached arms.holds p (find turns) (find (turns ++ inner)) (λ t. block_covered c around a t n turns inner p))
      e
  covered c around (choose_else spot test a b) k n turns inner p e =
      let find : List ℕ → Facts → PlaceFound = λ ts t. place_in_block c around a t n ts in
      let other : List ℕ → Facts → PlaceFound = λ ts t. place_in_block c around b t n ts in
      let of_arms : List ℕ → Branches → PlaceFound = λ ts arms. if holds n a then if_reached None arms.holds (find ts) else if_reached None arms.fails (other ts) in
      covers_step (split spot test k) p (of_arms turns) (of_arms (turns ++ inner)) (λ arms.
      in_either (holds n a) p (if_reached None arms.holds (find turns)) (if_reached None arms.holds (find (turns ++ inner)))
      (if_reached None arms.fails (other turns)) (if_reached None arms.fails (other (turns ++ inner)))
      (covers_reached arms.holds p (find turns) (find (turns ++ inner)) (λ t. block_covered c around a t n turns inner p))
      (covers_reached arms.fails p (other turns) (other (turns ++ inner)) (λ t. block_covered c around b t n turns inner p)))
      e
  covered c around (locked spot x body) k n turns inner p e =
      let find : List ℕ → ℕ → PlaceFound = λ ts i. place_in_block c (with_locked i around) body k n ts in
      covers_step (lock_rule c around spot x k) p (find turns) (find (turns ++ inner)) (λ i. block_covered c (with_locked i around) body k n turns inner p)
      e
  covered c around (for_ spot x e1 e2 keeps body) k n turns inner p e =
      let find : List ℕ → Facts → PlaceFound = λ ts t. place_in_block c (with_fixed x around) body t n ts in
      covers_step (for_limits around spot x e1 e2 keeps k) p (λ l. if_reached None (for_head x l keeps body k) (find turns))
      (λ l. if_reached None (for_head x l keeps body k) (find (turns ++ inner))) (λ l.
      covers_reached (for_head x l keeps body k) p (find turns) (find (turns ++ inner)) (λ t. block_covered c (with_fixed x around) body t n turns inner p))
      e
  covered c around (for_each spot x v last body) k n turns inner p e =
      let check : Facts → Result Verdict Fault = accept_block c (with_fixed x around) body in
      let find : List ℕ → Facts → PlaceFound = λ ts t. place_in_block c (with_fixed x around) body t n ts in
      covers_step (each_begins around spot x v last) p (λ count. in_turns count x v check find k turns) (λ count. in_turns count x v check find k (turns ++ inner)) (λ count.
      turns_covered (statement_in body n) around.body p count x v check find k turns inner (λ t q. placed_in c (with_fixed x around) body t n [] q)
      (λ us vs t. block_covered c (with_fixed x around) body t n us vs p))
      e
  covered c around (while_ spot test most x keeps body) k n turns inner p e =
      let find : List ℕ → Facts → PlaceFound = λ ts t. place_in_block c around body t n ts in
      let of_top : List ℕ → Facts → PlaceFound = λ ts top. go_on (split spot test top) (λ arms. if_reached None arms.holds (find ts)) in
      covers_step (while_head around.body spot most x keeps body k) p (of_top turns) (of_top (turns ++ inner)) (λ top.
      covers_step (split spot test top) p (λ arms. if_reached None arms.holds (find turns)) (λ arms. if_reached None arms.holds (find (turns ++ inner))) (λ arms.
      covers_reached arms.holds p (find turns) (find (turns ++ inner)) (λ t. block_covered c around body t n turns inner p)))
      e
  covered c around (assign spot x v) k n turns inner p e = absurd (cc)
  covered c around (set_register spot r e1 e2 e3) k n turns inner p e = absurd (cc)
  covered c around (single spot size f r move) k n turns inner p e = absurd (cc)
  covered c around (address_scan spot f r1 r2 max x) k n turns inner p e = absurd (cc)
  covered c around (q_stop spot f r t max x) k n turns inner p e = absurd (cc)
  covered c around (q_repeat spot f r t max limit x) k n turns inner p e = absurd (cc)
  covered c around (put spot v) k n turns inner p e = absurd (cc)
  covered c around (crate_call spot which v) k n turns inner p e = absurd (cc)
  covered c around (lam_call spot which l) k n turns inner p e = absurd (cc)
  covered c around (call spot q es) k n turns inner p e = absurd (cc)

  block_covered : (c : Context) (around : Around) (b : Block) (k : Facts) (n : ℕ) (turns inner : List ℕ) (p : Place) → place_in_block c around b k n (turns ++ inner) ≡ Ok (Some p)
      → IsCovered p (place_in_block c around b k n turns)
  block_covered c around done k n turns inner p e = absurd (cc)
  block_covered c around (next s rest) k n turns inner p e =
      let find : List ℕ → Facts → PlaceFound = λ ts t. place_in_block c around rest t n ts in
      let here : List ℕ → PlaceFound = λ ts. if begins_at n s then Ok (Some (place around s k)) else place_inside c around s k n ts in
      let behind : List ℕ → PlaceFound = λ ts. go_on (accept_statement c around s k) (λ v. if_reached None v.after (find ts)) in
      in_either (holds_at n s) p (here turns) (here (turns ++ inner)) (behind turns) (behind (turns ++ inner))
      (covers_here (begins_at n s) (place around s k) p (place_inside c around s k n turns) (place_inside c around s k n (turns ++ inner)) (covered c around s k n turns inner p))
      (covers_step (accept_statement c around s k) p (λ v. if_reached None v.after (find turns)) (λ v. if_reached None v.after (find (turns ++ inner))) (λ v.
      covers_reached v.after p (find turns) (find (turns ++ inner)) (λ t. block_covered c around rest t n turns inner p)))
      e

pub turns_are_covered : TurnsAreCovered
turns_are_covered c around block start n turns inner p e = block_covered c around block start n turns inner p e
