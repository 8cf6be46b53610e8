-- Where a script is refused.
use Rattle.std.proofs.Common.{◌≡◌, ℕ, ◌<◌, Bool, true, false, List, [], ◌∷◌, Option, Some, None, Result, Ok, Err, refl, sym, ap, ◌∙◌, subst, arith, ◌⊎◌, inl, inr, ⊎_elim, zero, suc, ◌+◌}
use Rattle.std.specs.Prelude.{nat_le, slice_get}
use Rattle.std.proofs.lemmas.Bool.{leb-false}
use Rattle.camac_lang.specs.Tree.{Expression, number, variable, group, add, subtract, multiply, divide, remainder, Test, flag_q, flag_x, compare, Part, plain, negated, Condition, Move, no_data, into, from, Keep, Statement, assign, set_register, single, address_scan, q_stop, q_repeat, put, crate_call, lam_call, choose, choose_else, for_, for_each, while_, locked, call, Block, done, next, spot_of}
use Rattle.camac_lang.specs.declared.word.WordSize.{WordSize}
use Rattle.camac_branch.specs.Plan.{Layout}
use Rattle.camac_model.specs.Fine.{Bounds}
use Rattle.camac_rules.specs.declared.case.Case.{Case}
use Rattle.camac_rules.specs.declared.rule.CheckRule.{CheckRule}
use Rattle.camac_rules.specs.declared.rule.CheckRule.TheVariants.{TooManyWords, TooManyCycles, TooManySteps, KeepFailsAfterTurn}
use Rattle.camac_rules.specs.Accept.{Section, of_procedure, of_service, at_start, accept_procedure, accept_service, with_procedure, accept_sections}
use Rattle.camac_rules.specs.Addresses.{command_widths}
use Rattle.camac_rules.specs.Calls.{lam_region, lock_rule}
use Rattle.camac_rules.specs.Cases.{budget}
use Rattle.camac_rules.specs.Conditions.{Branches, branches, split_test, split_part, split}
use Rattle.camac_rules.specs.Costs.{Verdict, unreached}
use Rattle.camac_rules.specs.Cycles.{Context, Around, with_locked, alone_in, single_rule}
use Rattle.camac_rules.specs.Each.{each_begins, each_from, each_turns}
use Rattle.camac_rules.specs.EachLimit.{count_block}
use Rattle.camac_rules.specs.Expressions.{range_of}
use Rattle.camac_rules.specs.Fault.{Fault, broken}
use Rattle.camac_rules.specs.Known.{Region, Facts, region_at, Known, with_range}
use Rattle.camac_rules.specs.Loops.{Limits, with_fixed, keeps_hold_after, unkept_after, for_limits, for_head, while_head}
use Rattle.camac_rules.specs.Procedures.{ranges_of, within}
use Rattle.camac_rules.specs.Refusal.{go_on, ◌>>=◌, ◌>>◌, required, given, if_reached}
use Rattle.camac_rules.specs.Statements.{accept_statement, accept_block}
use Rattle.camac_rules.specs.Transfers.{block_region}
use Rattle.camac_rules.specs.Writes.{fall_of}
use Rattle.camac_laws.specs.ShownAddresses.{Place, place, HasPlace, BlockHasPlace, at_turn}
use Rattle.camac_laws.specs.Refused.{named, body_of, start_of, heading_spot, heading_of, found_in, accept_section, number_of, HeadingsAreShown, IsOverLimit, IsAccepted, IsRefusedInside, IsRefusedByHeading, ComesTo, RefusedAtPlaces}
use Rattle.camac_laws.proofs.ShownTurns.{over_limit}
use Rattle.camac_laws.proofs.Steps.{go_err, required_err, reached_err, reached_is, go_ok, go_is}
use Rattle.camac_lang.specs.declared.spot.Spot.{Spot}
use Rattle.camac_range.specs.Interval.{only}
use Rattle.camac_check_costs.proofs.PlaceLaws.{next_turn}

-- The turns of an `each`, from what is found of the whole.

-- a turn that is reached, of which this holds
abbrev pub IsTurn : (turns which value : ℕ) → (Facts → Result Verdict Fault) → Facts → (Facts → Type 0) → Type 0
IsTurn n x v check k P = (turn : ℕ) × (turn < n) × ((t : Facts) × (at_turn check x v turn k ≡ Ok (Some t)) × P t)

one_more : (n x v : ℕ) (check : Facts → Result Verdict Fault) (k q : Facts) (left : Verdict) (P : Facts → Type 0) → check (with_range x (only v) k) ≡ Ok left → left.after ≡ Some q
    → IsTurn n x (v + 1) check q P → IsTurn (suc n) x v check k P
one_more n x v check k q left P e after h = (suc h.0, omega (arith, h.1), (h.2.0, next_turn check x v h.0 k q left e after ∙ h.2.1, h.2.2))

turns_refused : (limit : Bounds → Bounds) (n x v last : ℕ) (check : Facts → Result Verdict Fault) (k : Facts) (fault : Fault) → each_turns limit n x v last check k ≡ Err fault
    → IsTurn n x v check k (λ t. check t ≡ Err fault)
turns_refused limit zero x v last check k fault e = absurd (cc)
turns_refused limit (suc n) x v last check k fault e =
    ⊎_elim
    (λ h. (0, omega arith, (with_range x (only v) k, refl, h)))
    (λ turn. ⊎_elim
    (λ h. let q = reached_err unreached turn.0.after (each_turns limit n x (v + 1) last check) fault h in
    one_more n x v check k q.0 turn.0 (λ t. check t ≡ Err fault) turn.1 q.1 (turns_refused limit n x (v + 1) last check q.0 fault q.2))
    (λ rest. absurd (let bad = rest.2 in cc))
    (go_err (if_reached unreached turn.0.after (each_turns limit n x (v + 1) last check)) _ fault turn.2))
    (go_err (check (with_range x (only v) k)) _ fault e)

-- the refusal of all is that of a turn
pub each_refused : (limit : Bounds → Bounds) (n x v last : ℕ) (check : Facts → Result Verdict Fault) (k : Facts) (fault : Fault) → each_from limit n x v last check k ≡ Err fault
    → IsTurn n x v check k (λ t. check t ≡ Err fault)
each_refused limit zero x v last check k fault e = absurd (cc)
each_refused limit (suc n) x v last check k fault e = turns_refused limit (suc n) x v last check k fault e

-- behind a turn
behind : (o : Known) (check : Facts → Result Verdict Fault) (w : Verdict) (q : Facts) → if_reached unreached o check ≡ Ok w → o ≡ Some q → check q ≡ Ok w
unfolding if_reached
behind o check w q e is = ap (λ p. if_reached unreached p check) (sym is) ∙ e

next_known : (o : Known) (rest : Facts → Result Known Fault) (t : Facts) → if_reached None o rest ≡ Ok (Some t) → (q : Facts) × (o ≡ Some q) × (rest q ≡ Ok (Some t))
unfolding if_reached
next_known None rest t e = absurd (let bad : ◌≡◌ {A = Result Known Fault} (Ok None) (Ok (Some t)) = e in cc)
next_known (Some q) rest t e = (q, refl, e)

turns_accepted : (limit : Bounds → Bounds) (n x v last : ℕ) (check : Facts → Result Verdict Fault) (k : Facts) (w : Verdict) → each_turns limit n x v last check k ≡ Ok w
    → (turn : ℕ) → turn < n → (t : Facts) → at_turn check x v turn k ≡ Ok (Some t) → (u : Verdict) × (check t ≡ Ok u)
turns_accepted limit zero x v last check k w e turn lt t at = absurd (omega arith)
turns_accepted limit (suc n) x v last check k w e zero lt t at =
    let first = go_ok (check (with_range x (only v) k)) _ w e in
    let same : with_range x (only v) k ≡ t = cc in
    (first.0, ap check (sym same) ∙ first.1)
turns_accepted limit (suc n) x v last check k w e (suc turn) lt t at =
    let first = go_ok (check (with_range x (only v) k)) _ w e in
    let rest = go_ok (if_reached unreached first.0.after (each_turns limit n x (v + 1) last check)) _ w first.2 in
    let again = go_ok (check (with_range x (only v) k)) (λ (turn_left : Verdict). if_reached None turn_left.after (at_turn check x (v + 1) turn)) (Some t) at in
    let q = next_known again.0.after (at_turn check x (v + 1) turn) t again.2 in
    let same : ◌≡◌ {A = Result Verdict Fault} (Ok first.0) (Ok again.0) = sym first.1 ∙ again.1 in
    let one : first.0 ≡ again.0 = cc in
    turns_accepted limit n x (v + 1) last check q.0 rest.0
    (behind first.0.after (each_turns limit n x (v + 1) last check) rest.0 q.0 rest.1 (ap (λ (u : Verdict). u.after) one ∙ q.1)) turn (omega arith) t q.2

-- where all are accepted, each turn that is reached is
pub each_accepted : (limit : Bounds → Bounds) (n x v last : ℕ) (check : Facts → Result Verdict Fault) (k : Facts) (w : Verdict) → each_from limit n x v last check k ≡ Ok w
    → (turn : ℕ) → turn < n → (t : Facts) → at_turn check x v turn k ≡ Ok (Some t) → (u : Verdict) × (check t ≡ Ok u)
each_accepted limit zero x v last check k w e turn lt t at = absurd (omega arith)
each_accepted limit (suc n) x v last check k w e turn lt t at = turns_accepted limit (suc n) x v last check k w e turn lt t at

-- ---- the spot of a fault

abbrev spot_in : Fault → Spot
spot_in (broken rule spot case) = spot

-- each fault is at this spot; a record, so that its arguments are found
record AtSpot {A : Type 0} (r : Result A Fault) (spot : Spot) : Type 0 where
  on : (fault : Fault) → r ≡ Err fault → spot_in fault ≡ spot

fine_on : {A : Type 0} {x : A} {spot : Spot} → AtSpot (Ok x) spot
fine_on = record { on = λ fault e. absurd (cc) }

then_on : {A B : Type 0} {r : Result A Fault} {f : A → Result B Fault} {spot : Spot} → AtSpot r spot → ((x : A) → AtSpot (f x) spot) → AtSpot (r >>= f) spot
unfolding go_on
then_on {r = Ok x} h k = k x
then_on {r = Err e} h k = record { on = λ fault t. h.on fault (let same : e ≡ fault = cc in ap Err same) }

given_on : {A : Type 0} (o : Option A) (rule : CheckRule) (spot : Spot) (case : Case) → AtSpot (given o rule spot case) spot
unfolding given
given_on None rule spot case = record { on = λ fault e. let same : broken rule spot case ≡ fault = cc in sym (ap spot_in same) }
given_on (Some x) rule spot case = record { on = λ fault e. absurd (cc) }

required_on : {B : Type 0} {b : Bool} (rule : CheckRule) (spot : Spot) (case : Case) {r : Result B Fault} → (b ≡ true → AtSpot r spot) → AtSpot (required b rule spot case >> r) spot
unfolding go_on required
required_on {b = true} rule spot case h = h refl
required_on {b = false} rule spot case h = record { on = λ fault e. let same : broken rule spot case ≡ fault = cc in sym (ap spot_in same) }

reached_on : {A S : Type 0} (nothing : A) (o : Option S) (check : S → Result A Fault) {spot : Spot} → ((s : S) → AtSpot (check s) spot) → AtSpot (if_reached nothing o check) spot
unfolding if_reached
reached_on nothing None check h = record { on = λ fault e. absurd (cc) }
reached_on nothing (Some s) check h = h s

range_on : (spot : Spot) (e : Expression) (k : Facts) → AtSpot (range_of spot e k.ranges) spot
range_on spot (number n) k = required_on _ spot _ (λ t. fine_on)
range_on spot (variable x) k = fine_on
range_on spot (group e) k = range_on spot e k
range_on spot (add a b) k = then_on (range_on spot a k) (λ r. then_on (range_on spot b k) (λ s. given_on _ _ spot _))
range_on spot (subtract a b) k = then_on (range_on spot a k) (λ r. then_on (range_on spot b k) (λ s. given_on _ _ spot _))
range_on spot (multiply a b) k = then_on (range_on spot a k) (λ r. then_on (range_on spot b k) (λ s. given_on _ _ spot _))
range_on spot (divide a d) k = then_on (range_on spot a k) (λ r. given_on _ _ spot _)
range_on spot (remainder a d) k = then_on (range_on spot a k) (λ r. given_on _ _ spot _)

ranges_on : (spot : Spot) (es : List Expression) (k : Facts) → AtSpot (ranges_of spot es k.ranges) spot
ranges_on spot [] k = fine_on
ranges_on spot (e ∷ es) k = then_on (range_on spot e k) (λ r. then_on (ranges_on spot es k) (λ rs. fine_on))

widths_on : (plan : Layout) (spot : Spot) (f : ℕ) (g : Region) → AtSpot (command_widths plan spot f g) spot
widths_on plan spot f g = required_on _ spot _ (λ t. given_on _ _ spot _)

test_on : (spot : Spot) (t : Test) (k : Facts) → AtSpot (split_test spot t k) spot
test_on spot flag_q k = fine_on
test_on spot flag_x k = fine_on
test_on spot (compare a c b) k = then_on (range_on spot a k) (λ r. then_on (range_on spot b k) (λ s. fine_on))

part_on : (spot : Spot) (p : Part) (k : Facts) → AtSpot (split_part spot p k) spot
part_on spot (plain t) k = test_on spot t k
part_on spot (negated t) k = then_on (test_on spot t k) (λ b. fine_on)

split_on : (spot : Spot) (ps : Condition) (k : Facts) → AtSpot (split spot ps k) spot
split_on spot [] k = fine_on
split_on spot (p ∷ ps) k =
    then_on (part_on spot p k) (λ first. then_on (reached_on (branches None None) first.holds (split spot ps) (λ s. split_on spot ps s)) (λ others. fine_on))

region_on : (c : Context) (around : Around) (spot : Spot) (f r : ℕ) (t : Option ℕ) (most x : ℕ) (k : Facts) → AtSpot (block_region c around spot f r t most x k) spot
region_on c around spot f r t most x k =
    required_on _ spot _ (λ t. then_on (given_on (region_at k.registers r) _ spot _) (λ g. then_on (widths_on c.plan spot f g) (λ w.
    required_on _ spot _ (λ t. required_on _ spot _ (λ t. required_on _ spot _ (λ t. fine_on))))))

lock_on : (c : Context) (around : Around) (spot : Spot) (e : Expression) (k : Facts) → AtSpot (lock_rule c around spot e k) spot
lock_on c around spot e k = then_on (range_on spot e k) (λ r. required_on _ spot _ (λ t. fine_on))

for_on : (around : Around) (spot : Spot) (x : ℕ) (e1 e2 : Expression) (qs : List Keep) (k : Facts) → AtSpot (for_limits around spot x e1 e2 qs k) spot
for_on around spot x e1 e2 qs k =
    then_on (range_on spot e1 k) (λ r. then_on (range_on spot e2 k) (λ s. required_on _ spot _ (λ t. required_on _ spot _ (λ t. required_on _ spot _ (λ t. fine_on)))))

each_on : (around : Around) (spot : Spot) (x v last : ℕ) → AtSpot (each_begins around spot x v last) spot
each_on around spot x v last = required_on _ spot _ (λ t. required_on _ spot _ (λ t. required_on _ spot _ (λ t. fine_on)))

while_on : (around : Around) (spot : Spot) (most m : ℕ) (qs : List Keep) (body : Block) (k : Facts) → AtSpot (while_head around.body spot most m qs body k) spot
while_on around spot most m qs body k = then_on (given_on (fall_of m body) _ spot _) (λ d. required_on _ spot _ (λ t. required_on _ spot _ (λ t. fine_on)))

single_on : (c : Context) (around : Around) (spot : Spot) (size : WordSize) (f r : ℕ) (move : Move) (k : Facts) → AtSpot (single_rule c around spot size f r move k) spot
single_on c around spot size f r no_data k =
    then_on (given_on (region_at k.registers r) _ spot _) (λ g. then_on (widths_on c.plan spot f g) (λ w. required_on _ spot _ (λ t. fine_on)))
single_on c around spot size f r (into x) k =
    required_on _ spot _ (λ t. then_on (given_on (region_at k.registers r) _ spot _) (λ g. then_on (widths_on c.plan spot f g) (λ w. required_on _ spot _ (λ t. fine_on))))
single_on c around spot size f r (from e) k =
    then_on (range_on spot e k) (λ v. then_on (given_on (region_at k.registers r) _ spot _) (λ g. then_on (widths_on c.plan spot f g) (λ w.
    required_on _ spot _ (λ t. required_on _ spot _ (λ t. fine_on)))))

-- ---- what is accepted

one_ok : {A : Type 0} (x y : A) (r : Result A Fault) → r ≡ Ok x → r ≡ Ok y → x ≡ y
one_ok {A = A} x y r h k = let both : ◌≡◌ {A = Result A Fault} (Ok x) (Ok y) = sym h ∙ k in cc

-- a block that was reached and accepted
reached_ok : {A S : Type 0} (nothing : A) (o : Option S) (check : S → Result A Fault) (s : S) (x : A) → if_reached nothing o check ≡ Ok x → o ≡ Some s → check s ≡ Ok x
reached_ok nothing o check s x e is = sym (ap (λ p. if_reached nothing p check) is ∙ reached_is nothing s check) ∙ e

-- what was found of the body of a `for`, at what is known where it begins
turn_ok : (spot : Spot) (x : ℕ) (e1 e2 : Expression) (keeps : List Keep) (body : Block) (around : Around) (k : Facts) (l m : Limits) (check : Facts → Result Verdict Fault)
    → for_limits around spot x e1 e2 keeps k ≡ Ok l → for_limits around spot x e1 e2 keeps k ≡ Ok m
    → (turn : Verdict) → if_reached unreached (for_head x m keeps body k) check ≡ Ok turn → (t : Facts) → for_head x l keeps body k ≡ Some t → check t ≡ Ok turn
turn_ok spot x e1 e2 keeps body around k l m check h j turn e t head =
    let same = one_ok m l (for_limits around spot x e1 e2 keeps k) j h in
    reached_ok unreached (for_head x m keeps body k) check t turn e (ap (λ n. for_head x n keeps body k) same ∙ head)

mutual
  accepted_inside : (c : Context) (q : Place) (around : Around) (s : Statement) (k : Facts) (v : Verdict) → accept_statement c around s k ≡ Ok v → HasPlace c q around s k → IsAccepted c q
  accepted_inside c q around (choose spot test a) k v e i =
      let arms : Branches = i.0 in
      let t = i.2 in
      let r = go_ok (split spot test k) _ v e in
      let same = one_ok r.0 arms (split spot test k) r.1 i.1 in
      let first = go_ok (if_reached unreached r.0.holds (accept_block c around a)) _ v r.2 in
      block_accepted c q around a t.0 first.0
      (reached_ok unreached r.0.holds (accept_block c around a) t.0 first.0 first.1 (ap (λ (b : Branches). b.holds) same ∙ t.1)) t.2
  accepted_inside c q around (choose_else spot test a b) k v e i =
      let arms : Branches = i.0 in
      let r = go_ok (split spot test k) _ v e in
      let same = one_ok r.0 arms (split spot test k) r.1 i.1 in
      let first = go_ok (if_reached unreached r.0.holds (accept_block c around a)) _ v r.2 in
      let second = go_ok (if_reached unreached r.0.fails (accept_block c around b)) _ v first.2 in
      ⊎_elim
      (λ t. block_accepted c q around a t.0 first.0
      (reached_ok unreached r.0.holds (accept_block c around a) t.0 first.0 first.1 (ap (λ (b : Branches). b.holds) same ∙ t.1)) t.2)
      (λ t. block_accepted c q around b t.0 second.0
      (reached_ok unreached r.0.fails (accept_block c around b) t.0 second.0 second.1 (ap (λ (b : Branches). b.fails) same ∙ t.1)) t.2) i.2
  accepted_inside c q around (locked spot e body) k v is i =
      let r = go_ok (lock_rule c around spot e k) _ v is in
      let same = one_ok r.0 i.0 (lock_rule c around spot e k) r.1 i.1 in
      let inner = go_ok (accept_block c (with_locked r.0 around) body k) _ v r.2 in
      block_accepted c q (with_locked i.0 around) body k inner.0 (subst (λ n. accept_block c (with_locked n around) body k ≡ Ok inner.0) same inner.1) i.2
  accepted_inside c q around (for_ spot x e1 e2 keeps body) k v e i =
      let l : Limits = i.0 in
      let t = i.2 in
      let r = go_ok (for_limits around spot x e1 e2 keeps k) _ v e in
      let turn = go_ok (if_reached unreached (for_head x r.0 keeps body k) (accept_block c (with_fixed x around) body)) _ v r.2 in
      block_accepted c q (with_fixed x around) body t.0 turn.0
      (turn_ok spot x e1 e2 keeps body around k l r.0 (accept_block c (with_fixed x around) body) i.1 r.1 turn.0 turn.1 t.0 t.1) t.2
  accepted_inside c q around (for_each spot x v last body) k w e i =
      let check : Facts → Result Verdict Fault = accept_block c (with_fixed x around) body in
      let turn = i.2 in
      let r = go_ok (each_begins around spot x v last) _ w e in
      let same = one_ok i.0 r.0 (each_begins around spot x v last) i.1 r.1 in
      let all = go_ok (each_from c.limit r.0 x v last check k) _ w r.2 in
      let t = turn.2 in
      let found = each_accepted c.limit r.0 x v last check k all.0 all.1 turn.0 (subst (λ n. turn.0 < n) same turn.1) t.0 t.1 in
      block_accepted c q (with_fixed x around) body t.0 found.0 found.1 t.2
  accepted_inside c q around (while_ spot test most m keeps body) k v e i =
      let top : Facts = i.0 in
      let arms : Branches = i.2.0 in
      let t = i.2.2 in
      let r = go_ok (while_head around.body spot most m keeps body k) _ v e in
      let w = go_ok (split spot test r.0) _ v r.2 in
      let turn = go_ok (if_reached unreached w.0.holds (accept_block c around body)) _ v w.2 in
      let head = one_ok r.0 top (while_head around.body spot most m keeps body k) r.1 i.1 in
      let same = one_ok w.0 arms (split spot test r.0) w.1 (ap (split spot test) head ∙ i.2.1) in
      block_accepted c q around body t.0 turn.0
      (reached_ok unreached w.0.holds (accept_block c around body) t.0 turn.0 turn.1 (ap (λ (b : Branches). b.holds) same ∙ t.1)) t.2
  accepted_inside c q around s k v e i = absurd i

  block_accepted : (c : Context) (q : Place) (around : Around) (b : Block) (k : Facts) (v : Verdict) → accept_block c around b k ≡ Ok v → BlockHasPlace c q around b k → IsAccepted c q
  block_accepted c q around done k v e i = absurd i
  block_accepted c q around (next s rest) k v e i =
      let first = go_ok (accept_statement c around s k) _ v e in
      let second = go_ok (if_reached unreached first.0.after (accept_block c around rest)) _ v first.2 in
      ⊎_elim (λ is. (first.0, ap (λ (p : Place). accept_statement c p.around p.statement p.known) is ∙ first.1))
      (λ j. ⊎_elim (λ u. accepted_inside c q around s k first.0 first.1 u)
      (λ w. let t = w.2 in
      let same = one_ok first.0 w.0 (accept_statement c around s k) first.1 w.1 in
      block_accepted c q around rest t.0 second.0
      (reached_ok unreached first.0.after (accept_block c around rest) t.0 second.0 second.1 (ap (λ (u : Verdict). u.after) same ∙ t.1)) t.2) j) i

-- ---- what is refused

-- a place of some kind whose own fault this is
record IsFound (c : Context) (fault : Fault) (Has : Place → Type 0) : Type 0 where
  at : Place
  has : Has at
  spot_is : spot_in fault ≡ spot_of at.statement
  refused : accept_statement c at.around at.statement at.known ≡ Err fault
  own : (q : Place) → HasPlace c q at.around at.statement at.known → IsAccepted c q

found_so : (c : Context) (fault : Fault) (P Q : Place → Type 0) → ((p : Place) → P p → Q p) → IsFound c fault P → IsFound c fault Q
found_so c fault P Q more h = record { at = h.at; has = more h.at h.has; spot_is = h.spot_is; refused = h.refused; own = h.own }

-- a statement, or a place in it
abbrev Here : Context → Around → Statement → Facts → Place → Type 0
Here c around s k p = (p ≡ place around s k) ⊎ HasPlace c p around s k

here : (c : Context) (around : Around) (s : Statement) (k : Facts) (fault : Fault) → accept_statement c around s k ≡ Err fault → spot_in fault ≡ spot_of s
    → ((q : Place) → HasPlace c q around s k → IsAccepted c q) → IsFound c fault (Here c around s k)
here c around s k fault e spot own = record { at = place around s k; has = inl refl; spot_is = spot; refused = e; own = own }

-- of a statement that holds no others
simple : (c : Context) (around : Around) (s : Statement) (k : Facts) (fault : Fault) → accept_statement c around s k ≡ Err fault → AtSpot (accept_statement c around s k) (spot_of s)
    → ((q : Place) → HasPlace c q around s k → ⊥) → IsFound c fault (Here c around s k)
simple c around s k fault e on none = here c around s k fault e (on.on fault e) (λ q i. absurd (none q i))

refused_and_ok : {A : Type 0} (r : Result A Fault) (x : A) (fault : Fault) → r ≡ Err fault → r ≡ Ok x → ⊥
refused_and_ok {A = A} r x fault h k = let both : ◌≡◌ {A = Result A Fault} (Err fault) (Ok x) = sym h ∙ k in absurd (cc)

-- the last test of a loop
after_turn : {B : Type 0} (b : Bool) (spot : Spot) (case : Case) (r : B) (fault : Fault) → go_on (required b KeepFailsAfterTurn spot case) (λ u. Ok r) ≡ Err fault → spot_in fault ≡ spot
unfolding go_on required
after_turn true spot case r fault e = absurd (cc)
after_turn false spot case r fault e = let same : broken KeepFailsAfterTurn spot case ≡ fault = cc in sym (ap spot_in same)

mutual
  statement_refused : (c : Context) (around : Around) (s : Statement) (k : Facts) (fault : Fault) → accept_statement c around s k ≡ Err fault → IsFound c fault (Here c around s k)
  statement_refused c around (assign spot x e) k fault is =
      simple c around (assign spot x e) k fault is (then_on (range_on spot e k) (λ r. required_on _ spot _ (λ t. fine_on))) (λ q i. i)
  statement_refused c around (set_register spot r e1 e2 e3) k fault is =
      simple c around (set_register spot r e1 e2 e3) k fault is
      (then_on (range_on spot e1 k) (λ a. then_on (range_on spot e2 k) (λ b. then_on (range_on spot e3 k) (λ d. fine_on)))) (λ q i. i)
  statement_refused c around (single spot size f r move) k fault is =
      simple c around (single spot size f r move) k fault is (single_on c around spot size f r move k) (λ q i. i)
  statement_refused c around (address_scan spot f r1 r2 max x) k fault is =
      simple c around (address_scan spot f r1 r2 max x) k fault is
      (then_on (range_on spot max k) (λ most. required_on _ spot _ (λ t. then_on (given_on (region_at k.registers r1) _ spot _) (λ g. then_on (given_on (region_at k.registers r2) _ spot _) (λ h.
      required_on _ spot _ (λ t. required_on _ spot _ (λ t. required_on _ spot _ (λ t. required_on _ spot _ (λ t. fine_on))))))))) (λ q i. i)
  statement_refused c around (q_stop spot f r t max x) k fault is =
      simple c around (q_stop spot f r t max x) k fault is
      (then_on (range_on spot max k) (λ most. then_on (region_on c around spot f r t most.hi x k) (λ g. fine_on))) (λ q i. i)
  statement_refused c around (q_repeat spot f r t max limit x) k fault is =
      simple c around (q_repeat spot f r t max limit x) k fault is
      (then_on (range_on spot max k) (λ most. then_on (range_on spot limit k) (λ last. then_on (region_on c around spot f r t most.hi x k) (λ g. fine_on)))) (λ q i. i)
  statement_refused c around (put spot e) k fault is =
      simple c around (put spot e) k fault is (then_on (range_on spot e k) (λ r. required_on _ spot _ (λ t. fine_on))) (λ q i. i)
  statement_refused c around (crate_call spot which e) k fault is =
      simple c around (crate_call spot which e) k fault is (then_on (range_on spot e k) (λ r. required_on _ spot _ (λ t. fine_on))) (λ q i. i)
  statement_refused c around (lam_call spot which l) k fault is =
      simple c around (lam_call spot which l) k fault is (then_on (given_on (lam_region c l) _ spot _) (λ g. then_on (widths_on c.plan spot _ g) (λ w. fine_on))) (λ q i. i)
  statement_refused c around (call spot p es) k fault is =
      simple c around (call spot p es) k fault is (then_on (ranges_on spot es k) (λ rs. then_on (given_on (slice_get c.procedures p) _ spot _) (λ q. required_on _ spot _ (λ t. fine_on)))) (λ q i. i)
  statement_refused c around (choose spot test a) k fault is =
      ⊎_elim
      (λ h. here c around (choose spot test a) k fault is ((split_on spot test k).on fault h) (λ q i. absurd (refused_and_ok (split spot test k) i.0 fault h i.1)))
      (λ arms. ⊎_elim
      (λ h. let t = reached_err unreached arms.0.holds (accept_block c around a) fault h in
      found_so c fault (λ p. BlockHasPlace c p around a t.0) (Here c around (choose spot test a) k) (λ p i. inr (arms.0, arms.1, (t.0, t.1, i))) (block_refused c around a t.0 fault t.2))
      (λ v. absurd (let bad = v.2 in cc))
      (go_err (if_reached unreached arms.0.holds (accept_block c around a)) _ fault arms.2))
      (go_err (split spot test k) _ fault is)
  statement_refused c around (choose_else spot test a b) k fault is =
      ⊎_elim
      (λ h. here c around (choose_else spot test a b) k fault is ((split_on spot test k).on fault h) (λ q i. absurd (refused_and_ok (split spot test k) i.0 fault h i.1)))
      (λ arms. ⊎_elim
      (λ h. let t = reached_err unreached arms.0.holds (accept_block c around a) fault h in
      found_so c fault (λ p. BlockHasPlace c p around a t.0) (Here c around (choose_else spot test a b) k) (λ p i. inr (arms.0, arms.1, inl (t.0, t.1, i))) (block_refused c around a t.0 fault t.2))
      (λ v. ⊎_elim
      (λ h. let t = reached_err unreached arms.0.fails (accept_block c around b) fault h in
      found_so c fault (λ p. BlockHasPlace c p around b t.0) (Here c around (choose_else spot test a b) k) (λ p i. inr (arms.0, arms.1, inr (t.0, t.1, i))) (block_refused c around b t.0 fault t.2))
      (λ w. absurd (let bad = w.2 in cc))
      (go_err (if_reached unreached arms.0.fails (accept_block c around b)) _ fault v.2))
      (go_err (if_reached unreached arms.0.holds (accept_block c around a)) _ fault arms.2))
      (go_err (split spot test k) _ fault is)
  statement_refused c around (locked spot e body) k fault is =
      ⊎_elim
      (λ h. here c around (locked spot e body) k fault is ((lock_on c around spot e k).on fault h) (λ q i. absurd (refused_and_ok (lock_rule c around spot e k) i.0 fault h i.1)))
      (λ n. ⊎_elim
      (λ h. found_so c fault (λ p. BlockHasPlace c p (with_locked n.0 around) body k) (Here c around (locked spot e body) k) (λ p i. inr (n.0, n.1, i)) (block_refused c (with_locked n.0 around) body k fault h))
      (λ v. absurd (let bad = v.2 in cc))
      (go_err (accept_block c (with_locked n.0 around) body k) _ fault n.2))
      (go_err (lock_rule c around spot e k) _ fault is)
  statement_refused c around (for_ spot x e1 e2 keeps body) k fault is =
      ⊎_elim
      (λ h. here c around (for_ spot x e1 e2 keeps body) k fault is ((for_on around spot x e1 e2 keeps k).on fault h)
      (λ q i. absurd (refused_and_ok (for_limits around spot x e1 e2 keeps k) i.0 fault h i.1)))
      (λ l. ⊎_elim
      (λ h. let t = reached_err unreached (for_head x l.0 keeps body k) (accept_block c (with_fixed x around) body) fault h in
      found_so c fault (λ p. BlockHasPlace c p (with_fixed x around) body t.0) (Here c around (for_ spot x e1 e2 keeps body) k) (λ p i. inr (l.0, l.1, (t.0, t.1, i)))
      (block_refused c (with_fixed x around) body t.0 fault t.2))
      (λ turn. here c around (for_ spot x e1 e2 keeps body) k fault is
      (after_turn (keeps_hold_after keeps turn.0.after) spot (unkept_after around.body keeps turn.0.after) _ fault turn.2)
      (λ q i. let t = i.2 in block_accepted c q (with_fixed x around) body t.0 turn.0
      (turn_ok spot x e1 e2 keeps body around k i.0 l.0 (accept_block c (with_fixed x around) body) i.1 l.1 turn.0 turn.1 t.0 t.1) t.2))
      (go_err (if_reached unreached (for_head x l.0 keeps body k) (accept_block c (with_fixed x around) body)) _ fault l.2))
      (go_err (for_limits around spot x e1 e2 keeps k) _ fault is)
  statement_refused c around (for_each spot x v last body) k fault is =
      let check : Facts → Result Verdict Fault = accept_block c (with_fixed x around) body in
      ⊎_elim
      (λ h. here c around (for_each spot x v last body) k fault is ((each_on around spot x v last).on fault h)
      (λ q i. absurd (refused_and_ok (each_begins around spot x v last) i.0 fault h i.1)))
      (λ n. ⊎_elim
      (λ h. let turn = each_refused c.limit n.0 x v last check k fault h in
      let t = turn.2 in
      found_so c fault (λ p. BlockHasPlace c p (with_fixed x around) body t.0) (Here c around (for_each spot x v last body) k)
      (λ p i. inr (n.0, n.1, (turn.0, turn.1, (t.0, t.1, i)))) (block_refused c (with_fixed x around) body t.0 fault t.2))
      (λ all. absurd (let bad = all.2 in cc))
      (go_err (each_from c.limit n.0 x v last check k) _ fault n.2))
      (go_err (each_begins around spot x v last) _ fault is)
  statement_refused c around (while_ spot test most m keeps body) k fault is =
      ⊎_elim
      (λ h. here c around (while_ spot test most m keeps body) k fault is ((while_on around spot most m keeps body k).on fault h)
      (λ q i. absurd (refused_and_ok (while_head around.body spot most m keeps body k) i.0 fault h i.1)))
      (λ top. ⊎_elim
      (λ h. here c around (while_ spot test most m keeps body) k fault is ((split_on spot test top.0).on fault h)
      (λ q i. let same = one_ok top.0 i.0 (while_head around.body spot most m keeps body k) top.1 i.1 in
      absurd (refused_and_ok (split spot test top.0) i.2.0 fault h (ap (split spot test) same ∙ i.2.1))))
      (λ arms. ⊎_elim
      (λ h. let t = reached_err unreached arms.0.holds (accept_block c around body) fault h in
      found_so c fault (λ p. BlockHasPlace c p around body t.0) (Here c around (while_ spot test most m keeps body) k)
      (λ p i. inr (top.0, top.1, (arms.0, arms.1, (t.0, t.1, i)))) (block_refused c around body t.0 fault t.2))
      (λ turn. here c around (while_ spot test most m keeps body) k fault is
      (after_turn (keeps_hold_after keeps turn.0.after) spot (unkept_after around.body keeps turn.0.after) _ fault turn.2)
      (λ q i. let t = i.2.2 in
      let same = one_ok top.0 i.0 (while_head around.body spot most m keeps body k) top.1 i.1 in
      let ways = one_ok arms.0 i.2.0 (split spot test top.0) arms.1 (ap (split spot test) same ∙ i.2.1) in
      block_accepted c q around body t.0 turn.0
      (reached_ok unreached arms.0.holds (accept_block c around body) t.0 turn.0 turn.1 (ap (λ (b : Branches). b.holds) ways ∙ t.1)) t.2))
      (go_err (if_reached unreached arms.0.holds (accept_block c around body)) _ fault arms.2))
      (go_err (split spot test top.0) _ fault top.2))
      (go_err (while_head around.body spot most m keeps body k) _ fault is)

  block_refused : (c : Context) (around : Around) (b : Block) (k : Facts) (fault : Fault) → accept_block c around b k ≡ Err fault → IsFound c fault (λ p. BlockHasPlace c p around b k)
  block_refused c around done k fault e = absurd (cc)
  block_refused c around (next s rest) k fault e =
      ⊎_elim
      (λ h. found_so c fault (Here c around s k) (λ p. BlockHasPlace c p around (next s rest) k) (λ p i. ⊎_elim (λ is. inl is) (λ j. inr (inl j)) i) (statement_refused c around s k fault h))
      (λ first. ⊎_elim
      (λ h. let t = reached_err unreached first.0.after (accept_block c around rest) fault h in
      found_so c fault (λ p. BlockHasPlace c p around rest t.0) (λ p. BlockHasPlace c p around (next s rest) k)
      (λ p i. inr (inr (first.0, first.1, (t.0, t.1, i)))) (block_refused c around rest t.0 fault t.2))
      (λ second. absurd (let bad = second.2 in cc))
      (go_err (if_reached unreached first.0.after (accept_block c around rest)) _ fault first.2))
      (go_err (accept_statement c around s k) _ fault e)

-- ---- headings

-- the number that is too small, without the fix
record IsOver (c : Context) (s : Section) (found : Verdict) (rule : CheckRule) (spot : Spot) (case : Case) : Type 0 where
  needed : ℕ
  allowed : ℕ
  is_needed : number_of rule found.costs ≡ Some needed
  is_allowed : number_of rule (heading_of s) ≡ Some allowed
  above : allowed < needed
  shown : case ≡ budget (named c s) needed allowed
  spot_is : spot ≡ heading_spot s

over : (c : Context) (s : Section) (found : Verdict) (own rule : CheckRule) (needed allowed : ℕ) (spot : Spot) (case : Case)
    → number_of own found.costs ≡ Some needed → number_of own (heading_of s) ≡ Some allowed
    → required (nat_le needed allowed) own (heading_spot s) (budget (named c s) needed allowed) ≡ Err (broken rule spot case) → IsOver c s found rule spot case
over c s found own rule needed allowed spot case is_needed is_allowed e =
    let h = required_err (nat_le needed allowed) own (heading_spot s) (budget (named c s) needed allowed) (broken rule spot case) e in
    let same : own ≡ rule = cc in
    let shown : budget (named c s) needed allowed ≡ case = cc in
    let there : heading_spot s ≡ spot = cc in
    record {
      needed = needed;
      allowed = allowed;
      is_needed = ap (λ r. number_of r found.costs) (sym same) ∙ is_needed;
      is_allowed = ap (λ r. number_of r (heading_of s)) (sym same) ∙ is_allowed;
      above = leb-false needed allowed h.0;
      shown = sym shown;
      spot_is = sym there;
    }

refused_over : (c : Context) (s : Section) (found : Verdict) (rule : CheckRule) (spot : Spot) (case : Case)
    → within (named c s) (heading_of s) found.costs (heading_spot s) ≡ Err (broken rule spot case) → IsOver c s found rule spot case
refused_over c s found rule spot case e =
    let most : Bounds = heading_of s in
    let costs : Bounds = found.costs in
    let at : Spot = heading_spot s in
    ⊎_elim
    (λ h. over c s found TooManyWords rule costs.words most.words spot case refl refl h)
    (λ w. ⊎_elim
    (λ h. over c s found TooManyCycles rule costs.cycles most.cycles spot case refl refl h)
    (λ d. ⊎_elim
    (λ h. over c s found TooManySteps rule costs.steps most.steps spot case refl refl h)
    (λ t. absurd (let bad = t.2 in cc))
    (go_err (required (nat_le costs.steps most.steps) TooManySteps at _) _ (broken rule spot case) d.2))
    (go_err (required (nat_le costs.cycles most.cycles) TooManyCycles at _) _ (broken rule spot case) w.2))
    (go_err (required (nat_le costs.words most.words) TooManyWords at _) _ (broken rule spot case) e)

one_after_the_other : {A B D : Type 0} (r : Result A Fault) (f : A → Result B Fault) (g : B → Result D Fault) → go_on r (λ x. go_on (f x) g) ≡ go_on (go_on r f) g
unfolding go_on
one_after_the_other (Ok x) f g = refl
one_after_the_other (Err e) f g = refl

-- a body, and then its heading
section_is : (c : Context) (s : Section) → accept_section c s ≡ go_on (found_in c s) (λ v. within (named c s) (heading_of s) v.costs (heading_spot s))
section_is c (of_procedure p) =
    one_after_the_other (count_block (named c (of_procedure p)) p.body 0) (λ counted. if_reached unreached (start_of (of_procedure p)) (accept_block c (alone_in (named c (of_procedure p))) p.body)) _
section_is c (of_service v) =
    ap (λ r. go_on (count_block (named c (of_service v)) v.body 0) (λ counted. go_on r (λ (o : Verdict). within (named c (of_service v)) (heading_of (of_service v)) o.costs v.spot)))
    (sym (reached_is unreached at_start (accept_block c (alone_in (named c (of_service v))) v.body)))
    ∙ one_after_the_other (count_block (named c (of_service v)) v.body 0) (λ counted. if_reached unreached (start_of (of_service v)) (accept_block c (alone_in (named c (of_service v))) v.body)) _

heading_refused : (c : Context) (s : Section) (found : Verdict) (rule : CheckRule) (spot : Spot) (case : Case) → found_in c s ≡ Ok found
    → accept_section c s ≡ Err (broken rule spot case) → IsOver c s found rule spot case
heading_refused c s found rule spot case is e =
    refused_over c s found rule spot case
    (sym (section_is c s ∙ go_is (found_in c s) found (λ v. within (named c s) (heading_of s) v.costs (heading_spot s)) is) ∙ e)

pub headings_are_shown : HeadingsAreShown
headings_are_shown c s found rule spot case is e =
    let h = heading_refused c s found rule spot case is e in
    record {
      needed = h.needed;
      allowed = h.allowed;
      is_needed = h.is_needed;
      is_allowed = h.is_allowed;
      above = h.above;
      shown = h.shown;
      spot_is = h.spot_is;
      fixed = λ other n same_body number le at shown e'.
          let g = heading_refused c other found rule at shown same_body e' in
          let one : ◌≡◌ {A = Option ℕ} (Some g.needed) (Some h.needed) = sym g.is_needed ∙ h.is_needed in
          let two : ◌≡◌ {A = Option ℕ} (Some g.allowed) (Some n) = sym g.is_allowed ∙ number in
          let same : g.needed ≡ h.needed = cc in
          let less : g.allowed ≡ n = cc in
          let above = g.above in
          omega arith;
    }

-- ---- procedures and services

abbrev IsRefused : Context → Section → CheckRule → Spot → Case → Type 0
IsRefused c s rule spot case = IsOverLimit c s rule spot case ⊎ (IsRefusedInside c s rule spot case ⊎ IsRefusedByHeading c s rule spot case)

section_refused : (c : Context) (s : Section) (rule : CheckRule) (spot : Spot) (case : Case) → accept_section c s ≡ Err (broken rule spot case) → IsRefused c s rule spot case
section_refused c s rule spot case e =
    ⊎_elim
    (λ r. ⊎_elim (λ h. inl (over_limit c s rule spot case h))
    (λ counted. let t = reached_err unreached (start_of s) (accept_block c (alone_in (named c s)) (body_of s)) (broken rule spot case) counted.2 in
    let f = block_refused c (alone_in (named c s)) (body_of s) t.0 (broken rule spot case) t.2 in
    inr (inl (record {
      start = t.0;
      is_start = t.1;
      place = f.at;
      inside = f.has;
      refused = record { refused = f.refused; spot_is = f.spot_is; own = f.own };
    })))
    (go_err (count_block (named c s) (body_of s) 0) _ (broken rule spot case) r))
    (λ v. inr (inr (v.0, v.1, headings_are_shown c s v.0 rule spot case v.1 e)))
    (go_err (found_in c s) (λ v. within (named c s) (heading_of s) v.costs (heading_spot s)) (broken rule spot case) (sym (section_is c s) ∙ e))

sections_refused : (first : Context) (ss : List Section) (rule : CheckRule) (spot : Spot) (case : Case) → accept_sections first ss ≡ Err (broken rule spot case)
    → (c : Context) × (s : Section) × ComesTo c s first ss × IsRefused c s rule spot case
sections_refused first [] rule spot case e = absurd (cc)
sections_refused first (of_procedure p ∷ rest) rule spot case e =
    ⊎_elim
    (λ h. (first, of_procedure p, inl (refl, refl), section_refused first (of_procedure p) rule spot case h))
    (λ k. let t = sections_refused (with_procedure p first) rest rule spot case k.2 in (t.0, t.1, inr (k.0, k.1, t.2), t.3))
    (go_err (accept_procedure first p) (λ _. accept_sections (with_procedure p first) rest) (broken rule spot case) e)
sections_refused first (of_service v ∷ rest) rule spot case e =
    ⊎_elim
    (λ h. (first, of_service v, inl (refl, refl), section_refused first (of_service v) rule spot case h))
    (λ k. ⊎_elim
    (λ h. let t = sections_refused first rest rule spot case h in (t.0, t.1, inr (k.0, k.1, t.2), t.3))
    (λ others. absurd (let bad = others.2 in cc))
    (go_err (accept_sections first rest) _ (broken rule spot case) k.2))
    (go_err (accept_service first v) _ (broken rule spot case) e)

pub refused_at_places : RefusedAtPlaces
refused_at_places plan script rule spot case e = sections_refused _ _ rule spot case e
