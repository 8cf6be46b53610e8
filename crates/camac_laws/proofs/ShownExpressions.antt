-- What the case of an argument, a kept variable or an expression shows.
use Rattle.std.proofs.Common.{◌≡◌, ℕ, zero, suc, ◌+◌, ◌<◌, Bool, true, false, List, [], ◌∷◌, length, Some, refl, sym, ap, ◌∙◌, subst, arith, ◌/◌, ◌-◌, Option, None, Ok, Err, inl, inr, ⊎_elim}
use Rattle.std.proofs.lemmas.Bool.{eqb-true, leb-false}
use Rattle.std.specs.Prelude.{◌&&◌, slice_get, if◌then◌else◌, nat_eq, nat_le, nat_lt}
use Rattle.camac_lang.specs.Tree.{Parameter, Keep, Expression, number, variable, group, add, subtract, multiply, divide, remainder, Test, flag_q, flag_x, compare, Part, plain, negated, Condition}
use Rattle.camac_lang.specs.declared.spot.Spot.{Spot}
use Rattle.camac_range.specs.Interval.{Interval, is_inside, interval}
use Rattle.camac_range.specs.Number.{greatest}
use Rattle.camac_range.specs.Operators as range
use Rattle.camac_rules.specs.declared.case.Case.TheVariants.{Argument, Kept, Malformed, Operation}
use Rattle.camac_rules.specs.declared.case.Numbers.{Numbers}
use Rattle.camac_rules.specs.Cases.{numbers_of, kept_at, operation}
use Rattle.camac_rules.specs.Known.{Facts, range_at}
use Rattle.camac_rules.specs.Loops.{kept_range, keeps_hold, unkept}
use Rattle.camac_rules.specs.Procedures.{parameter_range, arguments_fit, unfit}
use Rattle.camac_rules.specs.declared.case.Case.{Case}
use Rattle.camac_rules.specs.declared.case.Operator.{Operator}
use Rattle.camac_rules.specs.declared.case.Operator.TheVariants.{Add, Sub, Mul}
use Rattle.camac_rules.specs.declared.rule.CheckRule.{CheckRule}
use Rattle.camac_rules.specs.declared.rule.CheckRule.TheVariants.{ValueOutOfRange}
use Rattle.camac_rules.specs.Conditions.{Branches, branches, split, split_part, split_test}
use Rattle.camac_rules.specs.Expressions.{range_of}
use Rattle.camac_rules.specs.Fault.{Fault, broken}
use Rattle.camac_rules.specs.Joined.{join}
use Rattle.camac_rules.specs.Refusal.{go_on, required, given, if_reached}
use Rattle.camac_laws.specs.Shown.{IsFirstUnfit, ArgumentsAreShown, UnfitHaveOne, IsFirstUnkept, KeptAreShown, UnkeptHaveOne, HasPart, applied, result_of, IsOfNoText, ExpressionShown, ExpressionsAreShown, IsRefusedThere, ConditionsAreShown, IsSide, PartsAreShown}
use Rattle.camac_laws.proofs.Steps.{go_err, required_err, given_err, reached_err, reached_is, go_is}

-- What the case of an argument or a kept variable shows.

-- the walk begins at argument i
record IsUnfitFrom (procedure index i at : ℕ) (rs : List Interval) (ps : List Parameter) (found wanted : Numbers) : Type 0 where
  is_number : index ≡ procedure
  place : ℕ
  is_place : at ≡ i + place
  first : IsFirstUnfit rs ps place found wanted

later_fit : (r : Interval) (p : Parameter) (rs : List Interval) (ps : List Parameter) (i : ℕ) (found wanted : Numbers) → is_inside r (parameter_range p) ≡ true → IsFirstUnfit rs ps i found wanted → IsFirstUnfit (r ∷ rs) (p ∷ ps) (suc i) found wanted
later_fit r p rs ps i found wanted fits h = record {
  argument = h.argument;
  parameter = h.parameter;
  is_argument = h.is_argument;
  is_parameter = h.is_parameter;
  outside = h.outside;
  is_found = h.is_found;
  is_wanted = h.is_wanted;
  earlier = before;
}
  where
    before : (j : ℕ) (s : Interval) (q : Parameter) → j < suc i → slice_get (r ∷ rs) j ≡ Some s → slice_get (p ∷ ps) j ≡ Some q → is_inside s (parameter_range q) ≡ true
    before zero s q lt e f =
        let one : r ≡ s = cc in
        let two : p ≡ q = cc in
        ap (λ x. is_inside x (parameter_range q)) (sym one) ∙ (ap (λ x. is_inside r (parameter_range x)) (sym two) ∙ fits)
    before (suc j) s q lt e f = h.earlier j s q (omega arith) e f

unfit_from : (procedure index i at : ℕ) (rs : List Interval) (ps : List Parameter) (found wanted : Numbers) → unfit procedure i rs ps ≡ Argument index at found wanted → IsUnfitFrom procedure index i at rs ps found wanted
unfit_from procedure index i at [] ps found wanted e = absurd (cc)
unfit_from procedure index i at (r ∷ rs) [] found wanted e = absurd (cc)
unfit_from procedure index i at (r ∷ rs) (p ∷ ps) found wanted e =
    go (is_inside r (parameter_range p)) refl e (λ f. unfit_from procedure index (i + 1) at rs ps found wanted f)
  where
    go : (b : Bool) → is_inside r (parameter_range p) ≡ b
        → (if b then unfit procedure (i + 1) rs ps else Argument procedure i (numbers_of r) (numbers_of (parameter_range p))) ≡ Argument index at found wanted
        → (unfit procedure (i + 1) rs ps ≡ Argument index at found wanted → IsUnfitFrom procedure index (i + 1) at rs ps found wanted)
        → IsUnfitFrom procedure index i at (r ∷ rs) (p ∷ ps) found wanted
    go true is f ih =
        let h = ih f in
        let there = h.is_place in
        record { is_number = h.is_number; place = suc h.place; is_place = omega arith; first = later_fit r p rs ps h.place found wanted is h.first }
    go false is f ih =
        let one : procedure ≡ index = cc in
        let two : i ≡ at = cc in
        let three : numbers_of r ≡ found = cc in
        let four : numbers_of (parameter_range p) ≡ wanted = cc in
        record {
          is_number = sym one;
          place = 0;
          is_place = omega arith;
          first = record {
            argument = r;
            parameter = p;
            is_argument = refl;
            is_parameter = refl;
            outside = is;
            is_found = sym three;
            is_wanted = sym four;
            earlier = λ j s q lt e f. absurd (omega arith);
          };
        }

pub arguments_are_shown : ArgumentsAreShown
unfolding ArgumentsAreShown
arguments_are_shown procedure index i rs ps found wanted e =
    let h = unfit_from procedure index 0 i rs ps found wanted e in
    let there = h.is_place in
    let same : h.place ≡ i = omega arith in
    (h.is_number, subst (λ j. IsFirstUnfit rs ps j found wanted) same h.first)

later_kept : (q : Keep) (qs : List Keep) (k : Facts) (x : ℕ) (found kept : Numbers) → is_inside (range_at k.ranges q.variable) (kept_range q) ≡ true → IsFirstUnkept qs k x found kept → IsFirstUnkept (q ∷ qs) k x found kept
later_kept q qs k x found kept fits h = record {
  place = suc h.place;
  keep = h.keep;
  is_keep = h.is_keep;
  is_variable = h.is_variable;
  outside = h.outside;
  is_found = h.is_found;
  is_kept = h.is_kept;
  earlier = before;
}
  where
    before : (j : ℕ) (p : Keep) → j < suc h.place → slice_get (q ∷ qs) j ≡ Some p → is_inside (range_at k.ranges p.variable) (kept_range p) ≡ true
    before zero p lt e =
        let one : q ≡ p = cc in
        ap (λ (y : Keep). is_inside (range_at k.ranges y.variable) (kept_range y)) (sym one) ∙ fits
    before (suc j) p lt e = h.earlier j p (omega arith) e

pub kept_are_shown : KeptAreShown
unfolding KeptAreShown
kept_are_shown place shown [] k x found kept e = absurd (cc)
kept_are_shown place shown (q ∷ qs) k x found kept e =
    go (is_inside (range_at k.ranges q.variable) (kept_range q)) refl e (λ f. kept_are_shown place shown qs k x found kept f)
  where
    go : (b : Bool) → is_inside (range_at k.ranges q.variable) (kept_range q) ≡ b
        → (if b then unkept place qs k else kept_at place q.variable (range_at k.ranges q.variable) (kept_range q)) ≡ Kept shown x found kept
        → (unkept place qs k ≡ Kept shown x found kept → (shown ≡ place) × IsFirstUnkept qs k x found kept)
        → (shown ≡ place) × IsFirstUnkept (q ∷ qs) k x found kept
    go true is f ih = let h = ih f in (h.0, later_kept q qs k x found kept is h.1)
    go false is f ih =
        let one : place ≡ shown = cc in
        let two : q.variable ≡ x = cc in
        let three : numbers_of (range_at k.ranges q.variable) ≡ found = cc in
        let four : numbers_of (kept_range q) ≡ kept = cc in (
          sym one,
          record {
            place = 0;
            keep = q;
            is_keep = refl;
            is_variable = sym two;
            outside = ap (λ y. is_inside (range_at k.ranges y) (kept_range q)) (sym two) ∙ is;
            is_found = sym three ∙ ap (λ y. numbers_of (range_at k.ranges y)) two;
            is_kept = sym four;
            earlier = λ j p lt e. absurd (omega arith);
          },
        )

-- ---- there is such a case

unfit_one : (procedure i : ℕ) (rs : List Interval) (ps : List Parameter) → length rs ≡ length ps → arguments_fit rs ps ≡ false
    → (j : ℕ) × (found : Numbers) × (wanted : Numbers) × (unfit procedure i rs ps ≡ Argument procedure j found wanted)
unfit_one procedure i [] [] many e = absurd (cc)
unfit_one procedure i [] (p ∷ ps) many e = absurd (omega arith)
unfit_one procedure i (r ∷ rs) [] many e = absurd (omega arith)
unfit_one procedure i (r ∷ rs) (p ∷ ps) many e =
    go (is_inside r (parameter_range p)) e (λ f. unfit_one procedure (i + 1) rs ps (omega arith) f)
  where
    go : (b : Bool) → (b && arguments_fit rs ps) ≡ false
        → (arguments_fit rs ps ≡ false → (j : ℕ) × (found : Numbers) × (wanted : Numbers) × (unfit procedure (i + 1) rs ps ≡ Argument procedure j found wanted))
        → (j : ℕ) × (found : Numbers) × (wanted : Numbers)
        × ((if b then unfit procedure (i + 1) rs ps else Argument procedure i (numbers_of r) (numbers_of (parameter_range p))) ≡ Argument procedure j found wanted)
    go true f ih = ih f
    go false f ih = (i, numbers_of r, numbers_of (parameter_range p), refl)

pub unfit_have_one : UnfitHaveOne
unfolding UnfitHaveOne
unfit_have_one procedure rs ps many e = unfit_one procedure 0 rs ps many e

pub unkept_have_one : UnkeptHaveOne
unfolding UnkeptHaveOne
unkept_have_one place [] k e = absurd (cc)
unkept_have_one place (q ∷ qs) k e =
    go (is_inside (range_at k.ranges q.variable) (kept_range q)) e (λ f. unkept_have_one place qs k f)
  where
    go : (b : Bool) → (b && keeps_hold qs k) ≡ false
        → (keeps_hold qs k ≡ false → (x : ℕ) × (found : Numbers) × (kept : Numbers) × (unkept place qs k ≡ Kept place x found kept))
        → (x : ℕ) × (found : Numbers) × (kept : Numbers)
        × ((if b then unkept place qs k else kept_at place q.variable (range_at k.ranges q.variable) (kept_range q)) ≡ Kept place x found kept)
    go true f ih = ih f
    go false f ih = (q.variable, numbers_of (range_at k.ranges q.variable), numbers_of (kept_range q), refl)

-- What the case of an expression shows, and where a condition is refused.

-- ---- a part of an expression is a part of what it stands in

text_more : (e e' : Expression) → ((p : Expression) → HasPart p e → HasPart p e') → IsOfNoText e → IsOfNoText e'
text_more e e' in_whole h =
    ⊎_elim (λ n. inl (n.0, in_whole (number n.0) n.1, n.2))
    (λ d. ⊎_elim (λ a. inr (inl (a.0, in_whole (divide a.0 0) a.1))) (λ a. inr (inr (a.0, in_whole (remainder a.0 0) a.1))) d) h

shown_more : (spot : Spot) (e e' : Expression) (rs : List Interval) → ((p : Expression) → HasPart p e → HasPart p e') → (case : Case) → ExpressionShown spot e rs case → ExpressionShown spot e' rs case
shown_more spot e e' rs in_whole (Operation operator l h) t = record {
  left = t.left;
  right = t.right;
  part = in_whole (applied operator t.left t.right) t.part;
  r = t.r;
  s = t.s;
  of_left = t.of_left;
  of_right = t.of_right;
  is_left = t.is_left;
  is_right = t.is_right;
  none = t.none;
}
shown_more spot e e' rs in_whole Malformed t = text_more e e' in_whole t
shown_more spot e e' rs in_whole case t = absurd t

-- ---- each form

abbrev Shown : Spot → Expression → List Interval → CheckRule → Spot → Case → Type 0
Shown spot e rs rule at case = (rule ≡ ValueOutOfRange) × ((at ≡ spot) × ExpressionShown spot e rs case)

more : (spot : Spot) (e e' : Expression) (rs : List Interval) (rule : CheckRule) (at : Spot) (case : Case) → ((p : Expression) → HasPart p e → HasPart p e') → Shown spot e rs rule at case → Shown spot e' rs rule at case
more spot e e' rs rule at case in_whole t = (t.0, (t.1.0, shown_more spot e e' rs in_whole case t.1.1))

-- this case, on this line
here : (spot : Spot) (e : Expression) (rs : List Interval) (own : Case) (rule : CheckRule) (at : Spot) (case : Case) → broken ValueOutOfRange spot own ≡ broken rule at case → ExpressionShown spot e rs own → Shown spot e rs rule at case
here spot e rs own rule at case f t =
    let one : ValueOutOfRange ≡ rule = cc in
    let two : spot ≡ at = cc in
    let three : own ≡ case = cc in
    (sym one, (sym two, subst (ExpressionShown spot e rs) three t))

two_sides : (spot : Spot) (operator : Operator) (a b whole : Expression) (rs : List Interval) (rule : CheckRule) (at : Spot) (case : Case)
    → ((p : Expression) → HasPart p a → HasPart p whole) → ((p : Expression) → HasPart p b → HasPart p whole) → HasPart (applied operator a b) whole
    → (range_of spot a rs ≡ Err (broken rule at case) → Shown spot a rs rule at case)
    → (range_of spot b rs ≡ Err (broken rule at case) → Shown spot b rs rule at case)
    → go_on (range_of spot a rs) (λ r. go_on (range_of spot b rs) (λ s. given (result_of operator r s) ValueOutOfRange spot (operation operator r s))) ≡ Err (broken rule at case)
    → Shown spot whole rs rule at case
two_sides spot operator a b whole rs rule at case of_a of_b own left right e =
    ⊎_elim
    (λ h. more spot a whole rs rule at case of_a (left h))
    (λ r. ⊎_elim
    (λ h. more spot b whole rs rule at case of_b (right h))
    (λ s. let g = given_err (result_of operator r.0 s.0) ValueOutOfRange spot (operation operator r.0 s.0) (broken rule at case) s.2 in
    here spot whole rs (operation operator r.0 s.0) rule at case g.1
    (record {
      left = a;
      right = b;
      part = own;
      r = r.0;
      s = s.0;
      of_left = r.1;
      of_right = s.1;
      is_left = refl;
      is_right = refl;
      none = g.0;
    }))
    (go_err (range_of spot b rs) (λ s. given (result_of operator r.0 s) ValueOutOfRange spot (operation operator r.0 s)) (broken rule at case) r.2))
    (go_err (range_of spot a rs) (λ r. go_on (range_of spot b rs) (λ s. given (result_of operator r s) ValueOutOfRange spot (operation operator r s))) (broken rule at case) e)

by_literal : (spot : Spot) (a whole : Expression) (o : Interval → Option Interval) (rs : List Interval) (rule : CheckRule) (at : Spot) (case : Case)
    → ((p : Expression) → HasPart p a → HasPart p whole) → ((r : Interval) → o r ≡ None → IsOfNoText whole)
    → (range_of spot a rs ≡ Err (broken rule at case) → Shown spot a rs rule at case)
    → go_on (range_of spot a rs) (λ r. given (o r) ValueOutOfRange spot Malformed) ≡ Err (broken rule at case)
    → Shown spot whole rs rule at case
by_literal spot a whole o rs rule at case of_a none left e =
    ⊎_elim
    (λ h. more spot a whole rs rule at case of_a (left h))
    (λ r. let g = given_err (o r.0) ValueOutOfRange spot Malformed (broken rule at case) r.2 in
    here spot whole rs Malformed rule at case g.1 (none r.0 g.0))
    (go_err (range_of spot a rs) (λ r. given (o r) ValueOutOfRange spot Malformed) (broken rule at case) e)

-- there is no result where the literal is 0
zero_literal : (d : ℕ) (r : Interval) → (if nat_eq d 0 then None else Some r) ≡ None → d ≡ 0
zero_literal d r e = go (nat_eq d 0) refl e
  where
    go : (b : Bool) → nat_eq d 0 ≡ b → (if b then None else Some r) ≡ None → d ≡ 0
    go true is f = eqb-true d 0 is
    go false is f = absurd (cc)

pub expressions_are_shown : ExpressionsAreShown
expressions_are_shown spot (number n) rs rule at case e =
    ⊎_elim
    (λ h. let g = required_err (nat_le n greatest) ValueOutOfRange spot Malformed (broken rule at case) h in
    here spot (number n) rs Malformed rule at case g.1 (inl (n, refl, leb-false n greatest g.0)))
    (λ u. absurd (let bad = u.2 in cc))
    (go_err (required (nat_le n greatest) ValueOutOfRange spot Malformed) _ (broken rule at case) e)
expressions_are_shown spot (variable x) rs rule at case e = absurd (cc)
expressions_are_shown spot (group a) rs rule at case e =
    more spot a (group a) rs rule at case (λ p h. inr h) (expressions_are_shown spot a rs rule at case e)
expressions_are_shown spot (add a b) rs rule at case e =
    two_sides spot Add a b (add a b) rs rule at case (λ p h. inr (inl h)) (λ p h. inr (inr h)) (inl refl)
    (λ h. expressions_are_shown spot a rs rule at case h) (λ h. expressions_are_shown spot b rs rule at case h) e
expressions_are_shown spot (subtract a b) rs rule at case e =
    two_sides spot Sub a b (subtract a b) rs rule at case (λ p h. inr (inl h)) (λ p h. inr (inr h)) (inl refl)
    (λ h. expressions_are_shown spot a rs rule at case h) (λ h. expressions_are_shown spot b rs rule at case h) e
expressions_are_shown spot (multiply a b) rs rule at case e =
    two_sides spot Mul a b (multiply a b) rs rule at case (λ p h. inr (inl h)) (λ p h. inr (inr h)) (inl refl)
    (λ h. expressions_are_shown spot a rs rule at case h) (λ h. expressions_are_shown spot b rs rule at case h) e
expressions_are_shown spot (divide a d) rs rule at case e =
    by_literal spot a (divide a d) (λ r. range.div r d) rs rule at case (λ p h. inr h)
    (λ r none. inr (inl (a, inl (ap (divide a) (sym (zero_literal d (interval (r.lo / d) (r.hi / d)) none))))))
    (λ h. expressions_are_shown spot a rs rule at case h) e
expressions_are_shown spot (remainder a d) rs rule at case e =
    by_literal spot a (remainder a d) (λ r. range.rem r d) rs rule at case (λ p h. inr h)
    (λ r none. inr (inr (a, inl (ap (remainder a) (sym (zero_literal d (if nat_lt r.hi d then r else interval 0 (d - 1)) none))))))
    (λ h. expressions_are_shown spot a rs rule at case h) e

-- ---- conditions

later_refused : (spot : Spot) (p : Part) (ps : Condition) (k there : Facts) (first : Branches) (fault : Fault) → split_part spot p k ≡ Ok first → first.holds ≡ Some there
    → IsRefusedThere spot ps there fault → IsRefusedThere spot (p ∷ ps) k fault
later_refused spot p ps k there first fault judged holds h = record {
  earlier = p ∷ h.earlier;
  part = h.part;
  later = h.later;
  is = ap (λ xs. p ∷ xs) h.is;
  ways = branches h.ways.holds (join first.fails h.ways.fails);
  there = h.there;
  judged = go_is (split_part spot p k) first
      (λ (one : Branches). go_on (if_reached (branches None None) one.holds (split spot h.earlier)) (λ (others : Branches). Ok (branches others.holds (join one.fails others.fails))))
      judged
      ∙ go_is (if_reached (branches None None) first.holds (split spot h.earlier)) h.ways
      (λ (others : Branches). Ok (branches others.holds (join first.fails others.fails)))
      (ap (λ o. if_reached (branches None None) o (split spot h.earlier)) holds ∙ (reached_is (branches None None) there (split spot h.earlier) ∙ h.judged));
  hold = h.hold;
  refused = h.refused;
}

-- ---- the two sides of a comparison

test_refused : (spot : Spot) (t : Test) (k : Facts) (fault : Fault) → split_test spot t k ≡ Err fault → (e : Expression) × IsSide e t × (range_of spot e k.ranges ≡ Err fault)
test_refused spot flag_q k fault e = absurd (cc)
test_refused spot flag_x k fault e = absurd (cc)
test_refused spot (compare a c b) k fault e =
    ⊎_elim (λ h. (a, inl refl, h))
    (λ r. ⊎_elim (λ h. (b, inr refl, h)) (λ s. absurd (let bad = s.2 in cc)) (go_err (range_of spot b k.ranges) _ fault r.2))
    (go_err (range_of spot a k.ranges) _ fault e)

pub parts_are_shown : PartsAreShown
parts_are_shown spot (plain t) k fault e = test_refused spot t k fault e
parts_are_shown spot (negated t) k fault e =
    ⊎_elim (λ h. test_refused spot t k fault h) (λ b. absurd (let bad = b.2 in cc)) (go_err (split_test spot t k) _ fault e)

pub conditions_are_shown : ConditionsAreShown
conditions_are_shown spot [] k fault e = absurd (cc)
conditions_are_shown spot (p ∷ ps) k fault e =
    ⊎_elim
    (λ h. record {
      earlier = [];
      part = p;
      later = ps;
      is = refl;
      ways = branches (Some k) None;
      there = k;
      judged = refl;
      hold = refl;
      refused = h;
    })
    (λ first. ⊎_elim
    (λ h. let r = reached_err (branches None None) first.0.holds (split spot ps) fault h in
    later_refused spot p ps k r.0 first.0 fault first.1 r.1 (conditions_are_shown spot ps r.0 fault r.2))
    (λ others. absurd (let bad = others.2 in cc))
    (go_err (if_reached (branches None None) first.0.holds (split spot ps)) _ fault first.2))
    (go_err (split_part spot p k) _ fault e)
