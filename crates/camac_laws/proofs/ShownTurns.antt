-- What the case of too many turns shows, and which loop is the first that passes the limit.
use Rattle.std.proofs.Common.{◌≡◌, ℕ, ◌+◌, ◌-◌, ◌*◌, ◌<◌, ◌≤◌, List, [], ◌∷◌, ◌++◌, Result, Ok, Err, refl, sym, ap, ◌∙◌, subst, arith, ⊎_elim, ◌/◌, Bool, true, false, Option, Some}
use Rattle.std.proofs.lemmas.Bool.{leb-true, leb-false, and_cases}
use Rattle.std.specs.Prelude.{nat_le, ◌&&◌, if◌then◌else◌}
use Rattle.camac_lang.specs.Tree.{Statement, assign, set_register, single, address_scan, q_stop, q_repeat, put, crate_call, lam_call, choose, choose_else, for_, for_each, while_, locked, call, Block, done, next, spot_of, Expression, Keep}
use Rattle.camac_lang.specs.declared.spot.Spot.{Spot}
use Rattle.camac_rules.specs.declared.case.Body.{Body}
use Rattle.camac_rules.specs.declared.case.Case.{Case}
use Rattle.camac_rules.specs.declared.rule.CheckRule.{CheckRule}
use Rattle.camac_rules.specs.declared.rule.CheckRule.TheVariants.{TooManyTurns, MeasureBroken, KeepFailsAtEntry, LoopVariableAssigned, ValueOutOfRange}
use Rattle.camac_rules.specs.Accept.{Section}
use Rattle.camac_rules.specs.Cases.{judged_case}
use Rattle.camac_rules.specs.Cycles.{Context, may_write}
use Rattle.camac_rules.specs.EachLimit.{judged_limit, block_judged, count, count_block}
use Rattle.camac_rules.specs.Fault.{Fault, broken}
use Rattle.camac_rules.specs.Refusal.{required, given}
use Rattle.camac_rules.specs.declared.case.Case.TheVariants.{Malformed, Measure, Turns, Annotation}
use Rattle.camac_rules.specs.Expressions.{range_of}
use Rattle.camac_rules.specs.Known.{Facts, range_at}
use Rattle.camac_rules.specs.Loops.{turn_limit, keeps_hold, limits, turns_between, turns_case, while_head}
use Rattle.camac_rules.specs.Writes.{fall_of}
use Rattle.camac_laws.specs.Refused.{named, body_of, loops_in, block_loops, judged_in, IsOverLimit}
use Rattle.camac_laws.specs.Shown.{WhileShown, WhileTurnsAreShown, ForTurnsAreShown, EachTurnsAreShown}
use Rattle.camac_laws.proofs.Steps.{go_err, required_err, required_true, go_ok, given_err, given_ok}
use Rattle.camac_laws.proofs.ShownExpressions.{expressions_are_shown}
use Rattle.camac_range.specs.Number.{greatest}

-- Where the `each` loops of a body judge too much, one of them is the first that passes the limit.

append_assoc : (xs ys zs : List Statement) → (xs ++ ys) ++ zs ≡ xs ++ (ys ++ zs)
append_assoc [] ys zs = refl
append_assoc (x ∷ xs) ys zs = ap (λ l. x ∷ l) (append_assoc xs ys zs)

judged_append : (xs ys : List Statement) → judged_in (xs ++ ys) ≡ judged_in xs + judged_in ys
judged_append [] ys = omega arith
judged_append (x ∷ xs) ys = let h = judged_append xs ys in omega arith

-- of these loops, after so much
record IsOver (place : Body) (loops : List Statement) (n : ℕ) (fault : Fault) : Type 0 where
  before : List Statement
  loop : Statement
  behind : List Statement
  all : loops ≡ before ++ loop ∷ behind
  fits : n + judged_in before ≤ judged_limit
  above : judged_limit < n + judged_in (before ++ loop ∷ [])
  is : fault ≡ broken TooManyTurns (spot_of loop) (judged_case place (n + judged_in (before ++ loop ∷ [])) judged_limit)

-- and further ones
over_first : (place : Body) (xs ys : List Statement) (n : ℕ) (fault : Fault) → IsOver place xs n fault → IsOver place (xs ++ ys) n fault
over_first place xs ys n fault h = record {
  before = h.before;
  loop = h.loop;
  behind = h.behind ++ ys;
  all = ap (λ l. l ++ ys) h.all ∙ append_assoc h.before (h.loop ∷ h.behind) ys;
  fits = h.fits;
  above = h.above;
  is = h.is;
}

sum_first : (xs ys : List Statement) (n m : ℕ) → m ≡ n + judged_in xs → m + judged_in ys ≡ n + judged_in (xs ++ ys)
sum_first xs ys n m e = let h = judged_append xs ys in omega arith

over_later : (place : Body) (xs ys : List Statement) (n m : ℕ) (fault : Fault) → m ≡ n + judged_in xs → IsOver place ys m fault → IsOver place (xs ++ ys) n fault
over_later place xs ys n m fault e h =
    let with_loop : m + judged_in (h.before ++ h.loop ∷ []) ≡ n + judged_in ((xs ++ h.before) ++ h.loop ∷ []) =
    sum_first xs (h.before ++ h.loop ∷ []) n m e ∙ ap (λ l. n + judged_in l) (sym (append_assoc xs h.before (h.loop ∷ []))) in
    record {
      before = xs ++ h.before;
      loop = h.loop;
      behind = h.behind;
      all = ap (λ l. xs ++ l) h.all ∙ sym (append_assoc xs h.before (h.loop ∷ h.behind));
      fits = subst (λ j. j ≤ judged_limit) (sum_first xs h.before n m e) h.fits;
      above = subst (λ j. judged_limit < j) with_loop h.above;
      is = h.is ∙ ap (λ j. broken TooManyTurns (spot_of h.loop) (judged_case place j judged_limit)) with_loop;
    }

-- what the count comes to
record IsCounted (loops : List Statement) (n m : ℕ) : Type 0 where
  sum : m ≡ n + judged_in loops
  fits : m ≤ judged_limit

counted_then : (xs ys : List Statement) (n m l : ℕ) → IsCounted xs n m → IsCounted ys m l → IsCounted (xs ++ ys) n l
counted_then xs ys n m l h g = record { sum = g.sum ∙ sum_first xs ys n m h.sum; fits = g.fits }

none_counted : (n m : ℕ) → n ≤ judged_limit → ◌≡◌ {A = Result ℕ Fault} (Ok n) (Ok m) → IsCounted [] n m
none_counted n m le e = let same : n ≡ m = cc in record { sum = omega arith; fits = omega arith }

mutual
  counted : (place : Body) (s : Statement) (n m : ℕ) → n ≤ judged_limit → count place s n ≡ Ok m → IsCounted (loops_in s) n m
  counted place (choose spot test a) n m le e = block_counted place a n m le e
  counted place (choose_else spot test a b) n m le e =
      let first = go_ok (count_block place a n) _ m e in
      let h = block_counted place a n first.0 le first.1 in
      counted_then (block_loops a) (block_loops b) n first.0 m h (block_counted place b first.0 m h.fits first.2)
  counted place (for_ spot x e1 e2 keeps body) n m le e = block_counted place body n m le e
  counted place (for_each spot x v last body) n m le e =
      let more : ℕ = (last + 1 - v) * (1 + block_judged body) in
      let h = go_ok (required (nat_le (n + more) judged_limit) TooManyTurns spot _) _ m e in
      let fits : n + more ≤ judged_limit = leb-true (n + more) judged_limit (required_true (nat_le (n + more) judged_limit) TooManyTurns spot _ h.0 h.1) in
      let same : n + more ≡ m = let is = h.2 in cc in
      record { sum = omega arith; fits = omega arith }
  counted place (while_ spot test most x keeps body) n m le e = block_counted place body n m le e
  counted place (locked spot x body) n m le e = block_counted place body n m le e
  counted place (assign spot x v) n m le e = none_counted n m le e
  counted place (set_register spot r e1 e2 e3) n m le e = none_counted n m le e
  counted place (single spot size f r move) n m le e = none_counted n m le e
  counted place (address_scan spot f r1 r2 max x) n m le e = none_counted n m le e
  counted place (q_stop spot f r t max x) n m le e = none_counted n m le e
  counted place (q_repeat spot f r t max limit x) n m le e = none_counted n m le e
  counted place (put spot v) n m le e = none_counted n m le e
  counted place (crate_call spot which v) n m le e = none_counted n m le e
  counted place (lam_call spot which l) n m le e = none_counted n m le e
  counted place (call spot q es) n m le e = none_counted n m le e

  block_counted : (place : Body) (b : Block) (n m : ℕ) → n ≤ judged_limit → count_block place b n ≡ Ok m → IsCounted (block_loops b) n m
  block_counted place done n m le e = none_counted n m le e
  block_counted place (next s rest) n m le e =
      let first = go_ok (count place s n) _ m e in
      let h = counted place s n first.0 le first.1 in
      counted_then (loops_in s) (block_loops rest) n first.0 m h (block_counted place rest first.0 m h.fits first.2)

no_fault : (n : ℕ) (place : Body) (loops : List Statement) (fault : Fault) → ◌≡◌ {A = Result ℕ Fault} (Ok n) (Err fault) → IsOver place loops n fault
no_fault n place loops fault e = absurd (cc)

mutual
  over : (place : Body) (s : Statement) (n : ℕ) (fault : Fault) → n ≤ judged_limit → count place s n ≡ Err fault → IsOver place (loops_in s) n fault
  over place (choose spot test a) n fault le e = block_over place a n fault le e
  over place (choose_else spot test a b) n fault le e =
      ⊎_elim
      (λ h. over_first place (block_loops a) (block_loops b) n fault (block_over place a n fault le h))
      (λ m. let h = block_counted place a n m.0 le m.1 in
      over_later place (block_loops a) (block_loops b) n m.0 fault h.sum (block_over place b m.0 fault h.fits m.2))
      (go_err (count_block place a n) _ fault e)
  over place (for_ spot x e1 e2 keeps body) n fault le e = block_over place body n fault le e
  over place (for_each spot x v last body) n fault le e =
      let more : ℕ = (last + 1 - v) * (1 + block_judged body) in
      ⊎_elim
      (λ h. let r = required_err (nat_le (n + more) judged_limit) TooManyTurns spot _ fault h in
      let above : judged_limit < n + more = leb-false (n + more) judged_limit r.0 in
      let sum : n + more ≡ n + judged_in (for_each spot x v last body ∷ []) = omega arith in
      record {
        before = [];
        loop = for_each spot x v last body;
        behind = [];
        all = refl;
        fits = omega arith;
        above = subst (λ j. judged_limit < j) sum above;
        is = sym r.1 ∙ ap (λ j. broken TooManyTurns spot (judged_case place j judged_limit)) sum;
      })
      (λ m. absurd (let bad = m.2 in cc))
      (go_err (required (nat_le (n + more) judged_limit) TooManyTurns spot _) _ fault e)
  over place (while_ spot test most x keeps body) n fault le e = block_over place body n fault le e
  over place (locked spot x body) n fault le e = block_over place body n fault le e
  over place (assign spot x v) n fault le e = no_fault n place [] fault e
  over place (set_register spot r e1 e2 e3) n fault le e = no_fault n place [] fault e
  over place (single spot size f r move) n fault le e = no_fault n place [] fault e
  over place (address_scan spot f r1 r2 max x) n fault le e = no_fault n place [] fault e
  over place (q_stop spot f r t max x) n fault le e = no_fault n place [] fault e
  over place (q_repeat spot f r t max limit x) n fault le e = no_fault n place [] fault e
  over place (put spot v) n fault le e = no_fault n place [] fault e
  over place (crate_call spot which v) n fault le e = no_fault n place [] fault e
  over place (lam_call spot which l) n fault le e = no_fault n place [] fault e
  over place (call spot q es) n fault le e = no_fault n place [] fault e

  block_over : (place : Body) (b : Block) (n : ℕ) (fault : Fault) → n ≤ judged_limit → count_block place b n ≡ Err fault → IsOver place (block_loops b) n fault
  block_over place done n fault le e = no_fault n place [] fault e
  block_over place (next s rest) n fault le e =
      ⊎_elim
      (λ h. over_first place (loops_in s) (block_loops rest) n fault (over place s n fault le h))
      (λ m. let h = counted place s n m.0 le m.1 in
      over_later place (loops_in s) (block_loops rest) n m.0 fault h.sum (block_over place rest m.0 fault h.fits m.2))
      (go_err (count place s n) _ fault e)

pub over_limit : (c : Context) (s : Section) (rule : CheckRule) (spot : Spot) (case : Case) → count_block (named c s) (body_of s) 0 ≡ Err (broken rule spot case) → IsOverLimit c s rule spot case
over_limit c s rule spot case e =
    let h = block_over (named c s) (body_of s) 0 (broken rule spot case) (omega arith) e in
    let is = h.is in
    let sum : 0 + judged_in (h.before ++ h.loop ∷ []) ≡ judged_in (h.before ++ h.loop ∷ []) = omega arith in
    let fits = h.fits in
    let above = h.above in
    record {
      before = h.before;
      loop = h.loop;
      behind = h.behind;
      all = h.all;
      fits = omega arith;
      above = omega arith;
      rule_is = cc;
      shown = let shown : case ≡ judged_case (named c s) (0 + judged_in (h.before ++ h.loop ∷ [])) judged_limit = cc in
          shown ∙ ap (λ j. judged_case (named c s) j judged_limit) sum;
      spot_is = cc;
    }

-- What the case of too many turns shows.

-- the test that fails
record IsLongWhile (most m : ℕ) (body : Block) (k : Facts) (case : Case) : Type 0 where
  step : ℕ
  is_step : fall_of m body ≡ Some step
  test : (nat_le most turn_limit && nat_le ((range_at k.ranges m).hi / step) most) ≡ false
  shown : turns_case ((range_at k.ranges m).hi / step) most ≡ case

while_refused : (place : Body) (spot : Spot) (most m : ℕ) (keeps : List Keep) (body : Block) (k : Facts) (at : Spot) (case : Case)
    → while_head place spot most m keeps body k ≡ Err (broken TooManyTurns at case) → IsLongWhile most m body k case
while_refused place spot most m keeps body k at case e =
    ⊎_elim
    (λ h. absurd (let g = given_err (fall_of m body) MeasureBroken spot (Measure place m) (broken TooManyTurns at case) h in let bad = g.1 in cc))
    (λ w. ⊎_elim
    (λ h. let g =
    required_err (nat_le most turn_limit && nat_le ((range_at k.ranges m).hi / w.0) most) TooManyTurns spot (turns_case ((range_at k.ranges m).hi / w.0) most)
    (broken TooManyTurns at case) h in
    let same = g.1 in
    record { step = w.0; is_step = given_ok (fall_of m body) MeasureBroken spot (Measure place m) w.0 w.1; test = g.0; shown = cc })
    (λ t. ⊎_elim
    (λ h. absurd (let g = required_err (keeps_hold keeps k) KeepFailsAtEntry spot _ (broken TooManyTurns at case) h in let bad = g.1 in cc))
    (λ s. absurd (let bad = s.2 in cc))
    (go_err (required (keeps_hold keeps k) KeepFailsAtEntry spot _) _ (broken TooManyTurns at case) t.2))
    (go_err (required (nat_le most turn_limit && nat_le ((range_at k.ranges m).hi / w.0) most) TooManyTurns spot _) _ (broken TooManyTurns at case) w.2))
    (go_err (given (fall_of m body) MeasureBroken spot _) _ (broken TooManyTurns at case) e)

-- enough turns are not too many
enough : (place : Body) (spot : Spot) (m : ℕ) (keeps : List Keep) (body : Block) (k : Facts) (step : ℕ) → fall_of m body ≡ Some step
    → (n : ℕ) → (range_at k.ranges m).hi / step ≤ n → n ≤ turn_limit
    → (at : Spot) (c : Case) → while_head place spot n m keeps body k ≡ Err (broken TooManyTurns at c) → ⊥
enough place spot m keeps body k step is n le few at c e =
    let h = while_refused place spot n m keeps body k at c e in
    let one : ◌≡◌ {A = Option ℕ} (Some h.step) (Some step) = sym h.is_step ∙ is in
    let same : h.step ≡ step = cc in
    let test : (nat_le n turn_limit && nat_le ((range_at k.ranges m).hi / step) n) ≡ false = subst (λ s. (nat_le n turn_limit && nat_le ((range_at k.ranges m).hi / s) n) ≡ false) same h.test in
    ⊎_elim
    (λ f. let over = leb-false n turn_limit f in omega arith)
    (λ f. let over = leb-false ((range_at k.ranges m).hi / step) n f in omega arith)
    (and_cases (nat_le n turn_limit) (nat_le ((range_at k.ranges m).hi / step) n) test)

-- more are needed, where the number itself is allowed
above_most : (a b : Bool) → (a && b) ≡ false → a ≡ true → b ≡ false
above_most true b e h = e
above_most false b e h = absurd (cc)

pub while_turns_are_shown : WhileTurnsAreShown
while_turns_are_shown place spot most m keeps body k at case e =
    go (while_refused place spot most m keeps body k at case e)
  where
    by : (h : IsLongWhile most m body k case) (b : Bool) → nat_le most turn_limit ≡ b
        → (if b then Turns ((range_at k.ranges m).hi / h.step) most else Annotation most turn_limit) ≡ case → WhileShown place spot most m keeps body k case
    by h true is f =
        subst (WhileShown place spot most m keeps body k) f (
          refl,
          record {
            step = h.step;
            is_step = h.is_step;
            is_needed = refl;
            above = leb-false ((range_at k.ranges m).hi / h.step) most (above_most (nat_le most turn_limit) (nat_le ((range_at k.ranges m).hi / h.step) most) h.test is);
            fixed = enough place spot m keeps body k h.step h.is_step;
          },
        )
    by h false is f = subst (WhileShown place spot most m keeps body k) f (refl, (refl, leb-false most turn_limit is))

    go : IsLongWhile most m body k case → WhileShown place spot most m keeps body k case
    go h = by h (nat_le most turn_limit) refl h.shown

-- an expression is not refused by this rule
not_by_range : (spot : Spot) (e : Expression) (k : Facts) (at : Spot) (case : Case) → range_of spot e k.ranges ≡ Err (broken TooManyTurns at case) → ⊥
not_by_range spot e k at case f =
    let h = expressions_are_shown spot e k.ranges TooManyTurns at case f in
    let bad : TooManyTurns ≡ ValueOutOfRange = h.0 in
    cc

pub for_turns_are_shown : ForTurnsAreShown
unfolding ForTurnsAreShown
for_turns_are_shown around spot x e1 e2 keeps k at case e =
    ⊎_elim
    (λ h. absurd (not_by_range spot e1 k at case h))
    (λ r. ⊎_elim
    (λ h. absurd (not_by_range spot e2 k at case h))
    (λ s. ⊎_elim
    (λ h. absurd (let g = required_err (may_write around x) LoopVariableAssigned spot _ (broken TooManyTurns at case) h in let bad = g.1 in cc))
    (λ w. ⊎_elim
    (λ h. let g = required_err (nat_le (turns_between (limits r.0 s.0)) turn_limit) TooManyTurns spot (Turns (turns_between (limits r.0 s.0)) turn_limit) (broken TooManyTurns at case) h in
    let same = g.1 in
    record {
      first = r.0;
      last = s.0;
      is_first = r.1;
      is_last = s.1;
      above = leb-false (turns_between (limits r.0 s.0)) turn_limit g.0;
      shown = cc;
    })
    (λ t. ⊎_elim
    (λ h. absurd (let g = required_err (keeps_hold keeps k) KeepFailsAtEntry spot _ (broken TooManyTurns at case) h in let bad = g.1 in cc))
    (λ u. absurd (let bad = u.2 in cc))
    (go_err (required (keeps_hold keeps k) KeepFailsAtEntry spot _) _ (broken TooManyTurns at case) t.2))
    (go_err (required (nat_le (turns_between (limits r.0 s.0)) turn_limit) TooManyTurns spot _) _ (broken TooManyTurns at case) w.2))
    (go_err (required (may_write around x) LoopVariableAssigned spot _) _ (broken TooManyTurns at case) s.2))
    (go_err (range_of spot e2 k.ranges) _ (broken TooManyTurns at case) r.2))
    (go_err (range_of spot e1 k.ranges) _ (broken TooManyTurns at case) e)

pub each_turns_are_shown : EachTurnsAreShown
unfolding EachTurnsAreShown
each_turns_are_shown around spot x v last at case e =
    ⊎_elim
    (λ h. absurd (let g = required_err (nat_le v greatest && nat_le last greatest) ValueOutOfRange spot Malformed (broken TooManyTurns at case) h in let bad = g.1 in cc))
    (λ w. ⊎_elim
    (λ h. absurd (let g = required_err (may_write around x) LoopVariableAssigned spot _ (broken TooManyTurns at case) h in let bad = g.1 in cc))
    (λ t. ⊎_elim
    (λ h. let g = required_err (nat_le (last + 1 - v) turn_limit) TooManyTurns spot (Turns (last + 1 - v) turn_limit) (broken TooManyTurns at case) h in
    let same = g.1 in
    (leb-false (last + 1 - v) turn_limit g.0, cc))
    (λ u. absurd (let bad = u.2 in cc))
    (go_err (required (nat_le (last + 1 - v) turn_limit) TooManyTurns spot _) _ (broken TooManyTurns at case) t.2))
    (go_err (required (may_write around x) LoopVariableAssigned spot _) _ (broken TooManyTurns at case) w.2))
    (go_err (required (nat_le v greatest && nat_le last greatest) ValueOutOfRange spot Malformed) _ (broken TooManyTurns at case) e)
