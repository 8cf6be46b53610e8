-- What the rules of the values that are sent and read come to.
use Rattle.std.proofs.Common.{◌≡◌, ℕ, zero, suc, ◌-◌, ◌^◌, ◌<◌, ◌≤◌, Bool, true, false, List, [], ◌∷◌, Option, Some, None, Result, Ok, Err, refl, sym, ap, ◌∙◌, subst, arith, ⊎_elim}
use Rattle.std.specs.Prelude.{◌&&◌, min, nat_lt, Contains, length, slice_get, slice_index_or, unwrap_or, if◌then◌else◌}
use Rattle.std.proofs.Math.Nat.{pow-le-pow_right}
use Rattle.std.proofs.lemmas.Nat.{pow_pos}
use Rattle.std.proofs.lemmas.Bool.{and_parts, and_from, cases_lt, eq-eqb, ne_eqb, lt-ltb, ltb-true, le-leb, leb-true, false≢true}
use Rattle.camac_lang.specs.declared.word.WordSize.{WordSize}
use Rattle.camac_lang.specs.declared.word.WordSize.TheVariants.{Full, Short}
use Rattle.camac_lang.specs.Tests.{each}
use Rattle.camac_lang.specs.Tree.{Expression}
use Rattle.camac_func.specs.Class.{class_of}
use Rattle.camac_func.specs.declared.code.FunctionClass.TheVariants.{Read, Write}
use Rattle.camac_range.specs.Interval.{Interval, interval, only, IsWithin}
use Rattle.camac_branch.specs.Address.{address}
use Rattle.camac_branch.specs.Allowed.{allowed}
use Rattle.camac_branch.specs.Plan.{Layout, IsPlan}
use Rattle.camac_model.specs.Cycle.{sized}
use Rattle.camac_model.specs.Meaning.{fits_size}
use Rattle.camac_rules.specs.declared.case.Case.{Case}
use Rattle.camac_rules.specs.declared.case.Case.TheVariants.{Unset, Counted, Width, Count}
use Rattle.camac_rules.specs.declared.rule.CheckRule.TheVariants.{StationNotInstalled, CommandNotDeclared, WrongDirection, ValueTooWide, RegisterUnset, CountAboveTable, LoopVariableAssigned}
use Rattle.camac_rules.specs.Addresses.{are_stations, region_widths, command_widths, missing, undeclared}
use Rattle.camac_rules.specs.Cases.{direction}
use Rattle.camac_rules.specs.Costs.{Verdict}
use Rattle.camac_rules.specs.Cycles.{Context, Around, may_write, same_class, one_cycle, read_rule, write_rule}
use Rattle.camac_rules.specs.Costs.{verdict}
use Rattle.camac_rules.specs.Expressions.{range_of}
use Rattle.camac_rules.specs.Fault.{Fault, broken}
use Rattle.camac_rules.specs.Known.{Region, Facts, range_at, region_at, with_range}
use Rattle.camac_rules.specs.Refusal.{go_on, required, given}
use Rattle.camac_rules.specs.Transfers.{block_class, has_words, words_fit, words_sent, greatest_of, block_region}
use Rattle.camac_rules.proofs.Heads.{write_at}
use Rattle.camac_laws.specs.ShownAddresses.{HasAddresses}
use Rattle.camac_laws.specs.Regions.{IsIn, HasWidths, CommandsAreJudged}
use Rattle.camac_laws.specs.Values.{FitsAll, IsTooWide, IsWriteFit, WritesAreFit, IsGreatestWord, AreWordsFit, BlocksAreFit, IsReadInto, ReadsAreAll}
use Rattle.camac_laws.proofs.Steps.{go_err, required_err, required_true, given_err, go_ok, go_is}
use Rattle.camac_laws.proofs.ShownWindows.{after_test, after_given}
use Rattle.camac_laws.proofs.Regions.{same_width, commands_are_judged}
use Rattle.camac_lang.specs.declared.spot.Spot.{Spot}

-- ---- a value at each address

-- a value in so many bits, of which a short action sends 16 at most
fits_in : (size : WordSize) (v k : ℕ) → v < 2 ^ k → fits_size size v ≡ true → v < 2 ^ sized size k
fits_in Full v k lt e = lt
fits_in Short v k lt e =
    let le : v ≤ 65535 = leb-true v 65535 e in
    ⊎_elim (λ few. let same : k ≡ min k 16 = omega arith in subst (λ m. v < 2 ^ m) same lt)
    (λ many. let same : 16 ≡ min k 16 = omega arith in let small : v < 2 ^ 16 = omega arith in subst (λ m. v < 2 ^ m) same small)
    (cases_lt k 16)

fits_back : (size : WordSize) (v k : ℕ) → v < 2 ^ sized size k → (v < 2 ^ k) × (fits_size size v ≡ true)
fits_back Full v k lt = (lt, refl)
fits_back Short v k lt =
    let pos : 0 < 2 = omega arith in
    let one : 2 ^ min k 16 ≤ 2 ^ k = pow-le-pow_right pos (omega arith) in
    let small : min k 16 ≤ 16 = omega arith in
    let two : 2 ^ min k 16 ≤ 2 ^ 16 = pow-le-pow_right pos small in
    (omega arith, le-leb v 65535 (omega arith))

each_in : (test : ℕ → Bool) (xs : List ℕ) → each test xs ≡ true → (x : ℕ) → Contains xs x → test x ≡ true
each_in test [] e x (k, below, is) = absurd (omega arith)
each_in test (y ∷ ys) e x (zero, below, is) = subst (λ z. test z ≡ true) is (and_parts (test y) (each test ys) e).0
each_in test (y ∷ ys) e x (suc k, below, is) = each_in test ys (and_parts (test y) (each test ys) e).1 x (k, omega arith, is)

each_from : (test : ℕ → Bool) (xs : List ℕ) → ((x : ℕ) → Contains xs x → test x ≡ true) → each test xs ≡ true
each_from test [] h = refl
each_from test (y ∷ ys) h =
    and_from (test y) (each test ys) (h y (0, omega arith, refl)) (each_from test ys (λ x i. h x (suc i.0, (let below = i.1 in omega arith), i.2)))

module _ (plan : Layout) (f : ℕ) (g : Region) (w : Interval) (h : HasWidths plan f g w) where
  fits_all : (size : WordSize) (v : ℕ) → v < 2 ^ w.lo → fits_size size v ≡ true → FitsAll plan f g size v
  fits_all size v fits e c n a k i at =
      let found = h.each c n a i in
      let same : found.0 ≡ k = same_width (allowed plan (address c n a) f) found.1 at in
      let low = found.2.low in
      let pos : 0 < 2 = omega arith in
      let more : 2 ^ w.lo ≤ 2 ^ k = pow-le-pow_right pos (omega arith) in
      fits_in size v k (omega arith) e

  all_fit : (size : WordSize) (v : ℕ) → FitsAll plan f g size v → (v < 2 ^ w.lo) × (fits_size size v ≡ true)
  all_fit size v all = let t = h.least in fits_back size v w.lo (all t.0 t.1 t.2 w.lo t.3 t.4)

  -- a value that does not fit at one of the addresses that send the fewest bits
  too_wide : (size : WordSize) (v : ℕ) (case : Case) → 2 ^ sized size w.lo ≤ v → Width v (sized size w.lo) ≡ case → IsTooWide plan f g size v case
  too_wide size v case le e =
      let t = h.least in
      record {
        crate_no = t.0;
        station = t.1;
        sub_address = t.2;
        inside = t.3;
        width = w.lo;
        is_width = t.4;
        wide = le;
        shown = sym e;
      }

  -- what fails the test does not fit there
  over : (size : WordSize) (v : ℕ) → (nat_lt v (2 ^ w.lo) && fits_size size v) ≡ false → 2 ^ sized size w.lo ≤ v
  over size v e =
      ⊎_elim
      (λ lt. let p = fits_back size v w.lo lt in absurd (false≢true (sym e ∙ and_from (nat_lt v (2 ^ w.lo)) (fits_size size v) (lt-ltb v (2 ^ w.lo) p.0) p.1)))
      (λ le. le) (cases_lt v (2 ^ sized size w.lo))

-- the greatest of some words is one of them, if there is one
greatest_word : (v : ℕ) (vs : List ℕ) → Contains (v ∷ vs) (greatest_of (v ∷ vs))
greatest_word v [] = (0, omega arith, omega arith)
greatest_word v (u ∷ us) =
    let t = greatest_word u us in
    ⊎_elim
    (λ lt. let less : v < greatest_of (u ∷ us) = lt in let same : greatest_of (u ∷ us) ≡ greatest_of (v ∷ u ∷ us) = omega arith in (suc t.0, (let below = t.1 in omega arith), subst (λ z. slice_index_or (u ∷ us) t.0 z ≡ z) same t.2))
    (λ ge. let same : v ≡ greatest_of (v ∷ u ∷ us) = omega arith in (0, omega arith, same))
    (cases_lt v (greatest_of (u ∷ us)))

none_greater : (xs : List ℕ) (x : ℕ) → Contains xs x → x ≤ greatest_of xs
none_greater [] x (k, below, is) = absurd (omega arith)
none_greater (y ∷ ys) x (zero, below, is) = omega arith
none_greater (y ∷ ys) x (suc k, below, is) = let le = none_greater ys x (k, omega arith, is) in omega arith

-- some word fails a test of widths, so the greatest does
greatest_fails : (n : ℕ) (xs : List ℕ) → each (λ v. nat_lt v n) xs ≡ false → IsGreatestWord xs (greatest_of xs) × (n ≤ greatest_of xs)
greatest_fails n [] e = absurd (cc)
greatest_fails n (y ∷ ys) e = (
  record { one = greatest_word y ys; most = none_greater (y ∷ ys) },
  ⊎_elim
      (λ lt. absurd (false≢true (sym e ∙ each_from (λ v. nat_lt v n) (y ∷ ys) (λ x i. lt-ltb x n (let le = none_greater (y ∷ ys) x i in omega arith)))))
      (λ le. le) (cases_lt (greatest_of (y ∷ ys)) n),
)

-- ---- the lines of the rules

-- an address is not refused by E5
not_wide : (c : Context) (spot : Spot) (f : ℕ) (g : Region) (at : Spot) (case : Case) → command_widths c.plan spot f g ≡ Err (broken ValueTooWide at case) → ⊥
not_wide c spot f g at case e =
    ⊎_elim
    (λ h. let r = required_err (are_stations c.plan g) StationNotInstalled spot (missing c.plan g) (broken ValueTooWide at case) h in let bad = r.1 in absurd (cc))
    (λ w. let r = given_err (region_widths c.plan f g) CommandNotDeclared spot (undeclared c.plan f g) (broken ValueTooWide at case) w.2 in let bad = r.1 in absurd (cc))
    (go_err (required (are_stations c.plan g) StationNotInstalled spot (missing c.plan g)) _ (broken ValueTooWide at case) e)

module _ (c : Context) (is : IsPlan c.plan) (around : Around) (spot : Spot) (size : WordSize) (f r : ℕ) (e : Expression) (k : Facts) (g : Region) (v : Interval)
    (range : range_of spot e k.ranges ≡ Ok v) (set : region_at k.registers r ≡ Some g) (has : HasAddresses g) where
  abbrev Fit : Interval → Bool
  Fit w = nat_lt v.hi (2 ^ w.lo) && fits_size size v.hi

  abbrev fourth : Interval → Result Verdict Fault
  fourth w = go_on (required (Fit w) ValueTooWide spot (Width v.hi (sized size w.lo))) (λ _. Ok (verdict (Some k) (one_cycle c around g.crates)))

  abbrev third : Interval → Result Verdict Fault
  third w = go_on (required (same_class Write (class_of f)) WrongDirection spot (direction f Write)) (λ _. fourth w)

  write_is : write_rule c around spot size f r e k ≡ go_on (command_widths c.plan spot f g) third
  write_is =
      go_is (range_of spot e k.ranges) v _ range
      ∙ after_given (region_at k.registers r) g RegisterUnset spot (Unset around.body r) (λ q. go_on (command_widths c.plan spot f q) (λ w. go_on (required (same_class Write (class_of f)) WrongDirection spot (direction f Write))
      (λ _. go_on (required (Fit w) ValueTooWide spot (Width v.hi (sized size w.lo))) (λ _. Ok (verdict (Some k) (one_cycle c around q.crates)))))) set

  widths_of : (w : Interval) → command_widths c.plan spot f g ≡ Ok w → HasWidths c.plan f g w
  unfolding CommandsAreJudged
  widths_of w h = (((commands_are_judged c.plan is spot f g has).accepted w).0 h).1

  is_write_fit : IsWriteFit c.plan f g size v.hi (write_rule c around spot size f r e k)
  is_write_fit = record {
    accepted = λ o h.
        let one = go_ok (command_widths c.plan spot f g) third o (sym write_is ∙ h) in
        let two = go_ok (required (same_class Write (class_of f)) WrongDirection spot (direction f Write)) (λ _. fourth one.0) o one.2 in
        let three = go_ok (required (Fit one.0) ValueTooWide spot (Width v.hi (sized size one.0.lo))) _ o two.2 in
        let p = and_parts (nat_lt v.hi (2 ^ one.0.lo)) (fits_size size v.hi) (required_true (Fit one.0) ValueTooWide spot (Width v.hi (sized size one.0.lo)) three.0 three.1) in
        fits_all c.plan f g one.0 (widths_of one.0 one.1) size v.hi (ltb-true v.hi (2 ^ one.0.lo) p.0) p.1;
    refused = λ at case h.
        ⊎_elim
        (λ t. absurd (not_wide c spot f g at case t))
        (λ one. ⊎_elim
        (λ t. let bad = t.1 in absurd (cc))
        (λ two. ⊎_elim
        (λ t. let bad = t.1 in let shown : Width v.hi (sized size one.0.lo) ≡ case = cc in
        too_wide c.plan f g one.0 (widths_of one.0 one.1) size v.hi case (over c.plan f g one.0 (widths_of one.0 one.1) size v.hi t.0) shown)
        (λ t. let bad = t.1 in absurd (cc))
        (after_test (Fit one.0) ValueTooWide spot (Width v.hi (sized size one.0.lo)) (Ok (verdict (Some k) (one_cycle c around g.crates))) (broken ValueTooWide at case) two.1))
        (after_test (same_class Write (class_of f)) WrongDirection spot (direction f Write) (fourth one.0) (broken ValueTooWide at case) one.2))
        (go_err (command_widths c.plan spot f g) third (broken ValueTooWide at case) (sym write_is ∙ h));
  }

pub writes_are_fit : WritesAreFit
unfolding WritesAreFit
writes_are_fit c is around spot size f r e k g v range set has = is_write_fit c is around spot size f r e k g v range set has

module _ (c : Context) (is : IsPlan c.plan) (around : Around) (spot : Spot) (f r : ℕ) (t : Option ℕ) (most x : ℕ) (k : Facts) (g : Region)
    (set : region_at k.registers r ≡ Some g) (has : HasAddresses g) where
  abbrev words : List ℕ
  words = words_sent c.tables t

  abbrev last : Interval → Result Region Fault
  last w = go_on (required (words_fit c.tables t w.lo) ValueTooWide spot (Width (greatest_of words) w.lo)) (λ _. Ok g)

  abbrev counted : Interval → Result Region Fault
  counted w = go_on (required (has_words c.tables t most) CountAboveTable spot (Count most (length words))) (λ _. last w)

  abbrev directed : Interval → Result Region Fault
  directed w = go_on (required (same_class (block_class t) (class_of f)) WrongDirection spot (direction f (block_class t))) (λ _. counted w)

  abbrev placed : Result Region Fault
  placed = go_on (command_widths c.plan spot f g) directed

  abbrev free : Result Region Fault
  free = go_on (given (region_at k.registers r) RegisterUnset spot (Unset around.body r)) (λ q. go_on (command_widths c.plan spot f q) (λ w.
      go_on (required (same_class (block_class t) (class_of f)) WrongDirection spot (direction f (block_class t))) (λ _.
      go_on (required (has_words c.tables t most) CountAboveTable spot (Count most (length words))) (λ _.
      go_on (required (words_fit c.tables t w.lo) ValueTooWide spot (Width (greatest_of words) w.lo)) (λ _. Ok q)))))

  free_is : free ≡ placed
  free_is = after_given (region_at k.registers r) g RegisterUnset spot (Unset around.body r) _ set

  places : (w : Interval) → command_widths c.plan spot f g ≡ Ok w → HasWidths c.plan f g w
  unfolding CommandsAreJudged
  places w h = (((commands_are_judged c.plan is spot f g has).accepted w).0 h).1

  each_fits : (o : Option ℕ) (w : Interval) → HasWidths c.plan f g w → words_fit c.tables o w.lo ≡ true → (word : ℕ) → Contains (words_sent c.tables o) word → FitsAll c.plan f g Full word
  each_fits None w h e word (n, below, at) = absurd (omega arith)
  each_fits (Some table) w h e word i =
      fits_all c.plan f g w h Full word (ltb-true word (2 ^ w.lo) (each_in (λ v. nat_lt v (2 ^ w.lo)) (unwrap_or (slice_get c.tables table) []) e word i)) refl

  one_fails : (o : Option ℕ) (w : Interval) → words_fit c.tables o w.lo ≡ false → IsGreatestWord (words_sent c.tables o) (greatest_of (words_sent c.tables o)) × (2 ^ w.lo ≤ greatest_of (words_sent c.tables o))
  one_fails None w e = absurd (cc)
  one_fails (Some table) w e = greatest_fails (2 ^ w.lo) (unwrap_or (slice_get c.tables table) []) e

  are_words_fit : AreWordsFit c.plan f g words (block_region c around spot f r t most x k)
  are_words_fit = record {
    accepted = λ q h word i.
        let zero_ = go_ok (required (may_write around x) LoopVariableAssigned spot (Counted around.body x)) _ q h in
        let one = go_ok (command_widths c.plan spot f g) directed q (sym free_is ∙ zero_.2) in
        let two = go_ok (required (same_class (block_class t) (class_of f)) WrongDirection spot (direction f (block_class t))) (λ _. counted one.0) q one.2 in
        let three = go_ok (required (has_words c.tables t most) CountAboveTable spot (Count most (length words))) (λ _. last one.0) q two.2 in
        let four = go_ok (required (words_fit c.tables t one.0.lo) ValueTooWide spot (Width (greatest_of words) one.0.lo)) _ q three.2 in
        each_fits t one.0 (places one.0 one.1) (required_true (words_fit c.tables t one.0.lo) ValueTooWide spot (Width (greatest_of words) one.0.lo) four.0 four.1) word i;
    refused = λ at case h.
        ⊎_elim
        (λ s. let bad = s.1 in absurd (cc))
        (λ zero_. ⊎_elim
        (λ s. absurd (not_wide c spot f g at case s))
        (λ one. ⊎_elim
        (λ s. let bad = s.1 in absurd (cc))
        (λ two. ⊎_elim
        (λ s. let bad = s.1 in absurd (cc))
        (λ three. ⊎_elim
        (λ s. let bad = s.1 in let shown : Width (greatest_of words) one.0.lo ≡ case = cc in
        let found = one_fails t one.0 s.0 in
        (greatest_of words, found.0, too_wide c.plan f g one.0 (places one.0 one.1) Full (greatest_of words) case found.1 shown))
        (λ s. let bad = s.1 in absurd (cc))
        (after_test (words_fit c.tables t one.0.lo) ValueTooWide spot (Width (greatest_of words) one.0.lo) (Ok g) (broken ValueTooWide at case) three.1))
        (after_test (has_words c.tables t most) CountAboveTable spot (Count most (length words)) (last one.0) (broken ValueTooWide at case) two.1))
        (after_test (same_class (block_class t) (class_of f)) WrongDirection spot (direction f (block_class t)) (counted one.0) (broken ValueTooWide at case) one.2))
        (go_err (command_widths c.plan spot f g) directed (broken ValueTooWide at case) (sym free_is ∙ zero_.1)))
        (after_test (may_write around x) LoopVariableAssigned spot (Counted around.body x) free (broken ValueTooWide at case) h);
  }

pub blocks_are_fit : BlocksAreFit
unfolding BlocksAreFit
blocks_are_fit c is around spot f r t most x k g set has = are_words_fit c is around spot f r t most x k g set has

-- ---- the words that are read

more_bits : (size : WordSize) (j k : ℕ) → j ≤ k → sized size j ≤ sized size k
more_bits Full j k le = le
more_bits Short j k le = omega arith

module _ (plan : Layout) (f : ℕ) (g : Region) (w : Interval) (size : WordSize) (word : ℕ) (h : HasWidths plan f g w) where
  to : IsWithin (interval 0 (2 ^ sized size w.hi - 1)) word → (c n a k : ℕ) × IsIn g c n a × (allowed plan (address c n a) f ≡ Some k) × (word < 2 ^ sized size k)
  to i =
      let high = i.high in
      let some : 0 < 2 ^ sized size w.hi = pow_pos (sized size w.hi) in
      let t = h.greatest in
      (t.0, t.1, t.2, w.hi, t.3, t.4, omega arith)

  back : (c n a k : ℕ) → IsIn g c n a → allowed plan (address c n a) f ≡ Some k → word < 2 ^ sized size k → IsWithin (interval 0 (2 ^ sized size w.hi - 1)) word
  back c n a k i at lt =
      let found = h.each c n a i in
      let same : found.0 ≡ k = same_width (allowed plan (address c n a) f) found.1 at in
      let high = found.2.high in
      let pos : 0 < 2 = omega arith in
      let more : 2 ^ sized size k ≤ 2 ^ sized size w.hi = pow-le-pow_right pos (more_bits size k w.hi (omega arith)) in
      record { low = omega arith; high = omega arith }

module _ (c : Context) (is : IsPlan c.plan) (around : Around) (spot : Spot) (size : WordSize) (f r x : ℕ) (k : Facts) (g : Region) (v : Verdict)
    (set : region_at k.registers r ≡ Some g) (has : HasAddresses g) (e : read_rule c around spot size f r x k ≡ Ok v) where
  abbrev left : Interval → Facts
  left w = with_range x (interval 0 (2 ^ sized size w.hi - 1)) k

  abbrev rest : Region → Result Verdict Fault
  rest q = go_on (command_widths c.plan spot f q) (λ w. go_on (required (same_class Read (class_of f)) WrongDirection spot (direction f Read)) (λ _.
      Ok (verdict (Some (left w)) (one_cycle c around q.crates))))

  is_read : (after : Facts) × (v.after ≡ Some after) × IsReadInto c.plan f g size x k after
  unfolding CommandsAreJudged
  is_read =
      let one = go_ok (required (may_write around x) LoopVariableAssigned spot (Counted around.body x)) (λ _. go_on (given (region_at k.registers r) RegisterUnset spot (Unset around.body r)) rest) v e in
      let two = go_ok (command_widths c.plan spot f g) (λ w. go_on (required (same_class Read (class_of f)) WrongDirection spot (direction f Read)) (λ _.
      Ok (verdict (Some (left w)) (one_cycle c around g.crates)))) v (sym (after_given (region_at k.registers r) g RegisterUnset spot (Unset around.body r) rest set) ∙ one.2) in
      let three = go_ok (required (same_class Read (class_of f)) WrongDirection spot (direction f Read)) _ v two.2 in
      let w : Interval = two.0 in
      let found : verdict (Some (left w)) (one_cycle c around g.crates) ≡ v = let same = three.2 in cc in
      let widths : HasWidths c.plan f g w = (((commands_are_judged c.plan is spot f g has).accepted w).0 two.1).1 in
      let own : range_at (left w).ranges x ≡ interval 0 (2 ^ sized size w.hi - 1) =
      write_at (only 0) k.ranges x x (interval 0 (2 ^ sized size w.hi - 1)) ∙ ap (λ b. if b then interval 0 (2 ^ sized size w.hi - 1) else range_at k.ranges x) (eq-eqb x x refl) in (
        left w,
        sym (ap (λ (q : Verdict). q.after) found),
        record {
          words = λ word. (
            λ i. to c.plan f g w size word widths (subst (λ q. IsWithin q word) own i),
            λ t. subst (λ q. IsWithin q word) (sym own) (back c.plan f g w size word widths t.0 t.1 t.2 t.3 t.4 t.5 t.6),
          );
          others = λ y other.
              write_at (only 0) k.ranges x y (interval 0 (2 ^ sized size w.hi - 1)) ∙ ap (λ b. if b then interval 0 (2 ^ sized size w.hi - 1) else range_at k.ranges y) (ne_eqb y x other);
          registers = refl;
        },
      )

pub reads_are_all : ReadsAreAll
reads_are_all c is around spot size f r x k g v set has e = is_read c is around spot size f r x k g v set has e
