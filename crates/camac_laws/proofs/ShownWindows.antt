-- What the case of a refused scan shows of its window.
use Rattle.std.proofs.Common.{◌≡◌, ℕ, ◌<◌, ◌≤◌, Bool, true, false, Option, Some, Result, Err, refl, sym, ap, ◌∙◌, subst, ◌⊎◌, inl, inr, ⊎_elim, arith, ◌+◌, ◌-◌, ◌*◌, ◌/◌, ◌%◌}
use Rattle.std.specs.Prelude.{◌&&◌, max, nat_eq, nat_lt, if◌then◌else◌, ◌||◌, is_some}
use Rattle.std.proofs.lemmas.Bool.{and_parts, or_cases, or_parts, eqb-true, eqb-false, ltb-true, ltb-false, lt-ltb, cases_lt, and_from, or_left, or_right, eq-eqb, false≢true}
use Rattle.camac_lang.specs.Tree.{Expression}
use Rattle.camac_func.specs.Class.{class_of}
use Rattle.camac_func.specs.declared.code.FunctionClass.TheVariants.{Read}
use Rattle.camac_range.specs.Interval.{IsWithin}
use Rattle.camac_branch.specs.Plan.{Layout}
use Rattle.camac_rules.specs.declared.case.Case.{Case}
use Rattle.camac_rules.specs.declared.case.Case.TheVariants.{NoCrate, NoModule, Counted, Unset}
use Rattle.camac_rules.specs.declared.rule.CheckRule.{CheckRule}
use Rattle.camac_rules.specs.declared.rule.CheckRule.TheVariants.{StationNotInstalled, CommandNotDeclared, WrongDirection, RegisterUnset, ScanCratesDiffer, LoopVariableAssigned, ValueOutOfRange}
use Rattle.camac_rules.specs.Cases.{crates_of, direction}
use Rattle.camac_rules.specs.Fault.{Fault, broken}
use Rattle.camac_rules.specs.Refusal.{go_on, required, given}
use Rattle.camac_rules.specs.Known.{Region, region, Facts, region_at}
use Rattle.camac_rules.specs.Walks.{first_outside}
use Rattle.camac_rules.specs.Addresses.{crate_end, station_end, sub_address_end, in_plan, is_station, all_in, has_command, station_widths}
use Rattle.camac_rules.specs.Cycles.{Context, Around, may_write, same_class}
use Rattle.camac_rules.specs.Expressions.{range_of}
use Rattle.camac_rules.specs.Windows.{Window, window_of, stations_of, sub_addresses_at, is_empty, holds_at, holds_over, first_over, is_installed_at, is_installed, missing_over, is_declared_at, is_declared, undeclared_over, window_size}
use Rattle.camac_rules.specs.Transfers.{is_one_crate, has_sub_addresses, past_sub_addresses, undeclared_by, scan_rule}
use Rattle.camac_rules.proofs.Walks.{all_in_at}
use Rattle.camac_laws.specs.ShownAddresses.{IsFirst, HasAddresses}
use Rattle.camac_laws.specs.Scans.{IsUpTo, IsInWindow, MissingOverShown, MissingOverAreShown, IsFirstUndeclared, IsPast, UndeclaredOverShown, UndeclaredOverAreShown, AreInstalledOver, AreDeclaredOver, WindowsAreInstalled, WindowsAreDeclared, WindowsAreCounted}
use Rattle.camac_laws.proofs.Steps.{go_err}
use Rattle.camac_laws.proofs.ShownAddresses.{first_is, rest_fails, station_same, at_one, one_of}
use Rattle.camac_laws.proofs.ShownExpressions.{expressions_are_shown}
use Rattle.camac_lang.specs.declared.spot.Spot.{Spot}
use Rattle.std.proofs.lemmas.Nat.{div-add-mod', mod_below}
use Rattle.camac_branch.specs.Address.{address}
use Rattle.camac_branch.proofs.Allowed.{allows_commands}
use Rattle.camac_rules.proofs.Regions.{widths_at}
use Rattle.camac_laws.proofs.Regions.{all_in_from, crate_below, station_below}

-- ---- the addresses of a window at one of its stations

from_low : (n m b a : ℕ) → (if nat_eq n m then b else 0) ≤ a → m ≤ n → IsUpTo m b n a
from_low n m b a h le = go (nat_eq n m) refl h
  where
    go : (t : Bool) → nat_eq n m ≡ t → (if t then b else 0) ≤ a → IsUpTo m b n a
    go true e l = inr (sym (eqb-true n m e), l)
    go false e l = ⊎_elim (λ lt. inl lt) (λ ge. let same : n ≡ m = omega arith in absurd (eqb-false n m e same)) (cases_lt m n)

from_high : (n m b a : ℕ) → a ≤ (if nat_eq n m then b else 15) → n ≤ m → IsUpTo n a m b
from_high n m b a h le = go (nat_eq n m) refl h
  where
    go : (t : Bool) → nat_eq n m ≡ t → a ≤ (if t then b else 15) → IsUpTo n a m b
    go true e l = inr (eqb-true n m e, l)
    go false e l = ⊎_elim (λ lt. inl lt) (λ ge. let same : n ≡ m = omega arith in absurd (eqb-false n m e same)) (cases_lt n m)

to_low : (n m b a : ℕ) → IsUpTo m b n a → (if nat_eq n m then b else 0) ≤ a
to_low n m b a i = go (nat_eq n m) refl
  where
    go : (t : Bool) → nat_eq n m ≡ t → (if t then b else 0) ≤ a
    go true e = let same : n ≡ m = eqb-true n m e in ⊎_elim (λ lt. absurd (omega arith)) (λ p. p.1) i
    go false e = omega arith

to_high : (n m b a : ℕ) → IsUpTo n a m b → a ≤ 15 → a ≤ (if nat_eq n m then b else 15)
to_high n m b a i le = go (nat_eq n m) refl
  where
    go : (t : Bool) → nat_eq n m ≡ t → a ≤ (if t then b else 15)
    go true e = let same : n ≡ m = eqb-true n m e in ⊎_elim (λ lt. absurd (omega arith)) (λ p. p.1) i
    go false e = le

most_15 : (t : Bool) (b : ℕ) → b ≤ 15 → (if t then b else 15) ≤ 15
most_15 true b h = h
most_15 false b h = omega arith

no_earlier : (m b n a : ℕ) → IsUpTo m b n a → m ≤ n
no_earlier m b n a i = ⊎_elim (λ lt. omega arith) (λ p. let e = p.0 in omega arith) i

-- the sub-addresses at a station are those of the window there
pub at_station : (w : Window) (n a : ℕ) → IsInWindow w n a → IsWithin (sub_addresses_at w n) a
at_station w n a i = record {
  low = to_low n w.first_station w.first_sub_address a i.from_first;
  high = to_high n w.last_station w.last_sub_address a i.to_last (let s = i.sub_address in omega arith);
}

pub of_station : (w : Window) (n a : ℕ) → w.last_sub_address ≤ 15 → IsWithin (stations_of w) n → IsWithin (sub_addresses_at w n) a → IsInWindow w n a
of_station w n a last s i =
    let top = most_15 (nat_eq n w.last_station) w.last_sub_address last in
    let high = i.high in
    record {
      from_first = from_low n w.first_station w.first_sub_address a i.low s.low;
      to_last = from_high n w.last_station w.last_sub_address a i.high s.high;
      sub_address = omega arith;
    }

pub stations_at : (w : Window) (n a : ℕ) → IsInWindow w n a → IsWithin (stations_of w) n
stations_at w n a i = record {
  low = no_earlier w.first_station w.first_sub_address n a i.from_first;
  high = no_earlier n a w.last_station w.last_sub_address i.to_last;
}

-- ---- the first station of which a test does not hold

pub over_is : (w : Window) (test : ℕ → Bool) → holds_over w test ≡ false → IsFirst station_end (stations_of w) (holds_at w test) (first_over w test)
over_is w test e =
    let p = or_parts (is_empty w) (all_in station_end (stations_of w) (holds_at w test)) e in
    let q = or_parts (nat_lt w.last_station w.first_station) (nat_eq w.first_station w.last_station && nat_lt w.last_sub_address w.first_sub_address) p.0 in
    first_is station_end (stations_of w) (holds_at w test) (ltb-false w.last_station w.first_station q.0) p.1

-- where it fails, the window has an address
pub record FailsAt (w : Window) (test : ℕ → Bool) (n : ℕ) : Type 0 where
  pub some : (sub_addresses_at w n).lo ≤ (sub_addresses_at w n).hi
  pub fails : test n ≡ false

pub fails_at : (w : Window) (test : ℕ → Bool) (n : ℕ) → holds_at w test n ≡ false → FailsAt w test n
fails_at w test n e =
    let p = or_parts (nat_lt (sub_addresses_at w n).hi (sub_addresses_at w n).lo) (test n) e in
    record { some = ltb-false (sub_addresses_at w n).hi (sub_addresses_at w n).lo p.0; fails = p.1 }

pub holds_there : (w : Window) (test : ℕ → Bool) (n a : ℕ) → holds_at w test n ≡ true → IsInWindow w n a → test n ≡ true
holds_there w test n a e i =
    let span = at_station w n a i in
    let low = span.low in
    let high = span.high in
    ⊎_elim
    (λ t. let lt : (sub_addresses_at w n).hi < (sub_addresses_at w n).lo = ltb-true (sub_addresses_at w n).hi (sub_addresses_at w n).lo t in absurd (omega arith))
    (λ t. t)
    (or_cases (nat_lt (sub_addresses_at w n).hi (sub_addresses_at w n).lo) (test n) e)

-- ---- stations

missing_over_at : (plan : Layout) (w : Window) → w.last_sub_address ≤ 15 → is_installed plan w ≡ false → MissingOverShown plan w (missing_over plan w)
missing_over_at plan w last e = go (nat_lt w.crate_no crate_end && in_plan plan w.crate_no) refl
  where
    n : ℕ
    n = first_over w (is_installed_at plan w)

    first : IsFirst station_end (stations_of w) (holds_at w (is_installed_at plan w)) n
    first = over_is w (is_installed_at plan w) e

    go : (t : Bool) → (nat_lt w.crate_no crate_end && in_plan plan w.crate_no) ≡ t → MissingOverShown plan w (if t then NoModule w.crate_no n else NoCrate w.crate_no)
    go false t = (refl, λ below. rest_fails (nat_lt w.crate_no crate_end) (in_plan plan w.crate_no) (lt-ltb w.crate_no crate_end below) t)
    go true t =
        let p = and_parts (nat_lt w.crate_no crate_end) (in_plan plan w.crate_no) t in (
          refl,
          (
            ltb-true w.crate_no crate_end p.0,
            (
              p.1,
              record {
                inside = first.inside;
                address = λ below.
                    let f = fails_at w (is_installed_at plan w) n (first.fails below) in
                    ((sub_addresses_at w n).lo, of_station w n (sub_addresses_at w n).lo last first.inside (record { low = omega arith; high = f.some }));
                missing = λ below.
                    rest_fails (in_plan plan w.crate_no) (is_station plan w.crate_no n) p.1
                    (rest_fails (nat_lt w.crate_no crate_end) (in_plan plan w.crate_no && is_station plan w.crate_no n) p.0
                    (fails_at w (is_installed_at plan w) n (first.fails below)).fails);
                earlier = λ m b i lt.
                    let s = stations_at w m b i in
                    let h = first.earlier m s.low lt in
                    let there = holds_there w (is_installed_at plan w) m b h.1 i in
                    let q = and_parts (nat_lt w.crate_no crate_end) (in_plan plan w.crate_no && is_station plan w.crate_no m) there in
                    (h.0, (and_parts (in_plan plan w.crate_no) (is_station plan w.crate_no m) q.1).1);
              },
            ),
          ),
        )

-- ---- commands

module _ (plan : Layout) (f : ℕ) (w : Window) (last : w.last_sub_address ≤ 15) (there : is_installed plan w ≡ true) (none : is_declared plan f w ≡ false) where
  abbrev n : ℕ
  n = first_over w (is_declared_at plan f w)

  first : IsFirst station_end (stations_of w) (holds_at w (is_declared_at plan f w)) n
  first = over_is w (is_declared_at plan f w) none

  below : n < station_end
  below =
      let e = or_parts (is_empty w) (all_in station_end (stations_of w) (holds_at w (is_declared_at plan f w))) none in
      ⊎_elim (λ t. absurd (let bad = e.0 in cc))
      (λ t. (all_in_at station_end (stations_of w) (holds_at w (is_installed_at plan w)) n t first.inside).0)
      (or_cases (is_empty w) (all_in station_end (stations_of w) (holds_at w (is_installed_at plan w))) there)

  -- declared at the sub-addresses of a station, one by one
  each_is : (m : ℕ) → (sub_addresses_at w m).lo ≤ (sub_addresses_at w m).hi → is_declared_at plan f w m ≡ all_in sub_address_end (sub_addresses_at w m) (has_command plan f w.crate_no m)
  each_is m some = station_same plan f (region (sub_addresses_at w m) (sub_addresses_at w m) (sub_addresses_at w m)) some w.crate_no m

  at_first : IsFirst sub_address_end (sub_addresses_at w n) (has_command plan f w.crate_no n) (first_outside sub_address_end (sub_addresses_at w n) (has_command plan f w.crate_no n))
  at_first =
      let h = fails_at w (is_declared_at plan f w) n (first.fails below) in
      first_is sub_address_end (sub_addresses_at w n) (has_command plan f w.crate_no n) h.some (sym (each_is n h.some) ∙ h.fails)

  undeclared_over_at : IsFirstUndeclared plan f w n (first_outside sub_address_end (sub_addresses_at w n) (has_command plan f w.crate_no n))
  undeclared_over_at =
      let a : ℕ = first_outside sub_address_end (sub_addresses_at w n) (has_command plan f w.crate_no n) in
      let i = of_station w n a last first.inside at_first.inside in
      record {
        inside = i;
        undeclared = at_first.fails i.sub_address;
        earlier = λ m b j before.
            let span = at_station w m b j in
            let low = span.low in
            let high = span.high in
            let some : (sub_addresses_at w m).lo ≤ (sub_addresses_at w m).hi = omega arith in
            ⊎_elim
            (λ lt. let s = stations_at w m b j in
            let h = first.earlier m s.low lt in
            let all = sym (each_is m some) ∙ holds_there w (is_declared_at plan f w) m b h.1 j in
            (all_in_at sub_address_end (sub_addresses_at w m) (has_command plan f w.crate_no m) b all span).1)
            (λ p. let here : IsWithin (sub_addresses_at w n) b = subst (λ x. IsWithin (sub_addresses_at w x) b) p.0 span in
            let e = at_first.earlier b here.low p.1 in
            subst (λ x. has_command plan f w.crate_no x b ≡ true) (sym p.0) e.1)
            before;
      }

past_at : (f : ℕ) (g : Region) → HasAddresses g → has_sub_addresses g ≡ false → IsPast g g.crates.lo g.stations.lo (max g.sub_addresses.lo sub_address_end)
past_at f g has e =
    let over : sub_address_end ≤ g.sub_addresses.hi = ltb-false g.sub_addresses.hi sub_address_end e in
    let some = has.sub_addresses in
    record {
      crate_no = refl;
      station = refl;
      sub_address = record {
        inside = record { low = omega arith; high = omega arith };
        fails = λ lt. absurd (omega arith);
        earlier = λ j low lt. (omega arith, refl);
      };
    }

undeclared_by_at : (plan : Layout) (f : ℕ) (g h : Region) → HasAddresses g → HasAddresses h → is_installed plan (window_of g h) ≡ true → (has_sub_addresses g && (has_sub_addresses h && is_declared plan f (window_of g h))) ≡ false → UndeclaredOverShown plan f g h (undeclared_by plan f g h)
undeclared_by_at plan f g h has_g has_h there e = go (has_sub_addresses g) refl e
  where
    inner : (t : Bool) → has_sub_addresses h ≡ t → (t && is_declared plan f (window_of g h)) ≡ false → UndeclaredOverShown plan f g h (if t then undeclared_over plan f (window_of g h) else past_sub_addresses f h)
    inner true s e2 = (refl, inr (inr (refl, undeclared_over_at plan f (window_of g h) (omega arith) there e2)))
    inner false s e2 = (refl, inr (inl (past_at f h has_h s)))

    go : (t : Bool) → has_sub_addresses g ≡ t → (t && (has_sub_addresses h && is_declared plan f (window_of g h))) ≡ false
        → UndeclaredOverShown plan f g h (if t then (if has_sub_addresses h then undeclared_over plan f (window_of g h) else past_sub_addresses f h) else past_sub_addresses f g)
    go true s e2 = inner (has_sub_addresses h) refl e2
    go false s e2 = (refl, inl (past_at f g has_g s))

-- ---- the lines of the rule

-- a test that fails is the fault, or the lines after it are
pub after_test : {B : Type 0} (b : Bool) (rule : CheckRule) (spot : Spot) (case : Case) (r : Result B Fault) (e : Fault) → go_on (required b rule spot case) (λ u. r) ≡ Err e → ((b ≡ false) × (broken rule spot case ≡ e)) ⊎ ((b ≡ true) × (r ≡ Err e))
unfolding go_on required
after_test true rule spot case r e h = inr (refl, h)
after_test false rule spot case r e h = inl (refl, cc)

-- what is there goes on
pub after_given : {A B : Type 0} (o : Option A) (x : A) (rule : CheckRule) (spot : Spot) (case : Case) (f : A → Result B Fault) → o ≡ Some x → go_on (given o rule spot case) f ≡ f x
unfolding go_on given
after_given o x rule spot case f e = ap (λ p. go_on (given p rule spot case) f) e

-- after the first tests of a scan
record ScanRefused (c : Context) (spot : Spot) (f : ℕ) (g h : Region) (fault : Fault) : Type 0 where
  tail : ((is_installed c.plan (window_of g h) ≡ false) × (broken StationNotInstalled spot (missing_over c.plan (window_of g h)) ≡ fault))
      ⊎ ((is_installed c.plan (window_of g h) ≡ true)
      × (((has_sub_addresses g && (has_sub_addresses h && is_declared c.plan f (window_of g h))) ≡ false)
      × (broken CommandNotDeclared spot (undeclared_by c.plan f g h) ≡ fault)))

-- the rules before and after those two
abbrev IsOther : CheckRule → Type 0
IsOther rule = ((rule ≡ ValueOutOfRange) ⊎ (rule ≡ LoopVariableAssigned)) ⊎ ((rule ≡ ScanCratesDiffer) ⊎ (rule ≡ WrongDirection))

scan_refused : (c : Context) (around : Around) (spot : Spot) (f r1 r2 : ℕ) (e : Expression) (x : ℕ) (k : Facts) (g h : Region) (rule : CheckRule) (at : Spot) (case : Case)
    → region_at k.registers r1 ≡ Some g → region_at k.registers r2 ≡ Some h
    → scan_rule c around spot f r1 r2 e x k ≡ Err (broken rule at case) → IsOther rule ⊎ ScanRefused c spot f g h (broken rule at case)
scan_refused c around spot f r1 r2 e x k g h rule at case is_g is_h refused =
    ⊎_elim (λ s. inl (inl (inl (expressions_are_shown spot e k.ranges rule at case s).0)))
    (λ most. ⊎_elim (λ s. let bad = s.1 in let one : rule ≡ LoopVariableAssigned = cc in inl (inl (inr one)))
    (λ s. let t = sym (after_given (region_at k.registers r1) g RegisterUnset spot (Unset around.body r1) _ is_g) ∙ s.1 in
    let u = sym (after_given (region_at k.registers r2) h RegisterUnset spot (Unset around.body r2) _ is_h) ∙ t in
    ⊎_elim (λ v. let bad = v.1 in let one : rule ≡ ScanCratesDiffer = cc in inl (inr (inl one)))
    (λ v. ⊎_elim (λ w. inr (record { tail = inl w }))
    (λ w. ⊎_elim (λ y. inr (record { tail = inr (w.0, y) }))
    (λ y. ⊎_elim (λ z. let bad = z.1 in let one : rule ≡ WrongDirection = cc in inl (inr (inr one)))
    (λ z. absurd (let bad = z.1 in cc))
    (after_test (same_class Read (class_of f)) WrongDirection spot (direction f Read) _ (broken rule at case) y.1))
    (after_test (has_sub_addresses g && (has_sub_addresses h && is_declared c.plan f (window_of g h))) CommandNotDeclared spot (undeclared_by c.plan f g h) _ (broken rule at case) w.1))
    (after_test (is_installed c.plan (window_of g h)) StationNotInstalled spot (missing_over c.plan (window_of g h)) _ (broken rule at case) v.1))
    (after_test (is_one_crate g h) ScanCratesDiffer spot (crates_of g.crates h.crates) _ (broken rule at case) u))
    (after_test (may_write around x) LoopVariableAssigned spot (Counted around.body x) _ (broken rule at case) most.2))
    (go_err (range_of spot e k.ranges) _ (broken rule at case) refused)

not_other : (rule : CheckRule) → (rule ≡ StationNotInstalled) ⊎ (rule ≡ CommandNotDeclared) → IsOther rule → ⊥
not_other rule is o =
    ⊎_elim
    (λ i. ⊎_elim (λ p. ⊎_elim (λ q. absurd (cc)) (λ q. absurd (cc)) p) (λ p. ⊎_elim (λ q. absurd (cc)) (λ q. absurd (cc)) p) o)
    (λ i. ⊎_elim (λ p. ⊎_elim (λ q. absurd (cc)) (λ q. absurd (cc)) p) (λ p. ⊎_elim (λ q. absurd (cc)) (λ q. absurd (cc)) p) o)
    is

pub missing_over_are_shown : MissingOverAreShown
missing_over_are_shown c around spot f r1 r2 max x k g h is_g is_h at case refused =
    ⊎_elim (λ o. absurd (not_other StationNotInstalled (inl refl) o))
    (λ s. ⊎_elim
    (λ t. let one = t.1 in
    let same : missing_over c.plan (window_of g h) ≡ case = cc in
    subst (MissingOverShown c.plan (window_of g h)) same (missing_over_at c.plan (window_of g h) (omega arith) t.0))
    (λ t. absurd (let bad = t.1.1 in cc))
    s.tail)
    (scan_refused c around spot f r1 r2 max x k g h StationNotInstalled at case is_g is_h refused)

pub undeclared_over_are_shown : UndeclaredOverAreShown
undeclared_over_are_shown c around spot f r1 r2 max x k g h is_g is_h has_g has_h at case refused =
    ⊎_elim (λ o. absurd (not_other CommandNotDeclared (inr refl) o))
    (λ s. ⊎_elim
    (λ t. absurd (let bad = t.1 in cc))
    (λ t. let one = t.1.1 in
    let same : undeclared_by c.plan f g h ≡ case = cc in
    subst (UndeclaredOverShown c.plan f g h) same (undeclared_by_at c.plan f g h has_g has_h t.0 t.1.0))
    s.tail)
    (scan_refused c around spot f r1 r2 max x k g h CommandNotDeclared at case is_g is_h refused)

-- What the rules of a scan come to at the addresses of its window.

-- ---- what holds over a window

not_empty : (w : Window) (n a : ℕ) → IsInWindow w n a → is_empty w ≡ true → ⊥
not_empty w n a i e =
    let s = stations_at w n a i in
    let low = s.low in
    let high = s.high in
    ⊎_elim
    (λ t. let lt : w.last_station < w.first_station = ltb-true w.last_station w.first_station t in omega arith)
    (λ t. let p = and_parts (nat_eq w.first_station w.last_station) (nat_lt w.last_sub_address w.first_sub_address) t in
    let same : w.first_station ≡ w.last_station = eqb-true w.first_station w.last_station p.0 in
    let lt : w.last_sub_address < w.first_sub_address = ltb-true w.last_sub_address w.first_sub_address p.1 in
    let above = after n a i.from_first (omega arith) in
    let below = before n a i.to_last (omega arith) in
    omega arith)
    (or_cases (nat_lt w.last_station w.first_station) (nat_eq w.first_station w.last_station && nat_lt w.last_sub_address w.first_sub_address) e)
  where
    after : (n a : ℕ) → IsUpTo w.first_station w.first_sub_address n a → n ≤ w.first_station → w.first_sub_address ≤ a
    after n a u le = ⊎_elim (λ lt. absurd (omega arith)) (λ p. p.1) u

    before : (n a : ℕ) → IsUpTo n a w.last_station w.last_sub_address → w.last_station ≤ n → a ≤ w.last_sub_address
    before n a u le = ⊎_elim (λ lt. absurd (omega arith)) (λ p. p.1) u

-- a test that holds over a window holds at the station of each of its addresses
over_at : (w : Window) (test : ℕ → Bool) (n a : ℕ) → holds_over w test ≡ true → IsInWindow w n a → test n ≡ true
over_at w test n a e i =
    ⊎_elim (λ t. absurd (not_empty w n a i t))
    (λ t. holds_there w test n a (all_in_at station_end (stations_of w) (holds_at w test) n t (stations_at w n a i)).1 i)
    (or_cases (is_empty w) (all_in station_end (stations_of w) (holds_at w test)) e)

-- its last station has an address of it
pub last_has : (w : Window) → is_empty w ≡ false → (sub_addresses_at w w.last_station).lo ≤ (sub_addresses_at w w.last_station).hi
last_has w e = low (nat_eq w.last_station w.first_station) refl (nat_eq w.last_station w.last_station) refl
  where
    low : (b : Bool) → nat_eq w.last_station w.first_station ≡ b → (d : Bool) → nat_eq w.last_station w.last_station ≡ d → (if b then w.first_sub_address else 0) ≤ (if d then w.last_sub_address else 15)
    low false is d at = omega arith
    low true is false at = absurd (eqb-false w.last_station w.last_station at refl)
    low true is true at =
        let same : w.last_station ≡ w.first_station = eqb-true w.last_station w.first_station is in
        let p = or_parts (nat_lt w.last_station w.first_station) (nat_eq w.first_station w.last_station && nat_lt w.last_sub_address w.first_sub_address) e in
        ⊎_elim
        (λ lt. absurd (false≢true (sym p.1 ∙ and_from (nat_eq w.first_station w.last_station) (nat_lt w.last_sub_address w.first_sub_address) (eq-eqb w.first_station w.last_station (sym same)) (lt-ltb w.last_sub_address w.first_sub_address lt))))
        (λ le. le)
        (cases_lt w.last_sub_address w.first_sub_address)

over_from : (w : Window) (test : ℕ → Bool) → ((n : ℕ) → IsWithin (stations_of w) n → (sub_addresses_at w n).lo ≤ (sub_addresses_at w n).hi → (n < station_end) × (test n ≡ true)) → holds_over w test ≡ true
over_from w test h = go (is_empty w) refl
  where
    go : (b : Bool) → is_empty w ≡ b → (b || all_in station_end (stations_of w) (holds_at w test)) ≡ true
    go true e = refl
    go false e =
        let p = or_parts (nat_lt w.last_station w.first_station) (nat_eq w.first_station w.last_station && nat_lt w.last_sub_address w.first_sub_address) e in
        let le : w.first_station ≤ w.last_station = ltb-false w.last_station w.first_station p.0 in
        all_in_from station_end (stations_of w) (holds_at w test) (h w.last_station (record { low = le; high = omega arith }) (last_has w e)).0
        (λ n i. ⊎_elim
        (λ lt. or_left (nat_lt (sub_addresses_at w n).hi (sub_addresses_at w n).lo) (test n) (lt-ltb (sub_addresses_at w n).hi (sub_addresses_at w n).lo lt))
        (λ some. or_right (nat_lt (sub_addresses_at w n).hi (sub_addresses_at w n).lo) (test n) (h n i some).1)
        (cases_lt (sub_addresses_at w n).hi (sub_addresses_at w n).lo))

pub first_at : (w : Window) (n : ℕ) → w.last_sub_address < sub_address_end → IsWithin (stations_of w) n → (sub_addresses_at w n).lo ≤ (sub_addresses_at w n).hi → IsInWindow w n (sub_addresses_at w n).lo
first_at w n last s some = of_station w n (sub_addresses_at w n).lo (omega arith) s (record { low = omega arith; high = some })

-- ---- stations

pub windows_are_installed : WindowsAreInstalled
unfolding WindowsAreInstalled
windows_are_installed plan is w last = (to, from)
  where
    to : is_installed plan w ≡ true → AreInstalledOver plan w
    to e n a i =
        let t = over_at w (is_installed_at plan w) n a e i in
        let p = and_parts (nat_lt w.crate_no crate_end) (in_plan plan w.crate_no && is_station plan w.crate_no n) t in
        let q = and_parts (in_plan plan w.crate_no) (is_station plan w.crate_no n) p.1 in
        record { crate_no = q.0; station = q.1 }

    from : AreInstalledOver plan w → is_installed plan w ≡ true
    from h =
        over_from w (is_installed_at plan w)
        (λ n s some. let i = h n (sub_addresses_at w n).lo (first_at w n last s some) in (
          station_below plan is w.crate_no n i.station,
          and_from (nat_lt w.crate_no crate_end) (in_plan plan w.crate_no && is_station plan w.crate_no n) (lt-ltb w.crate_no crate_end (crate_below plan is w.crate_no i.crate_no))
              (and_from (in_plan plan w.crate_no) (is_station plan w.crate_no n) i.crate_no i.station),
        ))

-- ---- commands

pub windows_are_declared : WindowsAreDeclared
unfolding WindowsAreDeclared
windows_are_declared plan is f w last = (to, from)
  where
    to : is_declared plan f w ≡ true → AreDeclaredOver plan f w
    to e n a i =
        let t = over_at w (is_declared_at plan f w) n a e i in
        let known = one_of (station_widths plan f (sub_addresses_at w n) w.crate_no n) t in
        let found = widths_at plan f (sub_addresses_at w n) w.crate_no n a known.0 known.1 (at_station w n a i) in
        (found.width, found.is)

    from : AreDeclaredOver plan f w → is_declared plan f w ≡ true
    from h =
        over_from w (is_declared_at plan f w)
        (λ n s some. let k = h n (sub_addresses_at w n).lo (first_at w n last s some) in (
          (allows_commands plan is (address w.crate_no n (sub_addresses_at w n).lo) f k.0 k.1).station,
          station_same plan f (region (sub_addresses_at w n) (sub_addresses_at w n) (sub_addresses_at w n)) some w.crate_no n
              ∙ all_in_from sub_address_end (sub_addresses_at w n) (has_command plan f w.crate_no n) (below n s some)
              (λ a i. let in_window = of_station w n a (omega arith) s i in at_one plan f w.crate_no n a in_window.sub_address (ap is_some (h n a in_window).1)),
        ))
      where
        below : (n : ℕ) → IsWithin (stations_of w) n → (sub_addresses_at w n).lo ≤ (sub_addresses_at w n).hi → (sub_addresses_at w n).hi < sub_address_end
        below n s some = (of_station w n (sub_addresses_at w n).hi (omega arith) s (record { low = some; high = omega arith })).sub_address

-- ---- how many there are

abbrev first_place : Window → ℕ
first_place w = 16 * w.first_station + w.first_sub_address

abbrev number_in : Window → ℕ → ℕ → ℕ
number_in w n a = 16 * n + a - first_place w

place_from : (m b n a : ℕ) → b < 16 → a < 16 → IsUpTo m b n a → 16 * m + b ≤ 16 * n + a
place_from m b n a low high u = ⊎_elim (λ lt. omega arith) (λ p. let same = p.0 in let le = p.1 in omega arith) u

up_to : (m b n a : ℕ) → b < 16 → a < 16 → 16 * m + b ≤ 16 * n + a → IsUpTo m b n a
up_to m b n a low high le =
    ⊎_elim (λ lt. inl lt) (λ ge. let same : m ≡ n = omega arith in inr (same, omega arith)) (cases_lt m n)

pub windows_are_counted : WindowsAreCounted
unfolding WindowsAreCounted
windows_are_counted w first last = (number_in w, record { each = each; own = own; all = all })
  where
    first_is : w.first_sub_address < 16
    first_is = first

    last_is : w.last_sub_address < 16
    last_is = last

    above : (n a : ℕ) → IsInWindow w n a → first_place w ≤ 16 * n + a
    above n a i = place_from w.first_station w.first_sub_address n a first_is i.sub_address i.from_first

    each : (n a : ℕ) → IsInWindow w n a → number_in w n a < window_size w
    each n a i =
        let low = above n a i in
        let high = place_from n a w.last_station w.last_sub_address i.sub_address last_is i.to_last in
        omega arith

    own : (n a m b : ℕ) → IsInWindow w n a → IsInWindow w m b → number_in w n a ≡ number_in w m b → (n ≡ m) × (a ≡ b)
    own n a m b i j e =
        let one = above n a i in
        let two = above m b j in
        let x : a < 16 = i.sub_address in
        let y : b < 16 = j.sub_address in
        (omega arith, omega arith)

    all : (k : ℕ) → k < window_size w → (n a : ℕ) × IsInWindow w n a × (number_in w n a ≡ k)
    all k lt =
        let t : ℕ = first_place w + k in
        let n : ℕ = t / 16 in
        let a : ℕ = t % 16 in
        let whole : n * 16 + a ≡ t = div-add-mod' t 16 in
        let below : a < 16 = mod_below t 16 (omega arith) in (
          n,
          a,
          record {
            from_first = up_to w.first_station w.first_sub_address n a first_is below (omega arith);
            to_last = up_to n a w.last_station w.last_sub_address below last_is (omega arith);
            sub_address = below;
          },
          omega arith,
        )
