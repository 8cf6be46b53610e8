-- By which rule a scan is refused at its window, and where.
use Rattle.std.proofs.Common.{◌≡◌, ℕ, ◌<◌, ◌≤◌, Bool, true, false, Option, Some, None, Result, Ok, Err, refl, sym, ◌∙◌, arith, ◌⊎◌, inl, inr, ⊎_elim}
use Rattle.std.specs.Prelude.{◌&&◌, nat_lt}
use Rattle.std.proofs.lemmas.Bool.{and_from, and_left, and_right, or_parts, cases_lt, lt-ltb, le-ltb, ltb-false, false≢true, false_from_ne_true}
use Rattle.camac_lang.specs.Tree.{Expression}
use Rattle.camac_func.specs.Class.{class_of}
use Rattle.camac_func.specs.declared.code.FunctionClass.TheVariants.{Read}
use Rattle.camac_range.specs.Interval.{Interval, IsWithin}
use Rattle.camac_branch.specs.Address.{address}
use Rattle.camac_branch.specs.Allowed.{allowed}
use Rattle.camac_branch.specs.Plan.{Layout, IsPlan}
use Rattle.camac_branch.proofs.Allowed.{allows_commands}
use Rattle.camac_rules.specs.declared.case.Case.{Case}
use Rattle.camac_rules.specs.declared.case.Case.TheVariants.{Counted, Unset}
use Rattle.camac_rules.specs.declared.rule.CheckRule.{CheckRule}
use Rattle.camac_rules.specs.declared.rule.CheckRule.TheVariants.{StationNotInstalled, CommandNotDeclared, WrongDirection, RegisterUnset, ScanCratesDiffer, LoopVariableAssigned}
use Rattle.camac_rules.specs.Cases.{crates_of, direction}
use Rattle.camac_rules.specs.Costs.{Verdict}
use Rattle.camac_rules.specs.Fault.{Fault, broken}
use Rattle.camac_rules.specs.Refusal.{go_on, required}
use Rattle.camac_rules.specs.Known.{Region, region, Facts, region_at}
use Rattle.camac_rules.specs.Walks.{first_outside}
use Rattle.camac_rules.specs.Addresses.{crate_end, station_end, sub_address_end, in_plan, is_station, all_in, has_command}
use Rattle.camac_rules.specs.Cycles.{Context, Around, may_write, same_class}
use Rattle.camac_rules.specs.Expressions.{range_of}
use Rattle.camac_rules.specs.Windows.{Window, window_of, stations_of, sub_addresses_at, is_empty, holds_at, holds_over, first_over, is_installed_at, is_installed, missing_over, is_declared_at, is_declared}
use Rattle.camac_rules.specs.Transfers.{is_one_crate, has_sub_addresses, undeclared_by, scan_verdict, scan_rule}
use Rattle.camac_laws.specs.Scans.{IsInWindow, ComesToWindow, IsPastLast, IsScanJudged, ScansAreJudged, AreInstalledOver, HasMissingOver, HasUndeclaredOver, WindowsAreInstalled, WindowsAreDeclared}
use Rattle.camac_laws.specs.Regions.{IsInstalled}
use Rattle.camac_laws.proofs.Steps.{go_is}
use Rattle.camac_laws.proofs.ShownAddresses.{first_is, station_same}
use Rattle.camac_laws.proofs.ShownWindows.{of_station, over_is, fails_at, after_test, after_given, last_has, first_at, windows_are_installed, windows_are_declared}
use Rattle.camac_laws.proofs.Regions.{crate_below, station_below, none_allowed, passed, failed}
use Rattle.camac_lang.specs.declared.spot.Spot.{Spot}

-- ---- where a test fails over a window

-- a station with an address of the window, of which the test does not hold if it has a number of a station
record FailsOver (w : Window) (test : ℕ → Bool) : Type 0 where
  at : ℕ
  inside : IsWithin (stations_of w) at
  some : (sub_addresses_at w at).lo ≤ (sub_addresses_at w at).hi
  fails : at < station_end → test at ≡ false

fails_over : (w : Window) (test : ℕ → Bool) → holds_over w test ≡ false → FailsOver w test
fails_over w test e =
    let first = over_is w test e in
    let low = first.inside.low in
    let high = first.inside.high in
    ⊎_elim
    (λ lt. let at = fails_at w test (first_over w test) (first.fails lt) in
    record { at = first_over w test; inside = first.inside; some = at.some; fails = λ _. at.fails })
    (λ past. record {
      at = w.last_station;
      inside = record { low = omega arith; high = omega arith };
      some = last_has w (or_parts (is_empty w) (all_in station_end (stations_of w) (holds_at w test)) e).0;
      fails = λ lt. absurd (omega arith);
    })
    (cases_lt (first_over w test) station_end)

module _ (plan : Layout) (is : IsPlan plan) (w : Window) (last : w.last_sub_address < sub_address_end) where
  some_missing : is_installed plan w ≡ false → HasMissingOver plan w
  some_missing e =
      let h = fails_over w (is_installed_at plan w) e in (
        h.at,
        (sub_addresses_at w h.at).lo,
        first_at w h.at last h.inside h.some,
        λ i.
            let all = and_from (nat_lt w.crate_no crate_end) (in_plan plan w.crate_no && is_station plan w.crate_no h.at)
            (lt-ltb w.crate_no crate_end (crate_below plan is w.crate_no i.crate_no))
            (and_from (in_plan plan w.crate_no) (is_station plan w.crate_no h.at) i.crate_no i.station) in
            false≢true (sym (h.fails (station_below plan is w.crate_no h.at i.station)) ∙ all),
      )

  some_undeclared : (f : ℕ) → is_declared plan f w ≡ false → HasUndeclaredOver plan f w
  some_undeclared f e = ⊎_elim below past (cases_lt h.at station_end)
    where
      h : FailsOver w (is_declared_at plan f w)
      h = fails_over w (is_declared_at plan f w) e

      past : station_end ≤ h.at → HasUndeclaredOver plan f w
      past le = (h.at, (sub_addresses_at w h.at).lo, first_at w h.at last h.inside h.some, go (allowed plan (address w.crate_no h.at (sub_addresses_at w h.at).lo) f) refl)
        where
          go : (o : Option ℕ) → allowed plan (address w.crate_no h.at (sub_addresses_at w h.at).lo) f ≡ o → o ≡ None
          go None at = refl
          go (Some k) at = let lt = (allows_commands plan is (address w.crate_no h.at (sub_addresses_at w h.at).lo) f k at).station in absurd (omega arith)

      below : h.at < station_end → HasUndeclaredOver plan f w
      below lt =
          let subs : Interval = sub_addresses_at w h.at in
          let a : ℕ = first_outside sub_address_end subs (has_command plan f w.crate_no h.at) in
          let first = first_is sub_address_end subs (has_command plan f w.crate_no h.at) h.some
          (sym (station_same plan f (region subs subs subs) h.some w.crate_no h.at) ∙ h.fails lt) in
          (h.at, a, of_station w h.at a (omega arith) h.inside first.inside, none_allowed plan (allows_commands plan is) f w.crate_no h.at a first.fails)

-- ---- the lines of the rule

module _ (c : Context) (is : IsPlan c.plan) (around : Around) (spot : Spot) (f r1 r2 : ℕ) (max : Expression) (x : ℕ) (k : Facts) (g h : Region) (comes : ComesToWindow c around spot r1 r2 max x k g h) where
  abbrev w : Window
  w = window_of g h

  last : w.last_sub_address < sub_address_end
  last = omega arith

  abbrev Declared : Bool
  Declared = has_sub_addresses g && (has_sub_addresses h && is_declared c.plan f w)

  abbrev third : Result Verdict Fault
  third = go_on (required (same_class Read (class_of f)) WrongDirection spot (direction f Read)) (λ _. Ok (scan_verdict c around w comes.most.hi x k))

  abbrev second : Result Verdict Fault
  second = go_on (required Declared CommandNotDeclared spot (undeclared_by c.plan f g h)) (λ _. third)

  abbrev first : Result Verdict Fault
  first = go_on (required (is_installed c.plan w) StationNotInstalled spot (missing_over c.plan w)) (λ _. second)

  scan_is : scan_rule c around spot f r1 r2 max x k ≡ first
  scan_is =
      go_is (range_of spot max k.ranges) comes.most _ comes.range
      ∙ passed (may_write around x) LoopVariableAssigned spot (Counted around.body x) _ comes.writes
      ∙ after_given (region_at k.registers r1) g RegisterUnset spot (Unset around.body r1) _ comes.first
      ∙ after_given (region_at k.registers r2) h RegisterUnset spot (Unset around.body r2) _ comes.last
      ∙ passed (is_one_crate g h) ScanCratesDiffer spot (crates_of g.crates h.crates) _ comes.one_crate

  abbrev Without : Type 0
  Without = IsPastLast g ⊎ (IsPastLast h ⊎ HasUndeclaredOver c.plan f w)

  no_third : (rule : CheckRule) (case : Case) → (rule ≡ StationNotInstalled) ⊎ (rule ≡ CommandNotDeclared) → third ≡ Err (broken rule spot case) → ⊥
  no_third rule case which e =
      ⊎_elim (λ t. let bad = t.1 in ⊎_elim (λ s. absurd (cc)) (λ s. absurd (cc)) which) (λ t. absurd (let bad = t.1 in cc))
      (after_test (same_class Read (class_of f)) WrongDirection spot (direction f Read) (Ok (scan_verdict c around w comes.most.hi x k)) (broken rule spot case) e)

  to_missing : (case : Case) → scan_rule c around spot f r1 r2 max x k ≡ Err (broken StationNotInstalled spot case) → HasMissingOver c.plan w
  to_missing case e =
      ⊎_elim (λ t. some_missing c.plan is w last t.0)
      (λ t. ⊎_elim (λ s. absurd (let bad = s.1 in cc)) (λ s. absurd (no_third StationNotInstalled case (inl refl) s.1))
      (after_test Declared CommandNotDeclared spot (undeclared_by c.plan f g h) third (broken StationNotInstalled spot case) t.1))
      (after_test (is_installed c.plan w) StationNotInstalled spot (missing_over c.plan w) second (broken StationNotInstalled spot case) (sym scan_is ∙ e))

  from_missing : (n a : ℕ) → IsInWindow w n a → (IsInstalled c.plan g.crates.lo n → ⊥) → scan_rule c around spot f r1 r2 max x k ≡ Err (broken StationNotInstalled spot (missing_over c.plan w))
  unfolding WindowsAreInstalled
  from_missing n a i not =
      scan_is
      ∙ failed (is_installed c.plan w) StationNotInstalled spot (missing_over c.plan w) second
      (false_from_ne_true (is_installed c.plan w) (λ e. not ((windows_are_installed c.plan is w last).0 e n a i)))

  without : Declared ≡ false → Without
  without e = by_first (has_sub_addresses g) refl e
    where
      by_second : (b : Bool) → has_sub_addresses h ≡ b → (b && is_declared c.plan f w) ≡ false → Without
      by_second false at t = inr (inl (ltb-false h.sub_addresses.hi sub_address_end at))
      by_second true at t = inr (inr (some_undeclared c.plan is w last f t))

      by_first : (b : Bool) → has_sub_addresses g ≡ b → (b && (has_sub_addresses h && is_declared c.plan f w)) ≡ false → Without
      by_first false at t = inl (ltb-false g.sub_addresses.hi sub_address_end at)
      by_first true at t = by_second (has_sub_addresses h) refl t

  not_declared : Without → Declared ≡ false
  unfolding WindowsAreDeclared
  not_declared s =
      ⊎_elim (λ le. and_left (has_sub_addresses g) (has_sub_addresses h && is_declared c.plan f w) (le-ltb g.sub_addresses.hi sub_address_end le))
      (λ t. and_right (has_sub_addresses g) (has_sub_addresses h && is_declared c.plan f w)
      (⊎_elim (λ le. and_left (has_sub_addresses h) (is_declared c.plan f w) (le-ltb h.sub_addresses.hi sub_address_end le))
      (λ u. and_right (has_sub_addresses h) (is_declared c.plan f w)
      (false_from_ne_true (is_declared c.plan f w) (λ e. let v = (windows_are_declared c.plan is f w last).0 e u.0 u.1 u.2 in absurd (let bad = sym u.3 ∙ v.1 in cc))))
      t))
      s

  to_undeclared : (case : Case) → scan_rule c around spot f r1 r2 max x k ≡ Err (broken CommandNotDeclared spot case) → AreInstalledOver c.plan w × Without
  unfolding WindowsAreInstalled
  to_undeclared case e =
      ⊎_elim (λ t. absurd (let bad = t.1 in cc))
      (λ t. ⊎_elim (λ s. ((windows_are_installed c.plan is w last).0 t.0, without s.0)) (λ s. absurd (no_third CommandNotDeclared case (inr refl) s.1))
      (after_test Declared CommandNotDeclared spot (undeclared_by c.plan f g h) third (broken CommandNotDeclared spot case) t.1))
      (after_test (is_installed c.plan w) StationNotInstalled spot (missing_over c.plan w) second (broken CommandNotDeclared spot case) (sym scan_is ∙ e))

  from_undeclared : AreInstalledOver c.plan w → Without → scan_rule c around spot f r1 r2 max x k ≡ Err (broken CommandNotDeclared spot (undeclared_by c.plan f g h))
  unfolding WindowsAreInstalled
  from_undeclared all out =
      scan_is
      ∙ passed (is_installed c.plan w) StationNotInstalled spot (missing_over c.plan w) second ((windows_are_installed c.plan is w last).1 all)
      ∙ failed Declared CommandNotDeclared spot (undeclared_by c.plan f g h) third (not_declared out)

  pub is_scan_judged : IsScanJudged c.plan spot f g h (scan_rule c around spot f r1 r2 max x k)
  is_scan_judged = record {
    not_installed = (λ e. to_missing e.0 e.1, λ t. (missing_over c.plan w, from_missing t.0 t.1 t.2 t.3));
    not_declared = (λ e. to_undeclared e.0 e.1, λ t. (undeclared_by c.plan f g h, from_undeclared t.0 t.1));
  }

pub scans_are_judged : ScansAreJudged
unfolding ScansAreJudged
scans_are_judged c is around spot f r1 r2 max x k g h comes = is_scan_judged c is around spot f r1 r2 max x k g h comes
