-- What the rules of a command at the addresses of a register come to.
use Rattle.std.proofs.Common.{◌≡◌, ℕ, zero, suc, ◌+◌, ◌-◌, ◌<◌, ◌≤◌, Bool, true, false, List, ◌∷◌, map, Option, Some, None, refl, sym, ap, ◌∙◌, subst, arith, ◌⊎◌, inl, inr, ⊎_elim, Result, Ok, Err}
use Rattle.std.specs.Prelude.{◌↔◌, ◌&&◌, ◌||◌, not, max, min, nat_eq, nat_lt, nat_le, is_some, option_map, unwrap_or, if◌then◌else◌}
use Rattle.std.specs.List.{range_with_len}
use Rattle.std.proofs.lemmas.Option.{same_Some}
use Rattle.std.proofs.lemmas.Bool.{and_parts, and_from, or_cases, or_left, or_right, cond_both, cases_lt, eqb-true, eq-eqb, lt-ltb, le-leb, leb-true, false≢true, false_from_ne_true}
use Rattle.camac_crate.specs.Lock.{permitted}
use Rattle.camac_range.specs.Interval.{Interval, interval, hull, IsWithin}
use Rattle.camac_module.specs.Commands.{extremes, least_and_greatest}
use Rattle.camac_branch.specs.declared.plan.Crate.{Crate}
use Rattle.camac_branch.specs.declared.plan.Installed.{Installed}
use Rattle.camac_branch.specs.Address.{address}
use Rattle.camac_branch.specs.Allowed.{allowed, widths, AllowsCommands}
use Rattle.camac_branch.specs.Plan.{Layout, IsPlan, crate_at, crate_waits, installed, station}
use Rattle.camac_branch.proofs.Allowed.{allows_commands, installed-in_range}
use Rattle.camac_branch.proofs.Numbered.{numbered-in_range}
use Rattle.camac_rules.specs.Known.{Region}
use Rattle.camac_rules.specs.Walks.{count_below, all_from, greatest_from, hull_with, hull_from, first_outside}
use Rattle.camac_rules.specs.Addresses.{crate_end, station_end, sub_address_end, in_plan, is_station, all_in, are_stations_in, are_stations, station_widths, crate_widths, region_widths, has_command, is_among, waits_in, command_widths, missing, undeclared}
use Rattle.camac_rules.proofs.Walks.{all_in_at, IsPart, hull_from_at, greatest_from_at}
use Rattle.camac_rules.proofs.Regions.{widths_at}
use Rattle.camac_laws.specs.ShownAddresses.{HasAddresses, IsFirst}
use Rattle.camac_laws.specs.Regions.{IsInstalled, IsIn, AreInstalled, HasUndeclared, StationsAreAll, HasWidths, WidthsAreAll, WaitsMayCome, CostIsGreatest, HasMissing, IsJudged, CommandsAreJudged}
use Rattle.camac_laws.proofs.ShownAddresses.{all_from_each, at_one, undeclared_shown, first_is, rest_fails}
use Rattle.camac_rules.specs.declared.case.Case.{Case}
use Rattle.camac_rules.specs.declared.rule.CheckRule.{CheckRule}
use Rattle.camac_rules.specs.declared.rule.CheckRule.TheVariants.{StationNotInstalled, CommandNotDeclared}
use Rattle.camac_rules.specs.Fault.{Fault, broken}
use Rattle.camac_rules.specs.Refusal.{go_on, required, given}
use Rattle.camac_laws.proofs.Steps.{go_err, required_err, required_true, given_err, given_ok, go_ok}
use Rattle.camac_lang.specs.declared.spot.Spot.{Spot}

-- ---- the numbers of a plan

pub crate_below : (plan : Layout) → IsPlan plan → (c : ℕ) → in_plan plan c ≡ true → c < crate_end
crate_below plan is c e = go (crate_at plan c) refl e
  where
    go : (o : Option Crate) → crate_at plan c ≡ o → is_some (option_map (λ k. k.waits) o) ≡ true → c < crate_end
    go None at t = absurd (cc)
    go (Some k) at t = let range = numbered-in_range plan.crates c k at in omega (arith, range.1, is.crate_places)

pub station_below : (plan : Layout) → IsPlan plan → (c n : ℕ) → is_station plan c n ≡ true → n < station_end
station_below plan is c n e =
    ⊎_elim (λ t. go (installed plan c n) refl t)
    (λ t. ⊎_elim (λ x. let one : n ≡ 28 = eqb-true n 28 x in omega arith) (λ x. let one : n ≡ 30 = eqb-true n 30 x in omega arith) (or_cases (nat_eq n 28) (nat_eq n 30) t))
    (or_cases (is_some (station plan c n)) (nat_eq n 28 || nat_eq n 30) e)
  where
    go : (o : Option Installed) → installed plan c n ≡ o → is_some (option_map (λ s. s.type_no) o) ≡ true → n < station_end
    go None at t = absurd (cc)
    go (Some s) at t = let range = installed-in_range plan is c n s at in omega (arith, range.3)

-- ---- stations

pub low_end : (r : Interval) → r.lo ≤ r.hi → IsWithin r r.lo
low_end r le = record { low = omega arith; high = le }

high_end : (r : Interval) → r.lo ≤ r.hi → IsWithin r r.hi
high_end r le = record { low = le; high = omega arith }

pub all_in_from : (end : ℕ) (r : Interval) (test : ℕ → Bool) → r.hi < end → ((i : ℕ) → IsWithin r i → test i ≡ true) → all_in end r test ≡ true
all_in_from end r test lt h =
    and_from (nat_lt r.hi end) (all_from test r.lo (count_below end r)) (lt-ltb r.hi end lt)
    (all_from_each test r.lo (count_below end r) (λ i low high. h i (record { low = low; high = omega arith })))

pub installed_at : (plan : Layout) (g : Region) → are_stations plan g ≡ true → AreInstalled plan g
installed_at plan g e c n a i =
    let crates = all_in_at crate_end g.crates (are_stations_in plan g.stations) c e i.crate_no in
    let p = and_parts (in_plan plan c) (all_in station_end g.stations (is_station plan c)) crates.1 in
    let s = all_in_at station_end g.stations (is_station plan c) n p.1 i.station in
    record { crate_no = p.0; station = s.1 }

pub installed_from : (plan : Layout) → IsPlan plan → (g : Region) → HasAddresses g → AreInstalled plan g → are_stations plan g ≡ true
installed_from plan is g has h =
    let last = high_end g.crates has.crates in
    let first_station = low_end g.stations has.stations in
    let last_station = high_end g.stations has.stations in
    all_in_from crate_end g.crates (are_stations_in plan g.stations) (crate_below plan is g.crates.hi (at g.crates.hi g.stations.lo last first_station).crate_no)
    (λ c i. and_from (in_plan plan c) (all_in station_end g.stations (is_station plan c)) (at c g.stations.lo i first_station).crate_no
    (all_in_from station_end g.stations (is_station plan c) (station_below plan is c g.stations.hi (at c g.stations.hi i last_station).station)
    (λ n j. (at c n i j).station)))
  where
    at : (c n : ℕ) → IsWithin g.crates c → IsWithin g.stations n → IsInstalled plan c n
    at c n i j = h c n g.sub_addresses.lo (record { crate_no = i; station = j; sub_address = low_end g.sub_addresses has.sub_addresses })

pub stations_are_all : StationsAreAll
unfolding StationsAreAll
stations_are_all plan is g has = (λ e. installed_at plan g e, λ h. installed_from plan is g has h)

-- ---- some range has the least number, and some the greatest

record IsEnd (range : ℕ → Option Interval) (k n : ℕ) (of : Interval → ℕ) (e : ℕ) : Type 0 where
  at : ℕ
  low : k ≤ at
  high : at < k + n
  part : Interval
  is : range at ≡ Some part
  same : of part ≡ e

here : (range : ℕ → Option Interval) (k n : ℕ) (of : Interval → ℕ) (e : ℕ) (r : Interval) → range k ≡ Some r → of r ≡ e → IsEnd range k (suc n) of e
here range k n of e r is same = record { at = k; low = omega arith; high = omega arith; part = r; is = is; same = same }

later : (range : ℕ → Option Interval) (k n : ℕ) (of : Interval → ℕ) (d e : ℕ) → IsEnd range (k + 1) n of d → d ≡ e → IsEnd range k (suc n) of e
later range k n of d e h same =
    let low = h.low in
    let high = h.high in
    record { at = h.at; low = omega arith; high = omega arith; part = h.part; is = h.is; same = h.same ∙ same }

hull_ends : (range : ℕ → Option Interval) (k n : ℕ) (w : Interval) → hull_from range k n ≡ Some w → IsEnd range k n (λ r. r.lo) w.lo × IsEnd range k n (λ r. r.hi) w.hi
hull_ends range k zero w e = absurd (cc)
hull_ends range k (suc zero) w e = (here range k 0 (λ r. r.lo) w.lo w e refl, here range k 0 (λ r. r.hi) w.hi w e refl)
hull_ends range k (suc (suc n)) w e = go (range k) (hull_from range (k + 1) (suc n)) refl refl e (λ v f. hull_ends range (k + 1) (suc n) v f)
  where
    go : (o p : Option Interval) → range k ≡ o → hull_from range (k + 1) (suc n) ≡ p → hull_with o p ≡ Some w
        → ((v : Interval) → hull_from range (k + 1) (suc n) ≡ Some v → IsEnd range (k + 1) (suc n) (λ r. r.lo) v.lo × IsEnd range (k + 1) (suc n) (λ r. r.hi) v.hi)
        → IsEnd range k (suc (suc n)) (λ r. r.lo) w.lo × IsEnd range k (suc (suc n)) (λ r. r.hi) w.hi
    go None p is rest f ih = absurd (cc)
    go (Some r) None is rest f ih = absurd (cc)
    go (Some r) (Some s) is rest f ih =
        let same : hull r s ≡ w = cc in
        let ends = ih s rest in
        let low : min r.lo s.lo ≡ w.lo = ap (λ v. v.lo) same in
        let high : max r.hi s.hi ≡ w.hi = ap (λ v. v.hi) same in (
          ⊎_elim (λ lt. here range k (suc n) (λ v. v.lo) w.lo r is (omega arith)) (λ ge. later range k (suc n) (λ v. v.lo) s.lo w.lo ends.0 (omega arith)) (cases_lt r.lo s.lo),
          ⊎_elim (λ lt. later range k (suc n) (λ v. v.hi) s.hi w.hi ends.1 (omega arith)) (λ ge. here range k (suc n) (λ v. v.hi) w.hi r is (omega arith)) (cases_lt r.hi s.hi),
        )

record IsWidthAt (w : ℕ → Option ℕ) (k n e : ℕ) : Type 0 where
  at : ℕ
  low : k ≤ at
  high : at < k + n
  is : w at ≡ Some e

width_here : (w : ℕ → Option ℕ) (k n e v : ℕ) → w k ≡ Some v → v ≡ e → IsWidthAt w k (suc n) e
width_here w k n e v is same = record { at = k; low = omega arith; high = omega arith; is = is ∙ ap Some same }

width_later : (w : ℕ → Option ℕ) (k n e : ℕ) → IsWidthAt w (k + 1) n e → IsWidthAt w k (suc n) e
width_later w k n e h =
    let low = h.low in
    let high = h.high in
    record { at = h.at; low = omega arith; high = omega arith; is = h.is }

-- one of the widths, or the one so far
abbrev IsOne : (ℕ → Option ℕ) → ℕ → ℕ → ℕ → ℕ → Type 0
IsOne w so_far k n e = (e ≡ so_far) ⊎ IsWidthAt w k n e

extremes_ends : (w : ℕ → Option ℕ) (so_far : ℕ × ℕ) (k n : ℕ) (x : ℕ × ℕ) → extremes so_far (map w (range_with_len k n)) ≡ Some x → IsOne w so_far.0 k n x.0 × IsOne w so_far.1 k n x.1
extremes_ends w so_far k zero x e = let same : so_far ≡ x = cc in (inl (sym (ap (λ p. p.0) same)), inl (sym (ap (λ p. p.1) same)))
extremes_ends w so_far k (suc n) x e = go (w k) refl e (λ next f. extremes_ends w next (k + 1) n x f)
  where
    go : (o : Option ℕ) → w k ≡ o → extremes so_far (o ∷ map w (range_with_len (k + 1) n)) ≡ Some x
        → ((next : ℕ × ℕ) → extremes next (map w (range_with_len (k + 1) n)) ≡ Some x → IsOne w next.0 (k + 1) n x.0 × IsOne w next.1 (k + 1) n x.1)
        → IsOne w so_far.0 k (suc n) x.0 × IsOne w so_far.1 k (suc n) x.1
    go None is f ih = absurd (cc)
    go (Some v) is f ih =
        let ends = ih (min so_far.0 v, max so_far.1 v) f in (
          ⊎_elim
              (λ e. ⊎_elim (λ lt. inl (omega arith)) (λ ge. inr (width_here w k n x.0 v is (omega arith))) (cases_lt so_far.0 v))
              (λ h. inr (width_later w k n x.0 h))
              ends.0,
          ⊎_elim
              (λ e. ⊎_elim (λ lt. inr (width_here w k n x.1 v is (omega arith))) (λ ge. inl (omega arith)) (cases_lt so_far.1 v))
              (λ h. inr (width_later w k n x.1 h))
              ends.1,
        )

least_ends : (w : ℕ → Option ℕ) (k n : ℕ) (x : ℕ × ℕ) → least_and_greatest (map w (range_with_len k n)) ≡ Some x → IsWidthAt w k n x.0 × IsWidthAt w k n x.1
least_ends w k zero x e = absurd (cc)
least_ends w k (suc n) x e = go (w k) refl e
  where
    go : (o : Option ℕ) → w k ≡ o → least_and_greatest (o ∷ map w (range_with_len (k + 1) n)) ≡ Some x → IsWidthAt w k (suc n) x.0 × IsWidthAt w k (suc n) x.1
    go None is f = absurd (cc)
    go (Some v) is f =
        let ends = extremes_ends w (v, v) (k + 1) n x f in (
          ⊎_elim (λ e. width_here w k n x.0 v is (sym e)) (λ h. width_later w k n x.0 h) ends.0,
          ⊎_elim (λ e. width_here w k n x.1 v is (sym e)) (λ h. width_later w k n x.1 h) ends.1,
        )

-- ---- the least and the greatest width of a region

-- a sub-address of a range with so many bits
record IsSub (plan : Layout) (f : ℕ) (subs : Interval) (c n e : ℕ) : Type 0 where
  at : ℕ
  inside : IsWithin subs at
  is : allowed plan (address c n at) f ≡ Some e

station_ends : (plan : Layout) (f : ℕ) (subs : Interval) (c n : ℕ) (w : Interval) → station_widths plan f subs c n ≡ Some w → IsSub plan f subs c n w.lo × IsSub plan f subs c n w.hi
station_ends plan f subs c n w e = spread (nat_lt subs.hi sub_address_end) (widths plan c n f subs.lo subs.hi) refl e
  where
    sub : (e : ℕ) → IsWidthAt (λ a. allowed plan (address c n a) f) subs.lo (subs.hi + 1 - subs.lo) e → IsSub plan f subs c n e
    sub e h =
        let low = h.low in
        let high = h.high in
        record { at = h.at; inside = record { low = low; high = omega arith }; is = h.is }

    spread : (b : Bool) (o : Option (ℕ × ℕ)) → widths plan c n f subs.lo subs.hi ≡ o → (if b then option_map (λ x. interval x.0 x.1) o else None) ≡ Some w → IsSub plan f subs c n w.lo × IsSub plan f subs c n w.hi
    spread false o is t = absurd (cc)
    spread true None is t = absurd (cc)
    spread true (Some x) is t =
        let same : interval x.0 x.1 ≡ w = cc in
        let ends = least_ends (λ a. allowed plan (address c n a) f) subs.lo (subs.hi + 1 - subs.lo) x is in
        subst (λ v. IsSub plan f subs c n v.lo × IsSub plan f subs c n v.hi) same (sub x.0 ends.0, sub x.1 ends.1)

module _ (plan : Layout) (f : ℕ) (g : Region) (w : Interval) (e : region_widths plan f g ≡ Some w) where
  abbrev OfCrate : ℕ → Option Interval
  OfCrate c = crate_widths plan f g.sub_addresses g.stations c

  abbrev OfStation : ℕ → ℕ → Option Interval
  OfStation c n = station_widths plan f g.sub_addresses c n

  -- at an address of the region, by the ends of this side
  end_of : (side : Interval → ℕ) → ((o : ℕ → Option Interval) (lo n : ℕ) (v : Interval) → hull_from o lo n ≡ Some v → IsEnd o lo n side (side v)) → ((c n : ℕ) (v : Interval) → OfStation c n ≡ Some v → IsSub plan f g.sub_addresses c n (side v))
      → (c n a : ℕ) × IsIn g c n a × (allowed plan (address c n a) f ≡ Some (side w))
  end_of side hull station =
      let one = hull OfCrate g.crates.lo (count_below crate_end g.crates) w e in
      let two = hull (OfStation one.at) g.stations.lo (count_below station_end g.stations) one.part one.is in
      let three = station one.at two.at two.part two.is in
      let c_low = one.low in
      let c_high = one.high in
      let n_low = two.low in
      let n_high = two.high in (
        one.at,
        two.at,
        three.at,
        record { crate_no = record { low = c_low; high = omega arith }; station = record { low = n_low; high = omega arith }; sub_address = three.inside },
        three.is ∙ ap Some (two.same ∙ one.same),
      )

  least_of : (c n a : ℕ) × IsIn g c n a × (allowed plan (address c n a) f ≡ Some w.lo)
  least_of = end_of (λ r. r.lo) (λ o lo n v is. (hull_ends o lo n v is).0) (λ c n v is. (station_ends plan f g.sub_addresses c n v is).0)

  greatest_of : (c n a : ℕ) × IsIn g c n a × (allowed plan (address c n a) f ≡ Some w.hi)
  greatest_of = end_of (λ r. r.hi) (λ o lo n v is. (hull_ends o lo n v is).1) (λ c n v is. (station_ends plan f g.sub_addresses c n v is).1)

  each_of : are_stations plan g ≡ true → (c n a : ℕ) → IsIn g c n a → (k : ℕ) × (allowed plan (address c n a) f ≡ Some k) × IsWithin w k
  each_of there c n a i =
      let crates = all_in_at crate_end g.crates (are_stations_in plan g.stations) c there i.crate_no in
      let p = and_parts (in_plan plan c) (all_in station_end g.stations (is_station plan c)) crates.1 in
      let station = all_in_at station_end g.stations (is_station plan c) n p.1 i.station in
      let c_low = i.crate_no.low in
      let c_high = i.crate_no.high in
      let n_low = i.station.low in
      let n_high = i.station.high in
      let crate_lt = crates.0 in
      let station_lt = station.0 in
      let of_crate : IsPart (OfCrate c) w = hull_from_at OfCrate g.crates.lo (count_below crate_end g.crates) c w e c_low (omega arith) in
      let of_station : IsPart (OfStation c n) of_crate.part =
      hull_from_at (OfStation c) g.stations.lo (count_below station_end g.stations) n of_crate.part of_crate.is n_low (omega arith) in
      let found = widths_at plan f g.sub_addresses c n a of_station.part of_station.is i.sub_address in (
        found.width,
        found.is,
        record { low = omega (arith, found.from_low, of_station.low, of_crate.low); high = omega (arith, found.to_high, of_station.high, of_crate.high) },
      )

  pub has_widths : are_stations plan g ≡ true → HasWidths plan f g w
  has_widths there = record { each = each_of there; least = least_of; greatest = greatest_of }

-- an address at which no rule finds the command
pub none_allowed : (plan : Layout) → AllowsCommands plan → (f c n a : ℕ) → (a < sub_address_end → has_command plan f c n a ≡ false) → allowed plan (address c n a) f ≡ None
none_allowed plan allows f c n a h = go (allowed plan (address c n a) f) refl
  where
    go : (o : Option ℕ) → allowed plan (address c n a) f ≡ o → o ≡ None
    go None e = refl
    go (Some k) e =
        let at = allows (address c n a) f k e in
        let below : a < sub_address_end = at.sub_address in
        absurd (false≢true (sym (h below) ∙ at_one plan f c n a below (ap is_some e)))

pub first_undeclared : (plan : Layout) → IsPlan plan → (f : ℕ) (g : Region) → HasAddresses g → are_stations plan g ≡ true → region_widths plan f g ≡ None → HasUndeclared plan f g
first_undeclared plan is f g has there e =
    let t = undeclared_shown plan f g has there e in
    let sub = t.1.1.1 in (
      _,
      _,
      _,
      record { crate_no = t.1.0.inside; station = t.1.1.0.inside; sub_address = sub.inside },
      none_allowed plan (allows_commands plan is) f _ _ _ sub.fails,
    )

pub same_width : {x y : ℕ} (o : Option ℕ) → o ≡ Some x → o ≡ Some y → x ≡ y
same_width o e h = same_Some _ _ (sym e ∙ h)

-- widths are not there, where one address has none
pub none_there : (plan : Layout) (f : ℕ) (g : Region) → are_stations plan g ≡ true → (c n a : ℕ) → IsIn g c n a → allowed plan (address c n a) f ≡ None → region_widths plan f g ≡ None
none_there plan f g there c n a i none = go (region_widths plan f g) refl
  where
    go : (o : Option Interval) → region_widths plan f g ≡ o → o ≡ None
    go None e = refl
    go (Some w) e = let k = (has_widths plan f g w e there).each c n a i in absurd (false≢true (ap is_some (sym none ∙ k.1)))

one_interval : (v w : Interval) → v.lo ≡ w.lo → v.hi ≡ w.hi → v ≡ w
one_interval v w low high = ap (λ l. interval l v.hi) low ∙ ap (λ h. interval w.lo h) high

-- there are no two least and greatest widths
widths_once : (plan : Layout) (f : ℕ) (g : Region) (v w : Interval) → HasWidths plan f g v → HasWidths plan f g w → v ≡ w
widths_once plan f g v w p q = one_interval v w (lows p.least q.least) (highs p.greatest q.greatest)
  where
    lows : ((c n a : ℕ) × IsIn g c n a × (allowed plan (address c n a) f ≡ Some v.lo)) → ((c n a : ℕ) × IsIn g c n a × (allowed plan (address c n a) f ≡ Some w.lo)) → v.lo ≡ w.lo
    lows x y =
        let j = q.each x.0 x.1 x.2 x.3 in
        let k = p.each y.0 y.1 y.2 y.3 in
        let one = same_width (allowed plan (address x.0 x.1 x.2) f) x.4 j.1 in
        let two = same_width (allowed plan (address y.0 y.1 y.2) f) y.4 k.1 in
        let above = j.2.low in
        let below = k.2.low in
        omega arith

    highs : ((c n a : ℕ) × IsIn g c n a × (allowed plan (address c n a) f ≡ Some v.hi)) → ((c n a : ℕ) × IsIn g c n a × (allowed plan (address c n a) f ≡ Some w.hi)) → v.hi ≡ w.hi
    highs x y =
        let j = q.each x.0 x.1 x.2 x.3 in
        let k = p.each y.0 y.1 y.2 y.3 in
        let one = same_width (allowed plan (address x.0 x.1 x.2) f) x.4 j.1 in
        let two = same_width (allowed plan (address y.0 y.1 y.2) f) y.4 k.1 in
        let above = j.2.high in
        let below = k.2.high in
        omega arith

pub widths_from : (plan : Layout) → IsPlan plan → (f : ℕ) (g : Region) → HasAddresses g → are_stations plan g ≡ true → (w : Interval) → HasWidths plan f g w → region_widths plan f g ≡ Some w
widths_from plan is f g has there w h = go (region_widths plan f g) refl
  where
    go : (o : Option Interval) → region_widths plan f g ≡ o → o ≡ Some w
    go None e = absurd (let t = first_undeclared plan is f g has there e in let k = h.each t.0 t.1 t.2 t.3 in false≢true (ap is_some (sym t.4 ∙ k.1)))
    go (Some v) e = ap Some (widths_once plan f g v w (has_widths plan f g v e there) h)

pub widths_are_all : WidthsAreAll
unfolding WidthsAreAll
widths_are_all plan is f g has there = record {
  some = λ w. (λ e. has_widths plan f g w e there, λ h. widths_from plan is f g has there w h);
  none = (λ e. first_undeclared plan is f g has there e, λ t. none_there plan f g there t.0 t.1 t.2 t.3 t.4);
}

-- ---- the cost of a cycle

-- one of some values is the greatest
record IsReached (value : ℕ → ℕ) (k n e : ℕ) : Type 0 where
  at : ℕ
  low : k ≤ at
  high : at < k + n
  same : value at ≡ e

greatest_reached : (value : ℕ → ℕ) (k n : ℕ) → IsReached value k (suc n) (greatest_from value k (suc n))
greatest_reached value k zero = record { at = k; low = omega arith; high = omega arith; same = omega arith }
greatest_reached value k (suc n) =
    let h = greatest_reached value (k + 1) n in
    let low = h.low in
    let high = h.high in
    let same = h.same in
    ⊎_elim (λ lt. record { at = h.at; low = omega arith; high = omega arith; same = omega arith })
    (λ ge. record { at = k; low = omega arith; high = omega arith; same = omega arith })
    (cases_lt (value k) (greatest_from value (k + 1) (suc n)))

no_waits : (plan : Layout) → IsPlan plan → (locked : List ℕ) (c : ℕ) → crate_end ≤ c → waits_in plan locked c ≡ 0
no_waits plan is locked c past =
    cond_both (is_among c locked) 0 (unwrap_or (crate_waits plan c) 0) (λ z. z ≡ 0) (λ e. refl) (λ e. go (crate_waits plan c) refl)
  where
    go : (o : Option ℕ) → crate_waits plan c ≡ o → unwrap_or o 0 ≡ 0
    go None at = refl
    go (Some w) at = let below = crate_below plan is c (ap is_some at) in absurd (omega arith)

pub cost_is_greatest : CostIsGreatest
unfolding CostIsGreatest
cost_is_greatest plan is locked crates some = record {
  each = λ c i.
      let low = i.low in
      let high = i.high in
      ⊎_elim
      (λ lt. let below = greatest_from_at (waits_in plan locked) crates.lo (count_below crate_end crates) c low (omega arith) in omega arith)
      (λ past. let none = no_waits plan is locked c past in omega arith)
      (cases_lt c crate_end);
  one = ⊎_elim
      (λ lt. let count : count_below crate_end crates ≡ suc (count_below crate_end crates - 1) = omega arith in
      let h : IsReached (waits_in plan locked) crates.lo (count_below crate_end crates) (greatest_from (waits_in plan locked) crates.lo (count_below crate_end crates)) =
      subst (λ n. IsReached (waits_in plan locked) crates.lo n (greatest_from (waits_in plan locked) crates.lo n)) (sym count)
      (greatest_reached (waits_in plan locked) crates.lo (count_below crate_end crates - 1)) in
      let low = h.low in
      let high = h.high in
      (h.at, record { low = low; high = omega arith }, ap (λ n. 1 + n) h.same))
      (λ past. let count : count_below crate_end crates ≡ 0 = omega arith in
      let zero_cost : greatest_from (waits_in plan locked) crates.lo (count_below crate_end crates) ≡ 0 = ap (greatest_from (waits_in plan locked) crates.lo) count in
      (crates.lo, low_end crates some, ap (λ n. 1 + n) (no_waits plan is locked crates.lo past ∙ sym zero_cost)))
      (cases_lt crates.lo crate_end);
}

-- a wait that may come is at most those of the crate, and none in a locked one
pub waits_may_come : WaitsMayCome
unfolding WaitsMayCome
waits_may_come plan locked c waits wait is = go (is_among c locked)
  where
    in_crate : (b : Bool) → (if b then 0 else unwrap_or (crate_waits plan c) 0) ≡ (if b then 0 else waits)
    in_crate b = ap (λ o. if b then 0 else unwrap_or o 0) is

    to : (b : Bool) → permitted b waits wait ≡ true → wait ≤ (if b then 0 else waits)
    to true e = ⊎_elim (λ t. let none : wait ≡ 0 = eqb-true wait 0 t in omega arith) (λ t. absurd (false≢true t)) (or_cases (nat_eq wait 0) (not true && nat_le wait waits) e)
    to false e = ⊎_elim (λ t. let none : wait ≡ 0 = eqb-true wait 0 t in omega arith) (λ t. leb-true wait waits t) (or_cases (nat_eq wait 0) (not false && nat_le wait waits) e)

    back : (b : Bool) → wait ≤ (if b then 0 else waits) → permitted b waits wait ≡ true
    back true le = or_left (nat_eq wait 0) (not true && nat_le wait waits) (eq-eqb wait 0 (omega arith))
    back false le = or_right (nat_eq wait 0) (not false && nat_le wait waits) (le-leb wait waits le)

    go : (b : Bool) → (permitted b waits wait ≡ true) ↔ (wait ≤ (if b then 0 else unwrap_or (crate_waits plan c) 0))
    go b = (λ e. subst (λ m. wait ≤ m) (sym (in_crate b)) (to b e), λ le. back b (subst (λ m. wait ≤ m) (in_crate b) le))

-- By which rule a command is refused, and where.

-- a test that fails is the fault; after one that holds what comes next is judged
pub failed : {B : Type 0} (b : Bool) (rule : CheckRule) (spot : Spot) (case : Case) (r : Result B Fault) → b ≡ false → go_on (required b rule spot case) (λ u. r) ≡ Err (broken rule spot case)
unfolding go_on required
failed b rule spot case r e = ap (λ t. go_on (required t rule spot case) (λ u. r)) e

pub passed : {B : Type 0} (b : Bool) (rule : CheckRule) (spot : Spot) (case : Case) (r : Result B Fault) → b ≡ true → go_on (required b rule spot case) (λ u. r) ≡ r
unfolding go_on required
passed b rule spot case r e = ap (λ t. go_on (required t rule spot case) (λ u. r)) e

absent : {A : Type 0} (o : Option A) (rule : CheckRule) (spot : Spot) (case : Case) → o ≡ None → given o rule spot case ≡ Err (broken rule spot case)
unfolding given
absent o rule spot case e = ap (λ p. given p rule spot case) e

present : {A : Type 0} (o : Option A) (x : A) (rule : CheckRule) (spot : Spot) (case : Case) → o ≡ Some x → given o rule spot case ≡ Ok x
unfolding given
present o x rule spot case e = ap (λ p. given p rule spot case) e

first_missing : (plan : Layout) → IsPlan plan → (g : Region) → HasAddresses g → are_stations plan g ≡ false → HasMissing plan g
first_missing plan is g has e = ⊎_elim below past (cases_lt c crate_end)
  where
    c : ℕ
    c = first_outside crate_end g.crates (are_stations_in plan g.stations)

    crate : IsFirst crate_end g.crates (are_stations_in plan g.stations) c
    crate = first_is crate_end g.crates (are_stations_in plan g.stations) has.crates e

    at_first : (IsInstalled plan c g.stations.lo → ⊥) → HasMissing plan g
    at_first not =
        (c, g.stations.lo, g.sub_addresses.lo, record { crate_no = crate.inside; station = low_end g.stations has.stations; sub_address = low_end g.sub_addresses has.sub_addresses }, not)

    past : crate_end ≤ c → HasMissing plan g
    past le = at_first (λ i. let lt = crate_below plan is c i.crate_no in omega arith)

    below : c < crate_end → HasMissing plan g
    below lt = go (in_plan plan c) refl
      where
        n : ℕ
        n = first_outside station_end g.stations (is_station plan c)

        go : (b : Bool) → in_plan plan c ≡ b → HasMissing plan g
        go false is_not = at_first (λ i. false≢true (sym is_not ∙ i.crate_no))
        go true there =
            let station = first_is station_end g.stations (is_station plan c) has.stations
            (rest_fails (in_plan plan c) (all_in station_end g.stations (is_station plan c)) there (crate.fails lt)) in (
              c,
              n,
              g.sub_addresses.lo,
              record { crate_no = crate.inside; station = station.inside; sub_address = low_end g.sub_addresses has.sub_addresses },
              λ i. false≢true (sym (station.fails (station_below plan is c n i.station)) ∙ i.station),
            )

module _ (plan : Layout) (is : IsPlan plan) (spot : Spot) (f : ℕ) (g : Region) (has : HasAddresses g) where
  to_missing : (case : Case) → command_widths plan spot f g ≡ Err (broken StationNotInstalled spot case) → HasMissing plan g
  to_missing case e =
      ⊎_elim (λ h. first_missing plan is g has (required_err (are_stations plan g) StationNotInstalled spot (missing plan g) (broken StationNotInstalled spot case) h).0)
      (λ w. absurd (let r = given_err (region_widths plan f g) CommandNotDeclared spot (undeclared plan f g) (broken StationNotInstalled spot case) w.2 in let bad = r.1 in cc))
      (go_err (required (are_stations plan g) StationNotInstalled spot (missing plan g)) _ (broken StationNotInstalled spot case) e)

  from_missing : (c n a : ℕ) → IsIn g c n a → (IsInstalled plan c n → ⊥) → command_widths plan spot f g ≡ Err (broken StationNotInstalled spot (missing plan g))
  from_missing c n a i not =
      failed (are_stations plan g) StationNotInstalled spot (missing plan g) (given (region_widths plan f g) CommandNotDeclared spot (undeclared plan f g))
      (false_from_ne_true (are_stations plan g) (λ e. not (installed_at plan g e c n a i)))

  to_undeclared : (case : Case) → command_widths plan spot f g ≡ Err (broken CommandNotDeclared spot case) → AreInstalled plan g × HasUndeclared plan f g
  to_undeclared case e =
      ⊎_elim (λ h. absurd (let r = required_err (are_stations plan g) StationNotInstalled spot (missing plan g) (broken CommandNotDeclared spot case) h in let bad = r.1 in cc))
      (λ w. let there = required_true (are_stations plan g) StationNotInstalled spot (missing plan g) w.0 w.1 in
      let none = (given_err (region_widths plan f g) CommandNotDeclared spot (undeclared plan f g) (broken CommandNotDeclared spot case) w.2).0 in
      (installed_at plan g there, first_undeclared plan is f g has there none))
      (go_err (required (are_stations plan g) StationNotInstalled spot (missing plan g)) _ (broken CommandNotDeclared spot case) e)

  from_undeclared : AreInstalled plan g → (c n a : ℕ) → IsIn g c n a → allowed plan (address c n a) f ≡ None → command_widths plan spot f g ≡ Err (broken CommandNotDeclared spot (undeclared plan f g))
  from_undeclared all c n a i none =
      let there = installed_from plan is g has all in
      passed (are_stations plan g) StationNotInstalled spot (missing plan g) (given (region_widths plan f g) CommandNotDeclared spot (undeclared plan f g)) there
      ∙ absent (region_widths plan f g) CommandNotDeclared spot (undeclared plan f g) (none_there plan f g there c n a i none)

  to_accepted : (w : Interval) → command_widths plan spot f g ≡ Ok w → AreInstalled plan g × HasWidths plan f g w
  to_accepted w e =
      let p = go_ok (required (are_stations plan g) StationNotInstalled spot (missing plan g)) _ w e in
      let there = required_true (are_stations plan g) StationNotInstalled spot (missing plan g) p.0 p.1 in
      (installed_at plan g there, has_widths plan f g w (given_ok (region_widths plan f g) CommandNotDeclared spot (undeclared plan f g) w p.2) there)

  from_accepted : (w : Interval) → AreInstalled plan g → HasWidths plan f g w → command_widths plan spot f g ≡ Ok w
  from_accepted w all h =
      let there = installed_from plan is g has all in
      passed (are_stations plan g) StationNotInstalled spot (missing plan g) (given (region_widths plan f g) CommandNotDeclared spot (undeclared plan f g)) there
      ∙ present (region_widths plan f g) w CommandNotDeclared spot (undeclared plan f g) (widths_from plan is f g has there w h)

  pub is_judged : IsJudged plan spot f g
  is_judged = record {
    not_installed = (λ e. to_missing e.0 e.1, λ t. (missing plan g, from_missing t.0 t.1 t.2 t.3 t.4));
    not_declared = (λ e. to_undeclared e.0 e.1, λ t. (undeclared plan f g, from_undeclared t.0 t.1.0 t.1.1 t.1.2 t.1.3 t.1.4));
    accepted = λ w. (λ e. to_accepted w e, λ t. from_accepted w t.0 t.1);
  }

pub commands_are_judged : CommandsAreJudged
unfolding CommandsAreJudged
commands_are_judged plan is spot f g has = is_judged plan is spot f g has
