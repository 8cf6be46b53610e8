-- What the rules accept of a scan runs safely.
use Rattle.std.proofs.Common.{◌≡◌, ℕ, ◌+◌, ◌-◌, ◌*◌, ◌<◌, ◌≤◌, Bool, true, false, List, [], ◌∷◌, ◌++◌, length, length-append, Some, None, refl, sym, ap, ◌∙◌, subst, arith, ⊎_elim, Option}
use Rattle.std.specs.Prelude.{◌&&◌, nat_eq, nat_lt, nat_le, min, is_some}
use Rattle.std.proofs.lemmas.Bool.{and_parts, or_cases, cond_both, cases_Bool, eqb-true, eqb-false, ltb-true, ltb-false, leb-true, eq-eqb}
use Rattle.camac_lang.specs.Tree.{Expression, address_scan}
use Rattle.camac_range.specs.Number.{greatest}
use Rattle.camac_range.specs.Interval.{only, Interval, IsWithin}
use Rattle.camac_func.specs.Class.{class_of}
use Rattle.camac_func.specs.declared.code.FunctionClass.TheVariants.{Read}
use Rattle.camac_func.specs.declared.data.DataMove.TheVariants as moved
use Rattle.camac_branch.specs.Address.{Address, address}
use Rattle.camac_branch.specs.Plan.{Layout, crate_waits}
use Rattle.camac_esone.specs.Transfers.{tally, next_station, successor, address_after, is_by, scan_next}
use Rattle.camac_esone.proofs.Parts.{tally-append, tally_none, tally_most}
use Rattle.camac_esone.proofs.ScanLists.{wanted_goes_on, one_more, by_station}
use Rattle.camac_model.specs.State.{stepped}
use Rattle.camac_model.specs.Behaviour.{Action, given, unless_wrong}
use Rattle.camac_model.specs.Value.{value}
use Rattle.camac_model.specs.Meaning.{transfer_to, effect}
use Rattle.camac_rules.specs.Known.{Region, region_at, Facts}
use Rattle.camac_rules.specs.Costs.{Verdict}
use Rattle.camac_rules.specs.Cycles.{may_write, same_class}
use Rattle.camac_rules.specs.Windows.{Window, window_of, is_installed, is_declared, window_size, scan_cycles, scan_kept, stations_of, sub_addresses_at, is_empty, holds_at, holds_over}
use Rattle.camac_rules.specs.Transfers.{is_one_crate, has_sub_addresses, scan_verdict, scan_rule}
use Rattle.camac_rules.proofs.Allows.{Allows, allowed as allows, then_allowed, required_allowed, given_allowed}
use Rattle.camac_rules.proofs.Stores.{Place, around_of, InRegion}
use Rattle.camac_rules.proofs.Values.{range_each}
use Rattle.camac_rules.proofs.Regions.{IsAllowed, some_of, widths_at}
use Rattle.camac_rules.proofs.Sound.{SoundFor}
use Rattle.camac_rules.proofs.Actions.{Setting, of, HasWidths, seen, with_given, with_test, value_of, address_of, reads}
use Rattle.camac_rules.proofs.Transfers.{IsBounded, transfer_sound}
use Rattle.camac_lang.specs.declared.spot.Spot.{Spot}
use Rattle.camac_rules.specs.Addresses.{crate_end, station_end, in_plan, is_station, all_in, station_widths}
use Rattle.camac_rules.proofs.Walks.{all_in_at}

-- What the rules say of a window holds at each of its addresses.

-- an address of a window
pub record InWindow (w : Window) (n a : ℕ) : Type 0 where
  pub from_first : w.first_station ≤ n
  pub to_last : n ≤ w.last_station
  pub after_first : n ≡ w.first_station → w.first_sub_address ≤ a
  pub before_last : n ≡ w.last_station → a ≤ w.last_sub_address
  pub sub_address : a ≤ 15

at_station : (w : Window) (n a : ℕ) → InWindow w n a → IsWithin (sub_addresses_at w n) a
at_station w n a i = record {
  low = cond_both (nat_eq n w.first_station) w.first_sub_address 0 (λ z. z ≤ a) (λ e. i.after_first (eqb-true n w.first_station e)) (λ e. omega arith);
  high = cond_both (nat_eq n w.last_station) w.last_sub_address 15 (λ z. a ≤ z) (λ e. i.before_last (eqb-true n w.last_station e)) (λ e. i.sub_address);
}

not_empty : (w : Window) (n a : ℕ) → InWindow w n a → is_empty w ≡ true → ⊥
not_empty w n a i e =
    let low = i.from_first in
    let high = i.to_last in
    ⊎_elim
    (λ t. let lt : w.last_station < w.first_station = ltb-true w.last_station w.first_station t in absurd (omega arith))
    (λ t. let p = and_parts (nat_eq w.first_station w.last_station) (nat_lt w.last_sub_address w.first_sub_address) t in
    let same : w.first_station ≡ w.last_station = eqb-true w.first_station w.last_station p.0 in
    let lt : w.last_sub_address < w.first_sub_address = ltb-true w.last_sub_address w.first_sub_address p.1 in
    let one = i.after_first (omega arith) in
    let two = i.before_last (omega arith) in
    absurd (omega arith))
    (or_cases (nat_lt w.last_station w.first_station) (nat_eq w.first_station w.last_station && nat_lt w.last_sub_address w.first_sub_address) e)

-- what holds over a window holds at each of its addresses
holds_there : (w : Window) (test : ℕ → Bool) (n a : ℕ) → holds_over w test ≡ true → InWindow w n a → test n ≡ true
holds_there w test n a h i =
    ⊎_elim
    (λ e. absurd (not_empty w n a i e))
    (λ e. let there = all_in_at station_end (stations_of w) (holds_at w test) n e (record { low = i.from_first; high = i.to_last }) in
    let span = at_station w n a i in
    let low = span.low in
    let high = span.high in
    ⊎_elim
    (λ t. let lt : (sub_addresses_at w n).hi < (sub_addresses_at w n).lo = ltb-true (sub_addresses_at w n).hi (sub_addresses_at w n).lo t in absurd (omega arith))
    (λ t. t)
    (or_cases (nat_lt (sub_addresses_at w n).hi (sub_addresses_at w n).lo) (test n) there.1))
    (or_cases (is_empty w) (all_in station_end (stations_of w) (holds_at w test)) h)

pub allowed_there : (plan : Layout) (f : ℕ) (w : Window) (n a : ℕ) → is_installed plan w ≡ true → is_declared plan f w ≡ true → InWindow w n a → (v : Interval) × IsAllowed plan (address w.crate_no n a) f v
allowed_there plan f w n a installed declared i =
    let there = holds_there w (λ n. nat_lt w.crate_no crate_end && (in_plan plan w.crate_no && is_station plan w.crate_no n)) n a installed i in
    let p = and_parts (nat_lt w.crate_no crate_end) (in_plan plan w.crate_no && is_station plan w.crate_no n) there in
    let q = and_parts (in_plan plan w.crate_no) (is_station plan w.crate_no n) p.1 in
    let waits = some_of (crate_waits plan w.crate_no) q.0 in
    let wide = holds_there w (λ n. is_some (station_widths plan f (sub_addresses_at w n) w.crate_no n)) n a declared i in
    let known = some_interval (station_widths plan f (sub_addresses_at w n) w.crate_no n) wide in
    let found = widths_at plan f (sub_addresses_at w n) w.crate_no n a known.0 known.1 (at_station w n a i) in (
      known.0,
      record {
        crate_below = ltb-true w.crate_no crate_end p.0;
        waits = waits.0;
        in_plan = waits.1;
        width = found.width;
        allowed = found.is;
        low = found.from_low;
        high = found.to_high;
      },
    )
  where
    some_interval : (o : Option Interval) → is_some o ≡ true → (v : Interval) × (o ≡ Some v)
    some_interval None e = cc
    some_interval (Some v) e = (v, refl)

-- where a scan has come to after these replies: each takes it on by an address, each Q=0 by a station
record HasCome (first : Address) (m : ℕ) (qs : List Bool) (at : Address) : Type 0 where
  crate_no : at.crate_no ≡ first.crate_no
  sub_address : at.sub_address ≤ 15
  place : 16 * first.station + first.sub_address + length qs ≤ 16 * at.station + at.sub_address
  station : first.station + length qs ≤ at.station + tally qs
  words : tally qs ≤ m

came_true : (first : Address) (m : ℕ) (qs : List Bool) (at : Address) → tally qs < m → HasCome first m qs at → HasCome first m (qs ++ true ∷ []) (successor true at)
came_true first m qs at fewer h =
    let long : length (qs ++ true ∷ []) ≡ length qs + 1 = length-append qs (true ∷ []) in
    let more : tally (qs ++ true ∷ []) ≡ tally qs + 1 = tally-append qs (true ∷ []) in
    let place = h.place in
    let station = h.station in
    let sub = h.sub_address in
    cond_both (nat_lt at.sub_address 15) (record at { sub_address = at.sub_address + 1 }) (next_station at) (HasCome first m (qs ++ true ∷ []))
    (λ e. let lt : at.sub_address < 15 = ltb-true at.sub_address 15 e in
    record { crate_no = h.crate_no; sub_address = omega arith; place = omega arith; station = omega arith; words = omega arith })
    (λ e. let ge : 15 ≤ at.sub_address = ltb-false at.sub_address 15 e in
    record { crate_no = h.crate_no; sub_address = omega arith; place = omega arith; station = omega arith; words = omega arith })

came_false : (first : Address) (m : ℕ) (qs : List Bool) (at : Address) → HasCome first m qs at → HasCome first m (qs ++ false ∷ []) (successor false at)
came_false first m qs at h =
    let long : length (qs ++ false ∷ []) ≡ length qs + 1 = length-append qs (false ∷ []) in
    let more : tally (qs ++ false ∷ []) ≡ tally qs = tally_none qs in
    let place = h.place in
    let station = h.station in
    let sub = h.sub_address in
    let words = h.words in
    record { crate_no = h.crate_no; sub_address = omega arith; place = omega arith; station = omega arith; words = omega arith }

came_on : (first : Address) (m : ℕ) (qs : List Bool) (q : Bool) → tally qs < m → HasCome first m qs (address_after first qs) → HasCome first m (qs ++ q ∷ []) (address_after first (qs ++ q ∷ []))
came_on first m qs true fewer h = subst (HasCome first m (qs ++ true ∷ [])) (sym (one_more first qs true)) (came_true first m qs (address_after first qs) fewer h)
came_on first m qs false fewer h = subst (HasCome first m (qs ++ false ∷ [])) (sym (one_more first qs false)) (came_false first m qs (address_after first qs) h)

by_sub_address : (last at : Address) → is_by last at ≡ true → at.station ≡ last.station → at.sub_address ≤ last.sub_address
by_sub_address last at e same =
    ⊎_elim
    (λ t. let lt : at.station < last.station = ltb-true at.station last.station t in absurd (omega arith))
    (λ t. leb-true at.sub_address last.sub_address (and_parts (nat_eq at.station last.station) (nat_le at.sub_address last.sub_address) t).1)
    (or_cases (nat_lt at.station last.station) (nat_eq at.station last.station && nat_le at.sub_address last.sub_address) e)

-- by what a scan may begin
record MayScan (plan : Layout) (around : Place) (f r1 r2 x : ℕ) (k : Facts) (g h : Region) : Type 0 where
  may : may_write (around_of around) x ≡ true
  first : region_at k.registers r1 ≡ Some g
  last : region_at k.registers r2 ≡ Some h
  one_crate : is_one_crate g h ≡ true
  installed : is_installed plan (window_of g h) ≡ true
  sub_addresses : has_sub_addresses g ≡ true
  declared : is_declared plan f (window_of g h) ≡ true
  class : same_class Read (class_of f) ≡ true

module _ (plan : Layout) (narrow : HasWidths plan) (around : Place) (f r1 r2 x most : ℕ) (k : Facts) (g h : Region) (may : MayScan plan around f r1 r2 x k g h) where
  abbrev Seen : Window
  Seen = window_of g h

  module _ (first last : Address) (m : ℕ) (in_first : InRegion g first) (in_last : InRegion h last) (le : m ≤ most) (small : m ≤ greatest) where
    crate_is : first.crate_no ≡ Seen.crate_no
    crate_is =
        let p = and_parts (nat_eq g.crates.lo g.crates.hi) (nat_eq h.crates.lo h.crates.hi && nat_eq g.crates.lo h.crates.lo) may.one_crate in
        let one : g.crates.lo ≡ g.crates.hi = eqb-true g.crates.lo g.crates.hi p.0 in
        let low = in_first.crate_no.low in
        let high = in_first.crate_no.high in
        omega arith

    first_small : first.sub_address ≤ 15
    first_small =
        let high = in_first.sub_address.high in
        let below : g.sub_addresses.hi < 16 = ltb-true g.sub_addresses.hi 16 may.sub_addresses in
        omega arith

    in_window : (qs : List Bool) (at : Address) → HasCome first m qs at → is_by last at ≡ true → InWindow Seen at.station at.sub_address
    in_window qs at c by =
        let n1 = in_first.station.low in
        let a1 = in_first.sub_address.low in
        let n2 = in_last.station.high in
        let a2 = in_last.sub_address.high in
        let place = c.place in
        let sub = c.sub_address in
        let until = by_station last at by in
        let here = first_small in
        record {
          from_first = omega arith;
          to_last = omega arith;
          after_first = λ e. omega arith;
          before_last = λ e. (let same : at.station ≡ last.station = omega arith in let b = by_sub_address last at by same in omega arith);
          sub_address = sub;
        }

    -- the address is one of those of the window from the first on, and its station one of those
    still_fewer : (qs : List Bool) (at : Address) → HasCome first m qs at → InWindow Seen at.station at.sub_address → tally qs < m → length qs < scan_cycles Seen most
    still_fewer qs at c i fewer =
        let n1 = in_first.station.low in
        let a1 = in_first.sub_address.low in
        let place = c.place in
        let station = c.station in
        let sub = i.sub_address in
        let until = i.to_last in
        let lasts = last_place at i in
        cond_both (nat_eq most 0) 0 (min (window_size Seen) (most + (Seen.last_station - Seen.first_station) + 1)) (λ z. length qs < z)
        (λ e. let none : most ≡ 0 = eqb-true most 0 e in absurd (omega arith))
        (λ e. omega arith)
      where
        last_place : (at : Address) → InWindow Seen at.station at.sub_address → 16 * at.station + at.sub_address ≤ 16 * Seen.last_station + Seen.last_sub_address
        last_place at i =
            let until = i.to_last in
            let sub = i.sub_address in
            ⊎_elim
            (λ t. let same : at.station ≡ Seen.last_station = eqb-true at.station Seen.last_station t in let b = i.before_last same in omega arith)
            (λ t. let other = eqb-false at.station Seen.last_station t in omega arith)
            (cases_Bool (nat_eq at.station Seen.last_station))

    few_cycles : scan_cycles Seen most ≤ window_size Seen
    few_cycles =
        cond_both (nat_eq most 0) 0 (min (window_size Seen) (most + (Seen.last_station - Seen.first_station) + 1)) (λ z. z ≤ window_size Seen) (λ e. omega arith) (λ e. omega arith)

    scan_bounded : IsBounded plan f None (scan_next first last m) (only Seen.crate_no) (scan_cycles Seen most) (scan_kept Seen most) (scan_kept Seen most) (λ qs. HasCome first m qs (address_after first qs))
    scan_bounded = record {
      first = record { crate_no = refl; sub_address = first_small; place = omega arith; station = omega arith; words = omega arith };
      each = λ qs to j e.
          let w = wanted_goes_on first last to m qs e in
          let at : Address = address_after first qs in
          let fewer : tally qs < m = w.0.fewer in
          let inside = in_window qs at j w.0.by in
          let all = allowed_there plan f Seen at.station at.sub_address may.installed may.declared inside in
          let crate : Seen.crate_no ≡ at.crate_no = sym (j.crate_no ∙ crate_is) in
          let here : IsAllowed plan at f all.0 = subst (λ c. IsAllowed plan (address c at.station at.sub_address) f all.0) crate all.1 in
          let there : IsAllowed plan to f all.0 = subst (λ a. IsAllowed plan a f all.0) (sym w.1) here in
          let same : to.crate_no ≡ Seen.crate_no = ap (λ a. a.crate_no) w.1 ∙ sym crate in
          record {
            in_crates = record { low = omega arith; high = omega arith };
            widths = all.0;
            allowed = there;
            moves = record {
              data' = moved.In;
              is = refl;
              safe = record { width = there.width; is_allowed = there.allowed; is_of_class = reads (class_of f) may.class; fits_width = tt };
            };
            fewer = still_fewer qs at j inside fewer;
            goes_on = λ q. came_on first m qs q fewer j;
          };
      tallies = λ qs j count.
          let ones = tally_most qs in
          let words = j.words in
          let cycles = few_cycles in
          record { most = omega arith; small = omega arith; words = omega arith };
    }

pub scan_sound : (c : Setting) → HasWidths c.plan → (around : Place) (spot : Spot) (f r1 r2 : ℕ) (e : Expression) (x : ℕ) (k : Facts) → Allows (scan_rule (seen c) (around_of around) spot f r1 r2 e x k) (SoundFor c.plan around (Some k) (λ n s. effect (of c) n (address_scan spot f r1 r2 e x) (stepped s)))
scan_sound c narrow around spot f r1 r2 e x k =
    then_allowed (range_each spot e k.ranges) (λ most gives.
    required_allowed _ spot _ (λ may.
    then_allowed (given_allowed (region_at k.registers r1) _ spot _) (λ g set1.
    then_allowed (given_allowed (region_at k.registers r2) _ spot _) (λ h set2.
    required_allowed _ spot _ (λ one.
    required_allowed _ spot _ (λ installed.
    required_allowed _ spot _ (λ declared.
    required_allowed _ spot _ (λ class. allows (record {
      each = λ n le s i.
          let p = and_parts (has_sub_addresses g) (has_sub_addresses h && is_declared c.plan f (window_of g h)) declared in
          let q = and_parts (has_sub_addresses h) (is_declared c.plan f (window_of g h)) p.1 in
          let scan : MayScan c.plan around f r1 r2 x k g h = record {
            may = may;
            first = set1;
            last = set2;
            one_crate = one;
            installed = installed;
            sub_addresses = p.0;
            declared = q.1;
            class = class;
          } in
          let w : Window = window_of g h in
          let v : Verdict = scan_verdict (seen c) (around_of around) w most.hi x k in
          let a = address_of (region_at k.registers r1) (s.registers r1) g set1 (i.registers r1) in
          let b = address_of (region_at k.registers r2) (s.registers r2) h set2 (i.registers r2) in
          let m = value_of (value e s.variables) most (gives s.variables i.variables) in
          let go : Address → Address → ℕ → Action = λ first last n. transfer_to c.plan f None (scan_next first last n) x in
          let third : Address → Address → ℕ → Action = λ first last n. unless_wrong (nat_eq first.crate_no last.crate_no) (go first last n) in
          let second : Address → Address → Action = λ first last. given (value e s.variables) (third first last) in
          let same : a.at.crate_no ≡ b.at.crate_no = one_crate g h a.at b.at one a.inside b.inside in
          with_given c.plan around v.after v.costs s (stepped s) (s.registers r1) (λ first. given (s.registers r2) (second first)) a.at a.is
          (with_given c.plan around v.after v.costs s (stepped s) (s.registers r2) (second a.at) b.at b.is
          (with_given c.plan around v.after v.costs s (stepped s) (value e s.variables) (third a.at b.at) m.number m.is
          (with_test c.plan around v.after v.costs s (stepped s) (nat_eq a.at.crate_no b.at.crate_no) (go a.at b.at m.number) (eq-eqb a.at.crate_no b.at.crate_no same)
          (transfer_sound c.plan narrow around k f None (scan_next a.at b.at m.number) x (only w.crate_no) (scan_cycles w most.hi) (scan_kept w most.hi) (scan_kept w most.hi) (λ qs. HasCome a.at m.number qs (address_after a.at qs))
          (scan_bounded c.plan narrow around f r1 r2 x most.hi k g h scan a.at b.at m.number a.inside b.inside m.fits.within.high m.fits.small) may s i))));
    })))))))))
  where
    one_crate : (g h : Region) (a b : Address) → is_one_crate g h ≡ true → InRegion g a → InRegion h b → a.crate_no ≡ b.crate_no
    one_crate g h a b one i j =
        let p = and_parts (nat_eq g.crates.lo g.crates.hi) (nat_eq h.crates.lo h.crates.hi && nat_eq g.crates.lo h.crates.lo) one in
        let q = and_parts (nat_eq h.crates.lo h.crates.hi) (nat_eq g.crates.lo h.crates.lo) p.1 in
        let g1 : g.crates.lo ≡ g.crates.hi = eqb-true g.crates.lo g.crates.hi p.0 in
        let h1 : h.crates.lo ≡ h.crates.hi = eqb-true h.crates.lo h.crates.hi q.0 in
        let gh : g.crates.lo ≡ h.crates.lo = eqb-true g.crates.lo h.crates.lo q.1 in
        let a1 = i.crate_no.low in
        let a2 = i.crate_no.high in
        let b1 = j.crate_no.low in
        let b2 = j.crate_no.high in
        omega arith
