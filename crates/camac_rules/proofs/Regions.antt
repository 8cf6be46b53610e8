-- A command that is accepted at a region is allowed at each of its addresses.
use Rattle.std.proofs.Common.{◌≡◌, ℕ, ◌+◌, ◌-◌, ◌<◌, ◌≤◌, Bool, true, false, Option, Some, None, refl, subst, arith}
use Rattle.std.specs.Prelude.{nat_lt, is_some, option_map, if◌then◌else◌}
use Rattle.std.proofs.lemmas.Bool.{and_parts}
use Rattle.camac_range.specs.Interval.{Interval, interval, IsWithin}
use Rattle.camac_branch.specs.Address.{Address, address}
use Rattle.camac_branch.specs.Allowed.{allowed, widths}
use Rattle.camac_branch.specs.Plan.{Layout, crate_waits}
use Rattle.camac_rules.specs.Known.{Region}
use Rattle.camac_rules.specs.Walks.{count_below}
use Rattle.camac_rules.specs.Addresses.{crate_end, station_end, sub_address_end, in_plan, is_station, all_in, are_stations_in, are_stations, station_widths, crate_widths, region_widths, command_widths}
use Rattle.camac_rules.proofs.Allows.{Allows, required_allowed, given_then}
use Rattle.camac_rules.proofs.Stores.{InRegion}
use Rattle.camac_rules.proofs.Walks.{all_in_at, IsPart, hull_from_at, IsWidth, least_and_greatest_at}
use Rattle.camac_lang.specs.declared.spot.Spot.{Spot}

-- a command that is allowed in a crate of the plan, with a width in a range
pub record IsAllowed (plan : Layout) (at : Address) (f : ℕ) (w : Interval) : Type 0 where
  pub crate_below : at.crate_no < 8
  pub waits : ℕ
  pub in_plan : crate_waits plan at.crate_no ≡ Some waits
  pub width : ℕ
  pub allowed : allowed plan at f ≡ Some width
  pub low : w.lo ≤ width
  pub high : width ≤ w.hi

pub some_of : (o : Option ℕ) → is_some o ≡ true → (v : ℕ) × (o ≡ Some v)
some_of None e = cc
some_of (Some v) e = (v, refl)

-- a width between two as a range
spread_is : (o : Option (ℕ × ℕ)) (w : Interval) → option_map (λ x. interval x.0 x.1) o ≡ Some w → o ≡ Some (w.lo, w.hi)
spread_is None w e = cc
spread_is (Some x) w e = let same : interval x.0 x.1 ≡ w = cc in subst (λ v. Some x ≡ Some (v.lo, v.hi)) same refl

under_test : {A : Type 0} (b : Bool) (o : Option A) (x : A) → (if b then o else None) ≡ Some x → (b ≡ true) × (o ≡ Some x)
under_test true o x e = (refl, e)
under_test false o x e = cc

pub widths_at : (plan : Layout) (f : ℕ) (subs : Interval) (c n a : ℕ) (w : Interval) → station_widths plan f subs c n ≡ Some w → IsWithin subs a → IsWidth (allowed plan (address c n a) f) w.lo w.hi
widths_at plan f subs c n a w e i =
    let p = under_test (nat_lt subs.hi sub_address_end) (option_map (λ x. interval x.0 x.1) (widths plan c n f subs.lo subs.hi)) w e in
    least_and_greatest_at (λ b. allowed plan (address c n b) f) subs.lo (subs.hi + 1 - subs.lo) a (w.lo, w.hi)
    (spread_is (widths plan c n f subs.lo subs.hi) w p.1) i.low (omega (arith, i.low, i.high))

region_allowed : (plan : Layout) (f : ℕ) (g : Region) (w : Interval) (at : Address) → are_stations plan g ≡ true → region_widths plan f g ≡ Some w → InRegion g at → IsAllowed plan at f w
region_allowed plan f g w at there e i =
    let crates = all_in_at crate_end g.crates (are_stations_in plan g.stations) at.crate_no there i.crate_no in
    let stations = and_parts (in_plan plan at.crate_no) (all_in station_end g.stations (is_station plan at.crate_no)) crates.1 in
    let station = all_in_at station_end g.stations (is_station plan at.crate_no) at.station stations.1 i.station in
    let known = some_of (crate_waits plan at.crate_no) stations.0 in
    let c_low = i.crate_no.low in
    let c_high = i.crate_no.high in
    let n_low = i.station.low in
    let n_high = i.station.high in
    let crate_lt = crates.0 in
    let station_lt = station.0 in
    let of_crate : IsPart (crate_widths plan f g.sub_addresses g.stations at.crate_no) w =
    hull_from_at (crate_widths plan f g.sub_addresses g.stations) g.crates.lo (count_below crate_end g.crates) at.crate_no w e c_low (omega arith) in
    let of_station : IsPart (station_widths plan f g.sub_addresses at.crate_no at.station) of_crate.part =
    hull_from_at (station_widths plan f g.sub_addresses at.crate_no) g.stations.lo (count_below station_end g.stations) at.station of_crate.part of_crate.is n_low (omega arith) in
    let found = widths_at plan f g.sub_addresses at.crate_no at.station at.sub_address of_station.part of_station.is i.sub_address in
    record {
      crate_below = crate_lt;
      waits = known.0;
      in_plan = known.1;
      width = found.width;
      allowed = found.is;
      low = omega (arith, found.from_low, of_station.low, of_crate.low);
      high = omega (arith, found.to_high, of_station.high, of_crate.high);
    }

pub command_allowed : (plan : Layout) (spot : Spot) (f : ℕ) (g : Region) → Allows (command_widths plan spot f g) (λ w. (at : Address) → InRegion g at → IsAllowed plan at f w)
command_allowed plan spot f g =
    required_allowed _ spot _ (λ there. given_then (region_widths plan f g) _ spot _ (λ w e at i. region_allowed plan f g w at there e i))
