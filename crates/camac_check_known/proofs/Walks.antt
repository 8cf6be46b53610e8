-- Walks over ranges and regions, a number at a time.
use Rattle.std.proofs.Common.{◌≡◌, ℕ, zero, suc, ◌+◌, ◌-◌, ◌<◌, ◌≤◌, Bool, true, false, ◌∷◌, length, map, Option, Some, None, Result, Ok, Err, refl, sym, ap, ◌∙◌, subst, ⊎_elim, arith, ap₂}
use Rattle.std.proofs.lemmas.Bool.{cond_both, cases_lt, lt-ltb}
use Rattle.std.proofs.lemmas.List.{get_or_past}
use Rattle.std.specs.Prelude.{is_none, IfOk, IfSome, ◌&&◌, min, max, nat_lt, option_map, unwrap_or, if◌then◌else◌, is_some}
use Rattle.std.specs.List.{range_with_len}
use Rattle.camac_range.specs.Interval.{Interval, interval}
use Rattle.camac_module.specs.Commands.{extremes, least_and_greatest}
use Rattle.camac_branch.specs.Address.{address}
use Rattle.camac_branch.specs.Allowed.{allowed, widths, AllowsCommands}
use Rattle.camac_branch.specs.Plan.{Layout, IsPlan, crate_waits}
use Rattle.camac_rules.specs.Known.{Region}
use Rattle.camac_rules.specs.Walks.{count_below, all_from, first_failing, greatest_from, hull_with, hull_from}
use Rattle.camac_rules.specs.Addresses.{crate_end, station_end, sub_address_end, in_plan, are_stations_in, station_widths, crate_widths, region_widths, all_in, are_stations, command_widths, is_station, missing, undeclared}
use Rattle.camac_rules.specs.declared.case.Case.{Case}
use Rattle.camac_rules.specs.declared.rule.CheckRule.{CheckRule}
use Rattle.camac_rules.specs.Refusal.{given, go_on, required}
use Rattle.camac_rules.specs.declared.rule.CheckRule.TheVariants.{StationNotInstalled, CommandNotDeclared}
use Rattle.camac_rules.proofs.Walks.{least_and_greatest_at}
use Rattle.camac_check_known.specs.declared.fault.CheckFault.{CheckFault}
use Rattle.camac_check_known.specs.Gives.{Gives}
use Rattle.camac_lang.specs.declared.spot.Spot.{Spot}

-- Walks over ranges, a number at a time, and what there is not where no crate is.

longer : (k end : ℕ) → k < end → end - k ≡ suc (end - (k + 1))
longer k end h = omega arith

none_left : (k end : ℕ) → end ≤ k → end - k ≡ 0
none_left k end h = omega arith

pub first_done : (test : ℕ → Bool) (k end : ℕ) → end ≤ k → first_failing test k (end - k) ≡ None
first_done test k end h = ap (first_failing test k) (none_left k end h)

pub first_more : (test : ℕ → Bool) (k end : ℕ) → k < end → first_failing test k (end - k) ≡ (if test k then first_failing test (k + 1) (end - (k + 1)) else Some k)
first_more test k end h = ap (first_failing test k) (longer k end h)

pub ruleset first_steps = (first_done, first_more)

-- a test holds of all where it fails of none
pub all_found : (test : ℕ → Bool) (k n : ℕ) → all_from test k n ≡ is_none (first_failing test k n)
all_found test k zero = refl
all_found test k (suc n) =
    cond_both (test k) (first_failing test (k + 1) n) (Some k) (λ o. (test k && all_from test (k + 1) n) ≡ is_none o)
    (λ e. ap (λ b. b && all_from test (k + 1) n) e ∙ all_found test (k + 1) n)
    (λ e. ap (λ b. b && all_from test (k + 1) n) e)

pub greatest_done : (value : ℕ → ℕ) (k end : ℕ) → end ≤ k → greatest_from value k (end - k) ≡ 0
greatest_done value k end h = ap (greatest_from value k) (none_left k end h)

pub greatest_more : (value : ℕ → ℕ) (k end : ℕ) → k < end → greatest_from value k (end - k) ≡ max (value k) (greatest_from value (k + 1) (end - (k + 1)))
greatest_more value k end h = ap (greatest_from value k) (longer k end h)

pub ruleset greatest_steps = (greatest_done, greatest_more)

pub hull_done : (range : ℕ → Option Interval) (k end : ℕ) → end ≤ k → hull_from range k (end - k) ≡ None
hull_done range k end h = ap (hull_from range k) (none_left k end h)

pub hull_last : (range : ℕ → Option Interval) (k end : ℕ) → k < end → end ≤ k + 1 → hull_from range k (end - k) ≡ range k
hull_last range k end h g = let one : end - k ≡ 1 = omega arith in ap (hull_from range k) one

pub hull_more : (range : ℕ → Option Interval) (k end : ℕ) → k + 1 < end → hull_from range k (end - k) ≡ hull_with (range k) (hull_from range (k + 1) (end - (k + 1)))
hull_more range k end h =
    let two : end - k ≡ suc (suc (end - (k + 2))) = omega arith in
    let one : suc (end - (k + 2)) ≡ end - (k + 1) = omega arith in
    ap (hull_from range k) two ∙ ap (λ n. hull_with (range k) (hull_from range (k + 1) n)) one

pub none_hulls : (o : Option Interval) → hull_with o None ≡ None
none_hulls None = refl
none_hulls (Some r) = refl

-- no range of one that is not there
pub hull_stops : (range : ℕ → Option Interval) (k end : ℕ) → k < end → range k ≡ None → hull_from range k (end - k) ≡ None
hull_stops range k end h e = ap (hull_from range k) (longer k end h) ∙ go (end - (k + 1))
  where
    go : (n : ℕ) → hull_from range k (suc n) ≡ None
    go zero = e
    go (suc n) = ap (λ o. hull_with o (hull_from range (k + 1) (suc n))) e

pub ruleset hull_steps = (hull_done, hull_last, hull_more, hull_stops, none_hulls)

-- There is no crate 0.
pub no_crate : (plan : Layout) (c : ℕ) → c ≡ 0 → in_plan plan c ≡ false
no_crate plan c e = ap (in_plan plan) e

pub not_there : (plan : Layout) (stations : Interval) (c : ℕ) → c ≡ 0 → are_stations_in plan stations c ≡ false
not_there plan stations c e = ap (are_stations_in plan stations) e

pub no_least : (w : ℕ → Option ℕ) (m k : ℕ) → ((a : ℕ) → w a ≡ None) → least_and_greatest (map w (range_with_len k m)) ≡ None
no_least w zero k h = refl
no_least w (suc m) k h = ap (λ o. least_and_greatest (o ∷ map w (range_with_len (k + 1) m))) (h k)

no_station : (plan : Layout) (f : ℕ) (subs : Interval) (n : ℕ) → station_widths plan f subs 0 n ≡ None
no_station plan f subs n =
    cond_both (nat_lt subs.hi sub_address_end) (option_map (λ w. interval w.0 w.1) (widths plan 0 n f subs.lo subs.hi)) None (λ o. o ≡ None)
    (λ e. ap (option_map (λ w. interval w.0 w.1)) (no_least (λ a. allowed plan (address 0 n a) f) (subs.hi + 1 - subs.lo) subs.lo (λ a. refl))) (λ e. refl)

no_hull : (range : ℕ → Option Interval) (k n : ℕ) → ((i : ℕ) → range i ≡ None) → hull_from range k n ≡ None
no_hull range k zero h = refl
no_hull range k (suc zero) h = h k
no_hull range k (suc (suc n)) h = ap (λ o. hull_with o (hull_from range (k + 1) (suc n))) (h k)

pub no_widths : (plan : Layout) (f : ℕ) (subs stations : Interval) (c : ℕ) → c ≡ 0 → crate_widths plan f subs stations c ≡ None
no_widths plan f subs stations c e =
    ap (crate_widths plan f subs stations) e ∙ no_hull (station_widths plan f subs 0) stations.lo (count_below station_end stations) (no_station plan f subs)

-- There is no crate 0, and none above 7.
pub none_outside : (plan : Layout) (c : ℕ) → IsPlan plan → ((1 ≤ c) × (c ≤ 7) → ⊥) → unwrap_or (crate_waits plan c) 0 ≡ 0
none_outside plan zero is out = refl
none_outside plan (suc i) is out =
    ⊎_elim (λ lt. absurd (out (omega arith, omega arith)))
    (λ ge. let long = is.crate_places in
    let past : length plan.crates ≤ i = omega arith in
    ap (λ o. unwrap_or (option_map (λ k. k.waits) o) 0) (get_or_past plan.crates i None past))
    (cases_lt i 7)

-- no command is allowed where there is no crate or no station
not_allowed : (plan : Layout) → AllowsCommands plan → (c n a f : ℕ) → ((1 ≤ c) × ((c ≤ 7) × (n < 32)) → ⊥) → allowed plan (address c n a) f ≡ None
not_allowed plan allows c n a f out = go (allowed plan (address c n a) f) refl
  where
    go : (o : Option ℕ) → allowed plan (address c n a) f ≡ o → o ≡ None
    go None e = refl
    go (Some w) e = let at = allows (address c n a) f w e in absurd (out (at.crate_from_1, (at.crate_to_7, at.station)))

pub none_declared : (plan : Layout) (f : ℕ) (subs : Interval) (c n : ℕ) → AllowsCommands plan → ((1 ≤ c) × ((c ≤ 7) × (n < 32)) → ⊥) → station_widths plan f subs c n ≡ None
none_declared plan f subs c n allows out =
    cond_both (nat_lt subs.hi sub_address_end) (option_map (λ w. interval w.0 w.1) (widths plan c n f subs.lo subs.hi)) None (λ o. o ≡ None)
    (λ e. ap (option_map (λ w. interval w.0 w.1)) (no_least (λ a. allowed plan (address c n a) f) (subs.hi + 1 - subs.lo) subs.lo (λ a. not_allowed plan allows c n a f out))) (λ e. refl)

-- the least width is not above the greatest
pub widths_ordered : (plan : Layout) (c n f first last least greatest : ℕ) → widths plan c n f first last ≡ Some (least, greatest) → first ≤ last → least ≤ greatest
widths_ordered plan c n f first last least greatest e h =
    let one = least_and_greatest_at (λ a. allowed plan (address c n a) f) first (last + 1 - first) first (least, greatest) e (omega arith) (omega arith) in
    omega (arith, one.from_low, one.to_high)

-- No width of a command is above 24.
extremes_small : (w : ℕ → Option ℕ) (so_far : ℕ × ℕ) (k n most : ℕ) (x : ℕ × ℕ) → ((i v : ℕ) → w i ≡ Some v → v ≤ most) → so_far.1 ≤ most → extremes so_far (map w (range_with_len k n)) ≡ Some x → x.1 ≤ most
extremes_small w so_far k zero most x h le e = let same : so_far ≡ x = cc in subst (λ (y : ℕ × ℕ). y.1 ≤ most) same le
extremes_small w so_far k (suc n) most x h le e = go (w k) refl e (λ so_far' le' f. extremes_small w so_far' (k + 1) n most x h le' f)
  where
    go : (o : Option ℕ) → w k ≡ o → extremes so_far (o ∷ map w (range_with_len (k + 1) n)) ≡ Some x → ((so_far' : ℕ × ℕ) → so_far'.1 ≤ most → extremes so_far' (map w (range_with_len (k + 1) n)) ≡ Some x → x.1 ≤ most) → x.1 ≤ most
    go None is f ih = cc
    go (Some v) is f ih = let v_small = h k v is in ih (min so_far.0 v, max so_far.1 v) (omega arith) f

least_small : (w : ℕ → Option ℕ) (k n most : ℕ) (x : ℕ × ℕ) → ((i v : ℕ) → w i ≡ Some v → v ≤ most) → least_and_greatest (map w (range_with_len k n)) ≡ Some x → x.1 ≤ most
least_small w k zero most x h e = cc
least_small w k (suc n) most x h e = go (w k) refl e
  where
    go : (o : Option ℕ) → w k ≡ o → least_and_greatest (o ∷ map w (range_with_len (k + 1) n)) ≡ Some x → x.1 ≤ most
    go None is f = cc
    go (Some v) is f = extremes_small w (v, v) (k + 1) n most x h (h k v is) f

hull_small : (range : ℕ → Option Interval) (k n most : ℕ) (w : Interval) → ((i : ℕ) (r : Interval) → range i ≡ Some r → r.hi ≤ most) → hull_from range k n ≡ Some w → w.hi ≤ most
hull_small range k zero most w h e = cc
hull_small range k (suc zero) most w h e = h k w e
hull_small range k (suc (suc n)) most w h e =
    both (range k) (hull_from range (k + 1) (suc n)) e (h k) (λ r f. hull_small range (k + 1) (suc n) most r h f)
  where
    both : (o p : Option Interval) → hull_with o p ≡ Some w → ((r : Interval) → o ≡ Some r → r.hi ≤ most) → ((r : Interval) → p ≡ Some r → r.hi ≤ most) → w.hi ≤ most
    both None p f g q = cc
    both (Some r) None f g q = cc
    both (Some r) (Some s) f g q =
        let a = g r refl in
        let b = q s refl in
        let same : max r.hi s.hi ≡ w.hi = cc in
        omega arith

station_small : (plan : Layout) → AllowsCommands plan → (f : ℕ) (subs : Interval) (c n : ℕ) (r : Interval) → station_widths plan f subs c n ≡ Some r → r.hi ≤ 24
station_small plan allows f subs c n r e = go (nat_lt subs.hi sub_address_end) e
  where
    of : (o : Option (ℕ × ℕ)) → ((x : ℕ × ℕ) → o ≡ Some x → x.1 ≤ 24) → option_map (λ w. interval w.0 w.1) o ≡ Some r → r.hi ≤ 24
    of None h f' = cc
    of (Some x) h f' = let same : x.1 ≡ r.hi = cc in let le = h x refl in omega arith

    go : (b : Bool) → (if b then option_map (λ w. interval w.0 w.1) (widths plan c n f subs.lo subs.hi) else None) ≡ Some r → r.hi ≤ 24
    go true f' =
        of (widths plan c n f subs.lo subs.hi)
        (λ x g. least_small (λ a. allowed plan (address c n a) f) subs.lo (subs.hi + 1 - subs.lo) 24 x (λ i v is. (allows (address c n i) f v is).width_to_24) g) f'
    go false f' = cc

pub station_small_if : (plan : Layout) → AllowsCommands plan → (f : ℕ) (subs : Interval) (c n : ℕ) (o : Option Interval) → o ≡ station_widths plan f subs c n → IfSome o (λ r. r.hi ≤ 24)
station_small_if plan allows f subs c n None e = tt
station_small_if plan allows f subs c n (Some r) e = station_small plan allows f subs c n r (sym e)

pub region_small : (plan : Layout) → AllowsCommands plan → (f : ℕ) (g : Region) (w : Interval) → region_widths plan f g ≡ Some w → w.hi ≤ 24
region_small plan allows f g w e =
    hull_small (crate_widths plan f g.sub_addresses g.stations) g.crates.lo (count_below crate_end g.crates) 24 w
    (λ c r is. hull_small (station_widths plan f g.sub_addresses c) g.stations.lo (count_below station_end g.stations) 24 r
    (λ n s k. station_small plan allows f g.sub_addresses c n s k) is) e

-- what is given of something small is small
pub given_small : (o : Option Interval) (r : Result Interval CheckFault) (rule : CheckRule) (spot : Spot) (case : Case) → Gives (λ w. w) r (given o rule spot case) → ((w : Interval) → o ≡ Some w → w.hi ≤ 24) → IfOk r (λ w. w.hi ≤ 24)
unfolding given
given_small None (Ok w) rule spot case g h = cc
given_small (Some v) (Ok w) rule spot case g h = let same : v ≡ w = cc in h w (ap (λ x. Some x) same)
given_small o (Err e) rule spot case g h = tt

-- A region of one station.

one_below : (end : ℕ) (r : Interval) (k : ℕ) → k ≡ r.lo → k ≡ r.hi → k < end → count_below end r ≡ 1
one_below end r k lo hi h = omega arith

is_below : (end : ℕ) (r : Interval) (k : ℕ) → k ≡ r.hi → k < end → nat_lt r.hi end ≡ true
is_below end r k hi h = lt-ltb r.hi end (omega arith)

all_of_one : (end : ℕ) (r : Interval) (test : ℕ → Bool) (k : ℕ) → k ≡ r.lo → k ≡ r.hi → k < end → test k ≡ true → all_in end r test ≡ true
all_of_one end r test k lo hi h holds =
    ap₂ (λ b n. b && all_from test r.lo n) (is_below end r k hi h) (one_below end r k lo hi h)
    ∙ ap (λ j. test j && true) (sym lo)
    ∙ ap (λ b. b && true) holds

hull_of_one : (end : ℕ) (r : Interval) (range : ℕ → Option Interval) (k : ℕ) → k ≡ r.lo → k ≡ r.hi → k < end → hull_from range r.lo (count_below end r) ≡ range k
hull_of_one end r range k lo hi h = ap (hull_from range r.lo) (one_below end r k lo hi h) ∙ ap range (sym lo)

pub installed_at : (plan : Layout) (g : Region) (c n : ℕ) → c ≡ g.crates.lo → c ≡ g.crates.hi → n ≡ g.stations.lo → n ≡ g.stations.hi → c < 8 → n < 32
    → is_some (crate_waits plan c) ≡ true → is_station plan c n ≡ true → are_stations plan g ≡ true
installed_at plan g c n cl ch nl nh hc hn known holds =
    all_of_one crate_end g.crates (are_stations_in plan g.stations) c cl ch hc
    (ap (λ b. b && all_in station_end g.stations (is_station plan c)) known ∙ all_of_one station_end g.stations (is_station plan c) n nl nh hn holds)

pub widths_at : (plan : Layout) (f : ℕ) (g : Region) (c n : ℕ) → c ≡ g.crates.lo → c ≡ g.crates.hi → n ≡ g.stations.lo → n ≡ g.stations.hi → c < 8 → n < 32
    → region_widths plan f g ≡ station_widths plan f g.sub_addresses c n
widths_at plan f g c n cl ch nl nh hc hn =
    hull_of_one crate_end g.crates (crate_widths plan f g.sub_addresses g.stations) c cl ch hc
    ∙ hull_of_one station_end g.stations (station_widths plan f g.sub_addresses c) n nl nh hn

pub declared_at : (plan : Layout) (spot : Spot) (f : ℕ) (g : Region) (r : Interval) → are_stations plan g ≡ true → region_widths plan f g ≡ Some r → command_widths plan spot f g ≡ Ok r
unfolding go_on required given
declared_at plan spot f g r is e =
    ap₂ (λ b o. go_on (required b StationNotInstalled spot (missing plan g)) (λ _. given o CommandNotDeclared spot (undeclared plan f g))) is e
