-- What the case of refused addresses shows.
use Rattle.std.proofs.Common.{◌≡◌, ℕ, zero, suc, ◌+◌, ◌-◌, ◌<◌, ◌≤◌, Bool, true, false, ◌∷◌, map, Option, Some, None, refl, sym, ap, ◌∙◌, subst, arith, ⊎_elim}
use Rattle.std.specs.Prelude.{◌&&◌, max, min, nat_lt, is_some, option_map, unwrap_or, if◌then◌else◌}
use Rattle.std.specs.List.{range_with_len}
use Rattle.std.proofs.lemmas.Bool.{and_parts, and_from, and_left, cases_lt, le-ltb, lt-ltb, ltb-true, true_from_ne_false}
use Rattle.camac_range.specs.Interval.{Interval, interval, only}
use Rattle.camac_module.specs.Commands.{extremes, least_and_greatest}
use Rattle.camac_branch.specs.Address.{address}
use Rattle.camac_branch.specs.Allowed.{allowed, widths}
use Rattle.camac_branch.specs.Plan.{Layout}
use Rattle.camac_rules.specs.declared.case.Case.TheVariants.{NoCrate, NoModule}
use Rattle.camac_rules.specs.declared.rule.CheckRule.TheVariants.{StationNotInstalled, CommandNotDeclared}
use Rattle.camac_rules.specs.Fault.{broken}
use Rattle.camac_rules.specs.Refusal.{required}
use Rattle.camac_rules.specs.Known.{Region}
use Rattle.camac_rules.specs.Walks.{count_below, all_from, first_failing, first_outside, hull_with, hull_from}
use Rattle.camac_rules.specs.Addresses.{crate_end, station_end, sub_address_end, in_plan, is_station, all_in, are_stations_in, are_stations, station_widths, crate_widths, region_widths, has_command, missing, missing_in, undeclared}
use Rattle.camac_rules.proofs.Walks.{all_from_at, all_in_at, hull_from_at}
use Rattle.camac_rules.proofs.Regions.{widths_at}
use Rattle.camac_laws.specs.ShownAddresses.{IsFirst, HasAddresses, MissingShown, MissingAreShown, has_command_at, has_command_in, UndeclaredShown, UndeclaredAreShown}
use Rattle.camac_laws.proofs.Steps.{go_err, required_err, required_true, given_err}

-- ---- the first number of a range

record IsFound (test : ℕ → Bool) (k n i : ℕ) : Type 0 where
  low : k ≤ i
  high : i < k + n
  fails : test i ≡ false
  earlier : (j : ℕ) → k ≤ j → j < i → test j ≡ true

found : (test : ℕ → Bool) (k n i : ℕ) → first_failing test k n ≡ Some i → IsFound test k n i
found test k zero i e = absurd (cc)
found test k (suc n) i e = go (test k) refl e (λ f. found test (k + 1) n i f)
  where
    go : (b : Bool) → test k ≡ b → (if b then first_failing test (k + 1) n else Some k) ≡ Some i → (first_failing test (k + 1) n ≡ Some i → IsFound test (k + 1) n i) → IsFound test k (suc n) i
    go true is f ih =
        let h = ih f in
        let low = h.low in
        let high = h.high in
        record {
          low = omega arith;
          high = omega arith;
          fails = h.fails;
          earlier = λ j from lt.
              ⊎_elim (λ after. h.earlier j (omega arith) lt) (λ le. let same : k ≡ j = omega arith in subst (λ x. test x ≡ true) same is) (cases_lt k j);
        }
    go false is f ih =
        let same : k ≡ i = cc in
        record { low = omega arith; high = omega arith; fails = subst (λ x. test x ≡ false) same is; earlier = λ j from lt. absurd (omega arith) }

none_found : (test : ℕ → Bool) (k n : ℕ) → first_failing test k n ≡ None → all_from test k n ≡ true
none_found test k zero e = refl
none_found test k (suc n) e = go (test k) refl e (λ f. none_found test (k + 1) n f)
  where
    go : (b : Bool) → test k ≡ b → (if b then first_failing test (k + 1) n else Some k) ≡ None → (first_failing test (k + 1) n ≡ None → all_from test (k + 1) n ≡ true) → (test k && all_from test (k + 1) n) ≡ true
    go true is f ih = and_from (test k) (all_from test (k + 1) n) is (ih f)
    go false is f ih = absurd (cc)

pub first_is : (end : ℕ) (r : Interval) (test : ℕ → Bool) → r.lo ≤ r.hi → all_in end r test ≡ false → IsFirst end r test (first_outside end r test)
first_is end r test some e = go (first_failing test r.lo (count_below end r)) refl
  where
    go : (o : Option ℕ) → first_failing test r.lo (count_below end r) ≡ o → IsFirst end r test (unwrap_or o (max r.lo end))
    go (Some i) is =
        let h = found test r.lo (count_below end r) i is in
        let low = h.low in
        let high = h.high in
        record {
          inside = record { low = omega arith; high = omega arith };
          fails = λ lt. h.fails;
          earlier = λ j from lt. (omega arith, h.earlier j from lt);
        }
    go None is =
        let each = none_found test r.lo (count_below end r) is in
        let past : end ≤ r.hi =
        ⊎_elim (λ lt. absurd (let bad = and_from (nat_lt r.hi end) (all_from test r.lo (count_below end r)) (lt-ltb r.hi end lt) each in cc)) (λ ge. ge) (cases_lt r.hi end) in
        record {
          inside = record { low = omega arith; high = omega arith };
          fails = λ lt. absurd (omega arith);
          earlier = λ j from lt. (omega arith, all_from_at test r.lo (count_below end r) j each from (omega arith));
        }

pub rest_fails : (a b : Bool) → a ≡ true → (a && b) ≡ false → b ≡ false
rest_fails true b h e = e
rest_fails false b h e = absurd (cc)

-- ---- stations

missing_at : (plan : Layout) (g : Region) (c : ℕ) → g.stations.lo ≤ g.stations.hi → IsFirst crate_end g.crates (are_stations_in plan g.stations) c → MissingShown plan g (missing_in plan g.stations c)
missing_at plan g c some first = go (nat_lt c crate_end && in_plan plan c) refl
  where
    go : (b : Bool) → (nat_lt c crate_end && in_plan plan c) ≡ b → MissingShown plan g (if b then NoModule c (first_outside station_end g.stations (is_station plan c)) else NoCrate c)
    go true is =
        let p = and_parts (nat_lt c crate_end) (in_plan plan c) is in
        let below : c < crate_end = ltb-true c crate_end p.0 in (
          first,
          (
            below,
            (
              p.1,
              first_is station_end g.stations (is_station plan c) some
                  (rest_fails (in_plan plan c) (all_in station_end g.stations (is_station plan c)) p.1 (first.fails below)),
            ),
          ),
        )
    go false is = (first, λ below. rest_fails (nat_lt c crate_end) (in_plan plan c) (lt-ltb c crate_end below) is)

pub missing_are_shown : MissingAreShown
missing_are_shown plan spot f g has at case e =
    ⊎_elim
    (λ h. let r = required_err (are_stations plan g) StationNotInstalled spot (missing plan g) (broken StationNotInstalled at case) h in
    let one = r.1 in
    let same : missing plan g ≡ case = cc in
    subst (MissingShown plan g) same
    (missing_at plan g (first_outside crate_end g.crates (are_stations_in plan g.stations)) has.stations
    (first_is crate_end g.crates (are_stations_in plan g.stations) has.crates r.0)))
    (λ w. absurd (let r = given_err (region_widths plan f g) CommandNotDeclared spot _ (broken StationNotInstalled at case) w.2 in let bad = r.1 in cc))
    (go_err (required (are_stations plan g) StationNotInstalled spot (missing plan g)) _ (broken StationNotInstalled at case) e)

-- ---- commands

hull_fails : (range : ℕ → Option Interval) (k n : ℕ) → hull_from range k (suc n) ≡ None → all_from (λ i. is_some (range i)) k (suc n) ≡ false
hull_fails range k zero e = ap (λ o. is_some o && true) e
hull_fails range k (suc n) e = go (range k) (hull_from range (k + 1) (suc n)) e (λ f. hull_fails range (k + 1) n f)
  where
    go : (o p : Option Interval) → hull_with o p ≡ None → (p ≡ None → all_from (λ i. is_some (range i)) (k + 1) (suc n) ≡ false) → (is_some o && all_from (λ i. is_some (range i)) (k + 1) (suc n)) ≡ false
    go None p f ih = refl
    go (Some r) None f ih = ih refl
    go (Some r) (Some s) f ih = absurd (cc)

hull_first : (end : ℕ) (r : Interval) (range : ℕ → Option Interval) → r.lo ≤ r.hi → hull_from range r.lo (count_below end r) ≡ None → all_in end r (λ i. is_some (range i)) ≡ false
hull_first end r range some e =
    ⊎_elim
    (λ lt. let count : count_below end r ≡ suc (r.hi - r.lo) = omega arith in
    let one : hull_from range r.lo (suc (r.hi - r.lo)) ≡ None = subst (λ n. hull_from range r.lo n ≡ None) count e in
    let two : all_from (λ i. is_some (range i)) r.lo (count_below end r) ≡ false =
    subst (λ n. all_from (λ i. is_some (range i)) r.lo n ≡ false) (sym count) (hull_fails range r.lo (r.hi - r.lo) one) in
    ap (λ b. nat_lt r.hi end && b) two ∙ with_false (nat_lt r.hi end))
    (λ ge. and_left (nat_lt r.hi end) (all_from (λ i. is_some (range i)) r.lo (count_below end r)) (le-ltb r.hi end ge))
    (cases_lt r.hi end)
  where
    with_false : (b : Bool) → (b && false) ≡ false
    with_false true = refl
    with_false false = refl

none_of : {A : Type 0} (o : Option A) → is_some o ≡ false → o ≡ None
none_of None e = refl
none_of (Some x) e = absurd (cc)

pub one_of : {A : Type 0} (o : Option A) → is_some o ≡ true → (x : A) × (o ≡ Some x)
one_of None e = absurd (cc)
one_of (Some x) e = (x, refl)

-- there are extremes, where each width is there
extremes_there : (w : ℕ → Option ℕ) (so_far : ℕ × ℕ) (k n : ℕ) → all_from (λ a. is_some (w a)) k n ≡ true → is_some (extremes so_far (map w (range_with_len k n))) ≡ true
extremes_there w so_far k zero e = refl
extremes_there w so_far k (suc n) e = go (w k) e (λ next f. extremes_there w next (k + 1) n f)
  where
    go : (o : Option ℕ) → (is_some o && all_from (λ a. is_some (w a)) (k + 1) n) ≡ true
        → ((next : ℕ × ℕ) → all_from (λ a. is_some (w a)) (k + 1) n ≡ true → is_some (extremes next (map w (range_with_len (k + 1) n))) ≡ true)
        → is_some (extremes so_far (o ∷ map w (range_with_len (k + 1) n))) ≡ true
    go None f ih = absurd (cc)
    go (Some v) f ih = ih (min so_far.0 v, max so_far.1 v) f

least_there : (w : ℕ → Option ℕ) (k n : ℕ) → all_from (λ a. is_some (w a)) k (suc n) ≡ true → is_some (least_and_greatest (map w (range_with_len k (suc n)))) ≡ true
least_there w k n e = go (w k) e
  where
    go : (o : Option ℕ) → (is_some o && all_from (λ a. is_some (w a)) (k + 1) n) ≡ true → is_some (least_and_greatest (o ∷ map w (range_with_len (k + 1) n))) ≡ true
    go None f = absurd (cc)
    go (Some v) f = extremes_there w (v, v) (k + 1) n f

-- a command at one sub-address is allowed there
declared_at : (plan : Layout) (f c n a : ℕ) → has_command plan f c n a ≡ true → is_some (allowed plan (address c n a) f) ≡ true
declared_at plan f c n a e =
    let s = one_of (station_widths plan f (only a) c n) e in
    let w = widths_at plan f (only a) c n a s.0 s.1 (record { low = omega arith; high = omega arith }) in
    ap is_some w.is

all_more : (t u : ℕ → Bool) → ((i : ℕ) → t i ≡ true → u i ≡ true) → (k n : ℕ) → all_from t k n ≡ true → all_from u k n ≡ true
all_more t u h k zero e = refl
all_more t u h k (suc n) e =
    let p = and_parts (t k) (all_from t (k + 1) n) e in
    and_from (u k) (all_from u (k + 1) n) (h k p.0) (all_more t u h (k + 1) n p.1)

width_there : (b : Bool) (o : Option (ℕ × ℕ)) → b ≡ true → is_some o ≡ true → is_some (if b then option_map (λ w. interval w.0 w.1) o else None) ≡ true
width_there true (Some x) e h = refl
width_there true None e h = absurd (cc)
width_there false o e h = absurd (cc)

widths_there : (plan : Layout) (f : ℕ) (subs : Interval) (c n : ℕ) → subs.lo ≤ subs.hi → all_in sub_address_end subs (has_command plan f c n) ≡ true → is_some (station_widths plan f subs c n) ≡ true
widths_there plan f subs c n some e =
    let p = and_parts (nat_lt subs.hi sub_address_end) (all_from (has_command plan f c n) subs.lo (count_below sub_address_end subs)) e in
    let lt : subs.hi < sub_address_end = ltb-true subs.hi sub_address_end p.0 in
    let count : count_below sub_address_end subs ≡ suc (subs.hi - subs.lo) = omega arith in
    let length : suc (subs.hi - subs.lo) ≡ subs.hi + 1 - subs.lo = omega arith in
    let each : all_from (λ a. is_some (allowed plan (address c n a) f)) subs.lo (suc (subs.hi - subs.lo)) ≡ true =
    subst (λ m. all_from (λ a. is_some (allowed plan (address c n a) f)) subs.lo m ≡ true) count
    (all_more (has_command plan f c n) (λ a. is_some (allowed plan (address c n a) f)) (declared_at plan f c n) subs.lo (count_below sub_address_end subs) p.1) in
    let there : is_some (widths plan c n f subs.lo subs.hi) ≡ true =
    subst (λ m. is_some (least_and_greatest (map (λ a. allowed plan (address c n a) f) (range_with_len subs.lo m))) ≡ true) length
    (least_there (λ a. allowed plan (address c n a) f) subs.lo (subs.hi - subs.lo) each) in
    width_there (nat_lt subs.hi sub_address_end) (widths plan c n f subs.lo subs.hi) p.0 there

-- a width at all sub-addresses is one at each
pub all_from_each : (t : ℕ → Bool) (k n : ℕ) → ((i : ℕ) → k ≤ i → i < k + n → t i ≡ true) → all_from t k n ≡ true
all_from_each t k zero h = refl
all_from_each t k (suc n) h = and_from (t k) (all_from t (k + 1) n) (h k (omega arith) (omega arith)) (all_from_each t (k + 1) n (λ i low high. h i (omega arith) (omega arith)))

pub at_one : (plan : Layout) (f c n a : ℕ) → a < sub_address_end → is_some (allowed plan (address c n a) f) ≡ true → has_command plan f c n a ≡ true
at_one plan f c n a below e =
    let one : 1 ≡ a + 1 - a = omega arith in
    let there : is_some (widths plan c n f a a) ≡ true =
    subst (λ m. is_some (least_and_greatest (map (λ b. allowed plan (address c n b) f) (range_with_len a m))) ≡ true) one
    (least_there (λ b. allowed plan (address c n b) f) a 0 (and_from (is_some (allowed plan (address c n a) f)) true e refl)) in
    width_there (nat_lt a sub_address_end) (widths plan c n f a a) (lt-ltb a sub_address_end below) there

under_test : (b : Bool) (o : Option Interval) (w : Interval) → (if b then o else None) ≡ Some w → b ≡ true
under_test true o w e = refl
under_test false o w e = absurd (cc)

subs_there : (plan : Layout) (f : ℕ) (subs : Interval) (c n : ℕ) (w : Interval) → station_widths plan f subs c n ≡ Some w → all_in sub_address_end subs (has_command plan f c n) ≡ true
subs_there plan f subs c n w e =
    let below : nat_lt subs.hi sub_address_end ≡ true = under_test (nat_lt subs.hi sub_address_end) (option_map (λ x. interval x.0 x.1) (widths plan c n f subs.lo subs.hi)) w e in
    let lt : subs.hi < sub_address_end = ltb-true subs.hi sub_address_end below in
    and_from (nat_lt subs.hi sub_address_end) (all_from (has_command plan f c n) subs.lo (count_below sub_address_end subs)) below
    (all_from_each (has_command plan f c n) subs.lo (count_below sub_address_end subs)
    (λ a low high. let v = widths_at plan f subs c n a w e (record { low = low; high = omega arith }) in
    at_one plan f c n a (omega arith) (ap is_some v.is)))

same_tests : (b c : Bool) → (b ≡ true → c ≡ true) → (c ≡ true → b ≡ true) → b ≡ c
same_tests true c to back = sym (to refl)
same_tests false true to back = back refl
same_tests false false to back = refl

pub station_same : (plan : Layout) (f : ℕ) (g : Region) → g.sub_addresses.lo ≤ g.sub_addresses.hi → (c n : ℕ) → is_some (station_widths plan f g.sub_addresses c n) ≡ has_command_at plan f g c n
station_same plan f g some c n =
    same_tests (is_some (station_widths plan f g.sub_addresses c n)) (has_command_at plan f g c n)
    (λ t. let w = one_of (station_widths plan f g.sub_addresses c n) t in subs_there plan f g.sub_addresses c n w.0 w.1)
    (λ t. widths_there plan f g.sub_addresses c n some t)

hull_each : (end : ℕ) (r : Interval) (range : ℕ → Option Interval) (w : Interval) → r.hi < end → hull_from range r.lo (count_below end r) ≡ Some w → all_in end r (λ i. is_some (range i)) ≡ true
hull_each end r range w lt e =
    and_from (nat_lt r.hi end) (all_from (λ i. is_some (range i)) r.lo (count_below end r)) (lt-ltb r.hi end lt)
    (all_from_each (λ i. is_some (range i)) r.lo (count_below end r)
    (λ i low high. let part = hull_from_at range r.lo (count_below end r) i w e low high in ap is_some part.is))

all_same : (t u : ℕ → Bool) → ((i : ℕ) → t i ≡ u i) → (k n : ℕ) → all_from t k n ≡ all_from u k n
all_same t u h k zero = refl
all_same t u h k (suc n) = ap (λ b. b && all_from t (k + 1) n) (h k) ∙ ap (λ b. u k && b) (all_same t u h (k + 1) n)

crate_same : (plan : Layout) (f : ℕ) (g : Region) → HasAddresses g → g.stations.hi < station_end → (c : ℕ) → is_some (crate_widths plan f g.sub_addresses g.stations c) ≡ has_command_in plan f g c
crate_same plan f g has lt c =
    same_tests (is_some (crate_widths plan f g.sub_addresses g.stations c)) (all_in station_end g.stations (λ n. is_some (station_widths plan f g.sub_addresses c n)))
    (λ t. let w = one_of (crate_widths plan f g.sub_addresses g.stations c) t in hull_each station_end g.stations (station_widths plan f g.sub_addresses c) w.0 lt w.1)
    (λ t. true_from_ne_false (is_some (crate_widths plan f g.sub_addresses g.stations c))
    (λ none. let fails = hull_first station_end g.stations (station_widths plan f g.sub_addresses c) has.stations (none_of (crate_widths plan f g.sub_addresses g.stations c) none) in cc))
    ∙ ap (λ b. nat_lt g.stations.hi station_end && b)
    (all_same (λ n. is_some (station_widths plan f g.sub_addresses c n)) (has_command_at plan f g c) (station_same plan f g has.sub_addresses c)
    g.stations.lo (count_below station_end g.stations))

first_same : (end : ℕ) (r : Interval) (t u : ℕ → Bool) (k : ℕ) → ((i : ℕ) → t i ≡ u i) → IsFirst end r t k → IsFirst end r u k
first_same end r t u k same h = record {
  inside = h.inside;
  fails = λ lt. sym (same k) ∙ h.fails lt;
  earlier = λ j low lt. let e = h.earlier j low lt in (e.0, sym (same j) ∙ e.1);
}

pub undeclared_shown : (plan : Layout) (f : ℕ) (g : Region) → HasAddresses g → are_stations plan g ≡ true → region_widths plan f g ≡ None → UndeclaredShown plan f g (undeclared plan f g)
undeclared_shown plan f g has there e =
    let c : ℕ = first_outside crate_end g.crates (λ i. is_some (crate_widths plan f g.sub_addresses g.stations i)) in
    let crate = first_is crate_end g.crates (λ i. is_some (crate_widths plan f g.sub_addresses g.stations i)) has.crates
    (hull_first crate_end g.crates (crate_widths plan f g.sub_addresses g.stations) has.crates e) in
    let at_crate = all_in_at crate_end g.crates (are_stations_in plan g.stations) c there crate.inside in
    let stations = and_parts (in_plan plan c) (all_in station_end g.stations (is_station plan c)) at_crate.1 in
    let n : ℕ = first_outside station_end g.stations (λ i. is_some (station_widths plan f g.sub_addresses c i)) in
    let station = first_is station_end g.stations (λ i. is_some (station_widths plan f g.sub_addresses c i)) has.stations
    (hull_first station_end g.stations (station_widths plan f g.sub_addresses c) has.stations
    (none_of (crate_widths plan f g.sub_addresses g.stations c) (crate.fails at_crate.0))) in
    let at_station = all_in_at station_end g.stations (is_station plan c) n stations.1 station.inside in
    let below : g.stations.hi < station_end = ltb-true g.stations.hi station_end (and_parts (nat_lt g.stations.hi station_end) (all_from (is_station plan c) g.stations.lo (count_below station_end g.stations)) stations.1).0 in (
      refl,
      (
        first_same crate_end g.crates (λ i. is_some (crate_widths plan f g.sub_addresses g.stations i)) (has_command_in plan f g) c (crate_same plan f g has below) crate,
        (
          first_same station_end g.stations (λ i. is_some (station_widths plan f g.sub_addresses c i)) (has_command_at plan f g c) n (station_same plan f g has.sub_addresses c) station,
          first_is sub_address_end g.sub_addresses (has_command plan f c n) has.sub_addresses
              (sym (station_same plan f g has.sub_addresses c n) ∙ station.fails at_station.0),
        ),
      ),
    )

pub undeclared_are_shown : UndeclaredAreShown
undeclared_are_shown plan spot f g has at case e =
    ⊎_elim
    (λ h. absurd (let r = required_err (are_stations plan g) StationNotInstalled spot _ (broken CommandNotDeclared at case) h in let bad = r.1 in cc))
    (λ w. let r = given_err (region_widths plan f g) CommandNotDeclared spot (undeclared plan f g) (broken CommandNotDeclared at case) w.2 in
    let one = r.1 in
    let same : undeclared plan f g ≡ case = cc in
    subst (UndeclaredShown plan f g) same
    (undeclared_shown plan f g has (required_true (are_stations plan g) StationNotInstalled spot (missing plan g) w.0 w.1) r.0))
    (go_err (required (are_stations plan g) StationNotInstalled spot (missing plan g)) _ (broken CommandNotDeclared at case) e)
