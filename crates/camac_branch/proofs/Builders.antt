-- What the entries of a plan are after one was put in, and that builders change their own entry alone.
use Rattle.std.proofs.Common.{◌≡◌, ℕ, ◌+◌, ◌-◌, ◌<◌, ◌≤◌, List, [], ◌∷◌, ◌++◌, map, Option, Some, None, option_map, option_and_then, length, get_or, set, zero, suc, refl, sym, ◌∙◌, ap, arith, ◌⊎◌, inl, inr, length-set, true, false, eq-eqb, subst, length-append, ◌≢◌, Bool, cond, slice_get, IsSome}
use Rattle.std.proofs.lemmas.Bool.{false≢true, cases_eq, false_from_ne_true}
use Rattle.std.proofs.lemmas.Option.{same_Some}
use Rattle.std.proofs.lemmas.List.FromFn.{length-map-range_with_len}
use Rattle.std.specs.List.{range_with_len}
use Rattle.std.specs.Cmp.Lexicographic.{bytes_decides}
use Rattle.camac_module.specs.Commands.{Commands, IsCommandMap}
use Rattle.camac_branch.specs.declared.plan.Crate.{Crate}
use Rattle.camac_branch.specs.declared.plan.Installed.{Installed}
use Rattle.camac_branch.specs.Plan.{Layout, IsPlan, numbered, crate_at, crate_waits, installed, station, gl, with_crate, empty_crate, with_installed, crate_with_installed, with_type, uses_bit, crate_has_bit, has_bit, is_some_and, number_of_name}
use Rattle.camac_branch.specs.Name.{same_text}
use Rattle.camac_branch.specs.declared.plan.Kind.{Kind}
use Rattle.camac_branch.specs.Builders.{AddsStation, CratesAreAdded, StationsAreAdded, TypesAreAdded}
use Rattle.camac_branch.proofs.Numbered.{numbered-set_same, numbered-set_other, nothing_numbered, none_is_some, numbered_passes, numbered-in_range}

-- What the entries of a plan are after one was put in.

-- a new crate changes nothing that is installed
pub installed-with_crate : (plan : Layout) (c w d n : ℕ) → 1 ≤ c → c - 1 < length plan.crates → crate_at plan c ≡ None → installed (with_crate plan c w) d n ≡ installed plan d n
installed-with_crate plan c w d n from below absent =
    elim (cases_eq d c) [
      | inl same ↦ rw (same, numbered-set_same plan.crates c (Some (empty_crate w)) from below, absent) (nothing_numbered n (range_with_len 0 23))
      | inr other ↦ rw (numbered-set_other plan.crates c d (Some (empty_crate w)) from other) refl
    ]

length-nothing : (n : ℕ) → length (map {A = ℕ} {B = Option Installed} (λ _. None) (range_with_len 0 n)) ≡ n
length-nothing n = length-map-range_with_len (λ _. None) 0 n

station_places-with_crate : (plan : Layout) (c w : ℕ) → 1 ≤ c → c - 1 < length plan.crates → IsPlan plan
    → (d : ℕ) (k : Crate) → crate_at (with_crate plan c w) d ≡ Some k → length k.stations ≡ 23
station_places-with_crate plan c w from below is d k here =
    elim (cases_eq d c) [
      | inl same ↦
          let made : Some (empty_crate w) ≡ Some k = sym (numbered-set_same plan.crates c (Some (empty_crate w)) from below) ∙ rw same at here in
          rw (← same_Some _ _ made) (length-nothing 23)
      | inr other ↦ is.station_places d k (sym (numbered-set_other plan.crates c d (Some (empty_crate w)) from other) ∙ here)
    ]

few_waits-with_crate : (plan : Layout) (c w : ℕ) → 1 ≤ c → c - 1 < length plan.crates → w ≤ 15 → IsPlan plan → (d v : ℕ) → crate_waits (with_crate plan c w) d ≡ Some v → v ≤ 15
few_waits-with_crate plan c w from below few is d v here =
    elim (cases_eq d c) [
      | inl same ↦
          let made : Some w ≡ Some v = sym (ap (option_map (λ k. k.waits)) (numbered-set_same plan.crates c (Some (empty_crate w)) from below)) ∙ rw same at here in
          rw (← same_Some _ _ made) few
      | inr other ↦ is.few_waits d v (sym (ap (option_map (λ k. k.waits)) (numbered-set_other plan.crates c d (Some (empty_crate w)) from other)) ∙ here)
    ]

pub is_plan-with_crate : (plan : Layout) (c w : ℕ) → 1 ≤ c → c ≤ 7 → w ≤ 15 → crate_at plan c ≡ None → IsPlan plan → IsPlan (with_crate plan c w)
is_plan-with_crate plan c w from to few absent is =
    let below : c - 1 < length plan.crates = omega (arith, is.crate_places, from, to) in
    record {
      buffer_from_1 = is.buffer_from_1;
      buffer_to_4096 = is.buffer_to_4096;
      few_types = is.few_types;
      crate_places = length-set plan.crates (c - 1) _ ∙ is.crate_places;
      station_places = station_places-with_crate plan c w from below is;
      few_waits = few_waits-with_crate plan c w from below few is;
      known_commands = is.known_commands;
      known_types = λ d n t here. is.known_types d n t (rw (installed-with_crate plan c w d n from below absent) at here);
      bits_in_range = λ d n b here. is.bits_in_range d n b (rw (installed-with_crate plan c w d n from below absent) at here);
      bits_once = λ d n e m b here there. is.bits_once d n e m b (rw (installed-with_crate plan c w d n from below absent) at here) (rw (installed-with_crate plan c w e m from below absent) at there);
    }

-- a GL bit of a station is in use
pub uses_bit-gl : (plan : Layout) (c n b : ℕ) (k : Crate) (s : Installed) → crate_at plan c ≡ Some k → numbered k.stations n ≡ Some s → s.gl ≡ Some b → uses_bit plan b ≡ true
uses_bit-gl plan c n b k s in_crate at bit =
    let here : has_bit b (Some s) ≡ true = rw (bit, eq-eqb b b refl) refl in
    numbered_passes (crate_has_bit b) plan.crates c k in_crate (numbered_passes (has_bit b) k.stations n s at here)

-- what is installed after one more was
pub installed-with_same : (plan : Layout) (c n : ℕ) (s : Installed) (k : Crate) → 1 ≤ c → c - 1 < length plan.crates → 1 ≤ n → n - 1 < length k.stations
    → crate_at plan c ≡ Some k → installed (with_installed plan c n s) c n ≡ Some s
installed-with_same plan c n s k from below from_n below_n in_crate =
    rw (in_crate, numbered-set_same plan.crates c (Some (crate_with_installed n s k)) from below) (numbered-set_same k.stations n (Some s) from_n below_n)

pub installed-with_other : (plan : Layout) (c n : ℕ) (s : Installed) (k : Crate) → 1 ≤ c → c - 1 < length plan.crates → 1 ≤ n
    → crate_at plan c ≡ Some k → (d m : ℕ) → ((d ≡ c) × (m ≡ n) → ⊥) → installed (with_installed plan c n s) d m ≡ installed plan d m
installed-with_other plan c n s k from below from_n in_crate d m other =
    elim (cases_eq d c) [
      | inl same ↦
          rw (same, in_crate, numbered-set_same plan.crates c (Some (crate_with_installed n s k)) from below) (numbered-set_other k.stations n m (Some s) from_n (λ e. other (same, e)))
      | inr apart ↦ rw (in_crate, numbered-set_other plan.crates c d (Some (crate_with_installed n s k)) from apart) refl
    ]

-- the bit is in use where a station has it
bit_of_station : (plan : Layout) (c n b : ℕ) (k : Crate) (o : Option Installed) → crate_at plan c ≡ Some k → numbered k.stations n ≡ o → option_and_then (λ s. s.gl) o ≡ Some b → uses_bit plan b ≡ true
bit_of_station plan c n b k None in_crate at h = absurd (none_is_some b h)
bit_of_station plan c n b k (Some s) in_crate at h = uses_bit-gl plan c n b k s in_crate at h

bit_of_installed : (plan : Layout) (c n b : ℕ) (k : Option Crate) → crate_at plan c ≡ k → option_and_then (λ s. s.gl) (option_and_then (λ j. numbered j.stations n) k) ≡ Some b → uses_bit plan b ≡ true
bit_of_installed plan c n b None in_crate h = absurd (none_is_some b h)
bit_of_installed plan c n b (Some k) in_crate h = bit_of_station plan c n b k (numbered k.stations n) in_crate refl h

pub gl-uses_bit : (plan : Layout) (c n b : ℕ) → gl plan c n ≡ Some b → uses_bit plan b ≡ true
gl-uses_bit plan c n b h = bit_of_installed plan c n b (crate_at plan c) refl h

-- whether two places are one
same_place : (c n d m : ℕ) → ((d ≡ c) × (m ≡ n)) ⊎ ((d ≡ c) × (m ≡ n) → ⊥)
same_place c n d m =
    elim (cases_eq d c) [
      | inl same ↦ elim (cases_eq m n) [ inl e ↦ inl (same, e) | inr apart ↦ inr (λ p. apart p.1) ]
      | inr apart ↦ inr (λ p. apart p.0)
    ]

-- what has to hold for a station to be put in
pub record IsFree (plan : Layout) (c n : ℕ) (s : Installed) (k : Crate) : Type 0 where
  pub from : 1 ≤ c
  pub below : c - 1 < length plan.crates
  pub from_n : 1 ≤ n
  pub below_n : n - 1 < length k.stations
  pub in_crate : crate_at plan c ≡ Some k
  pub known : s.type_no < length plan.types
  pub bit_in_range : (b : ℕ) → s.gl ≡ Some b → (1 ≤ b) × (b ≤ 24)
  pub free_bit : is_some_and (uses_bit plan) s.gl ≡ false

new_bit : (plan : Layout) (s : Installed) (b : ℕ) → is_some_and (uses_bit plan) s.gl ≡ false → s.gl ≡ Some b → uses_bit plan b ≡ true → ⊥
new_bit plan s b free is used = false≢true (sym (rw is at free) ∙ used)

module _ (plan : Layout) (c n : ℕ) (s : Installed) (k : Crate) (free : IsFree plan c n s k) (is : IsPlan plan) where
  here : installed (with_installed plan c n s) c n ≡ Some s
  here = installed-with_same plan c n s k free.from free.below free.from_n free.below_n free.in_crate

  elsewhere : (d m : ℕ) → ((d ≡ c) × (m ≡ n) → ⊥) → installed (with_installed plan c n s) d m ≡ installed plan d m
  elsewhere d m other = installed-with_other plan c n s k free.from free.below free.from_n free.in_crate d m other

  known_after : (d m t : ℕ) → station (with_installed plan c n s) d m ≡ Some t → t < length plan.types
  known_after d m t h =
      elim (same_place c n d m) [
        | inl same ↦
            let that : Some s.type_no ≡ Some t = sym (ap (option_map (λ x. x.type_no)) here) ∙ rw (same.0, same.1) at h in
            rw (← same_Some _ _ that) free.known
        | inr other ↦ is.known_types d m t (rw (elsewhere d m other) at h)
      ]

  range_after : (d m b : ℕ) → gl (with_installed plan c n s) d m ≡ Some b → (1 ≤ b) × (b ≤ 24)
  range_after d m b h =
      elim (same_place c n d m) [
        | inl same ↦ free.bit_in_range b (sym (ap (option_and_then (λ x. x.gl)) here) ∙ rw (same.0, same.1) at h)
        | inr other ↦ is.bits_in_range d m b (rw (elsewhere d m other) at h)
      ]

  written : crate_at (with_installed plan c n s) c ≡ Some (crate_with_installed n s k)
  written = rw free.in_crate (numbered-set_same plan.crates c (Some (crate_with_installed n s k)) free.from free.below)

  waits_after : (d w : ℕ) → crate_waits (with_installed plan c n s) d ≡ Some w → w ≤ 15
  waits_after d w h =
      elim (cases_eq d c) [
        | inl same ↦
            let made : Some k.waits ≡ Some w =
            sym (ap (option_map (λ j. j.waits)) written) ∙ rw same at h in
            is.few_waits c w (ap (option_map (λ j. j.waits)) free.in_crate ∙ made)
        | inr apart ↦ is.few_waits d w (sym (ap (option_map (λ j. j.waits)) (numbered-set_other plan.crates c d _ free.from apart)) ∙ h)
      ]

  once_after : (d m e l b : ℕ) → gl (with_installed plan c n s) d m ≡ Some b → gl (with_installed plan c n s) e l ≡ Some b → (d ≡ e) × (m ≡ l)
  once_after d m e l b first second =
      elim (same_place c n d m) [
        | inl same ↦
            let bit : s.gl ≡ Some b = sym (ap (option_and_then (λ x. x.gl)) here) ∙ rw (same.0, same.1) at first in
            elim (same_place c n e l) [
              | inl also ↦ (same.0 ∙ sym also.0, same.1 ∙ sym also.1)
              | inr other ↦ absurd (new_bit plan s b free.free_bit bit (gl-uses_bit plan e l b (rw (elsewhere e l other) at second)))
            ]
        | inr other ↦
            elim (same_place c n e l) [
              | inl also ↦
                  let bit : s.gl ≡ Some b = sym (ap (option_and_then (λ x. x.gl)) here) ∙ rw (also.0, also.1) at second in
                  absurd (new_bit plan s b free.free_bit bit (gl-uses_bit plan d m b (rw (elsewhere d m other) at first)))
              | inr more ↦ is.bits_once d m e l b (rw (elsewhere d m other) at first) (rw (elsewhere e l more) at second)
            ]
      ]

  places_after : (d : ℕ) (j : Crate) → crate_at (with_installed plan c n s) d ≡ Some j → length j.stations ≡ 23
  places_after d j h =
      elim (cases_eq d c) [
        | inl same ↦
            let made : Some (crate_with_installed n s k) ≡ Some j =
            sym written ∙ rw same at h in
            rw (← same_Some _ _ made) (length-set k.stations (n - 1) (Some s) ∙ is.station_places c k free.in_crate)
        | inr apart ↦ is.station_places d j (sym (numbered-set_other plan.crates c d _ free.from apart) ∙ h)
      ]

  pub is_plan-with_installed : IsPlan (with_installed plan c n s)
  is_plan-with_installed = record {
    buffer_from_1 = is.buffer_from_1;
    buffer_to_4096 = is.buffer_to_4096;
    few_types = is.few_types;
    crate_places = length-set plan.crates (c - 1) _ ∙ is.crate_places;
    station_places = places_after;
    few_waits = waits_after;
    known_commands = is.known_commands;
    known_types = known_after;
    bits_in_range = range_after;
    bits_once = once_after;
  }

  -- the same, as the code writes the crate back
  pub is_plan-written : IsPlan (record plan { crates = set plan.crates (c - 1) (Some (crate_with_installed n s k)) })
  is_plan-written =
      let P : Option Crate → Type 0 = λ o. IsPlan (record plan { crates = set plan.crates (c - 1) (option_map (crate_with_installed n s) o) }) in
      subst P free.in_crate is_plan-with_installed

-- a kind of module is one of the old, the new one, or none
kind_of : {X : Type 0} (P : X → Type 0) (xs : List X) (y d : X) → P y → ((t : ℕ) → P (get_or xs t d)) → (t : ℕ) → P (get_or (xs ++ y ∷ []) t d)
kind_of P [] y d new old zero = new
kind_of P [] y d new old (suc t) = old t
kind_of P (x ∷ xs) y d new old zero = old zero
kind_of P (x ∷ xs) y d new old (suc t) = kind_of P xs y d new (λ k. old (suc k)) t

pub is_plan-with_type : (plan : Layout) (name : List ℕ) (commands : Commands) → length plan.types < 64 → IsCommandMap commands → IsPlan plan → IsPlan (with_type plan name commands)
is_plan-with_type plan name commands few known is =
    let longer : length (with_type plan name commands).types ≡ length plan.types + 1 = length-append plan.types _ in
    record {
      buffer_from_1 = is.buffer_from_1;
      buffer_to_4096 = is.buffer_to_4096;
      few_types = omega (arith, longer, few);
      crate_places = is.crate_places;
      station_places = is.station_places;
      few_waits = is.few_waits;
      known_commands = kind_of (λ k. IsCommandMap k.commands) plan.types (record { name = name; commands = commands }) (record { name = []; commands = [] }) known is.known_commands;
      known_types = λ c n t h. let below = is.known_types c n t h in omega (arith, longer, below);
      bits_in_range = is.bits_in_range;
      bits_once = is.bits_once;
    }

-- The builders of a plan change their own entry alone.

pub crates_are_added : CratesAreAdded
unfolding CratesAreAdded
crates_are_added plan is c waits from to =
    let below : c - 1 < length plan.crates = omega (arith, is.crate_places, from, to) in
    let here = numbered-set_same plan.crates c (Some (empty_crate waits)) from below in
    record {
      here = ap (option_map (λ k. k.waits)) here;
      nothing = λ n. rw here (nothing_numbered n (range_with_len 0 23));
      other_crates = λ d other. numbered-set_other plan.crates c d (Some (empty_crate waits)) from other;
      types = refl;
      buffer = refl;
    }

-- the crate of a station keeps its waits, and each other crate is as it was
waits_stay : (plan : Layout) (c n : ℕ) (s : Installed) (k : Crate) → 1 ≤ c → c - 1 < length plan.crates → crate_at plan c ≡ Some k → (d : ℕ)
    → crate_waits (with_installed plan c n s) d ≡ crate_waits plan d
waits_stay plan c n s k from below in_crate d =
    elim (cases_eq d c) [
      | inl same ↦ rw (same, in_crate, numbered-set_same plan.crates c (Some (crate_with_installed n s k)) from below) refl
      | inr apart ↦ rw (in_crate, numbered-set_other plan.crates c d (Some (crate_with_installed n s k)) from apart) refl
    ]

adds_station : (plan : Layout) → IsPlan plan → (c n : ℕ) (s : Installed) (o : Option Crate) → crate_at plan c ≡ o → IsSome o → 1 ≤ n → n ≤ 23
    → AddsStation plan (with_installed plan c n s) c n s
adds_station plan is c n s None in_crate there from to = absurd (false≢true there)
adds_station plan is c n s (Some k) in_crate there from to =
    let range = numbered-in_range plan.crates c k in_crate in
    let below : c - 1 < length plan.crates = omega (arith, range.0, range.1) in
    let places = is.station_places c k in_crate in
    let inside : n - 1 < length k.stations = omega (arith, places, from, to) in
    record {
      here = installed-with_same plan c n s k range.0 below from inside in_crate;
      other_stations = λ d m other. installed-with_other plan c n s k range.0 below from in_crate d m other;
      waits = waits_stay plan c n s k range.0 below in_crate;
      types = refl;
      buffer = refl;
    }

pub stations_are_added : StationsAreAdded
unfolding StationsAreAdded
stations_are_added plan is c n s there from to = adds_station plan is c n s (crate_at plan c) refl there from to

-- one entry after a list
at_end : {A : Type 0} (xs : List A) (y : A) → slice_get (xs ++ y ∷ []) (length xs) ≡ Some y
at_end [] y = refl
at_end (x ∷ xs) y = at_end xs y

before_end : {A : Type 0} (xs : List A) (y : A) (i : ℕ) → i ≢ length xs → slice_get (xs ++ y ∷ []) i ≡ slice_get xs i
before_end [] y zero other = absurd (other refl)
before_end [] y (suc i) other = refl
before_end (x ∷ xs) y zero other = refl
before_end (x ∷ xs) y (suc i) other = before_end xs y i (λ e. other (ap suc e))

-- the first that has a name, where the first of all has the number i
first_named : (k : Kind) (name : List ℕ) (i : ℕ) (rest : Option ℕ) (same : Bool) → cond same (Some i) rest ≡ None → (same ≡ false) × (rest ≡ None)
first_named k name i rest true e = absurd (none_is_some i (sym e))
first_named k name i rest false e = (refl, e)

new_name : (types : List Kind) (k : Kind) (i : ℕ) → number_of_name k.name i types ≡ None → number_of_name k.name i (types ++ k ∷ []) ≡ Some (i + length types)
new_name [] k i none = rw ((bytes_decides k.name k.name).1 refl) (ap Some (omega arith))
new_name (x ∷ types) k i none =
    let (apart, later) = first_named x k.name i (number_of_name k.name (i + 1) types) (same_text x.name k.name) none in
    rw apart (new_name types k (i + 1) later ∙ ap Some (omega arith))

same_after : (b : Bool) (x y z : Option ℕ) → y ≡ z → cond b x y ≡ cond b x z
same_after true x y z e = refl
same_after false x y z e = e

old_name : (types : List Kind) (k : Kind) (other : List ℕ) (i : ℕ) → other ≢ k.name → number_of_name other i (types ++ k ∷ []) ≡ number_of_name other i types
old_name [] k other i apart = rw (false_from_ne_true (same_text k.name other) (λ e. apart (sym ((bytes_decides k.name other).0 e)))) refl
old_name (x ∷ types) k other i apart = same_after (same_text x.name other) (Some i) _ _ (old_name types k other (i + 1) apart)

pub types_are_added : TypesAreAdded
unfolding TypesAreAdded
types_are_added plan name commands free = record {
  here = at_end plan.types (record { name = name; commands = commands });
  named = new_name plan.types (record { name = name; commands = commands }) 0 free ∙ ap Some (omega arith);
  other_types = λ t other. before_end plan.types (record { name = name; commands = commands }) t other;
  other_names = λ other apart. old_name plan.types (record { name = name; commands = commands }) other 0 apart;
  crates = refl;
  buffer = refl;
}
