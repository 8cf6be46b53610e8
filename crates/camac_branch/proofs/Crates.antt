-- The crates of a branch one after another, and the bits of their stations.
use Rattle.std.proofs.Common.{◌≡◌, ℕ, zero, suc, ◌-◌, ◌<◌, ◌≤◌, length, set, get_or, get_or-set_same, get_or-set_other, refl, arith, inl, inr, eq-eqb, List, [], ◌∷◌, map, Option, Some, None, bit_or, sym, ap, ◌∙◌, max, ◌+◌, Bool, true, false, drop, bit_and, if◌then◌else◌, subst, add-one, ◌↔◌, ◌^◌, option_and_then, ◌⊎◌}
use Rattle.std.proofs.lemmas.Bool.{cases_eq, ne_eqb, false≢true}
use Rattle.std.proofs.Math.Path.{fun_ext}
use Rattle.std.proofs.lemmas.List.{get_or-map, map-set, set-get_or}
use Rattle.std.proofs.lemmas.Nat.Bits.{bit_at_or, same_from_bits, bit_at_and, bit_at-lt, bit_at-zero, bit_at-pow_same, bit_at-pow_other}
use Rattle.std.proofs.Math.Seq.{drop-cons}
use Rattle.std.specs.Int.Bits.{or_comm}
use Rattle.std.specs.Int.{bit_at}
use Rattle.camac_crate.specs.State.{CrateBits, start_bits}
use Rattle.camac_crate.specs.Lock.{is_locked}
use Rattle.camac_crate.specs.declared.lock.LockState.{LockState}
use Rattle.camac_crate.specs.declared.lock.LockState.TheVariants.{Free}
use Rattle.camac_branch.specs.Branch.{with_crate, with_lock, Branch, enabled_bits, IsSet, IsEnabled, PatternsAreOfStations}
use Rattle.camac_branch.specs.Crates.{Crates, branch_of}
use Rattle.camac_branch.specs.declared.plan.Crate.{Crate}
use Rattle.camac_branch.specs.declared.plan.Installed.{Installed}
use Rattle.camac_branch.specs.Plan.{numbered, bit_of, bit_value, bits_of, bits_of_crate, empty_crate, crate_with_installed, Layout, IsPlan, gl, crate_bits, crate_at, HasBitsOfStations}
use Rattle.camac_branch.proofs.Numbered.{any_default, numbered-read, numbered-from, none_is_some}
use Rattle.camac_module.proofs.Bits.{bit_cases}

-- The branch that crates make, after a write to one of them.

state_at : (k : Crates) (j : ℕ) (s : CrateBits) → j < length k.states
    → (d : ℕ) → branch_of (record k { states = set k.states j s }) d ≡ with_crate (suc j) (record (branch_of k (suc j)) { bits = s }) (branch_of k) d
state_at k j s below zero = rw (ne_eqb 0 (suc j) (λ e. omega (arith, e))) refl
state_at k j s below (suc i) =
    elim (cases_eq i j) [
      | inl same ↦ rw (same, eq-eqb (suc j) (suc j) refl, get_or-set_same k.states j s start_bits below) refl
      | inr other ↦ rw (ne_eqb (suc i) (suc j) (λ e. other (omega (arith, e))), get_or-set_other k.states j i s start_bits other) refl
    ]

-- with other bits of a crate
pub branch_of-state : (k : Crates) (c : ℕ) (s : CrateBits) → 1 ≤ c → c - 1 < length k.states
    → branch_of (record k { states = set k.states (c - 1) s }) ≡ with_crate c (record (branch_of k c) { bits = s }) (branch_of k)
branch_of-state k zero s from below = absurd (omega arith)
branch_of-state k (suc j) s from below =
    let less : suc j - 1 ≡ j = omega arith in
    rw less (fun_ext (state_at k j s (rw less at below)))

lock_at : (k : Crates) (j : ℕ) (l : LockState) → j < length k.locks
    → (d : ℕ) → branch_of (record k { locks = set k.locks j l }) d ≡ with_lock (suc j) (is_locked l) (branch_of k) d
lock_at k j l below zero = rw (ne_eqb 0 (suc j) (λ e. omega (arith, e))) refl
lock_at k j l below (suc i) =
    elim (cases_eq i j) [
      | inl same ↦ rw (same, eq-eqb (suc j) (suc j) refl, get_or-set_same k.locks j l Free below) refl
      | inr other ↦ rw (ne_eqb (suc i) (suc j) (λ e. other (omega (arith, e))), get_or-set_other k.locks j i l Free other) refl
    ]

-- with another lock of a crate
pub branch_of-lock : (k : Crates) (c : ℕ) (l : LockState) → 1 ≤ c → c - 1 < length k.locks
    → branch_of (record k { locks = set k.locks (c - 1) l }) ≡ with_lock c (is_locked l) (branch_of k)
branch_of-lock k zero l from below = absurd (omega arith)
branch_of-lock k (suc j) l from below =
    let less : suc j - 1 ≡ j = omega arith in
    rw less (fun_ext (lock_at k j l (rw less at below)))

-- what is read where the bits of a crate are kept
pub state_read : (k : Crates) (c : ℕ) (d : CrateBits) → 1 ≤ c → c - 1 < length k.states → get_or k.states (c - 1) d ≡ (branch_of k c).bits
state_read k zero d from below = absurd (omega arith)
state_read k (suc j) d from below =
    let less : suc j - 1 ≡ j = omega arith in
    rw less (any_default k.states j d start_bits (rw less at below))

-- The bits of each crate's stations, kept beside the crates.

-- The OR of bits.

max_assoc : (a b c : ℕ) → max (max a b) c ≡ max a (max b c)
max_assoc a b c = omega arith

pub or_assoc : (a b c : ℕ) → bit_or (bit_or a b) c ≡ bit_or a (bit_or b c)
or_assoc a b c =
    same_from_bits _ _ (λ i.
    rw (bit_at_or (bit_or a b) c i, bit_at_or a b i, bit_at_or a (bit_or b c) i, bit_at_or b c i)
    (max_assoc (bit_at a i) (bit_at b i) (bit_at c i)))

-- one more station adds its own bit
bits_of-set : (stations : List (Option Installed)) (i : ℕ) (s : Installed) → i < length stations → get_or stations i None ≡ None
    → bits_of (set stations i (Some s)) ≡ bit_or (bits_of stations) (bit_value s.gl)
bits_of-set [] i s below free = absurd (omega arith)
bits_of-set (x ∷ rest) zero s below free = rw free (or_comm (bit_value s.gl) (bits_of rest))
bits_of-set (x ∷ rest) (suc i) s below free =
    ap (bit_or (bit_of x)) (bits_of-set rest i s (omega (arith, below)) free) ∙ sym (or_assoc (bit_of x) (bits_of rest) (bit_value s.gl))

module _ (crates : List (Option Crate)) (c : ℕ) (from : 1 ≤ c) (below : c - 1 < length crates) where
  -- what is read of a crate's bits
  pub bits-read : (d : ℕ) → get_or (map bits_of_crate crates) (c - 1) d ≡ bits_of_crate (numbered crates c)
  bits-read d = get_or-map bits_of_crate crates (c - 1) None d below ∙ ap bits_of_crate (numbered-read crates c None from below)

  -- a crate with nothing in it has no bits, as before
  pub bits-with_crate : (w : ℕ) → numbered crates c ≡ None → map bits_of_crate crates ≡ map bits_of_crate (set crates (c - 1) (Some (empty_crate w)))
  bits-with_crate w absent =
      let none : get_or (map bits_of_crate crates) (c - 1) 0 ≡ 0 = bits-read 0 ∙ ap bits_of_crate absent in
      sym (map-set bits_of_crate crates (c - 1) (Some (empty_crate w)) ∙ ap (set (map bits_of_crate crates) (c - 1)) (sym none) ∙ set-get_or (map bits_of_crate crates) (c - 1) 0)

  pub bits-with_installed : (n : ℕ) (s : Installed) (k : Crate) (d : ℕ) → n - 1 < length k.stations → get_or k.stations (n - 1) None ≡ None → numbered crates c ≡ Some k
      → set (map bits_of_crate crates) (c - 1) (bit_or (get_or (map bits_of_crate crates) (c - 1) d) (bit_value s.gl)) ≡ map bits_of_crate (set crates (c - 1) (Some (crate_with_installed n s k)))
  bits-with_installed n s k d below_n free in_crate =
      let before : get_or (map bits_of_crate crates) (c - 1) d ≡ bits_of k.stations = bits-read d ∙ ap bits_of_crate in_crate in
      let after = bits_of-set k.stations (n - 1) s below_n free in
      sym (map-set bits_of_crate crates (c - 1) (Some (crate_with_installed n s k)) ∙ ap (set (map bits_of_crate crates) (c - 1)) (after ∙ ap (λ b. bit_or b (bit_value s.gl)) (sym before)))

-- The bits of the crates whose demand output is enabled, one crate after another.

-- The bits of a crate's stations in the graded-L pattern.

pub not_one : (k : ℕ) → bit_at 0 k ≡ 1 → ⊥
not_one k h = let none = bit_at-zero k in absurd (omega (arith, none, h))

-- the GL bit at a number in a list of stations
bit_in : List (Option Installed) → ℕ → Option ℕ
bit_in stations n = option_and_then (λ s. s.gl) (numbered stations n)

FromOne : List (Option Installed) → Type 0
FromOne stations = (n b : ℕ) → bit_in stations n ≡ Some b → (1 ≤ b) × (b ≤ 24)

in_rest : (s : Option Installed) (rest : List (Option Installed)) (n b : ℕ) → bit_in rest n ≡ Some b → bit_in (s ∷ rest) (suc n) ≡ Some b
unfolding bit_in
in_rest s rest zero b h = absurd (none_is_some b h)
in_rest s rest (suc n) b h = h

rest_from_one : (s : Option Installed) (rest : List (Option Installed)) → FromOne (s ∷ rest) → FromOne rest
unfolding FromOne
rest_from_one s rest all n b h = all (suc n) b (in_rest s rest n b h)

value_bit : (b k : ℕ) → 1 ≤ b → 1 ≤ k → bit_at (2 ^ (k - 1)) (b - 1) ≡ 1 → k ≡ b
value_bit b k from from_k h =
    elim (cases_eq (b - 1) (k - 1)) [
      | inl same ↦ omega (arith, same, from, from_k)
      | inr other ↦ let none = bit_at-pow_other (k - 1) (b - 1) other in absurd (omega (arith, none, h))
    ]

value_of : (o : Option ℕ) (b : ℕ) → 1 ≤ b → ((k : ℕ) → o ≡ Some k → 1 ≤ k) → bit_at (bit_value o) (b - 1) ≡ 1 → o ≡ Some b
value_of None b from known h = absurd (not_one (b - 1) h)
value_of (Some k) b from known h = ap Some (value_bit b k from (known k refl) h)

first_of_list : (s : Option Installed) (rest : List (Option Installed)) (b : ℕ) → 1 ≤ b → FromOne (s ∷ rest) → bit_at (bit_of s) (b - 1) ≡ 1 → bit_in (s ∷ rest) 1 ≡ Some b
unfolding FromOne bit_in
first_of_list None rest b from all h = absurd (not_one (b - 1) h)
first_of_list (Some s) rest b from all h = value_of s.gl b from (λ k e. (all 1 k e).0) h

pub either : (m n k : ℕ) → bit_at (bit_or m n) k ≡ 1 → (bit_at m k ≡ 1) ⊎ (bit_at n k ≡ 1)
either m n k h =
    let both = bit_at_or m n k in
    elim (bit_cases m k) [
      | inl clear ↦ elim (bit_cases n k) [ inl none ↦ absurd (omega (arith, both, clear, none, h)) | inr set ↦ inr set ]
      | inr set ↦ inl set
    ]

-- a bit that is set is that of a station
station_of : (stations : List (Option Installed)) (b : ℕ) → 1 ≤ b → FromOne stations → bit_at (bits_of stations) (b - 1) ≡ 1 → (n : ℕ) × (bit_in stations n ≡ Some b)
station_of [] b from all h = absurd (not_one (b - 1) h)
station_of (s ∷ rest) b from all h =
    elim (either (bit_of s) (bits_of rest) (b - 1) h) [
      | inl first ↦ (1, first_of_list s rest b from all first)
      | inr later ↦ let (n, is) = station_of rest b from (rest_from_one s rest all) later in (suc n, in_rest s rest n b is)
    ]

pub or_left : (m n k : ℕ) → bit_at m k ≡ 1 → bit_at (bit_or m n) k ≡ 1
or_left m n k h = let both = bit_at_or m n k in let few = bit_at-lt n k in omega (arith, both, h, few)

pub or_right : (m n k : ℕ) → bit_at n k ≡ 1 → bit_at (bit_or m n) k ≡ 1
or_right m n k h = let both = bit_at_or m n k in let few = bit_at-lt m k in omega (arith, both, h, few)

first_sets : (s : Option Installed) (b : ℕ) → option_and_then (λ x. x.gl) s ≡ Some b → bit_at (bit_of s) (b - 1) ≡ 1
first_sets None b h = absurd (none_is_some b h)
first_sets (Some s) b h = rw h (bit_at-pow_same (b - 1))

-- a station's bit is set
sets : (stations : List (Option Installed)) (n b : ℕ) → bit_in stations n ≡ Some b → bit_at (bits_of stations) (b - 1) ≡ 1
unfolding bit_in
sets stations zero b h = absurd (none_is_some b h)
sets [] (suc n) b h = absurd (none_is_some b h)
sets (s ∷ rest) (suc zero) b h = or_left (bit_of s) (bits_of rest) (b - 1) (first_sets s b h)
sets (s ∷ rest) (suc (suc n)) b h = or_right (bit_of s) (bits_of rest) (b - 1) (sets rest (suc n) b h)

bits_of_stations : (o : Option Crate) (b : ℕ) → 1 ≤ b
    → ((n k : ℕ) → option_and_then (λ s. s.gl) (option_and_then (λ j. numbered j.stations n) o) ≡ Some k → (1 ≤ k) × (k ≤ 24))
    → (bit_at (bits_of_crate o) (b - 1) ≡ 1) ↔ ((n : ℕ) × (option_and_then (λ s. s.gl) (option_and_then (λ j. numbered j.stations n) o) ≡ Some b))
unfolding bit_in FromOne
bits_of_stations None b from all = (λ h. absurd (not_one (b - 1) h), λ p. absurd (none_is_some b p.1))
bits_of_stations (Some k) b from all = (λ h. station_of k.stations b from all h, λ p. sets k.stations p.0 b p.1)

pub has_bits_of_stations : (plan : Layout) → IsPlan plan → HasBitsOfStations plan
has_bits_of_stations plan is c b from = bits_of_stations (crate_at plan c) b from (λ n k h. is.bits_in_range c n k h)

pub enabled-next : (b : Branch) (plan : Layout) (n : ℕ) → 1 ≤ n → n - 1 < length plan.crates
    → enabled_bits b n (drop (n - 1) plan.crates)
    ≡ bit_or (if (b n).bits.demand then crate_bits plan n else 0) (enabled_bits b (n + 1) (drop (n + 1 - 1) plan.crates))
enabled-next b plan n from below =
    let next : suc (n - 1) ≡ n + 1 - 1 = omega (arith, from) in
    let first : drop (n - 1) plan.crates ≡ get_or plan.crates (n - 1) None ∷ drop (n + 1 - 1) plan.crates = rw (← next) (drop-cons plan.crates (n - 1) None below) in
    rw (first, numbered-from plan.crates n from, add-one n) refl

-- a bit of these crates, numbered from c, is that of one whose demand output is enabled
gated : (d : Bool) (bits j : ℕ) → bit_at (if d then bits else 0) j ≡ 1 → (d ≡ true) × (bit_at bits j ≡ 1)
gated true bits j h = (refl, h)
gated false bits j h = absurd (not_one j h)

open_gate : (d : Bool) (bits j : ℕ) → d ≡ true → bit_at bits j ≡ 1 → bit_at (if d then bits else 0) j ≡ 1
open_gate true bits j e h = h
open_gate false bits j e h = absurd (false≢true e)

record IsOfCrate (b : Branch) (c : ℕ) (ks : List (Option Crate)) (k : ℕ) : Type 0 where
  pub index : ℕ
  pub has_bit : IsSet (bits_of_crate (get_or ks index None)) k
  pub enabled : (b (c + index)).bits.demand ≡ true

of_crate : (b : Branch) (c : ℕ) (ks : List (Option Crate)) (k : ℕ) → IsSet (enabled_bits b c ks) k → IsOfCrate b c ks k
of_crate b c [] k h = absurd (not_one (k - 1) h)
of_crate b c (x ∷ ks) k h =
    elim (either (if (b c).bits.demand then bits_of_crate x else 0) (enabled_bits b (suc c) ks) (k - 1) h) [
      | inl first ↦
          let (on, set) = gated (b c).bits.demand (bits_of_crate x) (k - 1) first in
          let here : c ≡ c + 0 = omega arith in
          record { index = 0; has_bit = set; enabled = subst (λ d. (b d).bits.demand ≡ true) here on }
      | inr later ↦
          let rest = of_crate b (suc c) ks k later in
          let there : suc c + rest.index ≡ c + suc rest.index = omega arith in
          record { index = suc rest.index; has_bit = rest.has_bit; enabled = subst (λ d. (b d).bits.demand ≡ true) there rest.enabled }
    ]

in_crates : (b : Branch) (c : ℕ) (ks : List (Option Crate)) (k i : ℕ) → IsSet (bits_of_crate (get_or ks i None)) k → (b (c + i)).bits.demand ≡ true
    → IsSet (enabled_bits b c ks) k
in_crates b c [] k i h on = absurd (not_one (k - 1) h)
in_crates b c (x ∷ ks) k zero h on =
    let here : c + 0 ≡ c = omega arith in
    or_left (if (b c).bits.demand then bits_of_crate x else 0) (enabled_bits b (suc c) ks) (k - 1) (open_gate (b c).bits.demand (bits_of_crate x) (k - 1) (subst (λ d. (b d).bits.demand ≡ true) here on) h)
in_crates b c (x ∷ ks) k (suc i) h on =
    let there : c + suc i ≡ suc c + i = omega arith in
    or_right (if (b c).bits.demand then bits_of_crate x else 0) (enabled_bits b (suc c) ks) (k - 1) (in_crates b (suc c) ks k i h (subst (λ d. (b d).bits.demand ≡ true) there on))

-- a station of a crate whose demand output is enabled, and the bits of the enabled crates
station_enabled : (plan : Layout) → IsPlan plan → (b : Branch) (k : ℕ) → 1 ≤ k → IsSet (enabled_bits b 1 plan.crates) k → IsEnabled plan b k
station_enabled plan is b k from h =
    let at = of_crate b 1 plan.crates k h in
    let number : 1 + at.index ≡ suc at.index = omega arith in
    let (n, has) = (has_bits_of_stations plan is (suc at.index) k from).0 at.has_bit in
    record { crate_no = suc at.index; station = n; has_bit = has; enabled = subst (λ d. (b d).bits.demand ≡ true) number at.enabled }

enabled_station : (plan : Layout) → IsPlan plan → (b : Branch) (c n k : ℕ) → 1 ≤ k → gl plan c n ≡ Some k → (b c).bits.demand ≡ true → IsSet (enabled_bits b 1 plan.crates) k
enabled_station plan is b zero n k from h on = absurd (none_is_some k h)
enabled_station plan is b (suc i) n k from h on =
    let number : suc i ≡ 1 + i = omega arith in
    in_crates b 1 plan.crates k i ((has_bits_of_stations plan is (suc i) k from).1 (n, h)) (subst (λ d. (b d).bits.demand ≡ true) number on)

-- a bit of an AND is one of both
both_set : (m n j : ℕ) → bit_at (bit_and m n) j ≡ 1 → (bit_at m j ≡ 1) × (bit_at n j ≡ 1)
both_set m n j h =
    let common = bit_at_and m n j in
    let few = bit_at-lt m j in
    let few' = bit_at-lt n j in
    (omega (arith, common, few, few', h), omega (arith, common, few, few', h))

set_both : (m n j : ℕ) → bit_at m j ≡ 1 → bit_at n j ≡ 1 → bit_at (bit_and m n) j ≡ 1
set_both m n j one other = let common = bit_at_and m n j in omega (arith, common, one, other)

pub patterns_are_of_stations : PatternsAreOfStations
patterns_are_of_stations plan is b answered k from = (
  λ h. let (one, other) = both_set answered (enabled_bits b 1 plan.crates) (k - 1) h in (one, station_enabled plan is b k from other),
  λ p. set_both answered (enabled_bits b 1 plan.crates) (k - 1) p.0 (enabled_station plan is b p.1.crate_no p.1.station k from p.1.has_bit p.1.enabled),
)
