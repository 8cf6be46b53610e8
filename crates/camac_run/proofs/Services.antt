-- The services of a script by their numbers, and their bits.
use Rattle.std.proofs.Common.{◌≡◌, ◌≢◌, ℕ, zero, suc, ◌+◌, ◌-◌, ◌/◌, ◌%◌, ◌^◌, ◌<◌, Bool, true, false, List, ◌∷◌, length, drop, Option, Some, None, refl, sym, ap, subst, ◌∙◌, arith, eq-eqb}
use Rattle.std.proofs.lemmas.Bool.{ne_eqb}
use Rattle.std.proofs.lemmas.Nat.{shr-shr}
use Rattle.std.proofs.lemmas.Option.{slice_get-map}
use Rattle.std.specs.Prelude.{slice_get, option_map, option_and_then, nat_eq, if◌then◌else◌}
use Rattle.camac_lang.specs.Tree.{Lam, Service}
use Rattle.camac_branch.specs.Plan.{Layout, gl}
use Rattle.camac_rules.specs.Checked.{CheckedScript, linked_of}
use Rattle.camac_model.specs.Meaning.{Context, context, lam_address}
use Rattle.camac_model.specs.Run.{Chosen, service_bit, is_bit, is_bit_set, with_bit, or_next, first_service}
use Rattle.camac_names.specs.Link.{lam_bit, service_bit as link_bit}
use Rattle.camac_names.specs.Linked.{bit_of_service}
use Rattle.camac_machine.proofs.Lists.{place}
use Rattle.camac_run.specs.Called.{chosen_of}
use Rattle.camac_run.specs.declared.service.Called.{Called}

same_bit : (plan : Layout) (o : Option Lam) → option_and_then (λ at. gl plan at.crate_no at.station) (option_map lam_address o) ≡ option_and_then (lam_bit plan) o
same_bit plan None = refl
same_bit plan (Some l) = refl

-- a pattern without a bit from k on has none from the next one on
none_further : (pattern k : ℕ) → pattern / 2 ^ (k - 1) ≡ 0 → pattern / 2 ^ (k + 1 - 1) ≡ 0
none_further pattern zero e = e
none_further pattern (suc k) e =
    let here : k ≡ suc k - 1 = omega arith in
    let next : suc k + 1 - 1 ≡ k + 1 = omega arith in
    ap (λ j. pattern / 2 ^ j) next ∙ sym (shr-shr pattern k 1) ∙ ap (λ j. pattern / 2 ^ j / 2 ^ 1) here ∙ ap (λ n. n / 2 ^ 1) e

-- and no service for them
pub none_left : (c : Context) (m k pattern : ℕ) (vs : List Service) → pattern / 2 ^ (k - 1) ≡ 0 → first_service c m k pattern vs ≡ None
none_left c zero k pattern vs e = refl
none_left c (suc m) k pattern vs e =
    let unset : is_bit_set pattern k ≡ false = ap (λ n. nat_eq (n % 2) 1) e in
    ap (λ b. or_next (if b then with_bit c k 0 vs else None) (first_service c m (k + 1) pattern vs)) unset ∙ none_left c m (k + 1) pattern vs (none_further pattern k e)

-- the bits from this one on begin with it
from_next : (c : Context) (k pattern : ℕ) (vs : List Service) → k < 25 → first_service c (25 - k) k pattern vs ≡ or_next (if is_bit_set pattern k then with_bit c k 0 vs else None) (first_service c (25 - (k + 1)) (k + 1) pattern vs)
from_next c k pattern vs h =
    let e : 25 - k ≡ suc (25 - (k + 1)) = omega arith in
    ap (λ m. first_service c m k pattern vs) e

-- a service has the bit
pub bit_here : (c : Context) (k pattern : ℕ) (vs : List Service) (called : Called) → called.number < length vs → k < 25 → is_bit_set pattern k ≡ true → with_bit c k 0 vs ≡ chosen_of vs called → first_service c (25 - k) k pattern vs ≡ chosen_of vs called
bit_here c k pattern vs called known h on e =
    let p = place vs called.number known in
    let rest = first_service c (25 - (k + 1)) (k + 1) pattern vs in
    from_next c k pattern vs h
    ∙ ap (λ b. or_next (if b then with_bit c k 0 vs else None) rest) on
    ∙ ap (λ o. or_next o rest) e
    ∙ ap (λ o. or_next (option_map (λ v. record { number = called.number; bit = called.gl; service = v }) o) rest) p.1
    ∙ sym (ap (option_map (λ v. record { number = called.number; bit = called.gl; service = v })) p.1)

-- none has it
pub bit_passed : (c : Context) (k pattern : ℕ) (vs : List Service) → k < 25 → with_bit c k 0 vs ≡ None → first_service c (25 - k) k pattern vs ≡ first_service c (25 - (k + 1)) (k + 1) pattern vs
bit_passed c k pattern vs h none = from_next c k pattern vs h ∙ either (is_bit_set pattern k)
  where
    rest : Option Chosen
    rest = first_service c (25 - (k + 1)) (k + 1) pattern vs

    either : (b : Bool) → or_next (if b then with_bit c k 0 vs else None) rest ≡ rest
    either true = ap (λ o. or_next o rest) none
    either false = refl

-- the pattern has it not
pub no_bit_passed : (c : Context) (k pattern : ℕ) (vs : List Service) → k < 25 → is_bit_set pattern k ≡ false → first_service c (25 - k) k pattern vs ≡ first_service c (25 - (k + 1)) (k + 1) pattern vs
no_bit_passed c k pattern vs h off =
    from_next c k pattern vs h ∙ ap (λ b. or_next (if b then with_bit c k 0 vs else None) (first_service c (25 - (k + 1)) (k + 1) pattern vs)) off

module _ (c : CheckedScript) where
  bit_is : (i b : ℕ) (v : Service) → slice_get c.script.services i ≡ Some v → bit_of_service (linked_of c) i ≡ Some b → service_bit (context c.plan c.script) v ≡ Some b
  bit_is i b v e h =
      let found : link_bit c.plan c.script.lams v ≡ Some b = subst (λ o. option_and_then (link_bit c.plan c.script.lams) o ≡ Some b) e h in
      ap (option_and_then (λ at. gl c.plan at.crate_no at.station)) (slice_get-map lam_address c.script.lams v.lam)
      ∙ same_bit c.plan (slice_get c.script.lams v.lam) ∙ found

  taken : (k i b : ℕ) (v : Service) (rest : List Service) → service_bit (context c.plan c.script) v ≡ Some b → with_bit (context c.plan c.script) k i (v ∷ rest) ≡ (if nat_eq b k then Some (record { number = i; bit = k; service = v }) else with_bit (context c.plan c.script) k (i + 1) rest)
  taken k i b v rest e =
      ap (λ o. if is_bit o k then Some (record { number = i; bit = k; service = v }) else with_bit (context c.plan c.script) k (i + 1) rest) e

  -- the service of this number has the bit
  pub with_bit_here : (i k : ℕ) → i < length c.script.services → bit_of_service (linked_of c) i ≡ Some k → with_bit (context c.plan c.script) k i (drop i c.script.services) ≡ chosen_of c.script.services (record { number = i; gl = k })
  with_bit_here i k h e =
      let p = place c.script.services i h in
      ap (with_bit (context c.plan c.script) k i) p.2
      ∙ taken k i k p.0 (drop (i + 1) c.script.services) (bit_is i k p.0 p.1 e)
      ∙ ap (λ t. if t then Some (record { number = i; bit = k; service = p.0 }) else with_bit (context c.plan c.script) k (i + 1) (drop (i + 1) c.script.services)) (eq-eqb k k refl)
      ∙ sym (ap (option_map (λ v. record { number = i; bit = k; service = v })) p.1)

  -- it has not
  pub with_bit_next : (i b k : ℕ) → i < length c.script.services → bit_of_service (linked_of c) i ≡ Some b → b ≢ k → with_bit (context c.plan c.script) k i (drop i c.script.services) ≡ with_bit (context c.plan c.script) k (i + 1) (drop (i + 1) c.script.services)
  with_bit_next i b k h e ne =
      let p = place c.script.services i h in
      ap (with_bit (context c.plan c.script) k i) p.2
      ∙ taken k i b p.0 (drop (i + 1) c.script.services) (bit_is i b p.0 p.1 e)
      ∙ ap (λ t. if t then Some (record { number = i; bit = k; service = p.0 }) else with_bit (context c.plan c.script) k (i + 1) (drop (i + 1) c.script.services)) (ne_eqb b k ne)
