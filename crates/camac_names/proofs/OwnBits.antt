-- Where no rule of linking is broken, each service has a bit of its own.
use Rattle.std.proofs.Common.{◌≡◌, ℕ, zero, suc, ◌+◌, ◌<◌, Bool, true, false, not, List, [], ◌∷◌, ◌++◌, length, slice_get, Option, Some, None, IsSome, is_some, option_and_then, refl, sym, ap, subst, ◌∙◌, append_assoc, length-append, arith, inl, inr}
use Rattle.std.proofs.lemmas.Bool.{cases_order, false≢true, or_parts, and_from, eq-eqb}
use Rattle.std.proofs.lemmas.Option.{same_Some}
use Rattle.camac_lang.specs.Tree.{Lam, Service}
use Rattle.camac_branch.specs.Plan.{Layout, IsPlan}
use Rattle.camac_branch.proofs.Numbered.{none_is_some}
use Rattle.camac_names.specs.declared.fault.LinkCase.{LinkCase}
use Rattle.camac_names.specs.declared.fault.LinkFault.{LinkFault}
use Rattle.camac_names.specs.declared.fault.LinkRule.{LinkRule}
use Rattle.camac_names.specs.Link.{unless, lams_fault, lam_bit, service_bit, same_station, is_on, is_served, served_fault, service_fault, or_else, services_fault}
use Rattle.camac_names.specs.Linked.{LinkedScript, IsLinked, bit_of_service}
use Rattle.camac_names.specs.OwnBits.{HasOwnBits, LinkedHaveOwnBits}
use Rattle.camac_lang.specs.declared.spot.Spot.{Spot}

some_none : {A : Type 0} (x : A) → Some x ≡ None → ⊥
some_none x e = none_is_some x (sym e)

both_none : (o next : Option LinkFault) → or_else o next ≡ None → (o ≡ None) × (next ≡ None)
both_none None next e = (refl, e)
both_none (Some f) next e = absurd (some_none f e)

passed : (test : Bool) (rule : LinkRule) (spot : Spot) (case : LinkCase) (next : Option LinkFault) → unless test rule spot case next ≡ None → (test ≡ true) × (next ≡ None)
passed true rule spot case next e = (refl, e)
passed false rule spot case next e = absurd (some_none _ e)

-- the LAM of a service that no rule refuses after these services
record IsFree (plan : Layout) (lams : List Lam) (earlier : List Service) (v : Service) : Type 0 where
  pub lam : Lam
  pub is_its : slice_get lams v.lam ≡ Some lam
  pub has_bit : is_some (lam_bit plan lam) ≡ true
  pub free : is_served lams lam earlier ≡ false

not_true : (b : Bool) → not b ≡ true → b ≡ false
not_true true e = absurd (false≢true e)
not_true false e = refl

free_of : (plan : Layout) (lams : List Lam) (earlier : List Service) (v : Service) (o : Option Lam) → slice_get lams v.lam ≡ o → served_fault plan lams earlier v o ≡ None → IsFree plan lams earlier v
free_of plan lams earlier v None at e = absurd (some_none _ e)
free_of plan lams earlier v (Some l) at e =
    let first = passed (is_some (lam_bit plan l)) _ v.spot _ _ e in
    let second = passed (not (is_served lams l earlier)) _ v.spot _ _ first.1 in
    record { lam = l; is_its = at; has_bit = first.0; free = not_true (is_served lams l earlier) second.0 }

-- none of the services that a LAM is free of is on it
none_on : (lams : List Lam) (l : Lam) (vs : List Service) → is_served lams l vs ≡ false → (k : ℕ) (u : Service) → slice_get vs k ≡ Some u → is_on l (slice_get lams u.lam) ≡ false
none_on lams l [] e k u at = absurd (none_is_some u at)
none_on lams l (v ∷ vs) e zero u at = let (here, later) = or_parts (is_on l (slice_get lams v.lam)) (is_served lams l vs) e in ap (λ (w : Service). is_on l (slice_get lams w.lam)) (sym (same_Some v u at)) ∙ here
none_on lams l (v ∷ vs) e (suc k) u at = let (here, later) = or_parts (is_on l (slice_get lams v.lam)) (is_served lams l vs) e in none_on lams l vs later k u at

prefix_at : (xs ys : List Service) (k : ℕ) → k < length xs → slice_get (xs ++ ys) k ≡ slice_get xs k
prefix_at [] ys k h = absurd (omega (arith, h))
prefix_at (x ∷ xs) ys zero h = refl
prefix_at (x ∷ xs) ys (suc k) h = prefix_at xs ys k (omega (arith, h))

-- service i of these, after others
record IsApart (plan : Layout) (lams : List Lam) (all : List Service) (n : ℕ) (v : Service) : Type 0 where
  pub lam : Lam
  pub is_its : slice_get lams v.lam ≡ Some lam
  pub has_bit : is_some (lam_bit plan lam) ≡ true
  pub apart : (k : ℕ) (u : Service) → k < n → slice_get all k ≡ Some u → is_on lam (slice_get lams u.lam) ≡ false

apart_at : (plan : Layout) (lams : List Lam) (earlier vs : List Service) → services_fault plan lams earlier vs ≡ None → (i : ℕ) (v : Service) → slice_get vs i ≡ Some v
    → IsApart plan lams (earlier ++ vs) (length earlier + i) v
apart_at plan lams earlier [] e i v at = absurd (none_is_some v at)
apart_at plan lams earlier (x ∷ vs) e zero v at =
    let (here, later) = both_none (service_fault plan lams earlier x) (services_fault plan lams (earlier ++ x ∷ []) vs) e in
    let first : IsFree plan lams earlier x = free_of plan lams earlier x (slice_get lams x.lam) refl here in
    let is = subst (λ (w : Service). IsFree plan lams earlier w) (same_Some x v at) first in
    record {
      lam = is.lam;
      is_its = is.is_its;
      has_bit = is.has_bit;
      apart = λ k u below found. none_on lams is.lam earlier is.free k u (sym (prefix_at earlier (x ∷ vs) k (omega (arith, below))) ∙ found);
    }
apart_at plan lams earlier (x ∷ vs) e (suc i) v at =
    let (here, later) = both_none (service_fault plan lams earlier x) (services_fault plan lams (earlier ++ x ∷ []) vs) e in
    let is = apart_at plan lams (earlier ++ x ∷ []) vs later i v at in
    let longer : length (earlier ++ x ∷ []) ≡ length earlier + 1 = length-append earlier (x ∷ []) in
    let whole : (earlier ++ x ∷ []) ++ vs ≡ earlier ++ x ∷ vs = append_assoc earlier (x ∷ []) vs in
    record {
      lam = is.lam;
      is_its = is.is_its;
      has_bit = is.has_bit;
      apart = λ k u below found. is.apart k u (omega (arith, longer, below)) (ap (λ (w : List Service). slice_get w k) whole ∙ found);
    }

module _ (l : LinkedScript) (is : IsPlan l.plan) (linked : IsLinked l) where
  at : (i : ℕ) (v : Service) → slice_get l.script.services i ≡ Some v → IsApart l.plan l.script.lams l.script.services i v
  at i v found = subst (λ (n : ℕ). IsApart l.plan l.script.lams l.script.services n v) (omega arith) (apart_at l.plan l.script.lams [] l.script.services (both_none (lams_fault l.plan l.script.lams) (services_fault l.plan l.script.lams [] l.script.services) linked).1 i v found)

  bit_is : (i b : ℕ) (o : Option Service) → slice_get l.script.services i ≡ o → option_and_then (service_bit l.plan l.script.lams) o ≡ Some b
      → (v : Service) × (slice_get l.script.services i ≡ Some v) × (service_bit l.plan l.script.lams v ≡ Some b)
  bit_is i b None found e = absurd (none_is_some b e)
  bit_is i b (Some v) found e = (v, found, e)

  -- an earlier service has another bit
  other : (i j b : ℕ) → i < j → bit_of_service l i ≡ Some b → bit_of_service l j ≡ Some b → ⊥
  other i j b before first second =
      let (u, u_at, u_bit) = bit_is i b (slice_get l.script.services i) refl first in
      let (v, v_at, v_bit) = bit_is j b (slice_get l.script.services j) refl second in
      let first_is = at i u u_at in
      let second_is = at j v v_at in
      let one : lam_bit l.plan first_is.lam ≡ Some b = sym (ap (option_and_then (lam_bit l.plan)) first_is.is_its) ∙ u_bit in
      let two : lam_bit l.plan second_is.lam ≡ Some b = sym (ap (option_and_then (lam_bit l.plan)) second_is.is_its) ∙ v_bit in
      let (same_crate, same_number) = is.bits_once second_is.lam.crate_no second_is.lam.station first_is.lam.crate_no first_is.lam.station b two one in
      let same : same_station second_is.lam first_is.lam ≡ true = and_from _ _ (eq-eqb _ _ same_crate) (eq-eqb _ _ same_number) in
      let apart : same_station second_is.lam first_is.lam ≡ false = sym (ap (is_on second_is.lam) first_is.is_its) ∙ second_is.apart i u before u_at in
      false≢true (sym apart ∙ same)

  pub has_own_bits : HasOwnBits l
  has_own_bits = record {
    has = λ i below. has_bit i (slice_get l.script.services i) refl below;
    own = λ i j b first second.
        elim (cases_order i j) [
          | inl same ↦ same
          | inr apart ↦ elim apart [ inl before ↦ absurd (other i j b before first second) | inr after ↦ absurd (other j i b after second first) ]
        ];
  }
    where
      inside : (xs : List Service) (i : ℕ) → i < length xs → slice_get xs i ≡ None → ⊥
      inside [] i below e = absurd (omega (arith, below))
      inside (x ∷ xs) zero below e = some_none x e
      inside (x ∷ xs) (suc i) below e = inside xs i (omega (arith, below)) e

      has_bit : (i : ℕ) (o : Option Service) → slice_get l.script.services i ≡ o → i < length l.script.services → IsSome (option_and_then (service_bit l.plan l.script.lams) o)
      has_bit i None found below = absurd (inside l.script.services i below found)
      has_bit i (Some v) found below =
          let is = at i v found in
          ap (λ (o : Option Lam). is_some (option_and_then (lam_bit l.plan) o)) is.is_its ∙ is.has_bit

pub linked_have_own_bits : LinkedHaveOwnBits
linked_have_own_bits l is linked = has_own_bits l is linked
