-- The search for the service of a demand finds the one that the pattern calls.
use Rattle.std.proofs.Common.{◌≡◌, ℕ, zero, suc, ◌+◌, ◌-◌, ◌<◌, ◌≤◌, ◌≢◌, ◌↔◌, inl, inr, List, [], ◌∷◌, Option, Some, None, option_and_then, slice_get, Bool, true, false, cond, refl, sym, ◌∙◌, ap, subst, arith}
use Rattle.std.specs.Int.{bit_at}
use Rattle.std.proofs.lemmas.Bool.{cases_eq, false≢true, eqb-true, eq-eqb, true≢false}
use Rattle.std.proofs.lemmas.Option.{same_Some}
use Rattle.camac_lang.specs.Tree.{Service}
use Rattle.camac_branch.specs.Address.{Address}
use Rattle.camac_branch.specs.Branch.{IsSet}
use Rattle.camac_branch.specs.Plan.{Layout, IsPlan, gl}
use Rattle.camac_branch.proofs.Numbered.{none_is_some}
use Rattle.camac_model.specs.Meaning.{Context, context}
use Rattle.camac_model.specs.Run.{Chosen, is_bit_set, service_bit, is_bit, with_bit, or_next, first_service, service_for}
use Rattle.camac_model.specs.Demands.{IsAsked, IsCalled, CallsAsAsked, DemandsCallServices}

bit_is : (o : Option ℕ) (k : ℕ) → is_bit o k ≡ true → o ≡ Some k
bit_is None k e = absurd (false≢true e)
bit_is (Some b) k e = ap Some (eqb-true b k e)

is_bit_of : (o : Option ℕ) (k : ℕ) → o ≡ Some k → is_bit o k ≡ true
is_bit_of o k e = rw e (eq-eqb k k refl)

-- the first service that has bit k, among these, which are numbered from i
record IsFound (c : Context) (k i : ℕ) (vs : List Service) (v : Chosen) : Type 0 where
  pub bit : v.bit ≡ k
  pub has : service_bit c v.service ≡ Some k
  pub place : ℕ
  pub at : v.number ≡ i + place
  pub numbered : slice_get vs place ≡ Some v.service
  pub first : (m : ℕ) (w : Service) → slice_get vs m ≡ Some w → service_bit c w ≡ Some k → place ≤ m

Found : Context → ℕ → ℕ → List Service → Option Chosen → Type 0
Found c k i vs None = (m : ℕ) (w : Service) → slice_get vs m ≡ Some w → service_bit c w ≡ Some k → ⊥
Found c k i vs (Some v) = IsFound c k i vs v

found_here : (c : Context) (k i : ℕ) (v : Service) (vs : List Service) → is_bit (service_bit c v) k ≡ true
    → IsFound c k i (v ∷ vs) (record { number = i; bit = k; service = v })
found_here c k i v vs e = record {
  bit = refl;
  has = bit_is (service_bit c v) k e;
  place = 0;
  at = omega arith;
  numbered = refl;
  first = λ m w h b. omega arith;
}

not_here : (c : Context) (k : ℕ) (v w : Service) → is_bit (service_bit c v) k ≡ false → Some v ≡ Some w → service_bit c w ≡ Some k → ⊥
not_here c k v w e same h = true≢false (sym (is_bit_of (service_bit c v) k (ap (service_bit c) (same_Some v w same) ∙ h)) ∙ e)

found_later : (c : Context) (k i : ℕ) (v : Service) (vs : List Service) (u : Chosen) → is_bit (service_bit c v) k ≡ false
    → IsFound c k (i + 1) vs u → IsFound c k i (v ∷ vs) u
found_later c k i v vs u e f =
    let at = f.at in
    record { bit = f.bit; has = f.has; place = suc f.place; at = omega (arith, at); numbered = f.numbered; first = later }
  where
    later : (m : ℕ) (w : Service) → slice_get (v ∷ vs) m ≡ Some w → service_bit c w ≡ Some k → suc f.place ≤ m
    later zero w h b = absurd (not_here c k v w e h b)
    later (suc m) w h b = let before = f.first m w h b in omega (arith, before)

found_nowhere : (c : Context) (k : ℕ) (v : Service) (vs : List Service) → is_bit (service_bit c v) k ≡ false
    → ((m : ℕ) (w : Service) → slice_get vs m ≡ Some w → service_bit c w ≡ Some k → ⊥)
    → (m : ℕ) (w : Service) → slice_get (v ∷ vs) m ≡ Some w → service_bit c w ≡ Some k → ⊥
found_nowhere c k v vs e none zero w h b = not_here c k v w e h b
found_nowhere c k v vs e none (suc m) w h b = none m w h b

found_next : (c : Context) (k i : ℕ) (v : Service) (vs : List Service) (here : Bool) → is_bit (service_bit c v) k ≡ here
    → (rest : Option Chosen) → Found c k (i + 1) vs rest
    → Found c k i (v ∷ vs) (cond here (Some (record { number = i; bit = k; service = v })) rest)
unfolding Found
found_next c k i v vs true e rest f = found_here c k i v vs e
found_next c k i v vs false e None f = found_nowhere c k v vs e f
found_next c k i v vs false e (Some u) f = found_later c k i v vs u e f

found : (c : Context) (k i : ℕ) (vs : List Service) → Found c k i vs (with_bit c k i vs)
unfolding Found
found c k i [] = λ m w h b. none_is_some w h
found c k i (v ∷ vs) = found_next c k i v vs (is_bit (service_bit c v) k) refl (with_bit c k (i + 1) vs) (found c k (i + 1) vs)

-- the service of the least bit from k on that is in the pattern
record IsLowest (c : Context) (k pattern : ℕ) (vs : List Service) (v : Chosen) : Type 0 where
  pub asked : IsAsked c vs pattern v
  pub from : k ≤ v.bit
  pub least : (w : Chosen) → IsAsked c vs pattern w → k ≤ w.bit → v.bit ≤ w.bit
  pub first : (w : Chosen) → IsAsked c vs pattern w → w.bit ≡ v.bit → v.number ≤ w.number

-- among m bits from k on
Lowest : Context → ℕ → ℕ → ℕ → List Service → Option Chosen → Type 0
Lowest c m k pattern vs None = (w : Chosen) → IsAsked c vs pattern w → k ≤ w.bit → w.bit < k + m → ⊥
Lowest c m k pattern vs (Some v) = IsLowest c k pattern vs v

-- where no service is asked for by bit k
NoneHas : Context → ℕ → ℕ → List Service → Type 0
NoneHas c k pattern vs = (w : Chosen) → IsAsked c vs pattern w → w.bit ≡ k → ⊥

above : (c : Context) (k pattern : ℕ) (vs : List Service) → NoneHas c k pattern vs → (w : Chosen) → IsAsked c vs pattern w → k ≤ w.bit → k + 1 ≤ w.bit
unfolding NoneHas
above c k pattern vs none w asked from =
    elim (cases_eq w.bit k) [ inl same ↦ absurd (none w asked same) | inr other ↦ let apart : w.bit ≢ k = other in omega (arith, from, apart) ]

widen : (c : Context) (m k pattern : ℕ) (vs : List Service) (o : Option Chosen) → NoneHas c k pattern vs → Lowest c m (k + 1) pattern vs o → Lowest c (suc m) k pattern vs o
unfolding Lowest
widen c m k pattern vs None none l = λ w asked from below. l w asked (above c k pattern vs none w asked from) (omega (arith, below))
widen c m k pattern vs (Some v) none l =
    let from = l.from in
    record {
      asked = l.asked;
      from = omega (arith, from);
      least = λ w asked above_k. l.least w asked (above c k pattern vs none w asked above_k);
      first = l.first;
    }

asked_found : (c : Context) (k pattern : ℕ) (vs : List Service) (v : Chosen) → IsSet pattern k → IsFound c k 0 vs v → IsLowest c k pattern vs v
asked_found c k pattern vs v set f =
    let at : v.number ≡ f.place = f.at ∙ omega arith in
    let bit = f.bit in
    record {
      asked = record { numbered = ap (slice_get vs) at ∙ f.numbered; bit = f.has ∙ ap Some (sym f.bit); in_pattern = subst (IsSet pattern) (sym f.bit) set };
      from = omega (arith, bit);
      least = λ w asked from. omega (arith, bit, from);
      first = λ w asked same. let before = f.first w.number w.service asked.numbered (asked.bit ∙ ap Some (same ∙ f.bit)) in omega (arith, at, before);
    }

none_set : (c : Context) (k pattern : ℕ) (vs : List Service) → is_bit_set pattern k ≡ false → NoneHas c k pattern vs
unfolding NoneHas
none_set c k pattern vs e w asked same =
    true≢false (sym (eq-eqb (bit_at pattern (k - 1)) 1 (subst (IsSet pattern) same asked.in_pattern)) ∙ e)

none_found : (c : Context) (k pattern : ℕ) (vs : List Service)
    → ((m : ℕ) (w : Service) → slice_get vs m ≡ Some w → service_bit c w ≡ Some k → ⊥) → NoneHas c k pattern vs
unfolding NoneHas
none_found c k pattern vs none w asked same = none w.number w.service asked.numbered (asked.bit ∙ ap Some same)

lowest_next : (c : Context) (m k pattern : ℕ) (vs : List Service) (set : Bool) → is_bit_set pattern k ≡ set
    → (here : Option Chosen) → Found c k 0 vs here → (rest : Option Chosen) → Lowest c m (k + 1) pattern vs rest
    → Lowest c (suc m) k pattern vs (or_next (cond set here None) rest)
unfolding Found Lowest
lowest_next c m k pattern vs false e here f rest l = widen c m k pattern vs rest (none_set c k pattern vs e) l
lowest_next c m k pattern vs true e None f rest l = widen c m k pattern vs rest (none_found c k pattern vs f) l
lowest_next c m k pattern vs true e (Some v) f rest l = asked_found c k pattern vs v (eqb-true (bit_at pattern (k - 1)) 1 e) f

lowest : (c : Context) (m k pattern : ℕ) (vs : List Service) → Lowest c m k pattern vs (first_service c m k pattern vs)
unfolding Lowest
lowest c zero k pattern vs = λ w asked from below. absurd (omega (arith, from, below))
lowest c (suc m) k pattern vs =
    lowest_next c m k pattern vs (is_bit_set pattern k) refl (with_bit c k 0 vs) (found c k 0 vs) (first_service c m (k + 1) pattern vs) (lowest c m (k + 1) pattern vs)

-- bits of a plan are 1 to 24
module _ (c : Context) (vs : List Service) (pattern : ℕ) (ranged : (v : Service) (b : ℕ) → service_bit c v ≡ Some b → (1 ≤ b) × (b ≤ 24)) where
  Outcome : Option Chosen → Type 0
  Outcome None = (w : Chosen) → IsAsked c vs pattern w → ⊥
  Outcome (Some v) = IsCalled c vs pattern v

  outcome_of : (o : Option Chosen) → Lowest c 24 1 pattern vs o → Outcome o
  unfolding Lowest Outcome
  outcome_of None l = λ w asked. let range = ranged w.service w.bit asked.bit in l w asked range.0 (omega (arith, range.1))
  outcome_of (Some v) l = record { asked = l.asked; least = λ w asked. l.least w asked (ranged w.service w.bit asked.bit).0; first = l.first }

  same_called : (v u : Chosen) → IsCalled c vs pattern v → IsCalled c vs pattern u → u ≡ v
  same_called v u one other =
      let below = one.least u other.asked in
      let above = other.least v one.asked in
      let bit : u.bit ≡ v.bit = omega (arith, below, above) in
      let before = one.first u other.asked bit in
      let after = other.first v one.asked (sym bit) in
      let number : u.number ≡ v.number = omega (arith, before, after) in
      let service : u.service ≡ v.service = same_Some u.service v.service (sym other.asked.numbered ∙ ap (slice_get vs) number ∙ one.asked.numbered) in
      λ i. record { number = number i; bit = bit i; service = service i }

  called_of : (o : Option Chosen) → Outcome o → (v : Chosen) → (o ≡ Some v) ↔ IsCalled c vs pattern v
  unfolding Outcome
  called_of None none v = (λ e. absurd (none_is_some v e), λ called. absurd (none v called.asked))
  called_of (Some u) is v = (λ e. subst (IsCalled c vs pattern) (same_Some u v e) is, λ called. ap Some (same_called v u called is))

  none_of : (o : Option Chosen) → Outcome o → (o ≡ None) ↔ ((v : Chosen) → IsAsked c vs pattern v → ⊥)
  unfolding Outcome
  none_of None none = (λ e. none, λ h. refl)
  none_of (Some u) is = (λ e. absurd (none_is_some u (sym e)), λ h. absurd (h u is.asked))

  calls_as_asked : CallsAsAsked c vs pattern
  calls_as_asked =
      let is = outcome_of (service_for c pattern vs) (lowest c 24 1 pattern vs) in
      record { called = called_of (service_for c pattern vs) is; none = none_of (service_for c pattern vs) is }

bit_in_range : (plan : Layout) → IsPlan plan → (o : Option Address) (b : ℕ) → option_and_then (λ at. gl plan at.crate_no at.station) o ≡ Some b → (1 ≤ b) × (b ≤ 24)
bit_in_range plan is None b e = absurd (none_is_some b e)
bit_in_range plan is (Some at) b e = is.bits_in_range at.crate_no at.station b e

pub demands_call_services : DemandsCallServices
demands_call_services plan is script pattern =
    calls_as_asked (context plan script) script.services pattern (λ v b e. bit_in_range plan is (slice_get (context plan script).lams v.lam) b e)
