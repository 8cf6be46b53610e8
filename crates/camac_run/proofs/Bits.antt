-- The graded-L bit of each event of a run is 1 to 24.
use Rattle.std.proofs.Common.{◌≡◌, ℕ, zero, suc, ◌+◌, ◌<◌, ◌≤◌, List, [], ◌∷◌, length, Option, Some, None, Bool, true, false, refl, ap, arith}
use Rattle.std.specs.Prelude.{if◌then◌else◌}
use Rattle.camac_lang.specs.Tree.{Service, Script}
use Rattle.camac_branch.specs.Branch.{Branch, Answer, pattern_of, start}
use Rattle.camac_branch.specs.Plan.{Layout}
use Rattle.camac_model.specs.State.{State, fresh}
use Rattle.camac_model.specs.Behaviour.{Behaviour, does, ends, stops, Piece, demanded, cycled, lock_taken, lock_released, event_left, pieces}
use Rattle.camac_model.specs.Meaning.{Context, context}
use Rattle.camac_model.specs.Moments.{Meets, Any, AnyStop}
use Rattle.camac_model.specs.Headline.{no_count, nothing}
use Rattle.camac_model.specs.Run.{Chosen, service_bit, is_bit, is_bit_set, with_bit, or_next, first_service, service_for, service_meaning, event_of, serve, rounds, the_run}
use Rattle.camac_model.proofs.Rules.{then_meets}
use Rattle.camac_model.proofs.Kept.{IsStepwise, script_keeps}

with_bit_has : (c : Context) (k i : ℕ) (vs : List Service) (v : Chosen) → with_bit c k i vs ≡ Some v → v.bit ≡ k
with_bit_has c k i [] v e = absurd (cc)
with_bit_has c k i (w ∷ vs) v e = go (with_bit_has c k (i + 1) vs v) (is_bit (service_bit c w) k) e
  where
    go : (with_bit c k (i + 1) vs ≡ Some v → v.bit ≡ k) → (t : Bool) → (if t then Some (record { number = i; bit = k; service = w }) else with_bit c k (i + 1) vs) ≡ Some v → v.bit ≡ k
    go ih true e' =
        let same : v ≡ record { number = i; bit = k; service = w } = cc in
        ap (λ z. z.bit) same
    go ih false e' = ih e'

record IsFrom (k m : ℕ) (v : Chosen) : Type 0 where
  low : k ≤ v.bit
  high : v.bit < k + m

first_from : (c : Context) (m k pattern : ℕ) (vs : List Service) (v : Chosen) → first_service c m k pattern vs ≡ Some v → IsFrom k m v
first_from c zero k pattern vs v e = absurd (cc)
first_from c (suc m) k pattern vs v e = go (λ e'. next_from (first_from c m (k + 1) pattern vs v e')) (is_bit_set pattern k) e
  where
    next_from : IsFrom (k + 1) m v → IsFrom k (suc m) v
    next_from h =
        let low = h.low in
        let high = h.high in
        record { low = omega arith; high = omega arith }

    either : (first_service c m (k + 1) pattern vs ≡ Some v → IsFrom k (suc m) v) → (o : Option Chosen) → (o ≡ Some v → v.bit ≡ k) → or_next o (first_service c m (k + 1) pattern vs) ≡ Some v → IsFrom k (suc m) v
    either ih None h e' = ih e'
    either ih (Some w) h e' =
        let same = h e' in
        record { low = omega arith; high = omega arith }

    go : (first_service c m (k + 1) pattern vs ≡ Some v → IsFrom k (suc m) v) → (t : Bool) → or_next (if t then with_bit c k 0 vs else None) (first_service c m (k + 1) pattern vs) ≡ Some v → IsFrom k (suc m) v
    go ih true e' = either ih (with_bit c k 0 vs) (with_bit_has c k 0 vs v) e'
    go ih false e' = ih e'

abbrev pub BitFits : Piece → Type 0
BitFits (demanded p v) = Unit {0}
BitFits (cycled at f d r w) = Unit {0}
BitFits (lock_taken c w) = Unit {0}
BitFits (lock_released c) = Unit {0}
BitFits (event_left e) = (1 ≤ e.bit) × (e.bit ≤ 24)

abbrev pub BitsFit : List Piece → Type 0
BitsFit [] = Unit {0}
BitsFit (p ∷ ps) = BitFits p × BitsFit ps

abbrev AnyState : Unit {0} → State → Type 0
AnyState u s = Unit {0}

abbrev Fits : Unit {0} → Piece → Type 0
Fits u p = BitFits p

stepwise : IsStepwise no_count Fits AnyState
stepwise = record {
  on_step = λ u s i. tt;
  on_store = λ u env regs s i. tt;
  on_word = λ u w s i. tt;
  on_cycle = λ u at f d r a rest s e i. (tt, tt);
  on_lock = λ u c a rest s e free i. (tt, tt);
  on_release = λ u c s i. (tt, tt);
}

module _ (plan : Layout) (script : Script) where
  rounds_fit : (k : ℕ) (b : Branch) (answers : List Answer) → Meets no_count Fits AnyStop Any nothing (rounds k (context plan script) 65535 script.services b answers)
  rounds_fit zero b answers = tt
  rounds_fit (suc k) b [] = tt
  rounds_fit (suc k) b (a ∷ rest) =
      (tt, go (service_for (context plan script) (pattern_of plan b a.gl) script.services) (λ v e. first_from (context plan script) 24 1 (pattern_of plan b a.gl) script.services v e) (λ b' l. rounds_fit k b' l))
    where
      go : (o : Option Chosen) → ((v : Chosen) → o ≡ Some v → IsFrom 1 24 v) → ((b' : Branch) (l : List Answer) → Meets no_count Fits AnyStop Any nothing (rounds k (context plan script) 65535 script.services b' l)) → Meets no_count Fits AnyStop Any nothing (serve (context plan script) 65535 o b rest (rounds k (context plan script) 65535 script.services))
      go None from ih = ih b rest
      go (Some v) from ih =
          let h = from v refl in
          let low = h.low in
          let high = h.high in
          then_meets no_count Fits AnyStop AnyState Any nothing (service_meaning (context plan script) 65535 v.service b rest) (λ s. does (event_left (event_of v.bit s)) (rounds k (context plan script) 65535 script.services s.branch s.answers))
          (script_keeps no_count Fits AnyState stepwise plan script v.service.body 65535 nothing (fresh b rest) tt)
          (λ u s i. ((omega arith, omega arith), ih s.branch s.answers))

bits_of : (u : Unit {0}) (b : Behaviour (Unit {0})) → Meets no_count Fits AnyStop Any u b → BitsFit (pieces b)
bits_of u (does p b) h = (h.0, bits_of u b h.1)
bits_of u (ends v) h = tt
bits_of u (stops w s) h = tt

pub bits_fit : (plan : Layout) (script : Script) (answers : List Answer) → BitsFit (pieces (the_run plan script answers))
bits_fit plan script answers = bits_of nothing (the_run plan script answers) (rounds_fit plan script (length answers) start answers)
