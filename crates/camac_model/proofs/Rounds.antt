-- What a run meets, from what each of its services meets.
use Rattle.std.proofs.Common.{◌≡◌, ℕ, zero, suc, ◌+◌, ◌≤◌, List, [], ◌∷◌, length, Option, Some, None, Bool, true, false, refl, sym, ap, subst, arith}
use Rattle.std.specs.Prelude.{slice_get, option_map, if◌then◌else◌}
use Rattle.camac_lang.specs.Tree.{Service, Script}
use Rattle.camac_branch.specs.Branch.{Branch, Answer, pattern_of}
use Rattle.camac_branch.specs.Plan.{Layout}
use Rattle.camac_model.specs.State.{State}
use Rattle.camac_model.specs.Behaviour.{Behaviour, does, ends, stops, Stop, Piece, demanded, event_left, reached, pieces, uses}
use Rattle.camac_model.specs.Meaning.{Context, context}
use Rattle.camac_model.specs.Run.{Chosen, service_bit, is_bit, is_bit_set, with_bit, or_next, first_service, service_for, service_meaning, event_of, serve, rounds}
use Rattle.camac_model.specs.Laws.{EndsWith}
use Rattle.camac_model.proofs.Rules.{Meets, then_meets}
use Rattle.camac_model.proofs.Counts.{services_count}
use Rattle.camac_model.proofs.Runs.{where_reached, drop_length}

-- the service with a bit is in the list, by its number
with_bit_listed : (c : Context) (k i : ℕ) (vs : List Service) (v : Chosen) → with_bit c k i vs ≡ Some v → (j : ℕ) × (v.number ≡ i + j) × (slice_get vs j ≡ Some v.service)
with_bit_listed c k i [] v e = absurd (cc)
with_bit_listed c k i (w ∷ vs) v e = go (with_bit_listed c k (i + 1) vs v) (is_bit (service_bit c w) k) e
  where
    go : (with_bit c k (i + 1) vs ≡ Some v → (j : ℕ) × (v.number ≡ (i + 1) + j) × (slice_get vs j ≡ Some v.service)) → (t : Bool) → (if t then Some (record { number = i; bit = k; service = w }) else with_bit c k (i + 1) vs) ≡ Some v → (j : ℕ) × (v.number ≡ i + j) × (slice_get (w ∷ vs) j ≡ Some v.service)
    go ih true e' =
        let same : record { number = i; bit = k; service = w } ≡ v = cc in
        let number : i ≡ v.number = ap (λ z. z.number) same in
        (zero, omega (arith, number), ap (λ z. Some z.service) same)
    go ih false e' =
        let h = ih e' in
        (suc h.0, (let number = h.1 in omega arith), h.2)

first_listed : (c : Context) (m k pattern : ℕ) (vs : List Service) (v : Chosen) → first_service c m k pattern vs ≡ Some v → slice_get vs v.number ≡ Some v.service
first_listed c zero k pattern vs v e = absurd (cc)
first_listed c (suc m) k pattern vs v e = go (first_listed c m (k + 1) pattern vs v) (is_bit_set pattern k) e
  where
    here : with_bit c k 0 vs ≡ Some v → slice_get vs v.number ≡ Some v.service
    here e' =
        let h = with_bit_listed c k 0 vs v e' in
        let number = h.1 in
        let same : h.0 ≡ v.number = omega arith in
        subst (λ j. slice_get vs j ≡ Some v.service) same h.2

    either : (first_service c m (k + 1) pattern vs ≡ Some v → slice_get vs v.number ≡ Some v.service) → (o : Option Chosen) → (o ≡ Some v → slice_get vs v.number ≡ Some v.service) → or_next o (first_service c m (k + 1) pattern vs) ≡ Some v → slice_get vs v.number ≡ Some v.service
    either ih None h e' = ih e'
    either ih (Some w) h e' = h e'

    go : (first_service c m (k + 1) pattern vs ≡ Some v → slice_get vs v.number ≡ Some v.service) → (t : Bool) → or_next (if t then with_bit c k 0 vs else None) (first_service c m (k + 1) pattern vs) ≡ Some v → slice_get vs v.number ≡ Some v.service
    go ih true e' = either ih (with_bit c k 0 vs) here e'
    go ih false e' = ih e'

module _ {X : Type 0} (step : X → Piece → X) (S : X → Piece → Type 0) (P : X → Stop → State → Type 0) where
  -- with what holds where it ends
  pub meets_where : (Q : X → State → Type 0) (E : State → Type 0) (x : X) (b : Behaviour State) → Meets step S P Q x b → EndsWith E b → Meets step S P (λ y s. Q y s × E s) x b
  meets_where Q E x (does p b) h e = (h.0, meets_where Q E (step x p) b h.1 e)
  meets_where Q E x (ends s) h e = (h, e)
  meets_where Q E x (stops w s) h e = h

  -- by what follows from each condition
  pub meets_mapped : {A : Type 0} (S' : X → Piece → Type 0) (P' : X → Stop → State → Type 0) (Q Q' : X → A → Type 0) → ((x : X) (p : Piece) → S x p → S' x p) → ((x : X) (w : Stop) (s : State) → P x w s → P' x w s) → ((x : X) (a : A) → Q x a → Q' x a) → (x : X) (b : Behaviour A) → Meets step S P Q x b → Meets step S' P' Q' x b
  meets_mapped S' P' Q Q' f g k x (does p b) h = (f x p h.0, meets_mapped S' P' Q Q' f g k (step x p) b h.1)
  meets_mapped S' P' Q Q' f g k x (ends a) h = k x a h
  meets_mapped S' P' Q Q' f g k x (stops w s) h = g x w s h

  -- R holds between services, of the answers that are left
  module _ (plan : Layout) (script : Script) (n : ℕ) (R : X → List Answer → Type 0)
      (idle : (x : X) (a : Answer) (rest : List Answer) (p : ℕ) → R x (a ∷ rest) → S x (demanded p None) × R (step x (demanded p None)) rest)
      (served : (x : X) (a : Answer) (rest : List Answer) (p : ℕ) (v : Chosen) (b : Branch) → slice_get script.services v.number ≡ Some v.service → R x (a ∷ rest)
      → S x (demanded p (Some v.number)) × Meets step S P (λ y s. S y (event_left (event_of v.bit s)) × R (step y (event_left (event_of v.bit s))) s.answers) (step x (demanded p (Some v.number))) (service_meaning (context plan script) n v.service b rest)) where
    abbrev pub AtRunEnd : X → Unit {0} → Type 0
    AtRunEnd x u = R x []

    pub rounds_meet : (i : ℕ) (x : X) (b : Branch) (answers : List Answer) → length answers ≤ i → R x answers → Meets step S P AtRunEnd x (rounds i (context plan script) n script.services b answers)
    rounds_meet zero x b [] le r = r
    rounds_meet zero x b (a ∷ rest) le r = absurd (omega arith)
    rounds_meet (suc i) x b [] le r = r
    rounds_meet (suc i) x b (a ∷ rest) le r =
        go (service_for (context plan script) (pattern_of plan b a.gl) script.services)
        (λ v e. first_listed (context plan script) 24 1 (pattern_of plan b a.gl) script.services v e)
        (λ y b' l le' r'. rounds_meet i y b' l (omega arith) r')
      where
        go : (o : Option Chosen) → ((v : Chosen) → o ≡ Some v → slice_get script.services v.number ≡ Some v.service) → ((y : X) (b' : Branch) (l : List Answer) → length l ≤ length rest → R y l → Meets step S P AtRunEnd y (rounds i (context plan script) n script.services b' l)) → Meets step S P AtRunEnd x (does (demanded (pattern_of plan b a.gl) (option_map (λ v. v.number) o)) (serve (context plan script) n o b rest (rounds i (context plan script) n script.services)))
        go None listed ih =
            let h = idle x a rest (pattern_of plan b a.gl) r in
            (h.0, ih (step x (demanded (pattern_of plan b a.gl) None)) b rest (omega arith) h.1)
        go (Some v) listed ih =
            let h = served x a rest (pattern_of plan b a.gl) v b (listed v refl) r in
            let o : Behaviour State = service_meaning (context plan script) n v.service b rest in
            let left = (services_count plan script n v.service b rest).answers_left in
            let fewer : length (reached o).answers ≤ length rest = subst (λ l. length l ≤ length rest) (sym left) (drop_length (uses (pieces o)) rest) in
            let Q : X → State → Type 0 = λ y s. S y (event_left (event_of v.bit s)) × R (step y (event_left (event_of v.bit s))) s.answers in
            let E : State → Type 0 = λ s. length s.answers ≤ length rest in
            let x' : X = step x (demanded (pattern_of plan b a.gl) (Some v.number)) in (
              h.0,
              then_meets step S P (λ y s. Q y s × E s) AtRunEnd x' o (λ s. does (event_left (event_of v.bit s)) (rounds i (context plan script) n script.services s.branch s.answers))
                  (meets_where Q E x' o h.1 (where_reached E o fewer))
                  (λ y s q. (q.0.0, ih (step y (event_left (event_of v.bit s))) s.branch s.answers q.1 q.0.1)),
            )
