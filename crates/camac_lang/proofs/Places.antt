-- What stands before each place of a well-formed script, and what holds there.
use Rattle.std.proofs.Common.{◌≡◌, ℕ, ◌+◌, ◌<◌, ◌≤◌, zero, suc, List, [], ◌∷◌, ◌++◌, Option, Some, None, Bool, true, refl, sym, ap, ◌∙◌, subst, inl, inr, ⊎_elim, arith, length}
use Rattle.std.specs.Prelude.{◌&&◌, ◌⊎◌, take, drop, slice_get, nat_eq, nat_le}
use Rattle.std.proofs.lemmas.Bool.{cases_eq}
use Rattle.camac_lang.specs.Expressions.{Callable}
use Rattle.camac_lang.specs.Depth.{callable, callables_after}
use Rattle.camac_lang.specs.Scope.{Before, are_declarable, table_stands, lam_stands, procedure_stands, service_stands, with_table, with_lam, with_variables, with_procedure, with_service, declared, all_declared}
use Rattle.camac_lang.specs.Tests.{has, unless_broken, total, most}
use Rattle.camac_lang.specs.Tree.{Text, Table, Lam, Procedure, Service, Item, next_table, next_lam, next_variables, next_procedure, next_service, Script}
use Rattle.camac_lang.proofs.Options.{unless_parts, then_parts}
use Rattle.camac_lang.specs.declared.spot.Spot.{Spot}

-- ---- lists by number

pub number_below : {A : Type 0} (xs : List A) (i : ℕ) (x : A) → slice_get xs i ≡ Some x → i < length xs
number_below [] i x e = absurd (cc)
number_below (y ∷ xs) zero x e = omega arith
number_below (y ∷ xs) (suc i) x e = let h : i < length xs = number_below xs i x e in omega (arith, h)

pub most_at : {A : Type 0} (f : A → ℕ) (xs : List A) (i : ℕ) (x : A) → slice_get xs i ≡ Some x → f x ≤ most f xs
most_at f [] i x e = absurd (cc)
most_at f (y ∷ xs) zero x e = let same : y ≡ x = cc in let g : f y ≡ f x = ap f same in omega (arith, g)
most_at f (y ∷ xs) (suc i) x e = let h : f x ≤ most f xs = most_at f xs i x e in omega (arith, h)

pub total_at : {A : Type 0} (f : A → ℕ) (xs : List A) (i : ℕ) (x : A) → slice_get xs i ≡ Some x → f x ≤ total f xs
total_at f [] i x e = absurd (cc)
total_at f (y ∷ xs) zero x e = let same : y ≡ x = cc in let g : f y ≡ f x = ap f same in omega (arith, g)
total_at f (y ∷ xs) (suc i) x e = let h : f x ≤ total f xs = total_at f xs i x e in omega (arith, h)

in_prefix : {A : Type 0} (xs ys : List A) (i : ℕ) (x : A) → slice_get xs i ≡ Some x → slice_get (xs ++ ys) i ≡ Some x
in_prefix [] ys i x e = absurd (cc)
in_prefix (y ∷ xs) ys zero x e = e
in_prefix (y ∷ xs) ys (suc i) x e = in_prefix xs ys i x e

take_one : {A : Type 0} (xs : List A) (i : ℕ) (x : A) → slice_get xs i ≡ Some x → take (suc i) xs ≡ take i xs ++ x ∷ []
take_one [] i x e = absurd (cc)
take_one (y ∷ xs) zero x e = let same : y ≡ x = cc in ap (λ z. z ∷ []) same
take_one (y ∷ xs) (suc i) x e = ap (λ zs. y ∷ zs) (take_one xs i x e)

pub has_parts : {A : Type 0} (o : Option A) (test : A → Bool) → has o test ≡ true → (a : A) × (o ≡ Some a) × (test a ≡ true)
has_parts None test e = absurd (cc)
has_parts (Some a) test e = (a, refl, e)

-- ---- from one place to a later one

pub record Between (b e : Before) : Type 0 where
  pub tables : b.tables ≤ e.tables
  pub lams : b.lams ≤ e.lams
  pub variables : b.variables ≤ e.variables
  pub callables : (p : ℕ) (q : Callable) → slice_get b.callables p ≡ Some q → slice_get e.callables p ≡ Some q

at_once : (b : Before) → Between b b
at_once b = record { tables = omega arith; lams = omega arith; variables = omega arith; callables = λ p q h. h }

further : (b m e : Before) → Between b m → Between m e → Between b e
further b m e h g = record {
  tables = let x = h.tables in let y = g.tables in omega (arith, x, y);
  lams = let x = h.lams in let y = g.lams in omega (arith, x, y);
  variables = let x = h.variables in let y = g.variables in omega (arith, x, y);
  callables = λ p q k. g.callables p q (h.callables p q k);
}

module _ (s : Script) where
  -- what can be called are the procedures so far
  abbrev pub Filled : Before → Type 0
  Filled b = b.callables ≡ callables_after [] (take b.procedures s.procedures)

  table_parts : (b m : Before) → declared s b next_table ≡ Some m → (t : Table) × (with_table t.name b ≡ m)
  table_parts b m h =
      let p = then_parts (λ t. unless_broken (table_stands b t) (with_table t.name b)) (slice_get s.tables b.tables) m h in
      (p.0, (unless_parts (table_stands b p.0) (with_table p.0.name b) m p.2).1)

  lam_parts : (b m : Before) → declared s b next_lam ≡ Some m → (l : Lam) × (with_lam l.name b ≡ m)
  lam_parts b m h =
      let p = then_parts (λ l. unless_broken (lam_stands b l) (with_lam l.name b)) (slice_get s.lams b.lams) m h in
      (p.0, (unless_parts (lam_stands b p.0) (with_lam p.0.name b) m p.2).1)

  variables_parts : (b m : Before) (spot : Spot) (n : ℕ) → declared s b (next_variables spot n) ≡ Some m → (xs : List Text) × (with_variables xs b ≡ m)
  variables_parts b m spot n h =
      let xs : List Text = take n (drop b.variables s.variables) in
      (xs, (unless_parts (nat_le 1 n && (nat_eq (length xs) n && are_declarable xs b.names)) (with_variables xs b) m h).1)

  procedure_parts : (b m : Before) → declared s b next_procedure ≡ Some m → (p : Procedure) × (slice_get s.procedures b.procedures ≡ Some p) × (procedure_stands b p ≡ true) × (with_procedure p b ≡ m)
  procedure_parts b m h =
      let p = then_parts (λ p. unless_broken (procedure_stands b p) (with_procedure p b)) (slice_get s.procedures b.procedures) m h in
      let q = unless_parts (procedure_stands b p.0) (with_procedure p.0 b) m p.2 in
      (p.0, p.1, q.0, q.1)

  service_parts : (b m : Before) → declared s b next_service ≡ Some m → (v : Service) × (slice_get s.services b.services ≡ Some v) × (service_stands b v ≡ true) × (with_service b ≡ m)
  service_parts b m h =
      let p = then_parts (λ v. unless_broken (service_stands b v) (with_service b)) (slice_get s.services b.services) m h in
      let q = unless_parts (service_stands b p.0) (with_service b) m p.2 in
      (p.0, p.1, q.0, q.1)

  declared_between : (b m : Before) (i : Item) → declared s b i ≡ Some m → Between b m
  declared_between b m next_table h =
      let p = table_parts b m h in
      let one : Between b (with_table p.0.name b) = record { tables = omega arith; lams = omega arith; variables = omega arith; callables = λ i q k. k } in
      subst (Between b) p.1 one
  declared_between b m next_lam h =
      let p = lam_parts b m h in
      let one : Between b (with_lam p.0.name b) = record { tables = omega arith; lams = omega arith; variables = omega arith; callables = λ i q k. k } in
      subst (Between b) p.1 one
  declared_between b m (next_variables spot n) h =
      let p = variables_parts b m spot n h in
      let one : Between b (with_variables p.0 b) = record { tables = omega arith; lams = omega arith; variables = omega arith; callables = λ i q k. k } in
      subst (Between b) p.1 one
  declared_between b m next_procedure h =
      let p = procedure_parts b m h in
      let one : Between b (with_procedure p.0 b) = record { tables = omega arith; lams = omega arith; variables = omega arith; callables = in_prefix b.callables (callable b.callables p.0 ∷ []) } in
      subst (Between b) p.3 one
  declared_between b m next_service h =
      let p = service_parts b m h in
      let one : Between b (with_service b) = record { tables = omega arith; lams = omega arith; variables = omega arith; callables = λ i q k. k } in
      subst (Between b) p.3 one

  callables_push : (qs : List Callable) (ps : List Procedure) (p : Procedure) → callables_after qs (ps ++ p ∷ []) ≡ callables_after qs ps ++ callable (callables_after qs ps) p ∷ []
  callables_push qs [] p = refl
  callables_push qs (q ∷ ps) p = callables_push (qs ++ callable qs q ∷ []) ps p

  declared_filled : (b m : Before) (i : Item) → declared s b i ≡ Some m → Filled b → Filled m
  declared_filled b m next_table h f = let p = table_parts b m h in subst Filled p.1 f
  declared_filled b m next_lam h f = let p = lam_parts b m h in subst Filled p.1 f
  declared_filled b m (next_variables spot n) h f = let p = variables_parts b m spot n h in subst Filled p.1 f
  declared_filled b m next_procedure h f =
      let p = procedure_parts b m h in
      let before : List Procedure = take b.procedures s.procedures in
      let more : take (b.procedures + 1) s.procedures ≡ before ++ p.0 ∷ [] = (let one : b.procedures + 1 ≡ suc b.procedures = omega arith in ap (λ n. take n s.procedures) one ∙ take_one s.procedures b.procedures p.0 p.1) in
      let goes : b.callables ++ callable b.callables p.0 ∷ [] ≡ callables_after [] before ++ callable (callables_after [] before) p.0 ∷ [] = ap (λ qs. qs ++ callable qs p.0 ∷ []) f in
      let filled : Filled (with_procedure p.0 b) = goes ∙ (sym (callables_push [] before p.0) ∙ ap (callables_after []) (sym more)) in
      subst Filled p.3 filled
  declared_filled b m next_service h f = let p = service_parts b m h in subst Filled p.3 f

  pub all_between : (items : List Item) (b e : Before) → all_declared s b items ≡ Some e → Between b e
  all_between [] b e h = let same : b ≡ e = cc in subst (Between b) same (at_once b)
  all_between (i ∷ rest) b e h =
      let p = then_parts (λ m. all_declared s m rest) (declared s b i) e h in
      further b p.0 e (declared_between b p.0 i p.1) (all_between rest p.0 e p.2)

  pub all_filled : (items : List Item) (b e : Before) → all_declared s b items ≡ Some e → Filled b → Filled e
  all_filled [] b e h f = let same : b ≡ e = cc in subst Filled same f
  all_filled (i ∷ rest) b e h f =
      let p = then_parts (λ m. all_declared s m rest) (declared s b i) e h in
      all_filled rest p.0 e p.2 (declared_filled b p.0 i p.1 f)

  -- a place where the k-th of a kind is declared, before the end
  module _ (number : Before → ℕ) (Holds : ℕ → Before → Type 0) (step : (b m : Before) (i : Item) → declared s b i ≡ Some m → (k : ℕ) → number b ≤ k → (number m ≤ k) ⊎ Holds k b) where
    place : (items : List Item) (b e : Before) → Filled b → all_declared s b items ≡ Some e → (k : ℕ) → number b ≤ k → k < number e → (m : Before) × Holds k m × Between m e × Filled m
    place [] b e f h k low high = let same : b ≡ e = cc in let g : number b ≡ number e = ap number same in absurd (omega (arith, g))
    place (i ∷ rest) b e f h k low high =
        let p = then_parts (λ m. all_declared s m rest) (declared s b i) e h in
        ⊎_elim (λ g. place rest p.0 e (declared_filled b p.0 i p.1 f) p.2 k g high) (λ g. (b, g, further b p.0 e (declared_between b p.0 i p.1) (all_between rest p.0 e p.2), f)) (step b p.0 i p.1 k low)

  -- a number that the declaration leaves as it is
  left : (k n m : ℕ) → m ≡ n → n ≤ k → m ≤ k
  left k n m e h = omega (arith, e, h)

  service_step : (b m : Before) (i : Item) → declared s b i ≡ Some m → (k : ℕ) → b.services ≤ k → (m.services ≤ k) ⊎ ((v : Service) → slice_get s.services k ≡ Some v → service_stands b v ≡ true)
  service_step b m next_table h k low = let p = table_parts b m h in inl (left k b.services m.services (ap (λ (x : Before). x.services) (sym p.1)) low)
  service_step b m next_lam h k low = let p = lam_parts b m h in inl (left k b.services m.services (ap (λ (x : Before). x.services) (sym p.1)) low)
  service_step b m (next_variables spot n) h k low = let p = variables_parts b m spot n h in inl (left k b.services m.services (ap (λ (x : Before). x.services) (sym p.1)) low)
  service_step b m next_procedure h k low = let p = procedure_parts b m h in inl (left k b.services m.services (ap (λ (x : Before). x.services) (sym p.3)) low)
  service_step b m next_service h k low =
      let p = service_parts b m h in
      ⊎_elim (λ same. inr (λ v e. let eq : p.0 ≡ v = (let there : Some p.0 ≡ Some v = sym p.1 ∙ (ap (slice_get s.services) same ∙ e) in cc) in subst (λ (x : Service). service_stands b x ≡ true) eq p.2)) (λ other. inl (let up : b.services + 1 ≡ m.services = ap (λ (x : Before). x.services) p.3 in omega (arith, up, other))) (cases_eq b.services k)

  procedure_step : (b m : Before) (i : Item) → declared s b i ≡ Some m → (k : ℕ) → b.procedures ≤ k → (m.procedures ≤ k) ⊎ ((b.procedures ≡ k) × ((p : Procedure) → slice_get s.procedures k ≡ Some p → procedure_stands b p ≡ true))
  procedure_step b m next_table h k low = let p = table_parts b m h in inl (left k b.procedures m.procedures (ap (λ (x : Before). x.procedures) (sym p.1)) low)
  procedure_step b m next_lam h k low = let p = lam_parts b m h in inl (left k b.procedures m.procedures (ap (λ (x : Before). x.procedures) (sym p.1)) low)
  procedure_step b m (next_variables spot n) h k low = let p = variables_parts b m spot n h in inl (left k b.procedures m.procedures (ap (λ (x : Before). x.procedures) (sym p.1)) low)
  procedure_step b m next_service h k low = let p = service_parts b m h in inl (left k b.procedures m.procedures (ap (λ (x : Before). x.procedures) (sym p.3)) low)
  procedure_step b m next_procedure h k low =
      let p = procedure_parts b m h in
      ⊎_elim (λ same. inr (same, λ v e. let eq : p.0 ≡ v = (let there : Some p.0 ≡ Some v = sym p.1 ∙ (ap (slice_get s.procedures) same ∙ e) in cc) in subst (λ (x : Procedure). procedure_stands b x ≡ true) eq p.2)) (λ other. inl (let up : b.procedures + 1 ≡ m.procedures = ap (λ (x : Before). x.procedures) p.3 in omega (arith, up, other))) (cases_eq b.procedures k)

  pub service_place : (items : List Item) (b e : Before) → Filled b → all_declared s b items ≡ Some e → (k : ℕ) → b.services ≤ k → k < e.services → (m : Before) × ((v : Service) → slice_get s.services k ≡ Some v → service_stands m v ≡ true) × Between m e × Filled m
  service_place = place (λ b. b.services) (λ k b. (v : Service) → slice_get s.services k ≡ Some v → service_stands b v ≡ true) service_step

  pub procedure_place : (items : List Item) (b e : Before) → Filled b → all_declared s b items ≡ Some e → (k : ℕ) → b.procedures ≤ k → k < e.procedures → (m : Before) × ((m.procedures ≡ k) × ((p : Procedure) → slice_get s.procedures k ≡ Some p → procedure_stands m p ≡ true)) × Between m e × Filled m
  procedure_place = place (λ b. b.procedures) (λ k b. (b.procedures ≡ k) × ((p : Procedure) → slice_get s.procedures k ≡ Some p → procedure_stands b p ≡ true)) procedure_step
