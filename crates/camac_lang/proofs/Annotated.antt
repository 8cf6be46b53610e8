-- A script stays well formed where numbers of its headings change.
use Rattle.std.proofs.Common.{◌≡◌, ◌⊎◌, ℕ, ◌+◌, ◌<◌, ◌≤◌, zero, suc, List, [], ◌∷◌, ◌++◌, map, length, get_or, set, take, drop, Option, Some, Bool, true, refl, ap, ◌∙◌, inl, inr, ⊎_elim, arith}
use Rattle.std.specs.Prelude.{◌&&◌, max, slice_get, nat_eq, nat_le, nat_lt}
use Rattle.std.proofs.lemmas.Bool.{and_parts, and_from}
use Rattle.camac_lang.specs.Headings.{annotate, annotate_service, changed_at}
use Rattle.camac_lang.specs.Scope.{Before, body_fits, are_declarable, parameter_names, procedure_scope, service_scope, procedure_stands, service_stands, with_procedure, with_service, declared, all_declared, is_all, nothing_before, within_limits, is_well_formed}
use Rattle.camac_lang.specs.Statements.{statements}
use Rattle.camac_lang.specs.Tests.{each, has, unless_broken, total, most, is_number}
use Rattle.camac_lang.specs.Tree.{Procedure, Service, Item, next_table, next_lam, next_variables, next_procedure, next_service, Script}
use Rattle.camac_lang.proofs.Options.{Implies, unless_parts, then_parts, then_is, unless_is}
use Rattle.camac_lang.proofs.Places.{has_parts}

-- ---- lists with one element changed

-- a list that a view sees, with an element that was written
pub changed_map : {X Y : Type 0} (view : X → Y) (f : Y → Y) (xs : List X) (i : ℕ) (y x : X) → i < length xs → x ≡ get_or xs i x → view y ≡ f (view x)
    → map view (set xs i y) ≡ changed_at i f (map view xs)
changed_map view f [] i y x lt is e = absurd (omega (arith, lt))
changed_map view f (z ∷ xs) zero y x lt is e = ap (λ w. w ∷ map view xs) (e ∙ ap (λ w. f (view w)) is)
changed_map view f (z ∷ xs) (suc i) y x lt is e =
    let less : i < length xs = omega (arith, lt) in
    ap (λ ws. view z ∷ ws) (changed_map view f xs i y x less is e)

pub changed_length : {A : Type 0} (i : ℕ) (f : A → A) (xs : List A) → length (changed_at i f xs) ≡ length xs
changed_length i f [] = refl
changed_length zero f (x ∷ xs) = refl
changed_length (suc i) f (x ∷ xs) = ap suc (changed_length i f xs)

changed_total : {A : Type 0} (g : A → ℕ) (i : ℕ) (f : A → A) → ((x : A) → g (f x) ≡ g x) → (xs : List A) → total g (changed_at i f xs) ≡ total g xs
changed_total g i f same [] = refl
changed_total g zero f same (x ∷ xs) = ap (λ n. n + total g xs) (same x)
changed_total g (suc i) f same (x ∷ xs) = ap (λ n. g x + n) (changed_total g i f same xs)

changed_most : {A : Type 0} (g : A → ℕ) (i : ℕ) (f : A → A) → ((x : A) → g (f x) ≡ g x) → (xs : List A) → most g (changed_at i f xs) ≡ most g xs
changed_most g i f same [] = refl
changed_most g zero f same (x ∷ xs) = ap (λ n. max n (most g xs)) (same x)
changed_most g (suc i) f same (x ∷ xs) = ap (λ n. max (g x) n) (changed_most g i f same xs)

-- an element stays or is changed
changed_get : {A : Type 0} (i : ℕ) (f : A → A) (xs : List A) (n : ℕ) (x : A) → slice_get xs n ≡ Some x
    → (slice_get (changed_at i f xs) n ≡ Some x) ⊎ (slice_get (changed_at i f xs) n ≡ Some (f x))
changed_get i f [] n x e = absurd (cc)
changed_get zero f (y ∷ xs) zero x e = let same : y ≡ x = cc in inr (ap (λ z. Some (f z)) same)
changed_get zero f (y ∷ xs) (suc n) x e = inl e
changed_get (suc i) f (y ∷ xs) zero x e = inl e
changed_get (suc i) f (y ∷ xs) (suc n) x e = changed_get i f xs n x e

-- the first so many changed
abbrev pub changed_to : {A : Type 0} → ℕ → (A → A) → List A → List A
changed_to n f xs = map f (take n xs) ++ drop n xs

pub changed_to_length : {A : Type 0} (n : ℕ) (f : A → A) (xs : List A) → length (changed_to n f xs) ≡ length xs
changed_to_length zero f xs = refl
changed_to_length (suc n) f [] = refl
changed_to_length (suc n) f (x ∷ xs) = ap suc (changed_to_length n f xs)

pub changed_to_next : {A : Type 0} (n : ℕ) (f : A → A) (xs : List A) → changed_at n f (changed_to n f xs) ≡ changed_to (suc n) f xs
changed_to_next zero f [] = refl
changed_to_next zero f (x ∷ xs) = refl
changed_to_next (suc n) f [] = refl
changed_to_next (suc n) f (x ∷ xs) = ap (λ ys. f x ∷ ys) (changed_to_next n f xs)

pub changed_to_all : {A : Type 0} (n : ℕ) (f : A → A) (xs : List A) → length xs ≤ n → changed_to n f xs ≡ map f xs
changed_to_all zero f [] le = refl
changed_to_all zero f (x ∷ xs) le = absurd (omega (arith, le))
changed_to_all (suc n) f [] le = refl
changed_to_all (suc n) f (x ∷ xs) le = let less : length xs ≤ n = omega (arith, le) in ap (λ ys. f x ∷ ys) (changed_to_all n f xs less)

-- ---- well-formed scripts

procedure_still : (b : Before) (p : Procedure) (c w k : ℕ) → is_number c ≡ true → is_number w ≡ true → is_number k ≡ true
    → procedure_stands b p ≡ true → procedure_stands b (annotate c w k p) ≡ true
procedure_still b p c w k hc hw hk h =
    let t6 : Bool = body_fits (procedure_scope b p) p.registers p.body in
    let t5 : Bool = are_declarable (p.name ∷ (parameter_names p ++ p.registers)) b.names && t6 in
    let t4 : Bool = is_number p.steps && t5 in
    let t3 : Bool = is_number p.words && t4 in
    let t2 : Bool = is_number p.cycles && t3 in
    let t1 : Bool = each (λ q. is_number q.low && is_number q.high) p.parameters in
    let a = and_parts (nat_le (length p.parameters) 8) (t1 && t2) h in
    let d = and_parts t1 t2 a.1 in
    let e = and_parts (is_number p.cycles) t3 d.1 in
    let f = and_parts (is_number p.words) t4 e.1 in
    let g = and_parts (is_number p.steps) t5 f.1 in
    and_from (nat_le (length p.parameters) 8) (t1 && (is_number c && (is_number w && (is_number k && t5)))) a.0
    (and_from t1 (is_number c && (is_number w && (is_number k && t5))) d.0
    (and_from (is_number c) (is_number w && (is_number k && t5)) hc (and_from (is_number w) (is_number k && t5) hw (and_from (is_number k) t5 hk g.1))))

service_still : (b : Before) (v : Service) (c w : ℕ) → is_number c ≡ true → is_number w ≡ true
    → service_stands b v ≡ true → service_stands b (annotate_service c w v) ≡ true
service_still b v c w hc hw h =
    let t4 : Bool = body_fits (service_scope b) v.registers v.body in
    let t3 : Bool = are_declarable v.registers b.names && t4 in
    let t2 : Bool = is_number v.words && t3 in
    let a = and_parts (nat_lt v.lam b.lams) (is_number v.cycles && t2) h in
    let d = and_parts (is_number v.cycles) t2 a.1 in
    let e = and_parts (is_number v.words) t3 d.1 in
    and_from (nat_lt v.lam b.lams) (is_number c && (is_number w && t3)) a.0
    (and_from (is_number c) (is_number w && t3) hc (and_from (is_number w) t3 hw e.1))

-- one more declaration of the script with a heading changed
one_procedure : (s : Script) (i c w k : ℕ) → is_number c ≡ true → is_number w ≡ true → is_number k ≡ true → (b : Before) (item : Item)
    → Implies (declared s b item) (declared (record s { procedures = changed_at i (annotate c w k) s.procedures }) b item)
one_procedure s i c w k hc hw hk b next_table m e = e
one_procedure s i c w k hc hw hk b next_lam m e = e
one_procedure s i c w k hc hw hk b (next_variables spot n) m e = e
one_procedure s i c w k hc hw hk b next_service m e = e
one_procedure s i c w k hc hw hk b next_procedure m e =
    let rule : Procedure → Option Before = λ p. unless_broken (procedure_stands b p) (with_procedure p b) in
    let ps : List Procedure = changed_at i (annotate c w k) s.procedures in
    let p = then_parts rule (slice_get s.procedures b.procedures) m e in
    let stands = unless_parts (procedure_stands b p.0) (with_procedure p.0 b) m p.2 in
    ⊎_elim (λ same. then_is rule (slice_get ps b.procedures) p.0 m same p.2)
    (λ changed.
    then_is rule (slice_get ps b.procedures) (annotate c w k p.0) m changed
    (unless_is (procedure_stands b (annotate c w k p.0)) (with_procedure p.0 b) (procedure_still b p.0 c w k hc hw hk stands.0) ∙ ap (λ x. Some x) stands.1))
    (changed_get i (annotate c w k) s.procedures b.procedures p.0 p.1)

one_service : (s : Script) (i c w : ℕ) → is_number c ≡ true → is_number w ≡ true → (b : Before) (item : Item)
    → Implies (declared s b item) (declared (record s { services = changed_at i (annotate_service c w) s.services }) b item)
one_service s i c w hc hw b next_table m e = e
one_service s i c w hc hw b next_lam m e = e
one_service s i c w hc hw b (next_variables spot n) m e = e
one_service s i c w hc hw b next_procedure m e = e
one_service s i c w hc hw b next_service m e =
    let rule : Service → Option Before = λ v. unless_broken (service_stands b v) (with_service b) in
    let vs : List Service = changed_at i (annotate_service c w) s.services in
    let p = then_parts rule (slice_get s.services b.services) m e in
    let stands = unless_parts (service_stands b p.0) (with_service b) m p.2 in
    ⊎_elim (λ same. then_is rule (slice_get vs b.services) p.0 m same p.2)
    (λ changed.
    then_is rule (slice_get vs b.services) (annotate_service c w p.0) m changed
    (unless_is (service_stands b (annotate_service c w p.0)) (with_service b) (service_still b p.0 c w hc hw stands.0) ∙ ap (λ x. Some x) stands.1))
    (changed_get i (annotate_service c w) s.services b.services p.0 p.1)

-- what one script declares, another declares too, if it does so one declaration at a time
all_still : (s t : Script) → ((b : Before) (item : Item) → Implies (declared s b item) (declared t b item)) → (items : List Item) (b : Before) → Implies (all_declared s b items) (all_declared t b items)
all_still s t one [] b m e = e
all_still s t one (item ∷ rest) b m e =
    let p = then_parts (λ k. all_declared s k rest) (declared s b item) m e in
    then_is (λ k. all_declared t k rest) (declared t b item) p.0 m (one b item p.0 p.1) (all_still s t one rest p.0 m p.2)

-- with the same order, the same limits and as many of each kind
still_formed : (s t : Script) → t.order ≡ s.order → within_limits t ≡ within_limits s → ((b : Before) → is_all t b ≡ is_all s b)
    → ((b : Before) (item : Item) → Implies (declared s b item) (declared t b item)) → is_well_formed s ≡ true → is_well_formed t ≡ true
unfolding is_well_formed
still_formed s t order limits all one h =
    let p = and_parts (within_limits s) (has (all_declared s nothing_before s.order) (is_all s)) h in
    let e = has_parts (all_declared s nothing_before s.order) (is_all s) p.1 in
    let there : all_declared t nothing_before t.order ≡ Some e.0 =
    ap (all_declared t nothing_before) order ∙ all_still s t one s.order nothing_before e.0 e.1 in
    and_from (within_limits t) (has (all_declared t nothing_before t.order) (is_all t)) (limits ∙ p.0)
    (ap (λ o. has o (is_all t)) there ∙ all e.0 ∙ e.2)

pub procedure_formed : (s : Script) (i c w k : ℕ) → is_number c ≡ true → is_number w ≡ true → is_number k ≡ true
    → is_well_formed s ≡ true → is_well_formed (record s { procedures = changed_at i (annotate c w k) s.procedures }) ≡ true
procedure_formed s i c w k hc hw hk h =
    let f : Procedure → Procedure = annotate c w k in
    let ps : List Procedure = changed_at i f s.procedures in
    let parameters : total (λ p. length p.parameters) ps ≡ total (λ p. length p.parameters) s.procedures = changed_total (λ p. length p.parameters) i f (λ p. refl) s.procedures in
    let registers : total (λ p. length p.registers) ps ≡ total (λ p. length p.registers) s.procedures = changed_total (λ p. length p.registers) i f (λ p. refl) s.procedures in
    let bodies : total (λ p. statements p.body) ps ≡ total (λ p. statements p.body) s.procedures = changed_total (λ p. statements p.body) i f (λ p. refl) s.procedures in
    let count : length ps ≡ length s.procedures = changed_length i f s.procedures in
    still_formed s (record s { procedures = ps }) refl
    (limits_same (length s.variables) (most (λ v. length v.registers) s.services) (total (λ v. statements v.body) s.services) _ _ _ _ _ _ _ _ parameters registers bodies count)
    (λ b. ap (λ n. nat_eq b.tables (length s.tables) && (nat_eq b.lams (length s.lams) && (nat_eq b.variables (length s.variables) && (nat_eq b.procedures n && nat_eq b.services (length s.services))))) count)
    (one_procedure s i c w k hc hw hk) h
  where
    limits_same : (x y z p r b n p' r' b' n' : ℕ) → p ≡ p' → r ≡ r' → b ≡ b' → n ≡ n'
        → (nat_le (x + p) 64 && (nat_le (r + y) 64 && (nat_le (length s.lams) 64 && (nat_le (length s.tables) 16 && (nat_le (length s.services) 24 && (nat_le n 16 && nat_le (b + z) 4096))))))
        ≡ (nat_le (x + p') 64 && (nat_le (r' + y) 64 && (nat_le (length s.lams) 64 && (nat_le (length s.tables) 16 && (nat_le (length s.services) 24 && (nat_le n' 16 && nat_le (b' + z) 4096))))))
    limits_same x y z p r b n p' r' b' n' ep er eb en = cc

pub service_formed : (s : Script) (i c w : ℕ) → is_number c ≡ true → is_number w ≡ true
    → is_well_formed s ≡ true → is_well_formed (record s { services = changed_at i (annotate_service c w) s.services }) ≡ true
service_formed s i c w hc hw h =
    let f : Service → Service = annotate_service c w in
    let vs : List Service = changed_at i f s.services in
    let registers : most (λ v. length v.registers) vs ≡ most (λ v. length v.registers) s.services = changed_most (λ v. length v.registers) i f (λ v. refl) s.services in
    let bodies : total (λ v. statements v.body) vs ≡ total (λ v. statements v.body) s.services = changed_total (λ v. statements v.body) i f (λ v. refl) s.services in
    let count : length vs ≡ length s.services = changed_length i f s.services in
    still_formed s (record s { services = vs }) refl
    (limits_same (length s.variables + total (λ p. length p.parameters) s.procedures) (total (λ p. length p.registers) s.procedures) (total (λ p. statements p.body) s.procedures) _ _ _ _ _ _ registers bodies count)
    (λ b. ap (λ n. nat_eq b.tables (length s.tables) && (nat_eq b.lams (length s.lams) && (nat_eq b.variables (length s.variables) && (nat_eq b.procedures (length s.procedures) && nat_eq b.services n)))) count)
    (one_service s i c w hc hw) h
  where
    limits_same : (x y z r b n r' b' n' : ℕ) → r ≡ r' → b ≡ b' → n ≡ n'
        → (nat_le x 64 && (nat_le (y + r) 64 && (nat_le (length s.lams) 64 && (nat_le (length s.tables) 16 && (nat_le n 24 && (nat_le (length s.procedures) 16 && nat_le (z + b) 4096))))))
        ≡ (nat_le x 64 && (nat_le (y + r') 64 && (nat_le (length s.lams) 64 && (nat_le (length s.tables) 16 && (nat_le n' 24 && (nat_le (length s.procedures) 16 && nat_le (z + b') 4096))))))
    limits_same x y z r b n r' b' n' er eb en = cc
