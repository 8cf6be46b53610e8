-- Registers along a body, and a script with one more declaration.
use Rattle.std.proofs.Common.{◌≡◌, ℕ, ◌≤◌, suc, max, Option, Some, arith, ◌+◌, ◌-◌, min, zero, List, [], ◌∷◌, ◌++◌, Bool, true, refl, ap, ◌∙◌, length, length-append, length-take, length-drop}
use Rattle.std.proofs.lemmas.Bool.{and_parts, and_from, eqb-true, eq-eqb, le-leb}
use Rattle.std.proofs.lemmas.List.{take-append-le, drop-append-le}
use Rattle.std.proofs.Math.Seq.{drop-append_seam, take-length}
use Rattle.std.specs.Prelude.{option_and_then, ◌&&◌, take, drop, slice_get, nat_eq, nat_le, IsTrue}
use Rattle.camac_lang.specs.Expressions.{Scope}
use Rattle.camac_lang.specs.Statements.{head_fits, begun, after, after_block}
use Rattle.camac_lang.specs.Tree.{Statement, set_register, choose, choose_else, for_, for_each, while_, locked, Block, done, next, Text, Table, Lam, Procedure, Service, Item, next_table, next_lam, next_variables, next_procedure, next_service, Script}
use Rattle.camac_lang.specs.Scope.{Before, are_declarable, table_stands, lam_stands, procedure_stands, service_stands, with_table, with_lam, with_variables, with_procedure, with_service, declared, all_declared, is_all, nothing_before, within_limits, is_well_formed}
use Rattle.camac_lang.specs.Tests.{has, unless_broken}
use Rattle.camac_lang.specs.declared.spot.Spot.{Spot}
use Rattle.camac_lang.proofs.Options.{unless_parts, then_parts, Implies, then_implies, then_is, unless_is}

-- Registers are only added along a body.

begun_grows : (c : Scope) (seen n : ℕ) (s : Statement) → begun c seen s ≡ Some n → seen ≤ n
begun_grows c seen n (set_register spot r k m a) h =
    let e = (unless_parts (head_fits c seen (set_register spot r k m a)) (max seen (suc r)) n h).1 in omega (arith, e)
begun_grows c seen n s h = let e = (unless_parts (head_fits c seen s) seen n h).1 in omega (arith, e)

inner_grows : (c : Scope) (seen n : ℕ) (s : Statement) (b : Block) → ((k : ℕ) → after_block c k b ≡ Some n → k ≤ n) → option_and_then (λ k. after_block c k b) (begun c seen s) ≡ Some n → seen ≤ n
inner_grows c seen n s b ih h =
    let p = then_parts (λ k. after_block c k b) (begun c seen s) n h in
    let f : seen ≤ p.0 = begun_grows c seen p.0 s p.1 in
    let g : p.0 ≤ n = ih p.0 p.2 in
    omega (arith, f, g)

mutual
  pub statement_grows : (c : Scope) (seen n : ℕ) (s : Statement) → after c seen s ≡ Some n → seen ≤ n
  statement_grows c seen n (choose spot t a) h = inner_grows c seen n (choose spot t a) a (λ k. block_grows c k n a) h
  statement_grows c seen n (choose_else spot t a b) h =
      let o : Option ℕ = option_and_then (λ k. after_block c k a) (begun c seen (choose_else spot t a b)) in
      let p = then_parts (λ k. after_block c k b) o n h in
      let f : seen ≤ p.0 = inner_grows c seen p.0 (choose_else spot t a b) a (λ k. block_grows c k p.0 a) p.1 in
      let g : p.0 ≤ n = block_grows c p.0 n b p.2 in
      omega (arith, f, g)
  statement_grows c seen n (for_ spot x e1 e2 ks body) h = inner_grows c seen n (for_ spot x e1 e2 ks body) body (λ k. block_grows c k n body) h
  statement_grows c seen n (for_each spot x v last body) h = inner_grows c seen n (for_each spot x v last body) body (λ k. block_grows c k n body) h
  statement_grows c seen n (while_ spot t turns x ks body) h = inner_grows c seen n (while_ spot t turns x ks body) body (λ k. block_grows c k n body) h
  statement_grows c seen n (locked spot e body) h = inner_grows c seen n (locked spot e body) body (λ k. block_grows c k n body) h
  statement_grows c seen n s h = begun_grows c seen n s h

  pub block_grows : (c : Scope) (seen n : ℕ) (b : Block) → after_block c seen b ≡ Some n → seen ≤ n
  block_grows c seen n done h = let e : seen ≡ n = cc in omega (arith, e)
  block_grows c seen n (next s rest) h =
      let p = then_parts (λ k. after_block c k rest) (after c seen s) n h in
      let f : seen ≤ p.0 = statement_grows c seen p.0 s p.1 in
      let g : p.0 ≤ n = block_grows c p.0 n rest p.2 in
      omega (arith, f, g)

-- A script with one more declaration at the end of its text.

-- all that one script has, another has too
record Extends (s t : Script) : Type 0 where
  tables : (i : ℕ) → Implies (slice_get s.tables i) (slice_get t.tables i)
  lams : (i : ℕ) → Implies (slice_get s.lams i) (slice_get t.lams i)
  variables : (k n : ℕ) → length (take n (drop k s.variables)) ≡ n → take n (drop k t.variables) ≡ take n (drop k s.variables)
  procedures : (i : ℕ) → Implies (slice_get s.procedures i) (slice_get t.procedures i)
  services : (i : ℕ) → Implies (slice_get s.services i) (slice_get t.services i)

in_prefix : {A : Type 0} (xs ys : List A) (i : ℕ) → Implies (slice_get xs i) (slice_get (xs ++ ys) i)
in_prefix [] ys i x e = absurd (cc)
in_prefix (y ∷ xs) ys zero x e = e
in_prefix (y ∷ xs) ys (suc i) x e = in_prefix xs ys i x e

part : (xs ys : List Text) (k n : ℕ) → length (take n (drop k xs)) ≡ n → take n (drop k (xs ++ ys)) ≡ take n (drop k xs)
part xs ys k zero e = refl
part xs ys k (suc n) e =
    let there : suc n ≤ length (drop k xs) = (let l : length (take (suc n) (drop k xs)) ≡ min (suc n) (length (drop k xs)) = length-take (suc n) (drop k xs) in omega (arith, l, e)) in
    let low : k ≤ length xs = (let l : length (drop k xs) ≡ length xs - k = length-drop k xs in omega (arith, l, there)) in
    ap (take (suc n)) (drop-append-le k xs ys low) ∙ take-append-le (suc n) (drop k xs) ys there

at_end : {A : Type 0} (xs : List A) (x : A) (n : ℕ) → n ≡ length xs → slice_get (xs ++ x ∷ []) n ≡ Some x
at_end [] x n e = rw e refl
at_end (y ∷ xs) x zero e = absurd (omega (arith, e))
at_end (y ∷ xs) x (suc n) e = at_end xs x n (omega (arith, e))

rest_taken : (xs ys : List Text) (k : ℕ) → k ≡ length xs → take (length ys) (drop k (xs ++ ys)) ≡ ys
rest_taken xs ys k e = ap (λ n. take (length ys) (drop n (xs ++ ys))) e ∙ (ap (take (length ys)) (drop-append_seam xs ys) ∙ take-length ys)

declared_extends : (s t : Script) → Extends s t → (b : Before) (i : Item) → Implies (declared s b i) (declared t b i)
declared_extends s t x b next_table k e =
    then_implies (λ r. unless_broken (table_stands b r) (with_table r.name b)) (λ r. unless_broken (table_stands b r) (with_table r.name b)) (slice_get s.tables b.tables) (slice_get t.tables b.tables) (x.tables b.tables) (λ r m h. h) k e
declared_extends s t x b next_lam k e =
    then_implies (λ r. unless_broken (lam_stands b r) (with_lam r.name b)) (λ r. unless_broken (lam_stands b r) (with_lam r.name b)) (slice_get s.lams b.lams) (slice_get t.lams b.lams) (x.lams b.lams) (λ r m h. h) k e
declared_extends s t x b (next_variables spot n) k e =
    let xs : List Text = take n (drop b.variables s.variables) in
    let ys : List Text = take n (drop b.variables t.variables) in
    let ok : List Text → Bool = λ zs. nat_le 1 n && (nat_eq (length zs) n && are_declarable zs b.names) in
    let p = unless_parts (ok xs) (with_variables xs b) k e in
    let q = and_parts (nat_le 1 n) (nat_eq (length xs) n && are_declarable xs b.names) p.0 in
    let r = and_parts (nat_eq (length xs) n) (are_declarable xs b.names) q.1 in
    let same : ys ≡ xs = x.variables b.variables n (eqb-true (length xs) n r.0) in
    ap (λ zs. unless_broken (ok zs) (with_variables zs b)) same ∙ e
declared_extends s t x b next_procedure k e =
    then_implies (λ r. unless_broken (procedure_stands b r) (with_procedure r b)) (λ r. unless_broken (procedure_stands b r) (with_procedure r b)) (slice_get s.procedures b.procedures) (slice_get t.procedures b.procedures) (x.procedures b.procedures) (λ r m h. h) k e
declared_extends s t x b next_service k e =
    then_implies (λ r. unless_broken (service_stands b r) (with_service b)) (λ r. unless_broken (service_stands b r) (with_service b)) (slice_get s.services b.services) (slice_get t.services b.services) (x.services b.services) (λ r m h. h) k e

all_extend : (s t : Script) → Extends s t → (items : List Item) (b : Before) → Implies (all_declared s b items) (all_declared t b items)
all_extend s t x [] b k e = e
all_extend s t x (i ∷ rest) b k e =
    then_implies (λ m. all_declared s m rest) (λ m. all_declared t m rest) (declared s b i) (declared t b i) (declared_extends s t x b i) (λ m. all_extend s t x rest m) k e

one_more : (s : Script) (items : List Item) (i : Item) (b e m : Before) → all_declared s b items ≡ Some e → declared s e i ≡ Some m → all_declared s b (items ++ i ∷ []) ≡ Some m
one_more s [] i b e m h g = let same : b ≡ e = cc in let there : declared s b i ≡ Some m = (ap (λ x. declared s x i) same ∙ g) in then_is (λ k. Some k) (declared s b i) m m there refl
one_more s (j ∷ rest) i b e m h g =
    let p = then_parts (λ k. all_declared s k rest) (declared s b j) e h in
    then_is (λ k. all_declared s k (rest ++ i ∷ [])) (declared s b j) p.0 m p.1 (one_more s rest i p.0 e m p.2 g)

-- what a script's text declares, and nothing else is in its lists
pub record Declares (s : Script) (e : Before) : Type 0 where
  pub order : all_declared s nothing_before s.order ≡ Some e
  pub tables : e.tables ≡ length s.tables
  pub lams : e.lams ≡ length s.lams
  pub variables : e.variables ≡ length s.variables
  pub procedures : e.procedures ≡ length s.procedures
  pub services : e.services ≡ length s.services

pub empty_script : Script
empty_script = record { order = []; tables = []; lams = []; variables = []; procedures = []; services = [] }

pub declares_nothing : Declares empty_script nothing_before
unfolding empty_script
declares_nothing = record { order = refl; tables = refl; lams = refl; variables = refl; procedures = refl; services = refl }

kept : {A : Type 0} (xs : List A) (i : ℕ) → Implies (slice_get xs i) (slice_get xs i)
kept xs i k e = e

grows : {A : Type 0} (xs : List A) (x : A) (n : ℕ) → n ≡ length xs → n + 1 ≡ length (xs ++ x ∷ [])
grows xs x n e = let l : length (xs ++ x ∷ []) ≡ length xs + 1 = length-append xs (x ∷ []) in omega (arith, l, e)

-- one more of each kind
pub one_table : (s : Script) (e : Before) (t : Table) → Declares s e → table_stands e t ≡ true → Declares (record s { order = s.order ++ next_table ∷ []; tables = s.tables ++ t ∷ [] }) (with_table t.name e)
one_table s e t d h =
    let more : Script = record s { order = s.order ++ next_table ∷ []; tables = s.tables ++ t ∷ [] } in
    let wide : Extends s more = record { tables = in_prefix s.tables (t ∷ []); lams = kept s.lams; variables = λ k n _. refl; procedures = kept s.procedures; services = kept s.services } in
    let at : declared more e next_table ≡ Some (with_table t.name e) =
    then_is (λ r. unless_broken (table_stands e r) (with_table r.name e)) (slice_get more.tables e.tables) t (with_table t.name e) (at_end s.tables t e.tables d.tables) (unless_is (table_stands e t) (with_table t.name e) h) in
    record {
      order = one_more more s.order next_table nothing_before e (with_table t.name e) (all_extend s more wide s.order nothing_before e d.order) at;
      tables = grows s.tables t e.tables d.tables;
      lams = d.lams;
      variables = d.variables;
      procedures = d.procedures;
      services = d.services;
    }

pub one_lam : (s : Script) (e : Before) (l : Lam) → Declares s e → lam_stands e l ≡ true → Declares (record s { order = s.order ++ next_lam ∷ []; lams = s.lams ++ l ∷ [] }) (with_lam l.name e)
one_lam s e l d h =
    let more : Script = record s { order = s.order ++ next_lam ∷ []; lams = s.lams ++ l ∷ [] } in
    let wide : Extends s more = record { tables = kept s.tables; lams = in_prefix s.lams (l ∷ []); variables = λ k n _. refl; procedures = kept s.procedures; services = kept s.services } in
    let at : declared more e next_lam ≡ Some (with_lam l.name e) =
    then_is (λ r. unless_broken (lam_stands e r) (with_lam r.name e)) (slice_get more.lams e.lams) l (with_lam l.name e) (at_end s.lams l e.lams d.lams) (unless_is (lam_stands e l) (with_lam l.name e) h) in
    record {
      order = one_more more s.order next_lam nothing_before e (with_lam l.name e) (all_extend s more wide s.order nothing_before e d.order) at;
      tables = d.tables;
      lams = grows s.lams l e.lams d.lams;
      variables = d.variables;
      procedures = d.procedures;
      services = d.services;
    }

pub one_procedure : (s : Script) (e : Before) (p : Procedure) → Declares s e → procedure_stands e p ≡ true → Declares (record s { order = s.order ++ next_procedure ∷ []; procedures = s.procedures ++ p ∷ [] }) (with_procedure p e)
one_procedure s e p d h =
    let more : Script = record s { order = s.order ++ next_procedure ∷ []; procedures = s.procedures ++ p ∷ [] } in
    let wide : Extends s more = record { tables = kept s.tables; lams = kept s.lams; variables = λ k n _. refl; procedures = in_prefix s.procedures (p ∷ []); services = kept s.services } in
    let at : declared more e next_procedure ≡ Some (with_procedure p e) =
    then_is (λ r. unless_broken (procedure_stands e r) (with_procedure r e)) (slice_get more.procedures e.procedures) p (with_procedure p e) (at_end s.procedures p e.procedures d.procedures) (unless_is (procedure_stands e p) (with_procedure p e) h) in
    record {
      order = one_more more s.order next_procedure nothing_before e (with_procedure p e) (all_extend s more wide s.order nothing_before e d.order) at;
      tables = d.tables;
      lams = d.lams;
      variables = d.variables;
      procedures = grows s.procedures p e.procedures d.procedures;
      services = d.services;
    }

pub one_service : (s : Script) (e : Before) (v : Service) → Declares s e → service_stands e v ≡ true → Declares (record s { order = s.order ++ next_service ∷ []; services = s.services ++ v ∷ [] }) (with_service e)
one_service s e v d h =
    let more : Script = record s { order = s.order ++ next_service ∷ []; services = s.services ++ v ∷ [] } in
    let wide : Extends s more = record { tables = kept s.tables; lams = kept s.lams; variables = λ k n _. refl; procedures = kept s.procedures; services = in_prefix s.services (v ∷ []) } in
    let at : declared more e next_service ≡ Some (with_service e) =
    then_is (λ r. unless_broken (service_stands e r) (with_service e)) (slice_get more.services e.services) v (with_service e) (at_end s.services v e.services d.services) (unless_is (service_stands e v) (with_service e) h) in
    record {
      order = one_more more s.order next_service nothing_before e (with_service e) (all_extend s more wide s.order nothing_before e d.order) at;
      tables = d.tables;
      lams = d.lams;
      variables = d.variables;
      procedures = d.procedures;
      services = grows s.services v e.services d.services;
    }

pub more_variables : (s : Script) (e : Before) (spot : Spot) (xs : List Text) → Declares s e → 1 ≤ length xs → are_declarable xs e.names ≡ true → Declares (record s { order = s.order ++ next_variables spot (length xs) ∷ []; variables = s.variables ++ xs }) (with_variables xs e)
more_variables s e spot xs d some h =
    let n : ℕ = length xs in
    let item : Item = next_variables spot n in
    let more : Script = record s { order = s.order ++ item ∷ []; variables = s.variables ++ xs } in
    let wide : Extends s more = record { tables = kept s.tables; lams = kept s.lams; variables = part s.variables xs; procedures = kept s.procedures; services = kept s.services } in
    let ok : List Text → Bool = λ zs. nat_le 1 n && (nat_eq (length zs) n && are_declarable zs e.names) in
    let ys : List Text = take n (drop e.variables more.variables) in
    let same : ys ≡ xs = rest_taken s.variables xs e.variables d.variables in
    let right : ok xs ≡ true = and_from (nat_le 1 n) (nat_eq n n && are_declarable xs e.names) (le-leb 1 n some) (and_from (nat_eq n n) (are_declarable xs e.names) (eq-eqb n n refl) h) in
    let at : declared more e item ≡ Some (with_variables xs e) = ap (λ zs. unless_broken (ok zs) (with_variables zs e)) same ∙ unless_is (ok xs) (with_variables xs e) right in
    record {
      order = one_more more s.order item nothing_before e (with_variables xs e) (all_extend s more wide s.order nothing_before e d.order) at;
      tables = d.tables;
      lams = d.lams;
      variables = (let l : length (s.variables ++ xs) ≡ length s.variables + n = length-append s.variables xs in let k = d.variables in omega (arith, l, k));
      procedures = d.procedures;
      services = d.services;
    }

-- a script whose text declares all of its lists, within the limits, is well formed
pub well_formed : (s : Script) (e : Before) → Declares s e → within_limits s ≡ true → IsTrue (is_well_formed s)
unfolding is_well_formed
well_formed s e d h =
    let v : Bool = nat_eq e.services (length s.services) in
    let p : Bool = nat_eq e.procedures (length s.procedures) in
    let x : Bool = nat_eq e.variables (length s.variables) in
    let l : Bool = nat_eq e.lams (length s.lams) in
    let all : is_all s e ≡ true =
    and_from (nat_eq e.tables (length s.tables)) (l && (x && (p && v))) (eq-eqb e.tables (length s.tables) d.tables)
    (and_from l (x && (p && v)) (eq-eqb e.lams (length s.lams) d.lams)
    (and_from x (p && v) (eq-eqb e.variables (length s.variables) d.variables)
    (and_from p v (eq-eqb e.procedures (length s.procedures) d.procedures) (eq-eqb e.services (length s.services) d.services)))) in
    and_from (within_limits s) (has (all_declared s nothing_before s.order) (is_all s)) h (ap (λ o. has o (is_all s)) d.order ∙ all)
