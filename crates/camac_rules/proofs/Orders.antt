-- The text of a well-formed script names each of its procedures and services once.
use Rattle.std.proofs.Common.{◌≡◌, ◌+◌, List, [], ◌∷◌, Option, Some, None, Bool, true, false, length, arith}
use Rattle.std.specs.Prelude.{◌&&◌, IfSome, IsTrue, nat_eq, nat_le, option_and_then, slice_get, take, drop}
use Rattle.std.proofs.lemmas.Bool.{and_parts, eqb-true}
use Rattle.camac_lang.specs.Tree.{Text, Item, next_table, next_lam, next_variables, next_procedure, next_service, Script}
use Rattle.camac_lang.specs.Tests.{has, unless_broken}
use Rattle.camac_lang.specs.Scope.{Before, table_stands, lam_stands, procedure_stands, service_stands, are_declarable, with_table, with_lam, with_variables, with_procedure, with_service, declared, all_declared, is_all, nothing_before, within_limits, is_well_formed}
use Rattle.camac_lang.proofs.Places.{has_parts}
use Rattle.camac_rules.proofs.Services.{procedures_in, services_in}

unless_all : (P : Before → Type 0) (test : Bool) (b : Before) → P b → IfSome (unless_broken test b) P
unless_all P true b h = h
unless_all P false b h = tt

then_all : {A : Type 0} (P : Before → Type 0) (o : Option A) (go : A → Option Before) → ((x : A) → IfSome (go x) P) → IfSome (option_and_then go o) P
then_all P None go h = tt
then_all P (Some x) go h = h x

-- these items declare so many procedures and services
abbrev Counts : Before → List Item → Before → Type 0
Counts b items k = (k.procedures ≡ b.procedures + procedures_in items) × (k.services ≡ b.services + services_in items)

declared_counts : (s : Script) (b : Before) (i : Item) → IfSome (declared s b i) (Counts b (i ∷ []))
declared_counts s b next_table =
    let P : Before → Type 0 = Counts b (next_table ∷ []) in
    then_all P (slice_get s.tables b.tables) (λ t. unless_broken (table_stands b t) (with_table t.name b)) (λ t. unless_all P (table_stands b t) (with_table t.name b) (omega arith, omega arith))
declared_counts s b next_lam =
    let P : Before → Type 0 = Counts b (next_lam ∷ []) in
    then_all P (slice_get s.lams b.lams) (λ l. unless_broken (lam_stands b l) (with_lam l.name b)) (λ l. unless_all P (lam_stands b l) (with_lam l.name b) (omega arith, omega arith))
declared_counts s b (next_variables spot n) =
    let xs : List Text = take n (drop b.variables s.variables) in
    unless_all (Counts b (next_variables spot n ∷ [])) (nat_le 1 n && (nat_eq (length xs) n && are_declarable xs b.names)) (with_variables xs b) (omega arith, omega arith)
declared_counts s b next_procedure =
    let P : Before → Type 0 = Counts b (next_procedure ∷ []) in
    then_all P (slice_get s.procedures b.procedures) (λ p. unless_broken (procedure_stands b p) (with_procedure p b)) (λ p. unless_all P (procedure_stands b p) (with_procedure p b) (omega arith, omega arith))
declared_counts s b next_service =
    let P : Before → Type 0 = Counts b (next_service ∷ []) in
    then_all P (slice_get s.services b.services) (λ v. unless_broken (service_stands b v) (with_service b)) (λ v. unless_all P (service_stands b v) (with_service b) (omega arith, omega arith))

counts_step : (b k e : Before) (i : Item) (rest : List Item) → Counts b (i ∷ []) k → Counts k rest e → Counts b (i ∷ rest) e
counts_step b k e next_table rest now later = (omega arith, omega arith)
counts_step b k e next_lam rest now later = (omega arith, omega arith)
counts_step b k e (next_variables spot n) rest now later = (omega arith, omega arith)
counts_step b k e next_procedure rest now later = (omega arith, omega arith)
counts_step b k e next_service rest now later = (omega arith, omega arith)

all_counts : (s : Script) (b e : Before) (items : List Item) → all_declared s b items ≡ Some e → Counts b items e
all_counts s b e [] h = let same : b ≡ e = cc in let p : b.procedures ≡ e.procedures = cc in let v : b.services ≡ e.services = cc in (omega arith, omega arith)
all_counts s b e (i ∷ rest) h = go (declared s b i) (declared_counts s b i) h (λ k g. all_counts s k e rest g)
  where
    go : (o : Option Before) → IfSome o (Counts b (i ∷ [])) → option_and_then (λ k. all_declared s k rest) o ≡ Some e → ((k : Before) → all_declared s k rest ≡ Some e → Counts k rest e) → Counts b (i ∷ rest) e
    go None known h ih = absurd (cc)
    go (Some k) known h ih = counts_step b k e i rest known (ih k h)

-- all that a script has is declared
pub record Ends (s : Script) : Type 0 where
  pub end : Before
  pub declared : all_declared s nothing_before s.order ≡ Some end
  pub procedures : end.procedures ≡ length s.procedures
  pub services : end.services ≡ length s.services

pub ends_of : (s : Script) → IsTrue (is_well_formed s) → Ends s
unfolding is_well_formed
ends_of s h =
    let p = and_parts (within_limits s) (has (all_declared s nothing_before s.order) (is_all s)) h in
    let (e, is, all) = has_parts (all_declared s nothing_before s.order) (is_all s) p.1 in
    let t5 : Bool = nat_eq e.services (length s.services) in
    let t4 : Bool = nat_eq e.procedures (length s.procedures) && t5 in
    let t3 : Bool = nat_eq e.variables (length s.variables) && t4 in
    let t2 : Bool = nat_eq e.lams (length s.lams) && t3 in
    let a = and_parts (nat_eq e.tables (length s.tables)) t2 all in
    let b = and_parts (nat_eq e.lams (length s.lams)) t3 a.1 in
    let c = and_parts (nat_eq e.variables (length s.variables)) t4 b.1 in
    let d = and_parts (nat_eq e.procedures (length s.procedures)) t5 c.1 in
    record { end = e; declared = is; procedures = eqb-true e.procedures (length s.procedures) d.0; services = eqb-true e.services (length s.services) d.1 }

pub order_procedures : (s : Script) → IsTrue (is_well_formed s) → procedures_in s.order ≡ length s.procedures
order_procedures s h =
    let e = ends_of s h in
    let last = e.procedures in
    let count = (all_counts s nothing_before e.end s.order e.declared).0 in omega arith

pub order_services : (s : Script) → IsTrue (is_well_formed s) → services_in s.order ≡ length s.services
order_services s h =
    let e = ends_of s h in
    let last = e.services in
    let count = (all_counts s nothing_before e.end s.order e.declared).1 in omega arith
