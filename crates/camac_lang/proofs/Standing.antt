-- Services and procedures of a well-formed script, in the scope of all that it declares.
use Rattle.std.proofs.Common.{◌≡◌, ℕ, ◌+◌, ◌<◌, ◌≤◌, suc, List, [], ◌∷◌, ◌++◌, Some, Bool, true, refl, ap, ◌∙◌, subst, arith, length}
use Rattle.std.specs.Prelude.{◌&&◌, take, slice_get, nat_eq, nat_le, nat_lt}
use Rattle.std.proofs.lemmas.Bool.{and_parts, eqb-true, leb-true, ltb-true}
use Rattle.camac_lang.specs.Depth.{inner_depth, callables_after}
use Rattle.camac_lang.specs.Expressions.{Callable, Scope}
use Rattle.camac_lang.specs.Laws.{whole, inside, ServicesStand, ProceduresStand, Limits, LimitsHold}
use Rattle.camac_lang.specs.Scope.{Before, body_fits, are_declarable, parameter_names, procedure_scope, service_scope, procedure_stands, service_stands, all_declared, is_all, nothing_before, within_limits, is_well_formed}
use Rattle.camac_lang.specs.Statements.{after_block, statements}
use Rattle.camac_lang.specs.Tests.{each, has, total, most, is_number}
use Rattle.camac_lang.specs.Tree.{Text, Block, Script}
use Rattle.camac_lang.proofs.Places.{number_below, most_at, total_at, has_parts, Between, all_filled, service_place, procedure_place}
use Rattle.camac_lang.proofs.Wider.{IsWider, block_wider, block_depth_wider}

-- the end of a script's text
record Ends (s : Script) (e : Before) : Type 0 where
  limits : within_limits s ≡ true
  declared : all_declared s nothing_before s.order ≡ Some e
  tables : e.tables ≡ length s.tables
  lams : e.lams ≡ length s.lams
  variables : e.variables ≡ length s.variables
  procedures : e.procedures ≡ length s.procedures
  services : e.services ≡ length s.services

ends_of : (s : Script) → is_well_formed s ≡ true → (e : Before) × Ends s e
unfolding is_well_formed
ends_of s h =
    let p = and_parts (within_limits s) (has (all_declared s nothing_before s.order) (is_all s)) h in
    let e = has_parts (all_declared s nothing_before s.order) (is_all s) p.1 in
    let t5 : Bool = nat_eq e.0.services (length s.services) in
    let t4 : Bool = nat_eq e.0.procedures (length s.procedures) && t5 in
    let t3 : Bool = nat_eq e.0.variables (length s.variables) && t4 in
    let t2 : Bool = nat_eq e.0.lams (length s.lams) && t3 in
    let a = and_parts (nat_eq e.0.tables (length s.tables)) t2 e.2 in
    let b = and_parts (nat_eq e.0.lams (length s.lams)) t3 a.1 in
    let c = and_parts (nat_eq e.0.variables (length s.variables)) t4 b.1 in
    let d = and_parts (nat_eq e.0.procedures (length s.procedures)) t5 c.1 in (
      e.0,
      record {
        limits = p.0;
        declared = e.1;
        tables = eqb-true e.0.tables (length s.tables) a.0;
        lams = eqb-true e.0.lams (length s.lams) b.0;
        variables = eqb-true e.0.variables (length s.variables) c.0;
        procedures = eqb-true e.0.procedures (length s.procedures) d.0;
        services = eqb-true e.0.services (length s.services) d.1;
      },
    )

limits_of : (s : Script) → within_limits s ≡ true → Limits s
limits_of s h =
    let n1 : ℕ = length s.variables + total (λ p. length p.parameters) s.procedures in
    let n2 : ℕ = total (λ p. length p.registers) s.procedures + most (λ v. length v.registers) s.services in
    let n7 : ℕ = total (λ p. statements p.body) s.procedures + total (λ v. statements v.body) s.services in
    let t6 : Bool = nat_le (length s.procedures) 16 && nat_le n7 4096 in
    let t5 : Bool = nat_le (length s.services) 24 && t6 in
    let t4 : Bool = nat_le (length s.tables) 16 && t5 in
    let t3 : Bool = nat_le (length s.lams) 64 && t4 in
    let t2 : Bool = nat_le n2 64 && t3 in
    let a = and_parts (nat_le n1 64) t2 h in
    let b = and_parts (nat_le n2 64) t3 a.1 in
    let c = and_parts (nat_le (length s.lams) 64) t4 b.1 in
    let d = and_parts (nat_le (length s.tables) 16) t5 c.1 in
    let e = and_parts (nat_le (length s.services) 24) t6 d.1 in
    let f = and_parts (nat_le (length s.procedures) 16) (nat_le n7 4096) e.1 in
    record {
      variables = leb-true n1 64 a.0;
      registers = leb-true n2 64 b.0;
      lams = leb-true (length s.lams) 64 c.0;
      tables = leb-true (length s.tables) 16 d.0;
      services = leb-true (length s.services) 24 e.0;
      procedures = leb-true (length s.procedures) 16 f.0;
      statements = leb-true n7 4096 f.1;
    }

pub limits_hold : LimitsHold
limits_hold s h = limits_of s (ends_of s h).1.limits

-- a body in a wider scope
record BodyStands (d : Scope) (registers : List Text) (b : Block) : Type 0 where
  body : after_block d 0 b ≡ Some (length registers)
  depth : suc (inner_depth d.callables b) ≤ 16

body_stands : (c d : Scope) → IsWider c d → (registers : List Text) (b : Block) → body_fits c registers b ≡ true → BodyStands d registers b
body_stands c d wide registers b h =
    let count : Bool = has (after_block c 0 b) (λ n. nat_eq n (length registers)) in
    let p = and_parts count (nat_le (suc (inner_depth c.callables b)) 16) h in
    let n = has_parts (after_block c 0 b) (λ n. nat_eq n (length registers)) p.0 in
    let same : n.0 ≡ length registers = eqb-true n.0 (length registers) n.2 in
    let depths : inner_depth c.callables b ≡ inner_depth d.callables b = block_depth_wider c d wide 0 n.0 b n.1 in
    let low : suc (inner_depth c.callables b) ≤ 16 = leb-true (suc (inner_depth c.callables b)) 16 p.1 in
    record {
      body = block_wider c d wide 0 b n.0 n.1 ∙ ap Some same;
      depth = omega (arith, depths, low);
    }

at_most : (n : ℕ) → is_number n ≡ true → n ≤ 4294967295
at_most n h = leb-true n 4294967295 h

take_all : {A : Type 0} (xs : List A) → take (length xs) xs ≡ xs
take_all [] = refl
take_all (x ∷ xs) = ap (λ ys. x ∷ ys) (take_all xs)

pub services_stand : ServicesStand
services_stand s h i v at =
    let e = ends_of s h in
    let in_list : i < length s.services = number_below s.services i v at in
    let ended : e.0.services ≡ length s.services = e.1.services in
    let m = service_place s s.order nothing_before e.0 refl e.1.declared i (omega arith) (omega (arith, in_list, ended)) in
    let filled : e.0.callables ≡ callables_after [] s.procedures =
    all_filled s s.order nothing_before e.0 e.1.declared refl ∙ (ap (λ n. callables_after [] (take n s.procedures)) e.1.procedures ∙ ap (callables_after []) (take_all s.procedures)) in
    let b : Before = m.0 in
    let between : Between b e.0 = m.2 in
    let ok : service_stands b v ≡ true = m.1 v at in
    let t4 : Bool = body_fits (service_scope b) v.registers v.body in
    let t3 : Bool = are_declarable v.registers b.names && t4 in
    let t2 : Bool = is_number v.words && t3 in
    let p = and_parts (nat_lt v.lam b.lams) (is_number v.cycles && t2) ok in
    let q = and_parts (is_number v.cycles) t2 p.1 in
    let r = and_parts (is_number v.words) t3 q.1 in
    let t = and_parts (are_declarable v.registers b.names) t4 r.1 in
    let lams : b.lams ≤ length s.lams = (let x = between.lams in let y = e.1.lams in omega (arith, x, y)) in
    let wide : IsWider (service_scope b) (whole s) = record {
      variables = (let x = between.variables in let y = e.1.variables in omega (arith, x, y));
      tables = (let x = between.tables in let y = e.1.tables in omega (arith, x, y));
      lams = lams;
      callables = λ p q k. subst (λ (qs : List Callable). slice_get qs p ≡ Some q) filled (between.callables p q k);
      kind = refl;
    } in
    let body : BodyStands (whole s) v.registers v.body = body_stands (service_scope b) (whole s) wide v.registers v.body t.1 in
    let lam : v.lam < b.lams = ltb-true v.lam b.lams p.0 in
    record {
      lam = omega (arith, lam, lams);
      cycles = at_most v.cycles q.0;
      words = at_most v.words r.0;
      registers = (let x : length v.registers ≤ most (λ w. length w.registers) s.services = most_at (λ w. length w.registers) s.services i v at in let y = (limits_of s e.1.limits).registers in omega (arith, x, y));
      body = body.body;
      depth = body.depth;
    }

pub procedures_stand : ProceduresStand
procedures_stand s h i p at =
    let e = ends_of s h in
    let in_list : i < length s.procedures = number_below s.procedures i p at in
    let ended : e.0.procedures ≡ length s.procedures = e.1.procedures in
    let m = procedure_place s s.order nothing_before e.0 refl e.1.declared i (omega arith) (omega (arith, in_list, ended)) in
    let b : Before = m.0 in
    let between : Between b e.0 = m.2 in
    let filled : b.callables ≡ callables_after [] (take i s.procedures) = m.3 ∙ ap (λ n. callables_after [] (take n s.procedures)) m.1.0 in
    let ok : procedure_stands b p ≡ true = m.1.1 p at in
    let names : List Text = p.name ∷ (parameter_names p ++ p.registers) in
    let t6 : Bool = body_fits (procedure_scope b p) p.registers p.body in
    let t5 : Bool = are_declarable names b.names && t6 in
    let t4 : Bool = is_number p.steps && t5 in
    let t3 : Bool = is_number p.words && t4 in
    let t2 : Bool = is_number p.cycles && t3 in
    let ranges : Bool = each (λ q. is_number q.low && is_number q.high) p.parameters in
    let k1 = and_parts (nat_le (length p.parameters) 8) (ranges && t2) ok in
    let k2 = and_parts ranges t2 k1.1 in
    let k3 = and_parts (is_number p.cycles) t3 k2.1 in
    let k4 = and_parts (is_number p.words) t4 k3.1 in
    let k5 = and_parts (is_number p.steps) t5 k4.1 in
    let k6 = and_parts (are_declarable names b.names) t6 k5.1 in
    let wide : IsWider (procedure_scope b p) (inside s i p) = record {
      variables = omega arith;
      tables = (let x = between.tables in let y = e.1.tables in omega (arith, x, y));
      lams = (let x = between.lams in let y = e.1.lams in omega (arith, x, y));
      callables = λ n q k. subst (λ (qs : List Callable). slice_get qs n ≡ Some q) filled k;
      kind = refl;
    } in
    let body : BodyStands (inside s i p) p.registers p.body = body_stands (procedure_scope b p) (inside s i p) wide p.registers p.body k6.1 in
    record {
      parameters = leb-true (length p.parameters) 8 k1.0;
      cycles = at_most p.cycles k3.0;
      words = at_most p.words k4.0;
      steps = at_most p.steps k5.0;
      registers = (let x : length p.registers ≤ total (λ w. length w.registers) s.procedures = total_at (λ w. length w.registers) s.procedures i p at in let y = (limits_of s e.1.limits).registers in omega (arith, x, y));
      body = body.body;
      depth = body.depth;
    }
