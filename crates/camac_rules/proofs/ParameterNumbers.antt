-- The parameters of the procedures of a well-formed script have numbers of the language.
use Rattle.std.proofs.Common.{◌≡◌, ℕ, ◌<◌, ◌≤◌, List, [], ◌∷◌, ◌++◌, Some, Bool, true, length, refl, arith}
use Rattle.std.specs.Prelude.{◌&&◌, IsTrue, nat_le, slice_get}
use Rattle.std.proofs.lemmas.Bool.{and_parts, leb-true}
use Rattle.camac_lang.specs.Tree.{Parameter, Procedure, Script}
use Rattle.camac_lang.specs.Tests.{each, is_number}
use Rattle.camac_lang.specs.Scope.{Before, body_fits, parameter_names, procedure_scope, procedure_stands, are_declarable, nothing_before, is_well_formed}
use Rattle.camac_lang.proofs.Places.{number_below, procedure_place}
use Rattle.camac_rules.proofs.Orders.{ends_of}

-- each parameter's greatest number is one of the language
abbrev pub AreNumbers : List Parameter → Type 0
AreNumbers [] = Unit {0}
AreNumbers (p ∷ ps) = (p.high ≤ 4294967295) × AreNumbers ps

each_number : (ps : List Parameter) → each (λ q. is_number q.low && is_number q.high) ps ≡ true → AreNumbers ps
each_number [] h = tt
each_number (p ∷ ps) h =
    let a = and_parts (is_number p.low && is_number p.high) (each (λ q. is_number q.low && is_number q.high) ps) h in
    (leb-true p.high 4294967295 (and_parts (is_number p.low) (is_number p.high) a.0).1, each_number ps a.1)

pub parameters_are_numbers : (s : Script) → IsTrue (is_well_formed s) → (j : ℕ) (p : Procedure) → slice_get s.procedures j ≡ Some p → AreNumbers p.parameters
parameters_are_numbers s h j p at =
    let e = ends_of s h in
    let in_list : j < length s.procedures = number_below s.procedures j p at in
    let last = e.procedures in
    let m = procedure_place s s.order nothing_before e.end refl e.declared j (omega arith) (omega arith) in
    let b : Before = m.0 in
    let ok : procedure_stands b p ≡ true = m.1.1 p at in
    let t5 : Bool = are_declarable (p.name ∷ (parameter_names p ++ p.registers)) b.names && body_fits (procedure_scope b p) p.registers p.body in
    let t2 : Bool = is_number p.cycles && (is_number p.words && (is_number p.steps && t5)) in
    let ranges : Bool = each (λ q. is_number q.low && is_number q.high) p.parameters in
    let k1 = and_parts (nat_le (length p.parameters) 8) (ranges && t2) ok in
    each_number p.parameters (and_parts ranges t2 k1.1).0
