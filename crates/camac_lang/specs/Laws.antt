-- What holds in every well-formed script.
use Rattle.std.specs.Prelude.{◌≡◌, ℕ, ◌+◌, ◌<◌, ◌≤◌, suc, [], Some, true, false, IsTrue, length, take, slice_get}
use Rattle.camac_lang.specs.Depth.{inner_depth, callables_after}
use Rattle.camac_lang.specs.Expressions.{Scope}
use Rattle.camac_lang.specs.Scope.{is_well_formed}
use Rattle.camac_lang.specs.Statements.{after_block, statements}
use Rattle.camac_lang.specs.Tests.{total, most}
use Rattle.camac_lang.specs.Tree.{Block, Procedure, Service, Script}

-- all that a script declares, as a service may refer to it
abbrev pub whole : Script → Scope
whole s = record {
  variables = length s.variables;
  tables = length s.tables;
  lams = length s.lams;
  callables = callables_after [] s.procedures;
  is_procedure = false;
}

-- a service names one of the script's LAMs; its body refers to what the script declares
pub record ServiceStands (s : Script) (v : Service) : Type 0 where
  pub lam : v.lam < length s.lams
  pub cycles : v.cycles ≤ 4294967295
  pub words : v.words ≤ 4294967295
  pub registers : length v.registers ≤ 64
  pub body : after_block (whole s) 0 v.body ≡ Some (length v.registers)
  pub depth : suc (inner_depth (whole s).callables v.body) ≤ 16

abbrev pub ServicesStand : Type 0
ServicesStand =
    (s : Script) → IsTrue (is_well_formed s) → (i : ℕ) (v : Service) → slice_get s.services i ≡ Some v → ServiceStands s v

-- the scope of a procedure: its parameters, and the procedures before it
abbrev pub inside : Script → ℕ → Procedure → Scope
inside s i p =
    record (whole s) { variables = length p.parameters; callables = callables_after [] (take i s.procedures); is_procedure = true }

pub record ProcedureStands (s : Script) (i : ℕ) (p : Procedure) : Type 0 where
  pub parameters : length p.parameters ≤ 8
  pub cycles : p.cycles ≤ 4294967295
  pub words : p.words ≤ 4294967295
  pub steps : p.steps ≤ 4294967295
  pub registers : length p.registers ≤ 64
  pub body : after_block (inside s i p) 0 p.body ≡ Some (length p.registers)
  pub depth : suc (inner_depth (inside s i p).callables p.body) ≤ 16

abbrev pub ProceduresStand : Type 0
ProceduresStand =
    (s : Script) → IsTrue (is_well_formed s) → (i : ℕ) (p : Procedure) → slice_get s.procedures i ≡ Some p
    → ProcedureStands s i p

-- the limits of a script
pub record Limits (s : Script) : Type 0 where
  pub variables : length s.variables + total (λ p. length p.parameters) s.procedures ≤ 64
  pub registers : total (λ p. length p.registers) s.procedures + most (λ v. length v.registers) s.services ≤ 64
  pub lams : length s.lams ≤ 64
  pub tables : length s.tables ≤ 16
  pub services : length s.services ≤ 24
  pub procedures : length s.procedures ≤ 16
  pub statements : total (λ p. statements p.body) s.procedures + total (λ v. statements v.body) s.services ≤ 4096

abbrev pub LimitsHold : Type 0
LimitsHold = (s : Script) → IsTrue (is_well_formed s) → Limits s

-- registers are only added: each that a statement uses is below the number after the body
abbrev pub RegistersGrow : Type 0
RegistersGrow = (c : Scope) (seen n : ℕ) (b : Block) → after_block c seen b ≡ Some n → seen ≤ n
