-- The steps that change what is declared.
use Rattle.std.specs.Prelude.{ℕ, true, false, List, [], ◌∷◌, ◌++◌, length, take}
use Rattle.camac_lang.specs.declared.spot.Spot.{Spot}
use Rattle.camac_lang.specs.Depth.{callable}
use Rattle.camac_lang.specs.Tree.{Text, Statement, Table, Lam, Procedure, Script, next_table, next_lam, next_variables, next_procedure, next_service}
use Rattle.camac_lang.specs.View.{block_of}
use Rattle.camac_text_cursor.specs.Reading.{State, Reader, ◌>>◌, ask, change}

-- ---- tables, LAMs, variables and services

abbrev pub with_table : Table → State → State
with_table t s = record s { tables = s.tables ++ t ∷ []; declared = s.declared ++ t.name ∷ []; order = s.order ++ next_table ∷ [] }

abbrev pub with_lam : Lam → State → State
with_lam l s = record s { lams = s.lams ++ l ∷ []; declared = s.declared ++ l.name ∷ []; order = s.order ++ next_lam ∷ [] }

abbrev pub with_variables_of : Spot → ℕ → State → State
with_variables_of spot count s = record s { order = s.order ++ next_variables spot count ∷ [] }

-- the registers of the body belong to the service, and the next body has none yet
abbrev pub with_service : Spot → ℕ → ℕ → ℕ → List Statement → State → State
with_service spot lam cycles words body s = record s {
  services = s.services ++ record { spot = spot; lam = lam; cycles = cycles; words = words; registers = s.registers; body = block_of body } ∷ [];
  registers = [];
  order = s.order ++ next_service ∷ [];
}

-- ---- procedures

-- a procedure sees no variables but its parameters, and its own name is declared
abbrev pub in_heading : Text → State → State
in_heading name s = record s { variables = []; in_procedure = true; outside = s.variables; declared = s.declared ++ name ∷ [] }

-- a procedure begins: so many of the names that are declared stay so after it
abbrev pub opened : Text → Reader ℕ
opened name = do
  change (in_heading name)
  ask (λ s. length s.declared)

-- the next body has no registers yet
abbrev pub without_registers : State → State
without_registers s = record s { registers = [] }

-- a procedure can be called from its end on; what it declared for itself ends with it
abbrev pub with_procedure : Procedure → ℕ → State → State
with_procedure p names s = record s {
  variables = s.outside;
  declared = take names s.declared;
  registers = [];
  in_procedure = false;
  outside = [];
  procedures = s.procedures ++ p ∷ [];
  callables = s.callables ++ callable s.callables p ∷ [];
  order = s.order ++ next_procedure ∷ [];
}

-- ---- the whole script

-- the tree of the declarations so far
abbrev pub tree_so_far : State → Script
tree_so_far s = record {
  order = s.order;
  tables = s.tables;
  lams = s.lams;
  variables = s.variables;
  procedures = s.procedures;
  services = s.services;
}
