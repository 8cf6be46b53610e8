-- What a fixed store holds.
use Rattle.std.specs.Prelude.{ℕ, ◌+◌, ◌-◌, List, Option, None, length, slice_index_or, slice_range}
use Rattle.camac_branch.specs.Address.{Address}
use Rattle.camac_lang.specs.Tree.{Procedure, Service, Script}
use Rattle.camac_model.specs.State.{Variables, Registers}
use Rattle.camac_machine.specs.declared.scope.Places.{Places}
use Rattle.camac_machine.specs.declared.scope.Scope.{Scope}

-- by number, 0 past the end
abbrev pub variables_in : List ℕ → Variables
variables_in vs x = slice_index_or vs x 0

-- none past the end
abbrev pub registers_in : List (Option Address) → Registers
registers_in rs r = slice_index_or rs r None

abbrev pub size : Places → ℕ
size p = p.end - p.start

-- what a store holds at these places
abbrev pub held_at : {A : Type 0} → Places → List A → List A
held_at p xs = slice_range xs p.start p.end

abbrev pub nothing_seen : Scope
nothing_seen =
    record { variables = record { start = 0; end = 0 }; registers = record { start = 0; end = 0 }; procedures = 0 }

-- its parameters and registers, after the places of its caller, and the procedures before it
abbrev pub seen_by_procedure : Scope → ℕ → Procedure → Scope
seen_by_procedure c i p = record {
  variables = record { start = c.variables.end; end = c.variables.end + length p.parameters };
  registers = record { start = c.registers.end; end = c.registers.end + length p.registers };
  procedures = i;
}

-- all that the script declares, and its own registers
abbrev pub seen_by_service : Script → Service → Scope
seen_by_service s v = record {
  variables = record { start = 0; end = length s.variables };
  registers = record { start = 0; end = length v.registers };
  procedures = length s.procedures;
}
