-- The keys of a plan's tables, and how they stand in its text.
use Rattle.std.specs.Prelude.{ℕ, List, [], ◌∷◌, codes}
use Rattle.camac_plan.specs.declared.fault.PlanTable.{PlanTable}
use Rattle.camac_plan.specs.declared.fault.PlanTable.TheVariants.{Top, ModuleType, Command, Crate, Station}
use Rattle.camac_plan.specs.declared.key.PlanKey.{PlanKey}
use Rattle.camac_plan.specs.declared.key.PlanKey.TheVariants.{Buffer, Types, Crates, Name, Commands, F, A, To, Probe, Width, Clears, Number, Waits, Stations, N, TypeName, Gl}

abbrev pub key_text : PlanKey → List ℕ
key_text Buffer = codes "buffer"
key_text Types = codes "type"
key_text Crates = codes "crate"
key_text Name = codes "name"
key_text Commands = codes "commands"
key_text F = codes "f"
key_text A = codes "a"
key_text To = codes "to"
key_text Probe = codes "probe"
key_text Width = codes "width"
key_text Clears = codes "clears"
key_text Number = codes "number"
key_text Waits = codes "waits"
key_text Stations = codes "station"
key_text N = codes "n"
key_text TypeName = codes "type"
key_text Gl = codes "gl"

-- the keys that a table may have
abbrev pub keys_of : PlanTable → List PlanKey
keys_of Top = Buffer ∷ Types ∷ Crates ∷ []
keys_of (ModuleType place) = Name ∷ Commands ∷ []
keys_of (Command type_place place) = F ∷ A ∷ To ∷ Width ∷ Probe ∷ Clears ∷ []
keys_of (Crate place) = Number ∷ Waits ∷ Stations ∷ []
keys_of (Station crate_place place) = N ∷ TypeName ∷ Gl ∷ []
