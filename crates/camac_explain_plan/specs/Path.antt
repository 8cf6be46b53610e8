-- The tables of a plan, and the way to one or to a key of it.
use Rattle.std.specs.Prelude.{ℕ, List, Option, Some, codes, option_and_then, ◌+◌, ◌^◌, ◌-◌, min, Bool, true, false, [], ◌++◌, None, decimal, option_map, slice_get, if◌then◌else◌}
use Rattle.toml.specs.Data.{Data, Members, as_table, at, string, integer}
use Rattle.camac_plan.specs.Field.{value_at}
use Rattle.camac_plan.specs.declared.fault.PlanTable.{PlanTable}
use Rattle.camac_plan.specs.declared.fault.PlanTable.TheVariants.{Top, ModuleType, Command, Crate, Station}
use Rattle.camac_plan.specs.declared.key.PlanKey.{PlanKey}
use Rattle.camac_plan.specs.declared.key.PlanKey.TheVariants as key
use Rattle.camac_explain_plan.specs.declared.texts.TheConstants as text
use Rattle.std.specs.Fmt.{signed_decimal}
use Rattle.camac_lines.specs.Words.{quoted}
use Rattle.camac_plan.specs.Key.{key_text}
use Rattle.camac_explain_plan.specs.declared.path.TheConstants.{ORDINALS}

-- The tables of a plan by their places, and what they are called.

-- the table of this number in the array at a key
abbrev pub item_at : (key : PlanKey) → (place : ℕ) → Members → Option Members
item_at key place ms = option_and_then as_table (option_and_then (at place) (value_at key ms))

abbrev pub table_at : (top : Members) → PlanTable → Option Members
table_at top Top = Some top
table_at top (ModuleType place) = item_at key.Types place top
table_at top (Command type_place place) = option_and_then (item_at key.Commands place) (item_at key.Types type_place top)
table_at top (Crate place) = item_at key.Crates place top
table_at top (Station crate_place place) = option_and_then (item_at key.Stations place) (item_at key.Crates crate_place top)

-- the value at a key of a table, if there is one
abbrev pub value_in : (top : Members) → PlanTable → PlanKey → Option Data
value_in top table key = option_and_then (value_at key) (table_at top table)

abbrev pub kind_of : PlanTable → List ℕ
kind_of Top = text.PLAN.now
kind_of (ModuleType place) = text.TYPE.now
kind_of (Command type_place place) = text.COMMAND.now
kind_of (Crate place) = text.CRATE.now
kind_of (Station crate_place place) = text.STATION.now

-- The way to a table or a key: types by their names, crates and stations by their numbers; else by their places in the text, as commands are.

abbrev pub ordinal : (place : ℕ) → Option (List ℕ)
ordinal place = option_map (λ o. o.now) (slice_get ORDINALS place)

-- from 1
abbrev pub place_from_one : ℕ → ℕ
place_from_one n = min (n + 1) (2 ^ 64 - 1)

abbrev pub nth_by : (ordinal : Option (List ℕ)) → (place : ℕ) → (of : List ℕ) → List ℕ
nth_by (Some ordinal) place of = ordinal ++ codes " " ++ of
nth_by None place of = of ++ codes " number " ++ decimal (place_from_one place)

-- an entry by its place in the text, from 0
abbrev pub nth : (place : ℕ) → (of : List ℕ) → List ℕ
nth place of = nth_by (ordinal place) place of

abbrev pub entry : (place : ℕ) → (array : List ℕ) → List ℕ
entry place array = nth place (codes "entry") ++ codes " of `" ++ array ++ codes "`"

-- a type by its name
abbrev pub type_step : (name : Option Data) → (place : ℕ) → List ℕ
type_step (Some (string name)) place = codes "type " ++ quoted name
type_step _ place = entry place (codes "type")

-- a crate or a station by its number
abbrev pub number_step : (what : List ℕ) → (number : Option Data) → (place : ℕ) → List ℕ
number_step what (Some (integer number)) place = what ++ codes " " ++ signed_decimal number
number_step what _ place = entry place what

-- what a table is known by, where the plan is given
abbrev pub known_by : (known : Option Members) → PlanTable → PlanKey → Option Data
known_by known table key = option_and_then (λ top. value_in top table key) known

abbrev pub step : (known : Option Members) → PlanTable → List ℕ
step known Top = []
step known (ModuleType place) = type_step (known_by known (ModuleType place) key.Name) place
step known (Command type_place place) = nth place (codes "command")
step known (Crate place) = number_step (codes "crate") (known_by known (Crate place) key.Number) place
step known (Station crate_place place) = number_step (codes "station") (known_by known (Station crate_place place) key.N) place

-- the table, behind the one around it
abbrev pub path : (around own : Option Members) → PlanTable → List ℕ
path around own Top = []
path around own (ModuleType place) = step own (ModuleType place)
path around own (Command type_place place) = step around (ModuleType type_place) ++ codes ", " ++ step own (Command type_place place)
path around own (Crate place) = step own (Crate place)
path around own (Station crate_place place) = step around (Crate crate_place) ++ codes ", " ++ step own (Station crate_place place)

-- between a table and its key; the top table has no name
abbrev pub comma : PlanTable → List ℕ
comma Top = []
comma table = codes ", "

-- what a type is known by is no way to its name
abbrev pub known_for : (top : Members) → PlanTable → PlanKey → Option Members
known_for top (ModuleType place) key.Name = None
known_for top table key = Some top

abbrev pub way_to_key : (top : Members) → PlanTable → PlanKey → List ℕ
way_to_key top table key = path (Some top) (known_for top table key) table ++ (comma table ++ key_text key)

-- the way to a table, or to a key of it
abbrev pub way_to : (top : Members) → PlanTable → Option PlanKey → List ℕ
way_to top table (Some key) = way_to_key top table key
way_to top table None = path (Some top) (Some top) table

-- a crate, a station or a type is known by what it has in common with the first one
abbrev pub is_known_by : PlanKey → Bool
is_known_by key.Number = true
is_known_by key.N = true
is_known_by key.Name = true
is_known_by _ = false

abbrev pub way_to_first : (top : Members) → PlanKey → PlanTable → List ℕ
way_to_first top key first = path (Some top) (if is_known_by key then None else Some top) first
