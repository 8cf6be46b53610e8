-- What the types of a plan say, put one after the other into the plan so far, or the first rule that is broken.
use Rattle.std.specs.Prelude.{ℕ, List, Result, Ok, Err, if◌then◌else◌, is_some, nat_lt, length, unwrap_or}
use Rattle.toml.specs.Data.{table, Items, no_items, item, Members}
use Rattle.toml.specs.View.{array_view}
use Rattle.camac_module.specs.Commands.{none_declared}
use Rattle.camac_branch.specs.Name.{is_type_name}
use Rattle.camac_branch.specs.Plan.{Layout, type_named, with_type}
use Rattle.camac_plan.specs.declared.module_type.TypeLine as code
use Rattle.camac_plan.specs.declared.key.PlanKey.{PlanKey}
use Rattle.camac_plan.specs.declared.key.PlanKey.TheVariants as key
use Rattle.camac_plan.specs.declared.fault.PlanTable.{PlanTable}
use Rattle.camac_plan.specs.declared.fault.PlanTable.TheVariants.{Top, ModuleType}
use Rattle.camac_plan.specs.declared.fault.PlanCase.TheVariants as case
use Rattle.camac_plan.specs.declared.fault.BrokenRule.{BrokenRule}
use Rattle.camac_plan.specs.declared.fault.PlanRule.TheVariants.{OutOfRange, DeclaredTwice}
use Rattle.camac_plan.specs.Broken.{broken, next}
use Rattle.camac_plan.specs.Field.{has_only, text_at, required_tables_at, no_tables}
use Rattle.camac_plan.specs.Commands.{with_commands}

pub record TypeLine : Type 0 where
  pub name : List ℕ
  pub commands : Items

-- a name of the form of a type's name
abbrev pub type_name_at : PlanTable → PlanKey → Members → Result (List ℕ) BrokenRule
type_name_at at key ms = next (text_at at key ms) (λ name. if is_type_name name then Ok name else Err (broken OutOfRange (case.Name at key)))

-- a type's table: its keys, and then one key after the other
abbrev pub type_of : PlanTable → Members → Result TypeLine BrokenRule
type_of at ms =
    next (has_only at ms) (λ _.
    next (type_name_at at key.Name ms) (λ name.
    next (required_tables_at at key.Commands ms) (λ commands.
    Ok (record { name = name; commands = commands }))))

-- the place of the next type: each table before has put a type into the plan
abbrev pub next_type : Layout → ℕ
next_type plan = length plan.types

-- the type of this place has the name of the first
abbrev pub name_twice : ℕ → ℕ → BrokenRule
name_twice place first = broken DeclaredTwice (case.Twice (ModuleType place) key.Name (ModuleType first))

-- a type that was read, put into the plan with its commands
abbrev pub with_type_line : Layout → TypeLine → Result Layout BrokenRule
with_type_line plan line =
    if is_some (type_named plan line.name) then Err (name_twice (next_type plan) (unwrap_or (type_named plan line.name) 0))
    else next (with_commands (record { type_place = next_type plan; items = line.commands }) 0 (none_declared 16) line.commands) (λ commands. Ok (with_type plan line.name commands))

-- the type of a table, which is out of range where it is the 65th
abbrev pub with_type_table : Layout → Members → Result Layout BrokenRule
with_type_table plan t =
    if nat_lt (next_type plan) 64 then next (type_of (ModuleType (next_type plan)) t) (with_type_line plan)
    else Err (broken OutOfRange (case.Full (ModuleType (next_type plan))))

-- one type after the other
abbrev pub with_types : Layout → Items → Result Layout BrokenRule
with_types plan no_items = Ok plan
with_types plan (item (table t) rest) = next (with_type_table plan t) (λ p. with_types p rest)
with_types plan (item _ rest) = Err (no_tables Top key.Types)

abbrev pub type_view : code.TypeLine → TypeLine
type_view line = record { name = line.name; commands = array_view line.commands.now }
