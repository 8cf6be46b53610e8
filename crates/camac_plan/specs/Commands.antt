-- What the commands of a type say: those declared, or the first rule that is broken.
use Rattle.std.specs.Prelude.{ℕ, ◌+◌, ◌-◌, zero, suc, Bool, false, ◌&&◌, not, nat_eq, nat_le, is_some, Option, Some, None, Result, Ok, Err, unwrap_or, if◌then◌else◌}
use Rattle.toml.specs.Data.{Data, table, Items, no_items, item, Members}
use Rattle.camac_module.specs.Kind.{kind_of}
use Rattle.camac_module.specs.declared.kind.CommandKind.{CommandKind}
use Rattle.camac_module.specs.Commands.{Commands, entry, with_declared, fits_width}
use Rattle.camac_module.specs.declared.map.Decl.{Decl}
use Rattle.toml.specs.View.{array_view}
use Rattle.camac_plan.specs.declared.command.CommandLine.{CommandLine}
use Rattle.camac_plan.specs.declared.command.TypeCommands as code
use Rattle.camac_plan.specs.declared.key.PlanKey.TheVariants as key
use Rattle.camac_plan.specs.declared.fault.PlanTable.{PlanTable}
use Rattle.camac_plan.specs.declared.fault.PlanTable.TheVariants.{ModuleType, Command}
use Rattle.camac_plan.specs.declared.fault.PlanCase.TheVariants as case
use Rattle.camac_plan.specs.declared.fault.BrokenRule.{BrokenRule}
use Rattle.camac_plan.specs.declared.fault.PlanRule.TheVariants.{OutOfRange, DeclaredTwice}
use Rattle.camac_plan.specs.Broken.{broken, next}
use Rattle.camac_plan.specs.Field.{has_only, number_at, required_number_at, flag_at, no_tables}

-- a width of 1 to 24 bits, which is 24 where it is not there, and has to be 24 at a probe
abbrev pub width_at : PlanTable → Bool → Members → Result ℕ BrokenRule
width_at at probe ms =
    next (number_at at key.Width 1 24 ms) (λ width.
    if probe && not (nat_eq (unwrap_or width 24) 24) then Err (broken OutOfRange (case.Probe at (unwrap_or width 24))) else Ok (unwrap_or width 24))

-- what it does beside: a probe cannot clear
abbrev pub kind_at : PlanTable → Bool → Members → Result CommandKind BrokenRule
kind_at at probe ms =
    next (flag_at at key.Clears ms) (λ clears.
    if probe && unwrap_or clears false then Err (broken OutOfRange (case.ClearingProbe at)) else Ok (kind_of probe (unwrap_or clears false)))

-- a command's table: its keys, and then one key after the other
abbrev pub command_of : PlanTable → Members → Result CommandLine BrokenRule
command_of at ms =
    next (has_only at ms) (λ _.
    next (required_number_at at key.F 0 31 ms) (λ f.
    next (required_number_at at key.A 0 15 ms) (λ a.
    next (number_at at key.To a 15 ms) (λ to.
    next (flag_at at key.Probe ms) (λ probe.
    next (width_at at (unwrap_or probe false) ms) (λ width.
    next (kind_at at (unwrap_or probe false) ms) (λ kind.
    Ok (record { f = f; first = a; last = unwrap_or to a; width = width; kind = kind }))))))))

-- the command at one of its sub-addresses
abbrev pub command_at : CommandLine → ℕ → Decl
command_at line a = record { f = line.f; a = a; width = line.width; kind = line.kind }

-- the width of the command is one that a command can have
abbrev pub fits : CommandLine → Bool
fits line = fits_width (command_at line line.first)

-- a table declares a function at a sub-address
abbrev pub line_declares : ℕ → ℕ → Result CommandLine BrokenRule → Bool
line_declares f a (Ok line) = nat_eq line.f f && nat_le line.first a && nat_le a line.last
line_declares f a (Err e) = false

abbrev pub declares : ℕ → ℕ → Data → Bool
declares f a (table ms) = line_declares f a (command_of (Command 0 0) ms)
declares f a _ = false

-- the place of the first table that does, where the first table of the array has the place n
abbrev pub first_declaring : ℕ → ℕ → ℕ → Items → Option ℕ
first_declaring f a n no_items = None
first_declaring f a n (item d rest) = if declares f a d then Some n else first_declaring f a (n + 1) rest

-- the array of a type's commands, with the place of the type
pub record TypeCommands : Type 0 where
  pub type_place : ℕ
  pub items : Items

-- the command of the place n, declared before by the first table that does
abbrev pub declared_twice : TypeCommands → ℕ → ℕ → ℕ → BrokenRule
declared_twice all n f a =
    broken DeclaredTwice (case.Command (Command all.type_place n) f a (Command all.type_place (unwrap_or (first_declaring f a 0 all.items) n)))

-- with the command of the place n at one more sub-address, unless it is declared before
abbrev pub with_new : TypeCommands → ℕ → Commands → Decl → Result Commands BrokenRule
with_new all n commands d = if is_some (entry commands d.f d.a) then Err (declared_twice all n d.f d.a) else Ok (with_declared commands d)

-- with the command at so many sub-addresses, from one on
abbrev pub with_places : TypeCommands → ℕ → CommandLine → Commands → ℕ → ℕ → Result Commands BrokenRule
with_places all n line commands a zero = Ok commands
with_places all n line commands a (suc k) = next (with_new all n commands (command_at line a)) (λ more. with_places all n line more (a + 1) k)

-- with the command at each of its sub-addresses
abbrev pub with_command : TypeCommands → ℕ → CommandLine → Commands → Result Commands BrokenRule
with_command all n line commands = with_places all n line commands line.first (line.last + 1 - line.first)

-- one command after the other, the first at the place n
abbrev pub with_commands : TypeCommands → ℕ → Commands → Items → Result Commands BrokenRule
with_commands all n commands no_items = Ok commands
with_commands all n commands (item (table t) rest) =
    next (next (command_of (Command all.type_place n) t) (λ line. with_command all n line commands)) (λ more. with_commands all (n + 1) more rest)
with_commands all n commands (item _ rest) = Err (no_tables (ModuleType all.type_place) key.Commands)

abbrev pub commands_view : code.TypeCommands → TypeCommands
commands_view all = record { type_place = all.type_place; items = array_view all.items.now }
