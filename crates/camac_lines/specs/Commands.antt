-- The lines of the commands of a plan's types.
use Rattle.std.specs.Prelude.{ℕ, ◌+◌, ◌-◌, zero, suc, Bool, false, ◌&&◌, nat_eq, nat_lt, List, [], ◌++◌, map, codes, decimal, Option, Some, None, if◌then◌else◌}
use Rattle.std.specs.List.{range_with_len, prefix_len}
use Rattle.camac_func.specs.Class.{class_of}
use Rattle.camac_func.specs.declared.code.FunctionClass.{FunctionClass}
use Rattle.camac_func.specs.declared.code.FunctionClass.TheVariants.{Read, Write, Control}
use Rattle.camac_module.specs.Kind.{clears, is_probe, same_kind}
use Rattle.camac_module.specs.Entry.{Entry}
use Rattle.camac_module.specs.Commands.{Commands, entry}
use Rattle.camac_lines.specs.Texts.{texts}

-- of one width and kind
abbrev pub is_same : Entry → Option Entry → Bool
is_same e None = false
is_same e (Some d) = nat_eq d.width e.width && same_kind d.kind e.kind

-- what a type declares of a function at so many sub-addresses from one on
abbrev pub entries_from : Commands → ℕ → (first count : ℕ) → List (Option Entry)
entries_from commands f first count = map (entry commands f) (range_with_len first count)

-- the last sub-address of the neighbours after this one that are the same
abbrev pub last_same : Commands → ℕ → ℕ → Entry → ℕ
last_same commands f a e = a + prefix_len (is_same e) (entries_from commands f (a + 1) (16 - (a + 1)))

-- the neighbour before is the same
abbrev pub goes_on : Commands → ℕ → ℕ → Entry → Bool
goes_on commands f zero e = false
goes_on commands f (suc a) e = is_same e (entry commands f a)

-- `to` only where there are several
abbrev pub to_text : ℕ → ℕ → List ℕ
to_text first last = if nat_lt first last then codes " to " ++ decimal last else []

-- no width where no data moves
abbrev pub width_text : FunctionClass → ℕ → List ℕ
width_text Read width = codes " width " ++ decimal width
width_text Write width = codes " width " ++ decimal width
width_text Control width = []

abbrev pub kind_text : ℕ → Entry → List ℕ
kind_text f e =
    if is_probe e.kind then codes " probe"
    else if clears e.kind then width_text (class_of f) e.width ++ codes " clears"
    else width_text (class_of f) e.width

abbrev pub command_line : (function first last : ℕ) → Entry → List ℕ
command_line f first last e =
    codes "command f " ++ decimal f ++ codes " a " ++ decimal first ++ to_text first last ++ kind_text f e ++ codes "\n"

-- a line at the first of neighbours that are the same
abbrev pub text_at : Commands → ℕ → ℕ → Option Entry → List ℕ
text_at commands f a None = []
text_at commands f a (Some e) = if goes_on commands f a e then [] else command_line f a (last_same commands f a e) e

abbrev pub command_text : Commands → ℕ → ℕ → List ℕ
command_text commands f a = text_at commands f a (entry commands f a)

-- the commands of a function by sub-address, and those of a type by function
abbrev pub function_text : Commands → ℕ → List ℕ
function_text commands f = texts (command_text commands f) 0 16

abbrev pub commands_text : Commands → List ℕ
commands_text commands = texts (function_text commands) 0 32
