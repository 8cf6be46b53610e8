-- The lines of a plan.
use Rattle.std.specs.Prelude.{ℕ, List, [], ◌++◌, codes, decimal, length, Option, Some, None, option_map, unwrap_or}
use Rattle.camac_branch.specs.Plan.{Layout, kind, type_counts, crate_waits, station, gl}
use Rattle.camac_lines.specs.declared.plan.Detail.{Detail}
use Rattle.camac_lines.specs.declared.plan.Detail.TheVariants.{Types, Commands}
use Rattle.camac_lines.specs.Commands.{commands_text}
use Rattle.camac_lines.specs.Texts.{texts}

abbrev pub buffer_line : ℕ → List ℕ
buffer_line buffer = codes "buffer " ++ decimal buffer ++ codes "\n"

abbrev pub type_line : List ℕ → ℕ × ℕ → List ℕ
type_line name counts = codes "type " ++ name ++ (codes " commands " ++ decimal counts.0 ++ codes " probes " ++ decimal counts.1 ++ codes "\n")

abbrev pub crate_line : ℕ → ℕ → List ℕ
crate_line c waits = codes "crate " ++ decimal c ++ codes " waits " ++ decimal waits ++ codes "\n"

-- `-` where there is no bit
abbrev pub bit_text : Option ℕ → List ℕ
bit_text None = codes "-"
bit_text (Some b) = decimal b

abbrev pub station_line : ℕ → List ℕ → Option ℕ → List ℕ
station_line n name bit = (codes "station " ++ decimal n ++ codes " ") ++ name ++ (codes " gl " ++ bit_text bit ++ codes "\n")

-- a type by its number
abbrev pub type_text : Layout → ℕ → List ℕ
type_text plan t = type_line (kind plan t).name (type_counts plan t)

-- a station, nothing where no module is installed
abbrev pub station_text : Layout → ℕ → ℕ → List ℕ
station_text plan c n = unwrap_or (option_map (λ t. station_line n (kind plan t).name (gl plan c n)) (station plan c n)) []

-- a crate and its stations by number, nothing for a crate outside the plan
abbrev pub crate_text : Layout → ℕ → List ℕ
crate_text plan c = unwrap_or (option_map (λ waits. crate_line c waits ++ texts (station_text plan c) 1 23) (crate_waits plan c)) []

-- the same with the commands of the type, where these are asked for
abbrev pub type_in : Detail → Layout → ℕ → List ℕ
type_in Types plan t = type_text plan t
type_in Commands plan t = type_text plan t ++ commands_text (kind plan t).commands

-- the buffer, the types in their order, the crates by number
abbrev pub plan_in : Detail → Layout → List ℕ
plan_in detail plan = buffer_line plan.buffer ++ texts (type_in detail plan) 0 (length plan.types) ++ texts (crate_text plan) 1 7

abbrev pub plan_text : Layout → List ℕ
plan_text plan = plan_in Types plan

abbrev pub plan_with_commands : Layout → List ℕ
plan_with_commands plan = plan_in Commands plan
