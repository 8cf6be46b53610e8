-- The sample plan.
use Rattle.std.specs.Prelude.{ℕ, List, [], ◌∷◌, ◌++◌, Option, Some, None, Result, Ok, Err, codes, map}
use Rattle.std.specs.List.{range_with_len, fold}
use Rattle.camac_module.specs.Commands.{Commands, none_declared, with_declared, declare_fault}
use Rattle.camac_module.specs.declared.map.Decl.{Decl}
use Rattle.camac_module.specs.declared.kind.CommandKind.TheVariants.{Plain, Probe}
use Rattle.camac_module.specs.declared.map.ModuleFault.{ModuleFault}
use Rattle.camac_branch.specs.Plan.{Layout, no_crates, with_type, with_crate, with_installed}

-- a function at a sub-address, which moves so many bits
abbrev pub command : ℕ → ℕ → ℕ → Decl
command f a width = record { f = f; a = a; width = width; kind = Plain }

-- a sub-address without a register, which a scan may reach
abbrev pub probe : ℕ → ℕ → Decl
probe f a = record { f = f; a = a; width = 24; kind = Probe }

-- the commands of a type that declares these
abbrev pub commands_of : List Decl → Commands
commands_of = fold with_declared (none_declared 16)

-- a converter of twelve channels with a LAM at A12
unfoldable pub adc : List Decl
adc =
    map (λ a. command 0 a 12) (range_with_len 0 12) ++ map (probe 0) (range_with_len 12 4)
    ++ command 8 12 24 ∷ command 10 12 24 ∷ command 24 12 24 ∷ command 26 12 24 ∷ []

-- an output register of eight bits
unfoldable pub reg : List Decl
reg = command 16 0 8 ∷ command 0 0 24 ∷ command 27 0 24 ∷ command 5 0 24 ∷ []

-- nothing but the buffer
abbrev pub empty : ℕ → Layout
empty buffer = record { buffer = buffer; types = []; crates = no_crates }

-- with the two types
abbrev pub sample_types : Layout
sample_types = with_type (with_type (empty 4096) (codes "ADC") (commands_of adc)) (codes "REG") (commands_of reg)

abbrev pub sample : Layout
sample =
    let converter = with_installed (with_crate sample_types 1 2) 1 5 (record { type_no = 0; gl = Some 3 }) in
    with_installed converter 1 6 (record { type_no = 1; gl = None })

-- the commands with these too, unless one of them is refused
abbrev pub declared_or : Option ModuleFault → Result Commands ModuleFault → Result Commands ModuleFault
declared_or None next = next
declared_or (Some fault) next = Err fault

abbrev pub declare_all : Commands → List Decl → Result Commands ModuleFault
declare_all commands [] = Ok commands
declare_all commands (d ∷ ds) = declared_or (declare_fault 16 commands d) (declare_all (with_declared commands d) ds)
