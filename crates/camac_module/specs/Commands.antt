-- The declared commands of a module, by sub-address and function.
use Rattle.std.specs.Prelude.{◌≡◌, ℕ, ◌+◌, ◌-◌, ◌<◌, ◌≤◌, Bool, true, not, ◌&&◌, ◌||◌, nat_le, nat_lt, nat_eq, min, max, List, [], ◌∷◌, map, Option, Some, None, option_map, is_some, if◌then◌else◌, slice_index_or, slice_set, sum_by}
use Rattle.std.specs.List.{range_with_len}
use Rattle.camac_module.specs.Kind.{is_probe}
use Rattle.camac_module.specs.Entry.{Entry, Entries, no_entries, count_commands, count_probes}
use Rattle.camac_module.specs.declared.map.Decl.{Decl}
use Rattle.camac_module.specs.declared.map.ModuleFault.{ModuleFault}
use Rattle.camac_module.specs.declared.map.ModuleFault.TheVariants as fault

-- a list of entries for each sub-address
abbrev pub Commands : Type 0
Commands = List Entries

-- what is declared of a function at a sub-address
abbrev pub entry : Commands → ℕ → ℕ → Option Entry
entry commands f a = slice_index_or (slice_index_or commands a []) f None

-- an entry that can be declared: of a function and at a sub-address that there are, 1 to 24 bits wide, and 24 at a probe
pub record IsDeclarable (f a : ℕ) (e : Entry) : Type 0 where
  pub function : f < 32
  pub sub_address : a < 16
  pub width_from_1 : 1 ≤ e.width
  pub width_to_24 : e.width ≤ 24
  pub probe : is_probe e.kind ≡ true → e.width ≡ 24

-- what is true of the commands of each type
abbrev pub IsCommandMap : Commands → Type 0
IsCommandMap commands = (f a : ℕ) (e : Entry) → entry commands f a ≡ Some e → IsDeclarable f a e

-- the width of a declared command
abbrev pub width : Commands → ℕ → ℕ → Option ℕ
width commands f a = option_map (λ e. e.width) (entry commands f a)

-- the numbers of commands and of probes among them
abbrev pub counts : Commands → ℕ × ℕ
counts commands = (sum_by count_commands commands, sum_by count_probes commands)

-- nothing is declared
abbrev pub none_declared : ℕ → Commands
none_declared sub_addresses = map (λ _. no_entries) (range_with_len 0 sub_addresses)

abbrev pub declared : Decl → Entry
declared d = record { width = d.width; kind = d.kind }

-- the commands with one more
abbrev pub with_declared : Commands → Decl → Commands
with_declared commands d =
    slice_set commands d.a (slice_set (slice_index_or commands d.a []) d.f (Some (declared d)))

-- the command is declared now as it was asked, and each other one is as it was
pub record DeclaresOne (old new : Commands) (d : Decl) : Type 0 where
  pub here : entry new d.f d.a ≡ Some (declared d)
  pub others : (f a : ℕ) → ((f ≡ d.f) × (a ≡ d.a) → ⊥) → entry new f a ≡ entry old f a

-- 1 to 24 bits, and 24 at a probe
abbrev pub fits_width : Decl → Bool
fits_width d = nat_le 1 d.width && nat_le d.width 24 && (not (is_probe d.kind) || nat_eq d.width 24)

-- why a declaration is refused, at a map of so many sub-addresses
abbrev pub declare_fault : ℕ → Commands → Decl → Option ModuleFault
declare_fault sub_addresses commands d =
    if not (fits_width d) then Some fault.WidthOutOfRange
    else if not (nat_lt d.a sub_addresses) then Some fault.NoSuchSubAddress
    else if is_some (entry commands d.f d.a) then Some fault.DeclaredBefore
    else None

-- the least and the greatest of the widths so far and of these, if each of these is a width
abbrev pub extremes : ℕ × ℕ → List (Option ℕ) → Option (ℕ × ℕ)
extremes so_far [] = Some so_far
extremes so_far (None ∷ ws) = None
extremes so_far (Some w ∷ ws) = extremes (min so_far.0 w, max so_far.1 w) ws

-- the least and the greatest of the widths, if there is one and each is a width
abbrev pub least_and_greatest : List (Option ℕ) → Option (ℕ × ℕ)
least_and_greatest [] = None
least_and_greatest (None ∷ ws) = None
least_and_greatest (Some w ∷ ws) = extremes (w, w) ws

-- the widths of a function from one sub-address to another, which is not before it
abbrev pub widths : Commands → ℕ → ℕ → ℕ → Option (ℕ × ℕ)
widths commands f first last = least_and_greatest (map (width commands f) (range_with_len first (last + 1 - first)))
