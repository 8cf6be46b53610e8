-- What C is told of the services of a script, by their numbers from 1 in the order of the script.
use Rattle.std.specs.Prelude.{ℕ, zero, suc, ◌-◌, nat_eq, if◌then◌else◌, List, [], ◌∷◌, Option, None, Some, option_map, slice_get}
use Rattle.camac_rules.specs.Checked.{CheckedScript}
use Rattle.camac_lang.specs.Tree.{Text, Lam, Service, Script}
use Rattle.camac_model.specs.Fine.{Bounds}
use Rattle.camac_lines.specs.Verdict.{lam_name}
use Rattle.camac_machine.specs.MachineState.{bit_at, bounds_at}

-- a service has the name of its LAM
unfoldable pub name_in : Script → Service → Text
name_in script v = lam_name script.lams v.lam

abbrev pub name_at : Script → (number : ℕ) → Option Text
name_at script number = if nat_eq number 0 then None else option_map (name_in script) (slice_get script.services (number - 1))

-- the address of its LAM, before other numbers
abbrev pub with_address : Option Lam → List ℕ → List ℕ
with_address None numbers = 0 ∷ 0 ∷ 0 ∷ numbers
with_address (Some l) numbers = l.crate_no ∷ l.station ∷ l.sub_address ∷ numbers

-- the line of its heading, its bounds, and what the heading allows
abbrev pub of_heading : Bounds → Service → List ℕ
of_heading k v = v.spot.line ∷ k.cycles ∷ k.words ∷ k.steps ∷ v.cycles ∷ v.words ∷ []

-- the service of this number, from 0, with its bit of the graded-L pattern
abbrev pub numbers_in : CheckedScript → ℕ → Service → List ℕ
numbers_in c i v = with_address (slice_get c.script.lams v.lam) (bit_at c i ∷ of_heading (bounds_at c i) v)

abbrev pub numbers_at : CheckedScript → ℕ → Option (List ℕ)
numbers_at c zero = None
numbers_at c (suc i) = option_map (numbers_in c i) (slice_get c.script.services i)
