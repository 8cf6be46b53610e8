-- The lines of what is known at a place.
use Rattle.std.specs.Prelude.{ℕ, ◌+◌, List, [], ◌∷◌, ◌++◌, map, codes, decimal, nat_eq, option_map, unwrap_or, slice_get, Option, Some, None, if◌then◌else◌}
use Rattle.camac_range.specs.Interval.{Interval}
use Rattle.camac_lang.specs.Tree.{Text, Service, Script}
use Rattle.camac_rules.specs.declared.case.Body.{Body}
use Rattle.camac_rules.specs.declared.case.Body.TheVariants as body
use Rattle.camac_rules.specs.Addresses.{is_among}
use Rattle.camac_rules.specs.Known.{Region, range_at, region_at}
use Rattle.camac_check_costs.specs.Places.{Place}
use Rattle.camac_check_costs.specs.Texts.{range_text}

-- the names of the variables and of the registers of a body
abbrev pub variables_of : Script → Body → List Text
variables_of s (body.Procedure i) = unwrap_or (option_map (λ p. map (λ q. q.name) p.parameters) (slice_get s.procedures i)) []
variables_of s (body.Service l) = s.variables

abbrev pub registers_on : ℕ → List Service → List Text
registers_on l [] = []
registers_on l (v ∷ vs) = if nat_eq v.lam l then v.registers else registers_on l vs

abbrev pub registers_of : Script → Body → List Text
registers_of s (body.Procedure i) = unwrap_or (option_map (λ p. p.registers) (slice_get s.procedures i)) []
registers_of s (body.Service l) = registers_on l s.services

abbrev pub variable_line : Text → Interval → List ℕ
variable_line name r = name ++ codes " " ++ range_text r ++ codes "\n"

-- those from this number on
abbrev pub variables_text : List Interval → ℕ → List Text → List ℕ
variables_text rs x [] = []
variables_text rs x (name ∷ names) = variable_line name (range_at rs x) ++ variables_text rs (x + 1) names

abbrev pub addresses_text : Region → List ℕ
addresses_text g = range_text g.crates ++ codes " " ++ range_text g.stations ++ codes " " ++ range_text g.sub_addresses

-- of a register that is set
abbrev pub register_line : Text → Option Region → List ℕ
register_line name None = []
register_line name (Some g) = name ++ codes " " ++ addresses_text g ++ codes "\n"

abbrev pub registers_text : List (Option Region) → ℕ → List Text → List ℕ
registers_text gs r [] = []
registers_text gs r (name ∷ names) = register_line name (region_at gs r) ++ registers_text gs (r + 1) names

abbrev pub locked_line : List ℕ → ℕ → List ℕ
locked_line locked c = if is_among c locked then codes "locked " ++ decimal c ++ codes "\n" else []

-- a crate has a number from 1 to 7
abbrev pub locked_text : List ℕ → List ℕ
locked_text cs =
    locked_line cs 1 ++ locked_line cs 2 ++ locked_line cs 3 ++ locked_line cs 4 ++ locked_line cs 5 ++ locked_line cs 6 ++ locked_line cs 7

abbrev pub known_text : Script → Place → List ℕ
known_text s p =
    codes "reached\n" ++ variables_text p.known.ranges 0 (variables_of s p.around.body)
    ++ registers_text p.known.registers 0 (registers_of s p.around.body) ++ locked_text p.around.locked
