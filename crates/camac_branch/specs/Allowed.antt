-- The commands that a plan allows, and their widths.
use Rattle.std.specs.Prelude.{◌≡◌, ℕ, ◌+◌, ◌-◌, ◌<◌, ◌≤◌, map, Option, Some, option_map, option_and_then, unwrap_or}
use Rattle.std.specs.List.{range_with_len}
use Rattle.std.specs.Option.{option_or}
use Rattle.camac_module.specs.Commands.{least_and_greatest}
use Rattle.camac_crate.specs.Controller.{controller}
use Rattle.camac_branch.specs.Address.{Address, address}
use Rattle.camac_branch.specs.Plan.{Layout, crate_waits, declared_width}

-- the width of a command of the controller of a crate in the plan, which is 24 (own)
abbrev pub controller_width : Layout → Address → ℕ → Option ℕ
controller_width plan at f =
    option_and_then (λ _. option_map (λ _. 24) (controller at.station at.sub_address f)) (crate_waits plan at.crate_no)

-- the width of a command that the module there or the controller declares
abbrev pub allowed : Layout → Address → (function : ℕ) → Option ℕ
allowed plan at f = option_or (declared_width plan at.crate_no at.station at.sub_address f) (controller_width plan at f)

-- the width of a command, 24 where it is not allowed
abbrev pub width : Layout → Address → (function : ℕ) → ℕ
width plan at f = unwrap_or (allowed plan at f) 24

-- a command in numbers that there are, of 1 to 24 bits
pub record IsCommand (at : Address) (function width : ℕ) : Type 0 where
  pub crate_from_1 : 1 ≤ at.crate_no
  pub crate_to_7 : at.crate_no ≤ 7
  pub station : at.station < 32
  pub sub_address : at.sub_address < 16
  pub function_to_31 : function < 32
  pub width_from_1 : 1 ≤ width
  pub width_to_24 : width ≤ 24

-- what is true of each plan: it allows such commands alone
abbrev pub AllowsCommands : Layout → Type 0
AllowsCommands plan = (at : Address) (f w : ℕ) → allowed plan at f ≡ Some w → IsCommand at f w

-- the least and the greatest width of a function from one sub-address to another, which is not before it
abbrev pub widths : Layout → (crate_no station function first last : ℕ) → Option (ℕ × ℕ)
widths plan c n f first last =
    least_and_greatest (map (λ a. allowed plan (address c n a) f) (range_with_len first (last + 1 - first)))
