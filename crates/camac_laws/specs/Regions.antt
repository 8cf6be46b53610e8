-- What the rules of a command at the addresses of a register come to.
use Rattle.std.specs.Prelude.{◌≡◌, ◌↔◌, ℕ, ◌+◌, ◌≤◌, true, List, Some, None, Ok, Err}
use Rattle.camac_range.specs.Interval.{Interval, IsWithin}
use Rattle.camac_crate.specs.Lock.{permitted}
use Rattle.camac_branch.specs.Address.{address}
use Rattle.camac_branch.specs.Allowed.{allowed}
use Rattle.camac_branch.specs.Plan.{Layout, IsPlan, crate_waits}
use Rattle.camac_rules.specs.declared.case.Case.{Case}
use Rattle.camac_rules.specs.declared.rule.CheckRule.TheVariants.{StationNotInstalled, CommandNotDeclared}
use Rattle.camac_rules.specs.Addresses.{in_plan, is_station, are_stations, region_widths, command_widths, is_among, waits_in, cycle_cost}
use Rattle.camac_rules.specs.Fault.{broken}
use Rattle.camac_rules.specs.Known.{Region}
use Rattle.camac_laws.specs.ShownAddresses.{HasAddresses}
use Rattle.camac_lang.specs.declared.spot.Spot.{Spot}

-- an installed station: its crate is in the plan, and it has a module or is one of those that the controller answers for
pub record IsInstalled (plan : Layout) (c n : ℕ) : Type 0 where
  pub crate_no : in_plan plan c ≡ true
  pub station : is_station plan c n ≡ true

-- an address that a register can hold: each of its numbers is in the range of the register
pub record IsIn (g : Region) (c n a : ℕ) : Type 0 where
  pub crate_no : IsWithin g.crates c
  pub station : IsWithin g.stations n
  pub sub_address : IsWithin g.sub_addresses a

-- each station that a register can hold is installed; or some is not
abbrev pub AreInstalled : Layout → Region → Type 0
AreInstalled plan g = (c n a : ℕ) → IsIn g c n a → IsInstalled plan c n

abbrev pub HasMissing : Layout → Region → Type 0
HasMissing plan g = (c n a : ℕ) × IsIn g c n a × (IsInstalled plan c n → ⊥)

-- some address does not allow the function
abbrev pub HasUndeclared : Layout → ℕ → Region → Type 0
HasUndeclared plan f g = (c n a : ℕ) × IsIn g c n a × (allowed plan (address c n a) f ≡ None)

-- w goes from the least to the greatest width of a function: at each address it has a width in w, at one the least, at one the greatest
pub record HasWidths (plan : Layout) (f : ℕ) (g : Region) (w : Interval) : Type 0 where
  pub each : (c n a : ℕ) → IsIn g c n a → (k : ℕ) × (allowed plan (address c n a) f ≡ Some k) × IsWithin w k
  pub least : (c n a : ℕ) × IsIn g c n a × (allowed plan (address c n a) f ≡ Some w.lo)
  pub greatest : (c n a : ℕ) × IsIn g c n a × (allowed plan (address c n a) f ≡ Some w.hi)

-- The test of E1 holds exactly where each station is installed.
unfoldable pub StationsAreAll : Type 0
StationsAreAll =
    (plan : Layout) → IsPlan plan → (g : Region) → HasAddresses g → (are_stations plan g ≡ true) ↔ AreInstalled plan g

-- Then the widths are the least and the greatest of the function. There are none exactly where some address does not allow it.
pub record WidthsOf (plan : Layout) (f : ℕ) (g : Region) : Type 0 where
  pub some : (w : Interval) → (region_widths plan f g ≡ Some w) ↔ HasWidths plan f g w
  pub none : (region_widths plan f g ≡ None) ↔ HasUndeclared plan f g

unfoldable pub WidthsAreAll : Type 0
WidthsAreAll =
    (plan : Layout) → IsPlan plan → (f : ℕ) (g : Region) → HasAddresses g → are_stations plan g ≡ true → WidthsOf plan f g

-- A command is refused by E1 exactly where some station is not installed. It is refused by E2 exactly where all are, and some address does
-- not allow it. Else it may go, with these widths.
pub record IsJudged (plan : Layout) (spot : Spot) (f : ℕ) (g : Region) : Type 0 where
  pub not_installed :
      ((case : Case) × (command_widths plan spot f g ≡ Err (broken StationNotInstalled spot case))) ↔ HasMissing plan g
  pub not_declared :
      ((case : Case) × (command_widths plan spot f g ≡ Err (broken CommandNotDeclared spot case)))
      ↔ (AreInstalled plan g × HasUndeclared plan f g)
  pub accepted : (w : Interval) → (command_widths plan spot f g ≡ Ok w) ↔ (AreInstalled plan g × HasWidths plan f g w)

unfoldable pub CommandsAreJudged : Type 0
CommandsAreJudged = (plan : Layout) → IsPlan plan → (spot : Spot) (f : ℕ) (g : Region) → HasAddresses g → IsJudged plan spot f g

-- Before a cycle in a crate of the plan so many auxiliary cycles may come exactly where they are at most the crate's waits, and none in a
-- locked crate.
unfoldable pub WaitsMayCome : Type 0
WaitsMayCome =
    (plan : Layout) (locked : List ℕ) (c waits wait : ℕ) → crate_waits plan c ≡ Some waits
    → (permitted (is_among c locked) waits wait ≡ true) ↔ (wait ≤ waits_in plan locked c)

-- u is what the dearest cycle costs: in each crate a cycle and its waits cost at most u, and in one of them u
pub record IsGreatestCost (plan : Layout) (locked : List ℕ) (crates : Interval) (u : ℕ) : Type 0 where
  pub each : (c : ℕ) → IsWithin crates c → 1 + waits_in plan locked c ≤ u
  pub one : (c : ℕ) × IsWithin crates c × (1 + waits_in plan locked c ≡ u)

-- The cost of a cycle is 1 plus the greatest number of waits that may come before it, in any crate of a range that has a number.
unfoldable pub CostIsGreatest : Type 0
CostIsGreatest =
    (plan : Layout) → IsPlan plan → (locked : List ℕ) (crates : Interval) → crates.lo ≤ crates.hi
    → IsGreatestCost plan locked crates (cycle_cost plan locked crates)
