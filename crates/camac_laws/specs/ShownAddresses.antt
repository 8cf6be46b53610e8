-- What the case of a refusal shows of the addresses of a command, and that each register that is set where the checker comes has one.
use Rattle.std.specs.Prelude.{◌≡◌, ℕ, ◌<◌, ◌≤◌, Bool, true, false, Err, List, Some, ◌⊎◌}
use Rattle.camac_branch.specs.Plan.{Layout}
use Rattle.camac_range.specs.Interval.{Interval, IsWithin}
use Rattle.camac_rules.specs.declared.case.Case.{Case}
use Rattle.camac_rules.specs.declared.case.Case.TheVariants.{NoCrate, NoModule, NoCommand}
use Rattle.camac_rules.specs.declared.rule.CheckRule.TheVariants.{StationNotInstalled, CommandNotDeclared}
use Rattle.camac_rules.specs.Addresses.{crate_end, station_end, sub_address_end, in_plan, is_station, all_in, are_stations_in, has_command, command_widths}
use Rattle.camac_rules.specs.Fault.{broken}
use Rattle.camac_rules.specs.Known.{Region, Facts, region_at}
use Rattle.camac_rules.specs.Accept.{at_start}
use Rattle.camac_rules.specs.Cycles.{Context, Around}
use Rattle.camac_rules.specs.Procedures.{at_entry}
use Rattle.camac_lang.specs.declared.spot.Spot.{Spot}
use Rattle.camac_lang.specs.Tree.{Block, Parameter}
pub use Rattle.camac_check_costs.specs.Places.{Place, place, IfReached, at_turn, HasPlace, BlockHasPlace}

-- k is the first number of a range that is not below the end, or of which the test does not hold
pub record IsFirst (end : ℕ) (r : Interval) (test : ℕ → Bool) (k : ℕ) : Type 0 where
  pub inside : IsWithin r k
  pub fails : k < end → test k ≡ false
  pub earlier : (j : ℕ) → r.lo ≤ j → j < k → (j < end) × (test j ≡ true)

-- each range of the region has a number
pub record HasAddresses (g : Region) : Type 0 where
  pub crates : g.crates.lo ≤ g.crates.hi
  pub stations : g.stations.lo ≤ g.stations.hi
  pub sub_addresses : g.sub_addresses.lo ≤ g.sub_addresses.hi

-- the first crate of the region not all of whose stations are there, and why
abbrev pub MissingShown : Layout → Region → Case → Type 0
MissingShown plan g (NoCrate c) = IsFirst crate_end g.crates (are_stations_in plan g.stations) c × (c < crate_end → in_plan plan c ≡ false)
MissingShown plan g (NoModule c n) =
    IsFirst crate_end g.crates (are_stations_in plan g.stations) c
    × ((c < crate_end) × ((in_plan plan c ≡ true) × IsFirst station_end g.stations (is_station plan c) n))
MissingShown plan g case = ⊥

abbrev pub MissingAreShown : Type 0
MissingAreShown =
    (plan : Layout) (spot : Spot) (f : ℕ) (g : Region) → HasAddresses g
    → (at : Spot) (case : Case) → command_widths plan spot f g ≡ Err (broken StationNotInstalled at case) → MissingShown plan g case

-- the command is there at all the sub-addresses of a station, and at all the stations of a crate
abbrev pub has_command_at : Layout → ℕ → Region → ℕ → ℕ → Bool
has_command_at plan f g c n = all_in sub_address_end g.sub_addresses (has_command plan f c n)

abbrev pub has_command_in : Layout → ℕ → Region → ℕ → Bool
has_command_in plan f g c = all_in station_end g.stations (has_command_at plan f g c)

-- the first crate that has not the command everywhere, its first such station, and the first sub-address there that has not the command
abbrev pub UndeclaredShown : Layout → ℕ → Region → Case → Type 0
UndeclaredShown plan f g (NoCommand function c n a) =
    (function ≡ f)
    × (IsFirst crate_end g.crates (has_command_in plan f g) c
    × (IsFirst station_end g.stations (has_command_at plan f g c) n
    × IsFirst sub_address_end g.sub_addresses (has_command plan f c n) a))
UndeclaredShown plan f g case = ⊥

abbrev pub UndeclaredAreShown : Type 0
UndeclaredAreShown =
    (plan : Layout) (spot : Spot) (f : ℕ) (g : Region) → HasAddresses g
    → (at : Spot) (case : Case) → command_widths plan spot f g ≡ Err (broken CommandNotDeclared at case) → UndeclaredShown plan f g case

-- what is known where the body of a service begins, or that of a procedure with these parameters
abbrev pub IsStart : Facts → Type 0
IsStart k = (k ≡ at_start) ⊎ ((ps : List Parameter) × (at_entry ps ≡ Some k))

abbrev pub RegistersHaveAddresses : Type 0
RegistersHaveAddresses =
    (c : Context) (around : Around) (body : Block) (start : Facts) (p : Place) → IsStart start
    → BlockHasPlace c p around body start → (r : ℕ) (g : Region) → region_at p.known.registers r ≡ Some g → HasAddresses g
