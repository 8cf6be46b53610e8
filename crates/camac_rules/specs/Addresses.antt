-- Which addresses of a region are installed, and how wide a command is there.
use Rattle.std.specs.Prelude.{ℕ, ◌+◌, Bool, ◌&&◌, ◌||◌, List, [], ◌∷◌, false, Option, None, Result, nat_eq, nat_lt, is_some, option_map, unwrap_or, if◌then◌else◌}
use Rattle.camac_range.specs.Interval.{Interval, interval, only}
use Rattle.camac_branch.specs.Allowed.{widths}
use Rattle.camac_branch.specs.Plan.{Layout, crate_waits, station}
use Rattle.camac_rules.specs.declared.case.Case.{Case}
use Rattle.camac_rules.specs.declared.case.Case.TheVariants.{NoCrate, NoModule, NoCommand}
use Rattle.camac_rules.specs.declared.rule.CheckRule.TheVariants.{StationNotInstalled, CommandNotDeclared}
use Rattle.camac_rules.specs.Fault.{Fault}
use Rattle.camac_rules.specs.Refusal.{◌>>◌, required, given}
use Rattle.camac_rules.specs.Known.{Region}
use Rattle.camac_rules.specs.Walks.{count_below, all_from, first_outside, greatest_from, hull_from}
use Rattle.camac_lang.specs.declared.spot.Spot.{Spot}

-- No crate is numbered from 8 on, no station from 32 on, no sub-address from 16 on.
abbrev pub crate_end : ℕ
crate_end = 8

abbrev pub station_end : ℕ
station_end = 32

abbrev pub sub_address_end : ℕ
sub_address_end = 16

abbrev pub in_plan : Layout → ℕ → Bool
in_plan plan c = is_some (crate_waits plan c)

-- a station that has a module, or that the controller answers for
abbrev pub is_station : Layout → ℕ → ℕ → Bool
is_station plan c n = is_some (station plan c n) || (nat_eq n 28 || nat_eq n 30)

-- all numbers of a range are below an end and pass a test
abbrev pub all_in : ℕ → Interval → (ℕ → Bool) → Bool
all_in end r test = nat_lt r.hi end && all_from test r.lo (count_below end r)

abbrev pub are_stations_in : Layout → Interval → ℕ → Bool
are_stations_in plan ns c = in_plan plan c && all_in station_end ns (is_station plan c)

abbrev pub are_stations : Layout → Region → Bool
are_stations plan g = all_in crate_end g.crates (are_stations_in plan g.stations)

-- the least and the greatest width of a function at a station's sub-addresses, if it is allowed at all of them
abbrev pub station_widths : Layout → (function : ℕ) → (sub_addresses : Interval) → (crate_no station : ℕ) → Option Interval
station_widths plan f subs c n =
    if nat_lt subs.hi sub_address_end then option_map (λ w. interval w.0 w.1) (widths plan c n f subs.lo subs.hi) else None

-- the same at all stations of a range in a crate
abbrev pub crate_widths : Layout → (function : ℕ) → (sub_addresses stations : Interval) → (crate_no : ℕ) → Option Interval
crate_widths plan f subs ns c = hull_from (station_widths plan f subs c) ns.lo (count_below station_end ns)

-- at all addresses of a region
abbrev pub region_widths : Layout → (function : ℕ) → Region → Option Interval
region_widths plan f g =
    hull_from (crate_widths plan f g.sub_addresses g.stations) g.crates.lo (count_below crate_end g.crates)

-- a station that is not installed: its crate is not in the plan, or it has no module
abbrev pub not_installed : Layout → (crate_no station : ℕ) → Case
not_installed plan c n = if nat_lt c crate_end && in_plan plan c then NoModule c n else NoCrate c

abbrev pub missing_in : Layout → (stations : Interval) → (crate_no : ℕ) → Case
missing_in plan ns c = not_installed plan c (first_outside station_end ns (is_station plan c))

-- the first station of a region that is not installed
abbrev pub missing : Layout → Region → Case
missing plan g = missing_in plan g.stations (first_outside crate_end g.crates (are_stations_in plan g.stations))

-- a command at one address
abbrev pub has_command : Layout → (function crate_no station sub_address : ℕ) → Bool
has_command plan f c n a = is_some (station_widths plan f (only a) c n)

abbrev pub undeclared_at : Layout → (function : ℕ) → (sub_addresses : Interval) → (crate_no station : ℕ) → Case
undeclared_at plan f subs c n = NoCommand f c n (first_outside sub_address_end subs (has_command plan f c n))

abbrev pub undeclared_in : Layout → (function : ℕ) → (sub_addresses stations : Interval) → (crate_no : ℕ) → Case
undeclared_in plan f subs ns c =
    undeclared_at plan f subs c (first_outside station_end ns (λ n. is_some (station_widths plan f subs c n)))

-- the first address of a region that has not the command
abbrev pub undeclared : Layout → (function : ℕ) → Region → Case
undeclared plan f g =
    undeclared_in plan f g.sub_addresses g.stations
    (first_outside crate_end g.crates (λ c. is_some (crate_widths plan f g.sub_addresses g.stations c)))

-- the widths of a command at a region, all of whose addresses are installed and declare it
abbrev pub command_widths : Layout → (spot : Spot) (function : ℕ) → Region → Result Interval Fault
command_widths plan spot f g = do
  required (are_stations plan g) StationNotInstalled spot (missing plan g)
  given (region_widths plan f g) CommandNotDeclared spot (undeclared plan f g)

abbrev pub is_among : ℕ → List ℕ → Bool
is_among x [] = false
is_among x (y ∷ ys) = nat_eq x y || is_among x ys

-- the auxiliary cycles that may come before a cycle in a crate, with these crates locked
abbrev pub waits_in : Layout → (locked : List ℕ) → (crate_no : ℕ) → ℕ
waits_in plan locked c = if is_among c locked then 0 else unwrap_or (crate_waits plan c) 0

-- the most that one cycle in some crate of a range costs
abbrev pub cycle_cost : Layout → (locked : List ℕ) → (crates : Interval) → ℕ
cycle_cost plan locked crates = 1 + greatest_from (waits_in plan locked) crates.lo (count_below crate_end crates)
