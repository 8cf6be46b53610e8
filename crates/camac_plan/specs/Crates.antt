-- What the crates of a plan say, put one after the other into the plan so far, or the first rule that is broken.
use Rattle.std.specs.Prelude.{ℕ, ◌+◌, List, Option, Some, None, Result, Ok, Err, if◌then◌else◌, is_some, unwrap_or}
use Rattle.toml.specs.Data.{Data, array, table, Items, no_items, item, Members}
use Rattle.camac_branch.specs.Plan.{Layout, crate_at, type_named, installed, is_some_and, uses_bit, with_crate, with_installed}
use Rattle.camac_plan.specs.declared.crates.CrateLine as code
use Rattle.camac_plan.specs.declared.station.StationLine as code_station
use Rattle.camac_plan.specs.declared.key.PlanKey.TheVariants as key
use Rattle.camac_plan.specs.declared.fault.PlanTable.{PlanTable}
use Rattle.camac_plan.specs.declared.fault.PlanTable.TheVariants.{Top, Crate, Station}
use Rattle.camac_plan.specs.declared.fault.PlanCase.TheVariants as case
use Rattle.camac_plan.specs.declared.fault.BrokenRule.{BrokenRule}
use Rattle.camac_plan.specs.declared.fault.PlanRule.TheVariants.{CrateTwice, StationTwice, UnknownType, BitTwice}
use Rattle.camac_plan.specs.Broken.{broken, next}
use Rattle.camac_plan.specs.Field.{has_only, value_at, number_at, required_number_at, text_at, tables_at, no_tables, first_with, items_or_none}

pub record CrateLine : Type 0 where
  -- its place in the array of the crates
  pub place : ℕ
  pub number : ℕ
  pub waits : ℕ
  pub stations : Items

-- a crate's table: its keys, and then one key after the other
abbrev pub crate_of : ℕ → Members → Result CrateLine BrokenRule
crate_of place ms =
    next (has_only (Crate place) ms) (λ _.
    next (required_number_at (Crate place) key.Number 1 7 ms) (λ number.
    next (number_at (Crate place) key.Waits 0 15 ms) (λ waits.
    next (tables_at (Crate place) key.Stations ms) (λ stations.
    Ok (record { place = place; number = number; waits = unwrap_or waits 0; stations = stations })))))

pub record StationLine : Type 0 where
  pub n : ℕ
  pub type_name : List ℕ
  pub gl : Option ℕ

-- a station's table: its keys, and then one key after the other
abbrev pub station_of : PlanTable → Members → Result StationLine BrokenRule
station_of at ms =
    next (has_only at ms) (λ _.
    next (required_number_at at key.N 1 23 ms) (λ n.
    next (text_at at key.TypeName ms) (λ type_name.
    next (number_at at key.Gl 1 24 ms) (λ gl.
    Ok (record { n = n; type_name = type_name; gl = gl })))))

-- the stations of a crate's table
abbrev pub array_in : Option Data → Items
array_in (Some (array items)) = items
array_in _ = no_items

abbrev pub stations_in : Data → Items
stations_in (table ms) = array_in (value_at key.Stations ms)
stations_in _ = no_items

-- the first table of a station with a GL bit, where the first of the crates has the place c
abbrev pub station_or : ℕ → Option ℕ → PlanTable → PlanTable
station_or c None later = later
station_or c (Some n) later = Station c n

abbrev pub first_with_bit : ℕ → ℕ → Items → PlanTable
first_with_bit b c no_items = Top
first_with_bit b c (item d rest) = station_or c (first_with key.Gl b 0 (stations_in d)) (first_with_bit b (c + 1) rest)

-- the station of the place n names no type, or has a number or a bit that the first table of it has
abbrev pub unknown_type : CrateLine → ℕ → BrokenRule
unknown_type k n = broken UnknownType (case.NoType (Station k.place n) key.TypeName)

abbrev pub station_twice : CrateLine → ℕ → ℕ → BrokenRule
station_twice k n number = broken StationTwice (case.Twice (Station k.place n) key.N (Station k.place (unwrap_or (first_with key.N number 0 k.stations) n)))

abbrev pub bit_twice : Items → CrateLine → ℕ → Option ℕ → BrokenRule
bit_twice crates k n gl = broken BitTwice (case.Twice (Station k.place n) key.Gl (first_with_bit (unwrap_or gl 0) 0 crates))

-- a station of a type of the plan, put into its crate
abbrev pub with_type_found : Items → CrateLine → ℕ → Layout → StationLine → Option ℕ → Result Layout BrokenRule
with_type_found crates k n plan s None = Err (unknown_type k n)
with_type_found crates k n plan s (Some t) =
    if is_some_and (uses_bit plan) s.gl then Err (bit_twice crates k n s.gl)
    else Ok (with_installed plan k.number s.n (record { type_no = t; gl = s.gl }))

-- the station that was read at the place n, put into its crate
abbrev pub with_station : Items → CrateLine → ℕ → Layout → StationLine → Result Layout BrokenRule
with_station crates k n plan s =
    if is_some (installed plan k.number s.n) then Err (station_twice k n s.n)
    else with_type_found crates k n plan s (type_named plan s.type_name)

-- one station after the other, the first at the place n
abbrev pub with_stations : Items → CrateLine → ℕ → Layout → Items → Result Layout BrokenRule
with_stations crates k n plan no_items = Ok plan
with_stations crates k n plan (item (table t) rest) =
    next (next (station_of (Station k.place n) t) (with_station crates k n plan)) (λ p. with_stations crates k (n + 1) p rest)
with_stations crates k n plan (item _ rest) = Err (no_tables (Crate k.place) key.Stations)

-- the crate has the number of the first table of it
abbrev pub crate_twice : Items → CrateLine → BrokenRule
crate_twice crates k = broken CrateTwice (case.Twice (Crate k.place) key.Number (Crate (unwrap_or (first_with key.Number k.number 0 crates) k.place)))

-- a crate that was read, put into the plan with its stations
abbrev pub with_crate_line : Items → Layout → CrateLine → Result Layout BrokenRule
with_crate_line crates plan k =
    if is_some (crate_at plan k.number) then Err (crate_twice crates k)
    else with_stations crates k 0 (with_crate plan k.number k.waits) k.stations

-- one crate after the other, the first at the place c
abbrev pub with_crates : Items → ℕ → Layout → Items → Result Layout BrokenRule
with_crates crates c plan no_items = Ok plan
with_crates crates c plan (item (table t) rest) = next (next (crate_of c t) (with_crate_line crates plan)) (λ p. with_crates crates (c + 1) p rest)
with_crates crates c plan (item _ rest) = Err (no_tables Top key.Crates)

abbrev pub station_view : code_station.StationLine → StationLine
station_view line = record { n = line.n; type_name = line.type_name.now; gl = line.gl }

abbrev pub crate_view : code.CrateLine → CrateLine
crate_view line = record { place = line.place; number = line.number; waits = line.waits; stations = items_or_none line.stations }
