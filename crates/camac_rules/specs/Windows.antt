-- The window of a scan: all stations and sub-addresses from a first to a final one, in this order.
use Rattle.std.specs.Prelude.{ℕ, ◌+◌, ◌-◌, ◌*◌, Bool, ◌&&◌, ◌||◌, nat_eq, nat_lt, min, is_some, if◌then◌else◌}
use Rattle.camac_range.specs.Interval.{Interval, interval}
use Rattle.camac_branch.specs.Plan.{Layout}
use Rattle.camac_rules.specs.declared.case.Case.{Case}
use Rattle.camac_rules.specs.Walks.{first_outside}
use Rattle.camac_rules.specs.Known.{Region}
use Rattle.camac_rules.specs.Addresses.{crate_end, station_end, sub_address_end, in_plan, is_station, all_in, station_widths, not_installed, undeclared_at}

pub record Window : Type 0 where
  pub crate_no : ℕ
  pub first_station : ℕ
  pub first_sub_address : ℕ
  pub last_station : ℕ
  pub last_sub_address : ℕ

-- the widest between the addresses of two registers
abbrev pub window_of : Region → Region → Window
window_of g h = record {
  crate_no = g.crates.lo;
  first_station = g.stations.lo;
  first_sub_address = g.sub_addresses.lo;
  last_station = h.stations.hi;
  last_sub_address = min h.sub_addresses.hi 15;
}

-- its stations, and its sub-addresses at one of them
abbrev pub stations_of : Window → Interval
stations_of w = interval w.first_station w.last_station

abbrev pub sub_addresses_at : Window → ℕ → Interval
sub_addresses_at w n = interval
    (if nat_eq n w.first_station then w.first_sub_address else 0)
    (if nat_eq n w.last_station then w.last_sub_address else 15)

-- it has no address
abbrev pub is_empty : Window → Bool
is_empty w =
    nat_lt w.last_station w.first_station
    || (nat_eq w.first_station w.last_station && nat_lt w.last_sub_address w.first_sub_address)

-- a test holds at each station at which it has a sub-address
abbrev pub holds_at : Window → (ℕ → Bool) → ℕ → Bool
holds_at w test n = nat_lt (sub_addresses_at w n).hi (sub_addresses_at w n).lo || test n

abbrev pub holds_over : Window → (ℕ → Bool) → Bool
holds_over w test = is_empty w || all_in station_end (stations_of w) (holds_at w test)

-- the first of its stations of which a test does not hold
abbrev pub first_over : Window → (ℕ → Bool) → ℕ
first_over w test = first_outside station_end (stations_of w) (holds_at w test)

abbrev pub is_installed_at : Layout → Window → ℕ → Bool
is_installed_at plan w n = nat_lt w.crate_no crate_end && (in_plan plan w.crate_no && is_station plan w.crate_no n)

abbrev pub is_installed : Layout → Window → Bool
is_installed plan w = holds_over w (is_installed_at plan w)

-- its first station that is not installed
abbrev pub missing_over : Layout → Window → Case
missing_over plan w = not_installed plan w.crate_no (first_over w (is_installed_at plan w))

abbrev pub is_declared_at : Layout → ℕ → Window → ℕ → Bool
is_declared_at plan f w n = is_some (station_widths plan f (sub_addresses_at w n) w.crate_no n)

-- the command is declared all over it
abbrev pub is_declared : Layout → ℕ → Window → Bool
is_declared plan f w = holds_over w (is_declared_at plan f w)

-- its first address that has not the command
abbrev pub undeclared_over : Layout → ℕ → Window → Case
undeclared_over plan f w =
    undeclared_at plan f (sub_addresses_at w (first_over w (is_declared_at plan f w))) w.crate_no (first_over w (is_declared_at plan f w))

-- how many addresses it has
abbrev pub window_size : Window → ℕ
window_size w =
    w.last_station * sub_address_end + w.last_sub_address + 1 - (w.first_station * sub_address_end + w.first_sub_address)

-- the most cycles of a scan of at most so many words: each Q=0 goes on to the next station
abbrev pub scan_cycles : Window → ℕ → ℕ
scan_cycles w most = if nat_eq most 0 then 0 else min (window_size w) (most + (w.last_station - w.first_station) + 1)

-- the most words that it keeps
abbrev pub scan_kept : Window → ℕ → ℕ
scan_kept w most = min most (window_size w)
