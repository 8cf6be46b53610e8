-- How many cycles a transfer makes at most, and how many of them with Q=1.
use Rattle.std.specs.Prelude.{ℕ, ◌+◌, ◌-◌, ◌*◌, ◌≤◌, List, length, min}
use Rattle.camac_branch.specs.Address.{Address}
use Rattle.camac_esone.specs.Transfers.{tally, q_stop_next, q_repeat_next, scan_next}
use Rattle.camac_esone.specs.Lists.{Cycle, replies}
use Rattle.camac_esone.specs.Laws.{IsDriven}

-- at most so many cycles, and at most so many with Q=1
pub record IsUpTo (most words : ℕ) (cycles : List Cycle) : Type 0 where
  pub count : length cycles ≤ most
  pub tally : tally (replies cycles) ≤ words

-- the stations from the first to the last
abbrev pub stations : Address → Address → ℕ
stations first last = last.station + 1 - first.station

-- an address by its place, where each station has 16
abbrev pub place : Address → ℕ
place at = 16 * at.station + at.sub_address

-- the addresses from the first to the last, with sub-addresses up to 15
abbrev pub addresses : Address → Address → ℕ
addresses first last = 16 * last.station + min 15 last.sub_address + 1 - place first

unfoldable pub QStopIsBounded : Type 0
QStopIsBounded = (at : Address) (max : ℕ) (cycles : List Cycle) → IsDriven (q_stop_next at max) cycles → IsUpTo max max cycles

unfoldable pub QRepeatIsBounded : Type 0
QRepeatIsBounded =
    (at : Address) (max limit : ℕ) (cycles : List Cycle) → IsDriven (q_repeat_next at max limit) cycles → IsUpTo limit max cycles

-- A scan leaves a station at each Q=0.
unfoldable pub ScanIsBounded : Type 0
ScanIsBounded =
    (first last : Address) (max : ℕ) (cycles : List Cycle) → IsDriven (scan_next first last max) cycles → IsUpTo (max + stations first last) max cycles

-- It comes to no address twice.
unfoldable pub ScanIsWithinAddresses : Type 0
ScanIsWithinAddresses =
    (first last : Address) (max : ℕ) (cycles : List Cycle) → first.sub_address ≤ 15 → IsDriven (scan_next first last max) cycles → length cycles ≤ addresses first last
