-- The tests for one more cycle give exactly the lists of the transfers.
use Rattle.std.specs.Prelude.{◌≡◌, ℕ, List, [], ◌++◌, ◌⊎◌, ◌↔◌, Some, None, IsSome, Bool}
use Rattle.camac_branch.specs.Address.{Address}
use Rattle.camac_esone.specs.Transfers.{NextAddress, q_stop_next, q_repeat_next, scan_next}
use Rattle.camac_esone.specs.Lists.{Cycle, replies, EachCycle, IsQStopList, IsQRepeatList, IsScanList, IsCut}

-- Each cycle is wanted after those before it, and goes where it is wanted.
abbrev pub IsDriven : NextAddress → List Cycle → Type 0
IsDriven next_address cycles = EachCycle (λ before c. next_address (replies before) ≡ Some c.at) cycles

-- and no further cycle is wanted
pub record IsDrivenToEnd (next_address : NextAddress) (cycles : List Cycle) : Type 0 where
  pub driven : IsDriven next_address cycles
  pub ended : next_address (replies cycles) ≡ None

-- and a further cycle is wanted
pub record IsDrivenSoFar (next_address : NextAddress) (cycles : List Cycle) : Type 0 where
  pub driven : IsDriven next_address cycles
  pub goes_on : IsSome (next_address (replies cycles))

-- Driven to the end means such a list; driven so far means a prefix of one.
pub record GivesExactly (next_address : NextAddress) (IsList : List Cycle → Type 0) : Type 0 where
  pub whole : (cycles : List Cycle) → IsList cycles ↔ IsDrivenToEnd next_address cycles
  pub cut : (cycles : List Cycle) → IsCut IsList cycles ↔ IsDrivenSoFar next_address cycles

abbrev pub StopTestGivesQStop : Type 0
StopTestGivesQStop = (at : Address) (max : ℕ) → GivesExactly (q_stop_next at max) (IsQStopList at max)

abbrev pub RepeatTestGivesQRepeat : Type 0
RepeatTestGivesQRepeat = (at : Address) (max limit : ℕ) → GivesExactly (q_repeat_next at max limit) (IsQRepeatList at max limit)

abbrev pub ScanTestGivesScan : Type 0
ScanTestGivesScan = (first last : Address) (max : ℕ) → GivesExactly (scan_next first last max) (IsScanList first last max)

-- the cycles on these replies, up to the end or as far as the replies go
pub record IsDrivenBy (next_address : NextAddress) (qs : List Bool) (cycles : List Cycle) : Type 0 where
  pub driven : IsDriven next_address cycles
  pub unused : List Bool
  pub used : replies cycles ++ unused ≡ qs
  pub stops : (next_address (replies cycles) ≡ None) ⊎ (unused ≡ [])

abbrev pub AnyRepliesDrive : Type 0
AnyRepliesDrive = (next_address : NextAddress) (qs : List Bool) → (cycles : List Cycle) × IsDrivenBy next_address qs cycles
