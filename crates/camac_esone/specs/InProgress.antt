-- What each of the three transfers holds in progress, and what is left of it then.
use Rattle.std.specs.Prelude.{ℕ, List, Option}
use Rattle.camac_branch.specs.Address.{Address}
use Rattle.camac_esone.specs.Transfers.{q_stop_next, q_repeat_next, scan_next}
use Rattle.camac_esone.specs.Lists.{Cycle, IsQStopList, IsQRepeatList, IsScanList}
use Rattle.camac_esone.specs.Progress.{Left, StandsAt, LeadsOn}

-- Q-stop: how many further cycles there are at most, none after Q=0
pub record QStopState : Type 0 where
  pub at : Address
  pub cycles : ℕ
  pub tally : ℕ

-- Q-repeat: how many words are missing, and how many further cycles there are at most
pub record QRepeatState : Type 0 where
  pub at : Address
  pub words : ℕ
  pub cycles : ℕ
  pub tally : ℕ

-- Scan: the next address, the final one, and how many words are missing
pub record ScanState : Type 0 where
  pub at : Address
  pub last : Address
  pub words : ℕ
  pub tally : ℕ

abbrev pub q_stop_left : QStopState → Left
q_stop_left h = record { next_address = q_stop_next h.at h.cycles; tally = h.tally }

abbrev pub q_repeat_left : QRepeatState → Left
q_repeat_left h = record { next_address = q_repeat_next h.at h.words h.cycles; tally = h.tally }

abbrev pub scan_left : ScanState → Left
scan_left h = record { next_address = scan_next h.at h.last h.words; tally = h.tally }

-- At all cycles at which it stands, a transfer leads on along its lists.
abbrev pub LeadsAlongQStop : Left → Option Address → Type 0
LeadsAlongQStop left next =
    (at : Address) (max : ℕ) (cycles : List Cycle) → StandsAt (q_stop_next at max) left cycles → LeadsOn (IsQStopList at max) cycles next

abbrev pub LeadsAlongQRepeat : Left → Option Address → Type 0
LeadsAlongQRepeat left next =
    (at : Address) (max limit : ℕ) (cycles : List Cycle) → StandsAt (q_repeat_next at max limit) left cycles
    → LeadsOn (IsQRepeatList at max limit) cycles next

abbrev pub LeadsAlongScan : Left → Option Address → Type 0
LeadsAlongScan left next =
    (first last : Address) (max : ℕ) (cycles : List Cycle) → StandsAt (scan_next first last max) left cycles
    → LeadsOn (IsScanList first last max) cycles next
