-- What is left of a transfer: its cycles, one after the other.
use Rattle.std.specs.Prelude.{◌≡◌, ℕ, ◌+◌, ◌*◌, ◌-◌, min, List, [], ◌∷◌, ◌++◌, Bool, true, false, Option, Some, None, IfNone, IfSome, is_some}
use Rattle.camac_func.specs.declared.data.DataMove.{DataMove}
use Rattle.camac_func.specs.declared.data.DataMove.TheVariants.{In}
use Rattle.camac_branch.specs.Address.{Address}
use Rattle.camac_branch.specs.Branch.{Answer}
use Rattle.camac_branch.specs.declared.answer.Command.{Command}
use Rattle.camac_esone.specs.Calls.{command_at}
use Rattle.camac_esone.specs.Progress.{Left}
use Rattle.camac_esone.specs.Transfers.{NextAddress, q_stop_next, q_repeat_next, scan_next}
use Rattle.camac_model.specs.Behaviour.{Behaviour, does, ends, stops, Piece, demanded, cycled, lock_taken, lock_released, event_left}
use Rattle.camac_model.specs.Transfer.{transfer_data}
use Rattle.camac_model.specs.Value.{greatest}
use Rattle.camac_machine.specs.Course.{left_at, words_from, words_sent}
use Rattle.camac_machine.specs.MachineState.{piece_of}
use Rattle.camac_machine.specs.Rest.{address_of, Operation, makes, reads, locks, transfers, pauses}
use Rattle.camac_machine.specs.declared.machine.Pending.{Pending}
use Rattle.camac_machine.specs.declared.machine.Pending.TheVariants as waits_for
use Rattle.camac_run.specs.Operation.{Begins, Waits, Wants, past_first}
use Rattle.camac_run.specs.Runner.{RunnerState, rest, Progresses}
use Rattle.camac_run.specs.declared.progress.Progress.{Progress}
use Rattle.camac_run.specs.declared.progress.Progress.TheVariants as progress
use Rattle.camac_run.specs.declared.progress.Wanted.TheVariants.{Cycle}
use Rattle.camac_run.specs.declared.transfer.ReadBlock.{ReadBlock}
use Rattle.camac_run.specs.declared.transfer.TransferLeft.{TransferLeft}
use Rattle.camac_run.specs.declared.transfer.TransferMode.{TransferMode}
use Rattle.camac_run.specs.declared.transfer.TransferMode.TheVariants.{QStop, QRepeat, Scan}

-- where the cycles go, from all Q from here on
abbrev pub next_by : TransferMode → (first last : Address) → (cycles words : ℕ) → NextAddress
next_by QStop first last cycles words = q_stop_next first cycles
next_by QRepeat first last cycles words = q_repeat_next first words cycles
next_by Scan first last cycles words = scan_next first last words

abbrev pub next_in : TransferLeft → NextAddress
next_in t = next_by t.mode (address_of t.first) t.last t.cycles t.words

-- a transfer that reads sends no table
abbrev pub left_by : ReadBlock → TransferLeft
left_by b = record { mode = b.mode; first = b.first; last = b.last; cycles = b.cycles; words = b.words; table = None }

-- a cycle at an address that moves this, if there are both
abbrev pub command_if : (function : ℕ) → Option Address → Option DataMove → Option Command
command_if f None moved = None
command_if f (Some at) None = None
command_if f (Some at) (Some moved) = Some (command_at at f moved)

-- the cycle that comes after these Q; none at the end
abbrev pub cycle_after : TransferLeft → List Bool → Option Command
cycle_after t qs = command_if t.first.f (next_in t qs) (transfer_data (words_sent t.table) qs)

-- the Q of a cycle that was made
abbrev pub q_of : Piece → Option Bool
q_of (demanded p v) = None
q_of (cycled at f d r w) = Some r.q
q_of (lock_taken c w) = None
q_of (lock_released c) = None
q_of (event_left e) = None

-- the Q of the first piece, if that is a cycle
abbrev pub first_q : {A : Type 0} → Behaviour A → Option Bool
first_q (does p b) = q_of p
first_q (ends x) = None
first_q (stops w s) = None

-- A run makes the cycles that come after these Q: by the answers that it gets it waits for one, and the next one, whatever it is, is used for the
-- next cycle. So it goes on with the Q of each that is made, up to the last; and what comes after that is so.
abbrev pub MakesThen : {A : Type 0} → ((List Answer → Behaviour A) → Type 0) → (List Bool → Option Command) → (qs : List Bool) → (used : List Answer) → (List Answer → Behaviour A) → Type 0
MakesThen IsSo cycle qs [] run =
    IfNone (cycle qs) (IsSo run)
    × IfSome (cycle qs) (λ k. Waits (run []) × ((a : Answer) (answers : List Answer) → Begins (Cycle k) a (run (a ∷ answers))))
MakesThen IsSo cycle qs (a ∷ used) run =
    IfSome (cycle qs)
    (λ k. (answers : List Answer) (q : Bool) → first_q (run (a ∷ answers)) ≡ Some q → MakesThen IsSo cycle (qs ++ q ∷ []) used (λ later. past_first (run (a ∷ later))))

-- a runner stands in a transfer, after these Q of it
abbrev pub StandsIn : TransferLeft → List Bool → RunnerState → Type 0
StandsIn t qs h = (used : List Answer) → MakesThen (λ run. Unit {0}) (cycle_after t) qs used (rest h)

-- how many addresses a scan has at most from the first to the last, 16 at each station
abbrev pub window : (first last : Address) → ℕ
window first last = min (16 * last.station + last.sub_address + 1 - (16 * first.station + first.sub_address)) greatest

abbrev pub most_cycles : TransferMode → TransferLeft → ℕ
most_cycles QStop t = t.words
most_cycles QRepeat t = t.cycles
most_cycles Scan t = window (address_of t.first) t.last

-- a transfer with this next cycle, and how many it makes at most
pub record IsBlock (t : TransferLeft) : Type 0 where
  pub first : cycle_after t [] ≡ Some t.first
  pub most : t.cycles ≡ most_cycles t.mode t

-- This is left of the transfer whose next cycle a runner wants.
pub record IsLeft (h : RunnerState) (t : TransferLeft) : Type 0 where
  pub block : IsBlock t
  pub stands : StandsIn t [] h

-- whether a service in progress waits for a cycle of a transfer
abbrev pub is_transfer : Option Operation → Bool
is_transfer None = false
is_transfer (Some (makes k)) = false
is_transfer (Some (reads k x bits)) = false
is_transfer (Some (locks k body)) = false
is_transfer (Some (transfers course f table x)) = true
is_transfer (Some pauses) = false

-- What is left of a transfer begins with the cycle that the run wants.
abbrev pub TransfersBegin : Type 0
TransfersBegin = (h : RunnerState) (t : TransferLeft) → h.overrun ≡ None → IsLeft h t → Wants h (Some (Cycle t.first))

-- After a wait that is not permitted the run stands where it was. After a cycle, as long as all Q so far want another one, it stands in the transfer,
-- and wants that cycle; no lockout was released, and no event left.
abbrev pub GoesOnIn : TransferLeft → (qs : List Bool) → Progress → RunnerState → Type 0
GoesOnIn t qs (progress.Overrun o) new = StandsIn t qs new
GoesOnIn t qs (progress.Went item unlocks event) new =
    (q : Bool) (k : Command) → q_of (piece_of item) ≡ Some q → cycle_after t (qs ++ q ∷ []) ≡ Some k
    → (unlocks.items ≡ []) × (event ≡ None) × StandsIn t (qs ++ q ∷ []) new × Wants new (Some (Cycle k))

abbrev pub TransfersGoOn : Type 0
TransfersGoOn =
    (old new : RunnerState) (t : TransferLeft) (qs : List Bool) (k : Command) (a : Answer) (progressed : Progress)
    → StandsIn t qs old → cycle_after t qs ≡ Some k → Progresses old a progressed new → GoesOnIn t qs progressed new

-- this is left of a transfer that is so far, with this next cycle and this table
pub record Leaves (left : Left) (first : Command) (table : Option (List ℕ)) (t : TransferLeft) : Type 0 where
  pub next : (qs : List Bool) → next_in t qs ≡ left.next_address qs
  pub first_is : t.first ≡ first
  pub sends : words_sent t.table ≡ words_from left.tally table
  pub most : t.cycles ≡ most_cycles t.mode t

-- this is a transfer that reads, before its first cycle
pub record IsBegun (mode : TransferMode) (first last : Address) (function cycles words : ℕ) (b : ReadBlock) : Type 0 where
  pub starts : is_some (next_by mode first last cycles words []) ≡ true
  pub is : b ≡ record { mode = mode; first = command_at first function In; last = last; cycles = cycles; words = words }

-- the transfer that is waited for has a next cycle, the one that is wanted
abbrev pub CanGoOn : Pending → Type 0
CanGoOn (waits_for.Transfer w) = (left_at w.course).next_address [] ≡ Some (address_of w.command)
CanGoOn p = Unit {0}

-- this is left of it
abbrev pub IsBlockOf : Pending → ReadBlock → Type 0
IsBlockOf (waits_for.Transfer w) b = Leaves (left_at w.course) w.command (words_sent w.table) (left_by b)
IsBlockOf p b = ⊥
