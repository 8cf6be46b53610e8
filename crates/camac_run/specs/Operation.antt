-- What a run wants its next answer for.
use Rattle.std.specs.Prelude.{◌≡◌, ℕ, ◌<◌, List, [], ◌∷◌, ◌++◌, length, Option, Some, None, IsSome, false, option_and_then, slice_get, true, ◌⊎◌}
use Rattle.camac_lang.specs.Tree.{Script}
use Rattle.camac_branch.specs.Branch.{Answer}
use Rattle.camac_branch.specs.Plan.{Layout}
use Rattle.camac_model.specs.Behaviour.{Behaviour, does, ends, stops, Piece, pieces, demanded, cycled, lock_taken, lock_released, event_left, Stop, short, overrun}
use Rattle.camac_model.specs.Run.{the_run}
use Rattle.camac_run.specs.Runner.{RunnerState, rest}
use Rattle.camac_run.specs.declared.progress.Wanted.{Wanted}
use Rattle.camac_run.specs.declared.progress.Wanted.TheVariants.{Demand, Cycle, Lock}
use Rattle.camac_machine.specs.Rest.{is_paused}
use Rattle.camac_machine.specs.declared.machine.Pending.{Pending}
use Rattle.camac_machine.specs.declared.machine.Pending.TheVariants as waits_for

-- the operation that a piece is; a release and an event are none
abbrev pub operation_of : Piece → Option Wanted
operation_of (demanded p v) = Some Demand
operation_of (cycled at f d r w) = Some (Cycle (record { c = at.crate_no; n = at.station; a = at.sub_address; f = f; mv = d }))
operation_of (lock_taken c w) = Some (Lock c)
operation_of (lock_released c) = None
operation_of (event_left e) = None

-- an answer of zeros: no demand, and no wait, which is always permitted
abbrev pub quiet_answer : Answer
quiet_answer = record { x = false; q = false; word = 0; wait = 0; gl = 0 }

-- The operation that a run wants after these answers: what it does first with one answer more, whatever that is. There is none after a
-- wait that was not permitted.
abbrev pub wanted_after : Layout → Script → List Answer → Option Wanted
wanted_after plan script answers =
    option_and_then operation_of
    (slice_get (pieces (the_run plan script (answers ++ quiet_answer ∷ []))) (length (pieces (the_run plan script answers))))

-- the crate in which its answer's wait has to be permitted
abbrev pub crate_of : Wanted → Option ℕ
crate_of Demand = None
crate_of (Cycle k) = Some k.c
crate_of (Lock c) = Some c

-- the wait of this answer stops the operation; no wait never does
abbrev pub StopsAt : Wanted → Answer → Stop → Type 0
StopsAt o a (overrun c w) = (crate_of o ≡ Some c) × (w ≡ a.wait) × (0 < a.wait)
StopsAt o a _ = ⊥

-- with this answer the operation is made, or stopped by its wait
abbrev pub Begins : {A : Type 0} → Wanted → Answer → Behaviour A → Type 0
Begins o a (does p b) = operation_of p ≡ Some o
Begins o a (ends x) = ⊥
Begins o a (stops w s) = StopsAt o a w

-- for want of an answer nothing more is done
abbrev pub Waits : {A : Type 0} → Behaviour A → Type 0
Waits (ends x) = Unit {0}
Waits (stops short s) = Unit {0}
Waits _ = ⊥

-- what comes after its first piece
abbrev pub past_first : {A : Type 0} → Behaviour A → Behaviour A
past_first (does p b) = b
past_first (ends x) = ends x
past_first (stops w s) = stops w s

-- Whatever the next answer is, and those after it, it is used for this operation, and nothing is done without one. A run wants none after
-- a wait that was not permitted, and none while it pauses.
abbrev pub Wants : RunnerState → Option Wanted → Type 0
Wants h (Some o) = (h.overrun ≡ None) × Waits (rest h []) × ((a : Answer) (answers : List Answer) → Begins o a (rest h (a ∷ answers)))
Wants h None = IsSome h.overrun ⊎ (is_paused h.pending ≡ true)

-- it wants one for some operation
abbrev pub IsWaiting : RunnerState → Type 0
IsWaiting h = (o : Wanted) × Wants h (Some o)

-- the operation that a service in progress waits for; none where it pauses
abbrev pub operation : Pending → Option Wanted
operation (waits_for.Cycle k) = Some (Cycle k)
operation (waits_for.Read k x bits) = Some (Cycle k)
operation (waits_for.Lock c body) = Some (Lock c)
operation (waits_for.Transfer w) = Some (Cycle w.command)
operation waits_for.Pause = None
