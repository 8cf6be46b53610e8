-- What a runner holds, and what it has left to run.
use Rattle.std.specs.Prelude.{◌≡◌, ℕ, ◌+◌, ◌<◌, ◌≤◌, List, [], ◌∷◌, Option, Some, None, Bool, true, false, IfSome, IfNone, if◌then◌else◌}
use Rattle.camac_branch.specs.Address.{Address}
use Rattle.camac_branch.specs.Branch.{Answer}
use Rattle.camac_branch.specs.Crates.{Crates, branch_of}
use Rattle.camac_branch.specs.declared.answer.Overrun.{Overrun}
use Rattle.camac_rules.specs.Checked.{CheckedScript}
use Rattle.camac_lang.specs.Tree.{Statement}
use Rattle.camac_model.specs.State.{State}
use Rattle.camac_model.specs.Value.{greatest}
use Rattle.camac_model.specs.Behaviour.{Behaviour, does, ends, stops, event_left, overrun as overruns, then_do}
use Rattle.camac_machine.specs.declared.item.Item.{Item}
use Rattle.camac_run.specs.declared.progress.Progress.{Progress}
use Rattle.camac_run.specs.declared.progress.Progress.TheVariants as progress
use Rattle.camac_machine.specs.MachineState.{Left, bit_at, bounds_at, context_in, piece_of}
use Rattle.camac_machine.specs.Rest.{Operation, is_paused, awaited, Open, rest_in, says, onward, served}
use Rattle.camac_machine.specs.Store.{variables_in, registers_in}

pub record RunnerState : Type 0 where
  pub checked : CheckedScript
  -- the number of the service in progress, or of the last one
  pub service : ℕ
  -- what is left of its open blocks, and what it wants an answer for, where it is in progress
  pub blocks : List Open
  pub pending : Option Operation
  -- the statement that was begun last
  pub begun : Option Statement
  pub crates : Crates
  -- of the innermost body
  pub variables : List ℕ
  pub registers : List (Option Address)
  pub q : Bool
  pub x : Bool
  pub words : List ℕ
  pub steps : ℕ
  pub cost : ℕ
  pub missed : ℕ
  -- how many answers were used, and how many events left
  pub fed : ℕ
  pub events : ℕ
  -- whether the last answer left one
  pub has_event : Bool
  -- the wait that was not permitted
  pub overrun : Option Overrun
  -- the crates as they were at the demand that called the service in progress
  pub at_demand : Crates
  -- how many steps it makes at once, before it may pause
  pub limit : ℕ

abbrev pub state_in : RunnerState → List Answer → State
state_in h answers = record {
  branch = branch_of h.crates;
  variables = variables_in h.variables;
  registers = registers_in h.registers;
  q = h.q;
  x = h.x;
  words = h.words;
  steps = h.steps;
  cost = h.cost;
  missed = h.missed;
  answers = answers;
}

-- the run from what a runner holds
abbrev pub rest_from : Option Operation → RunnerState → List Answer → Behaviour (Unit {0})
rest_from None h answers = onward (context_in h.checked) h.checked.script.services (branch_of h.crates) answers
rest_from (Some w) h answers =
    served (context_in h.checked) h.checked.script.services (bit_at h.checked h.service)
    (then_do (awaited (context_in h.checked) w (state_in h answers)) (rest_in (context_in h.checked) h.blocks))

abbrev pub rest : RunnerState → List Answer → Behaviour (Unit {0})
rest h answers = rest_from h.pending h answers

-- the words of the event that the last answer left, if it left one
abbrev pub last_words_in : RunnerState → List ℕ
last_words_in h = if h.has_event then h.words else []

-- the event of the service in progress, or of the last one, under this number
abbrev pub event_in : RunnerState → ℕ → Left
event_in h n = (n, bit_at h.checked h.service, record { cycles = h.cost; missed = h.missed })

-- an event, where one was left, and then the rest
abbrev pub with_event : Option Left → List ℕ → Behaviour (Unit {0}) → Behaviour (Unit {0})
with_event None words b = b
with_event (Some e) words b =
    does (event_left (record { bit = e.1; cycles = e.2.cycles; missed = e.2.missed; words = words })) b

-- the crates at the demand that calls a service: now, or before the service in progress
abbrev pub demanded_at : Option Operation → RunnerState → Crates
demanded_at None h = h.crates
demanded_at (Some w) h = h.at_demand

-- the answer was used for this item, and then these locks were released; an event is left where a service ended
pub record GoesOn (old : RunnerState) (answer : Answer) (item : Item) (unlocks : List ℕ) (event : Option Left) (new : RunnerState) : Type 0 where
  pub first : old.overrun ≡ None
  pub goes :
      (answers : List Answer)
      → rest old (answer ∷ answers) ≡ does (piece_of item) (says unlocks (with_event event (last_words_in new) (rest new answers)))
  pub fed : new.fed ≡ old.fed + 1
  pub same : IfNone event (new.events ≡ old.events)
  pub next : IfSome event (λ e. (e.0 ≡ old.events + 1) × (new.events ≡ e.0) × (e.2.missed ≤ e.2.cycles))
  pub none : IfNone event (last_words_in new ≡ [])
  pub ended : IfSome event (λ e. new.pending ≡ None)
  pub overrun : new.overrun ≡ None
  pub checked : new.checked ≡ old.checked
  pub at_demand : IfSome new.pending (λ w. new.at_demand ≡ demanded_at old.pending old)

-- the answer's wait is not permitted, or an earlier one was not; nothing else changes
pub record Stops (old : RunnerState) (answer : Answer) (o : Overrun) (new : RunnerState) : Type 0 where
  pub now :
      IfNone old.overrun
      ((answers : List Answer)
      → rest old (answer ∷ answers) ≡ stops (overruns o.c o.wait) (state_in old (answer ∷ answers)))
  pub again : IfSome old.overrun (λ earlier. o ≡ earlier)
  pub same : new ≡ record old { overrun = Some o }

-- after a pause these locks were released, and a service may have ended
pub record Resumes (old : RunnerState) (unlocks : List ℕ) (event : Option Left) (new : RunnerState) : Type 0 where
  pub goes : (answers : List Answer) → rest old answers ≡ says unlocks (with_event event (last_words_in new) (rest new answers))
  pub fed : new.fed ≡ old.fed
  pub same : IfNone event (new.events ≡ old.events)
  pub next : IfSome event (λ e. (e.0 ≡ old.events + 1) × (new.events ≡ e.0) × (e.2.missed ≤ e.2.cycles))
  pub none : IfNone event (last_words_in new ≡ [])
  pub overrun : new.overrun ≡ old.overrun
  pub checked : new.checked ≡ old.checked
  pub at_demand : IfSome new.pending (λ w. new.at_demand ≡ old.at_demand)

-- the steps that the service in progress has made; one that is yet to be called has made none
abbrev pub steps_before : Option Operation → RunnerState → ℕ
steps_before None h = 0
steps_before (Some w) h = h.steps

-- those of a service that has just ended, too
abbrev pub steps_made : Option Operation → RunnerState → ℕ
steps_made None h = if h.has_event then h.steps else 0
steps_made (Some w) h = h.steps

-- The limit stays, and a service pauses only after more steps than that: after three more at most, since a statement of the transfers and the move
-- after it are not parted. These are some of the steps of its bounds: with a limit from them on it never pauses.
pub record KeepsLimit (old new : RunnerState) : Type 0 where
  pub limit : new.limit ≡ old.limit
  pub late : is_paused new.pending ≡ true → steps_before old.pending old + old.limit < new.steps
  pub soon : IfNone old.overrun (steps_made new.pending new ≤ steps_before old.pending old + old.limit + 3)
  pub within : is_paused new.pending ≡ true → new.steps ≤ (bounds_at new.checked new.service).steps
  pub least : is_paused new.pending ≡ true → (bounds_at new.checked new.service).steps ≤ greatest

-- it has no limit, and does not pause
pub record NeverPauses (h : RunnerState) : Type 0 where
  pub limit : h.limit ≡ greatest
  pub awake : is_paused h.pending ≡ false

abbrev pub Progresses : RunnerState → Answer → Progress → RunnerState → Type 0
Progresses old answer (progress.Went item unlocks event) new = GoesOn old answer item unlocks.items event new
Progresses old answer (progress.Overrun o) new = Stops old answer o new

-- the steps, and the words, of the service that a run stops in
abbrev pub steps_of : Behaviour (Unit {0}) → ℕ
steps_of (does p b) = steps_of b
steps_of (ends u) = 0
steps_of (stops w s) = s.steps

abbrev pub words_of : Behaviour (Unit {0}) → List ℕ
words_of (does p b) = words_of b
words_of (ends u) = []
words_of (stops w s) = s.words
