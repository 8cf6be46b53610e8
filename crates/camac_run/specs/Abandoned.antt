-- A service that is left before its end.
use Rattle.std.specs.Prelude.{◌≡◌, ℕ, List, [], Option, Some, None}
use Rattle.camac_branch.specs.Branch.{Answer}
use Rattle.camac_branch.specs.Crates.{branch_of}
use Rattle.camac_branch.specs.Plan.{Layout}
use Rattle.camac_lang.specs.Tree.{Script}
use Rattle.camac_model.specs.Behaviour.{Piece}
use Rattle.camac_run.specs.Holds.{HoldsAfter}
use Rattle.camac_run.specs.Runner.{RunnerState, rest, last_words_in}
use Rattle.camac_run.specs.Locks.{locks_in}
use Rattle.camac_machine.specs.MachineState.{context_in}
use Rattle.camac_machine.specs.Rest.{Operation, onward}

-- The run goes on as from the demand that called the service in progress: the crates are as they were there, and it leaves no event. The
-- locks that it held are to be released. Answers that were used stay so, and events count on. So it does after a wait that was not permitted.
pub record Leaves (old : RunnerState) (unlocks : List ℕ) (new : RunnerState) : Type 0 where
  pub goes :
      (answers : List Answer)
      → rest new answers ≡ onward (context_in old.checked) old.checked.script.services (branch_of old.at_demand) answers
  pub idle : new.pending ≡ None
  pub crates : new.crates ≡ old.at_demand
  pub released : unlocks ≡ locks_in old.blocks
  pub quiet : last_words_in new ≡ []
  pub fed : new.fed ≡ old.fed
  pub events : new.events ≡ old.events
  pub overrun : new.overrun ≡ None
  pub checked : new.checked ≡ old.checked
  pub limit : new.limit ≡ old.limit

-- where a service is in progress; else nothing changes
abbrev pub LeavesIf : Option Operation → RunnerState → List ℕ → RunnerState → Type 0
LeavesIf (Some w) old unlocks new = Leaves old unlocks new
LeavesIf None old unlocks new = (unlocks ≡ []) × (new ≡ old)

abbrev pub Abandons : RunnerState → List ℕ → RunnerState → Type 0
Abandons old unlocks new = LeavesIf old.pending old unlocks new

-- What was told up to a demand is what is told of a run without the service that was left: from there it goes on as if the demand and all
-- answers since had not been.
abbrev pub AbandoningHolds : Type 0
AbandoningHolds =
    (plan : Layout) (script : Script) (answers : List Answer) (told : List Piece) (at old new : RunnerState) (unlocks : List ℕ)
    → HoldsAfter plan script answers told at → at.pending ≡ None → old.checked ≡ at.checked → old.at_demand ≡ at.crates
    → Leaves old unlocks new → HoldsAfter plan script answers told new
