-- The waits that the next answer may have.
use Rattle.std.specs.Prelude.{◌≡◌, ◌≤◌, ℕ, List, ◌∷◌, Bool, true, false, None, nat_le, if◌then◌else◌, unwrap_or}
use Rattle.camac_branch.specs.Branch.{Answer}
use Rattle.camac_branch.specs.Plan.{crate_waits}
use Rattle.camac_model.specs.Behaviour.{Behaviour, does, ends, stops}
use Rattle.camac_run.specs.Requested.{held_in}
use Rattle.camac_run.specs.Runner.{RunnerState, rest, Progresses}
use Rattle.camac_run.specs.declared.progress.Progress.{Progress}
use Rattle.camac_run.specs.declared.progress.Progress.TheVariants.{Went, Overrun}
use Rattle.camac_run.specs.declared.progress.Wanted.{Wanted}
use Rattle.camac_run.specs.declared.progress.Wanted.TheVariants.{Demand, Cycle, Lock}

-- the longest wait that is permitted in a crate: none where auxiliary controllers are locked out of it
abbrev pub waits_in : RunnerState → (crate_no : ℕ) → ℕ
waits_in h c = if held_in h c then 0 else unwrap_or (crate_waits h.checked.plan c) 0

-- before an operation, as the crates are; that of a demand does not count, and none is longer than 15
abbrev pub waits_of : RunnerState → Wanted → ℕ
waits_of h Demand = 15
waits_of h (Cycle k) = waits_in h k.c
waits_of h (Lock c) = waits_in h c

-- its first operation is made
abbrev pub is_made : {A : Type 0} → Behaviour A → Bool
is_made (does p b) = true
is_made (ends x) = false
is_made (stops w s) = false

-- The run goes on with the next answer exactly if its wait is not longer than this.
abbrev pub GoesOnUpTo : RunnerState → (longest : ℕ) → Type 0
GoesOnUpTo h longest = (a : Answer) (answers : List Answer) → a.wait ≤ 15 → is_made (rest h (a ∷ answers)) ≡ nat_le a.wait longest

-- it is used, unlike one whose wait is not permitted
abbrev pub is_used : Progress → Bool
is_used (Went item unlocks event) = true
is_used (Overrun o) = false

-- So an answer is used exactly if its wait is not longer than the longest one before the operation.
abbrev pub WaitsDecide : Type 0
WaitsDecide =
    (old new : RunnerState) (o : Wanted) (a : Answer) (progressed : Progress)
    → old.overrun ≡ None → GoesOnUpTo old (waits_of old o) → a.wait ≤ 15 → Progresses old a progressed new → is_used progressed ≡ nat_le a.wait (waits_of old o)
