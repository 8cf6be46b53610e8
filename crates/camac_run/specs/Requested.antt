-- The operation that a run wants next, before its answer is known.
use Rattle.std.specs.Prelude.{◌≡◌, false, List, [], ◌∷◌, IfSome, IsSome}
use Rattle.camac_lang.specs.Tree.{Script}
use Rattle.camac_branch.specs.Address.{address}
use Rattle.camac_branch.specs.Branch.{Answer}
use Rattle.camac_branch.specs.Crates.{branch_of}
use Rattle.camac_branch.specs.Plan.{Layout, crate_waits}
use Rattle.camac_model.specs.Behaviour.{Piece, pieces}
use Rattle.camac_model.specs.Headline.{Locked, locked_after, no_lock}
use Rattle.camac_model.specs.Run.{the_run}
use Rattle.camac_model.specs.Safe.{IsSafe}
use Rattle.camac_run.specs.Operation.{wanted_after}
use Rattle.camac_run.specs.Runner.{RunnerState}
use Rattle.camac_run.specs.declared.progress.Wanted.{Wanted}
use Rattle.camac_run.specs.declared.progress.Wanted.TheVariants.{Demand, Cycle, Lock}

-- Where these crates are locked, it may be made. A command is allowed at its address, moves data as its function code says, and a word that
-- goes out fits the register. A lock is of a crate of the plan which is not locked.
abbrev pub IsSafeRequest : Layout → Locked → Wanted → Type 0
IsSafeRequest plan held Demand = Unit {0}
IsSafeRequest plan held (Cycle k) = IsSafe plan (address k.c k.n k.a) k.f k.mv
IsSafeRequest plan held (Lock c) = IsSome (crate_waits plan c) × (held c ≡ false)

-- the crates that are locked as a runner holds the branch
abbrev pub held_in : RunnerState → Locked
held_in h c = (branch_of h.crates c).locked

-- the crates that are locked after these pieces of a run
abbrev pub locked_from : Locked → List Piece → Locked
locked_from held [] = held
locked_from held (p ∷ ps) = locked_from (locked_after held p) ps

-- after these answers
abbrev pub held_after : Layout → Script → List Answer → Locked
held_after plan script answers = locked_from no_lock (pieces (the_run plan script answers))

-- whatever was answered before, and whether or not an answer comes
abbrev pub RequestsAreSafe : Layout → Script → Type 0
RequestsAreSafe plan script =
    (answers : List Answer) → IfSome (wanted_after plan script answers) (IsSafeRequest plan (held_after plan script answers))
