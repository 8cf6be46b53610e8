-- The commands that set inhibit and demand output of the crates back, as they were at the demand of the service in progress.
use Rattle.std.specs.Prelude.{◌≡◌, ◌≤◌, ℕ, zero, suc, List, [], ◌∷◌, ◌++◌, map, Option, Some, None, Bool, true, false, IsSome, is_some, if◌then◌else◌}
use Rattle.std.specs.List.{All}
use Rattle.camac_func.specs.declared.data.DataMove.TheVariants as moves
use Rattle.camac_lang.specs.declared.word.CrateCall.{CrateCall}
use Rattle.camac_lang.specs.declared.word.CrateCall.TheVariants.{InhibitOn, InhibitOff, DemandOn, DemandOff}
use Rattle.camac_crate.specs.State.{CrateBits}
use Rattle.camac_branch.specs.Branch.{Branch, branch_after}
use Rattle.camac_branch.specs.Crates.{branch_of}
use Rattle.camac_branch.specs.Plan.{Layout, crate_waits}
use Rattle.camac_branch.specs.declared.answer.Command.{Command}
use Rattle.camac_esone.specs.Calls.{crate_address, crate_function, command_at}
use Rattle.camac_machine.specs.Rest.{Operation, address_of}
use Rattle.camac_model.specs.Safe.{IsSafe}
use Rattle.camac_run.specs.Runner.{RunnerState}
use Rattle.camac_run.specs.declared.progress.Wanted.{Wanted}
use Rattle.camac_run.specs.declared.progress.Wanted.TheVariants.{Cycle}

-- what sets a bit, which is so now, as it was: nothing if it is the same
abbrev pub to_set : (now was : Bool) → (on off : CrateCall) → List CrateCall
to_set true true on off = []
to_set true false on off = off ∷ []
to_set false true on off = on ∷ []
to_set false false on off = []

-- of one crate inhibit first
abbrev pub calls_back : (now was : CrateBits) → List CrateCall
calls_back now was = to_set now.inhibit was.inhibit InhibitOn InhibitOff ++ to_set now.demand was.demand DemandOn DemandOff

abbrev pub call_in : ℕ → CrateCall → Command
call_in c call = command_at (crate_address call c) (crate_function call) moves.None

abbrev pub commands_in : (c : ℕ) → (now was : CrateBits) → List Command
commands_in c now was = map (call_in c) (calls_back now was)

abbrev pub back_at : Layout → (now was : Branch) → ℕ → List Command
back_at plan now was c = if is_some (crate_waits plan c) then commands_in c (now c).bits (was c).bits else []

-- of so many crates of the plan, from this one on
abbrev pub back_from : Layout → (now was : Branch) → (count first : ℕ) → List Command
back_from plan now was zero c = []
back_from plan now was (suc n) c = back_at plan now was c ++ back_from plan now was n (suc c)

abbrev pub commands_back : Layout → (now was : Branch) → List Command
commands_back plan now was = back_from plan now was 7 1

-- between services there is nothing to set back
abbrev pub back_if : Option Operation → RunnerState → List Command
back_if None h = []
back_if (Some w) h = commands_back h.checked.plan (branch_of h.crates) (branch_of h.at_demand)

abbrev pub back_in : RunnerState → List Wanted
back_in h = map Cycle (back_if h.pending h)

-- the branch after these commands
abbrev pub after_all : List Command → Branch → Branch
after_all [] b = b
after_all (k ∷ ks) b = after_all ks (branch_after (address_of k) k.f b)

-- After them each crate of the plan has inhibit and demand output as it was, and the lockout as it is. Each of them may be made.
abbrev pub SettingBackHolds : Type 0
SettingBackHolds =
    (plan : Layout) (now was : Branch)
    → ((c : ℕ) → 1 ≤ c → c ≤ 7 → IsSome (crate_waits plan c) → after_all (commands_back plan now was) now c ≡ record (now c) { bits = (was c).bits })
    × All (λ k. IsSafe plan (address_of k) k.f k.mv) (commands_back plan now was)
