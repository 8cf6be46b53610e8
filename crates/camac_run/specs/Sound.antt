-- What is true of every runner.
use Rattle.std.specs.Prelude.{◌≡◌, ℕ, ◌<◌, ◌≤◌, List, [], length, Bool, true, false, Option, Some, IfSome, IfNone, IsTrue, option_map}
use Rattle.std.specs.Borrow.{Bor}
use Rattle.camac_lang.specs.Scope.{is_well_formed}
use Rattle.camac_lang.specs.View.{statement_of}
use Rattle.camac_lang.specs.declared.tree.Stmt.{Stmt}
use Rattle.camac_branch.specs.Branch.{Answer}
use Rattle.camac_branch.specs.Crates.{Crates, branch_of}
use Rattle.camac_branch.specs.declared.answer.Overrun.{Overrun}
use Rattle.camac_rules.specs.Checked.{IsChecked}
use Rattle.camac_lang.specs.Fits.{fits}
use Rattle.camac_machine.specs.declared.machine.Machine.{Machine}
use Rattle.camac_machine.specs.declared.machine.Pending.{Pending}
use Rattle.camac_machine.specs.MachineState.{opens_in, pending_of, asked, stands, IsFineHere, HasRoom, IsPending, StandsIn}
use Rattle.camac_machine.specs.Store.{held_at}
use Rattle.camac_run.specs.Runner.{RunnerState}

module _ {V D C : ℕ} where
  abbrev pub runner_state : Machine V D C → Option Pending → ℕ → ℕ → Bool → Option Overrun → Crates → ℕ → RunnerState
  runner_state h pending fed events has_event overrun at_demand limit = record {
    checked = h.checked.now;
    service = h.service;
    blocks = opens_in h;
    pending = option_map pending_of pending;
    begun = option_map (λ (b : Bor Stmt). statement_of b.now) h.begun;
    crates = h.branch;
    variables = held_at h.scope.variables h.variables;
    registers = held_at h.scope.registers h.registers;
    q = h.q;
    x = h.x;
    words = h.words;
    steps = h.steps;
    cost = h.cost;
    missed = h.missed;
    fed = fed;
    events = events;
    has_event = has_event;
    overrun = overrun;
    at_demand = at_demand;
    limit = limit;
  }

  pub record IsSound (h : Machine V D C) (pending : Option Pending) (fed count : ℕ) (at_demand : Crates) : Type 0 where
    pub room : HasRoom h
    pub quiet : h.unlocks.items ≡ []
    pub checked : IsChecked h.checked.now
    pub formed : IsTrue (is_well_formed h.checked.now.script)
    pub fits : fits h.checked.now.script V D C ≡ true
    pub awaits : IfSome (asked pending) (IsPending h)
    pub begun : IfSome (asked pending) (StandsIn h)
    pub idle : IfNone pending (h.frames.items ≡ [])
    pub service : IfSome pending (λ w. h.service < length h.checked.now.script.services)
    pub fine : IfSome pending (λ w. (answers : List Answer) → IsFineHere h (stands (Some w) h answers))
    pub free : IfSome pending (λ w. (c : ℕ) → (branch_of at_demand c).locked ≡ false)
    pub events : count ≤ fed
    pub most : fed ≤ 4294967295
    -- the event of the service in progress is still to come
    pub under : IfSome pending (λ w. count < fed)
