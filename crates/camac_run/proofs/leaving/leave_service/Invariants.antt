use Rattle.std.proofs.Common.{◌≡◌, ◌++◌, length}
use Rattle.camac_run.specs.Locks.{locks_in}
use Rattle.camac_machine.specs.MachineState.{opens_in, HasRoom}
use Rattle.camac_run.proofs.leaving.leave_service.Given as goal

-- what was told and what is still held are the locks that were held
abbrev pub invariant-loop-frame : goal.invariant-loop-frame
invariant-loop-frame g l = record {
  room : HasRoom l.machine;
  checked : l.machine.checked ≡ l.initial.machine.checked;
  told : l.machine.unlocks.items ++ locks_in (opens_in l.machine) ≡ locks_in (opens_in l.initial.machine);
}

abbrev pub decreases-loop-frame : goal.decreases-loop-frame
decreases-loop-frame g l = length l.machine.frames.items
