use Rattle.std.proofs.Common.{◌≤◌, ◌+◌, ◌-◌, ◌*◌, length}
use Rattle.camac_machine.specs.MachineState.{bounds_of}
use Rattle.camac_machine.proofs.Settled.{StaysAs}
use Rattle.camac_machine.proofs.machine.Machine.settle_within.Given as goal

-- what is left to run stays the same
abbrev pub invariant-loop-pending : goal.invariant-loop-pending
invariant-loop-pending g l = record { stays : StaysAs l.initial.self l.self; soon : l.self.steps ≤ l.initial.self.steps + l.initial.most + 2 }

-- a block more costs a step, and the steps are bounded
abbrev pub decreases-loop-pending : goal.decreases-loop-pending
decreases-loop-pending g l = 2 * ((bounds_of l.self).steps - l.self.steps) + length l.self.frames.items
