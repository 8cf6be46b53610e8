use Rattle.std.proofs.Common.{◌+◌, ◌-◌, ◌*◌, length}
use Rattle.camac_machine.specs.MachineState.{bounds_of}
use Rattle.camac_machine.proofs.Settled.{StaysAs}
use Rattle.camac_machine.proofs.machine.Machine.settle_at_once.Given as goal

-- what is left to run stays the same
abbrev pub invariant-loop-self : goal.invariant-loop-self
invariant-loop-self g l = StaysAs l.initial.self l.self

-- a block more costs a step, and the steps are bounded
abbrev pub decreases-loop-self : goal.decreases-loop-self
decreases-loop-self g l = 2 * ((bounds_of l.self).steps - l.self.steps) + length l.self.frames.items
