use Rattle.std.proofs.Common.{length}
use Rattle.camac_machine.proofs.condition.+holds.Given as goal

abbrev pub decreases-holds : goal.decreases-holds
decreases-holds l = length l.parts.now
