use Rattle.std.proofs.Common.{length}
use Rattle.camac_machine.proofs.arguments.+pass.Given as goal

abbrev pub decreases-pass : goal.decreases-pass
decreases-pass l = length l.arguments.now
