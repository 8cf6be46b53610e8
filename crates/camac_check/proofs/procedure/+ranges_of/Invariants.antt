use Rattle.std.proofs.Common.{length}
use Rattle.camac_check.proofs.procedure.+ranges_of.Given as goal

abbrev pub decreases-ranges_of : goal.decreases-ranges_of
decreases-ranges_of l = length l.arguments.now
