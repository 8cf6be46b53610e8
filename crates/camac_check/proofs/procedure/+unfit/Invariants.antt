use Rattle.std.proofs.Common.{length}
use Rattle.camac_check.proofs.procedure.+unfit.Given as goal

abbrev pub decreases-unfit : goal.decreases-unfit
decreases-unfit l = length l.ranges.now
