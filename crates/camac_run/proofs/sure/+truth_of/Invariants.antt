use Rattle.std.proofs.Common.{length}
use Rattle.camac_run.proofs.sure.+truth_of.Given as goal

abbrev pub decreases-truth_of : goal.decreases-truth_of
decreases-truth_of l = length l.parts.now
