use Rattle.std.proofs.Common.{length}
use Rattle.camac_check_loops.proofs.written.+fall_of.Given as goal

abbrev pub decreases-fall_of : goal.decreases-fall_of
decreases-fall_of l = length l.body.now
