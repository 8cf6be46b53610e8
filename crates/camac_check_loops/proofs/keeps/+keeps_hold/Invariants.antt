use Rattle.std.proofs.Common.{length}
use Rattle.camac_check_loops.proofs.keeps.+keeps_hold.Given as goal

abbrev pub decreases-keeps_hold : goal.decreases-keeps_hold
decreases-keeps_hold l = length l.keeps.now
