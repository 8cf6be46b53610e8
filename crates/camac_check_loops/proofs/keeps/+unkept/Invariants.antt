use Rattle.std.proofs.Common.{length}
use Rattle.camac_check_loops.proofs.keeps.+unkept.Given as goal

abbrev pub decreases-unkept : goal.decreases-unkept
decreases-unkept l = length l.keeps.now
