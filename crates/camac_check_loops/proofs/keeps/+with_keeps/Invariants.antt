use Rattle.std.proofs.Common.{length}
use Rattle.camac_check_loops.proofs.keeps.+with_keeps.Given as goal

abbrev pub decreases-with_keeps : goal.decreases-with_keeps
decreases-with_keeps l = length l.keeps.now
