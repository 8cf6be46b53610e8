use Rattle.std.proofs.Common.{length}
use Rattle.camac_run.proofs.log.+add_unlocks.Given as goal

abbrev pub decreases-add_unlocks : goal.decreases-add_unlocks
decreases-add_unlocks l = length l.unlocks.now
