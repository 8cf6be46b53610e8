use Rattle.std.proofs.Common.{length}
use Rattle.camac_check_known.proofs.around.+is_locked.Given as goal

abbrev pub decreases-is_locked : goal.decreases-is_locked
decreases-is_locked l = length l.list.now
