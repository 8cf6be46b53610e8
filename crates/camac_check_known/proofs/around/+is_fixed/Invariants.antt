use Rattle.std.proofs.Common.{length}
use Rattle.camac_check_known.proofs.around.+is_fixed.Given as goal

abbrev pub decreases-is_fixed : goal.decreases-is_fixed
decreases-is_fixed l = length l.list.now
