use Rattle.std.proofs.Common.{length}
use Rattle.camac_response.proofs.unkept.+is_kept_to.Given as goal

abbrev pub decreases-is_kept_to : goal.decreases-is_kept_to
decreases-is_kept_to l = length l.unkept.now
