use Rattle.std.proofs.Common.{length}
use Rattle.camac_response.proofs.unkept.+tell_cleared.Given as goal

abbrev pub decreases-tell_cleared : goal.decreases-tell_cleared
decreases-tell_cleared l = length l.lines.now
