use Rattle.std.proofs.Common.{length}
use Rattle.camac_response.proofs.unkept.+tell_hidden.Given as goal

abbrev pub decreases-tell_hidden : goal.decreases-tell_hidden
decreases-tell_hidden l = length l.lines.now
