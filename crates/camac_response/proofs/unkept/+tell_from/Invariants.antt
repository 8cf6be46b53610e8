use Rattle.std.proofs.Common.{length}
use Rattle.camac_response.proofs.unkept.+tell_from.Given as goal

abbrev pub decreases-tell_from : goal.decreases-tell_from
decreases-tell_from l = length l.sources.now
