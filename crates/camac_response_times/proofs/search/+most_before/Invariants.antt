use Rattle.std.proofs.Common.{length}
use Rattle.camac_response_times.proofs.search.+most_before.Given as goal

abbrev pub decreases-most_before : goal.decreases-most_before
decreases-most_before l = length l.sources.now
