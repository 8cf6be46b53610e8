use Rattle.std.proofs.Common.{length}
use Rattle.camac_response_times.proofs.search.+is_overloaded.Given as goal

abbrev pub decreases-is_overloaded : goal.decreases-is_overloaded
decreases-is_overloaded l = length l.sources.now
