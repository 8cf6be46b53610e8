use Rattle.std.proofs.Common.{length}
use Rattle.camac_response.proofs.of_checked.+has_name.Given as goal

abbrev pub decreases-has_name : goal.decreases-has_name
decreases-has_name l = length l.services.now
