use Rattle.std.proofs.Common.{length}
use Rattle.camac_check_costs.proofs.turns.+block_on.Given as goal

abbrev pub decreases-block_on : goal.decreases-block_on
decreases-block_on l = length l.services.now
