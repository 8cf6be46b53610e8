use Rattle.std.proofs.Common.{length}
use Rattle.camac_check_costs.proofs.known.+registers_on.Given as goal

abbrev pub decreases-registers_on : goal.decreases-registers_on
decreases-registers_on l = length l.services.now
