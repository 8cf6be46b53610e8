use Rattle.std.proofs.Common.{length}
use Rattle.camac_check_costs.proofs.known.+push_variables.Given as goal

abbrev pub decreases-push_variables : goal.decreases-push_variables
decreases-push_variables l = length l.names.now
