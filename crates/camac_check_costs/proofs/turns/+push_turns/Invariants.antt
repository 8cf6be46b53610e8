use Rattle.std.proofs.Common.{length}
use Rattle.camac_check_costs.proofs.turns.+push_turns.Given as goal

abbrev pub decreases-push_turns : goal.decreases-push_turns
decreases-push_turns l = length l.loops.now
