use Rattle.std.proofs.Common.{length}
use Rattle.camac_check.proofs.refused.+push_refusals.Given as goal

abbrev pub decreases-push_refusals : goal.decreases-push_refusals
decreases-push_refusals l = length l.items.now
