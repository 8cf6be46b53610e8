use Rattle.std.proofs.Common.{◌+◌, ◌*◌, length}
use Rattle.camac_check_known.proofs.condition.+split.Given as goal

abbrev pub decreases-split : goal.decreases-split
decreases-split l = 2 * length l.parts.now

abbrev pub decreases-split_reached : goal.decreases-split_reached
decreases-split_reached l = 2 * length l.parts.now + 1
