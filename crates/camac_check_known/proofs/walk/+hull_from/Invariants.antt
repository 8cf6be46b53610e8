use Rattle.std.proofs.Common.{◌-◌}
use Rattle.camac_check_known.proofs.walk.+hull_from.Given as goal

abbrev pub decreases-hull_from : goal.decreases-hull_from
decreases-hull_from g l = l.end - l.from
