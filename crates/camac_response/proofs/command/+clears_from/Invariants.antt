use Rattle.std.proofs.Common.{◌-◌}
use Rattle.camac_response.proofs.command.+clears_from.Given as goal

abbrev pub decreases-clears_from : goal.decreases-clears_from
decreases-clears_from l = 16 - l.a
