use Rattle.std.proofs.Common.{◌-◌}
use Rattle.camac_response.proofs.command.+spares_from.Given as goal

abbrev pub decreases-spares_from : goal.decreases-spares_from
decreases-spares_from l = 16 - l.a
