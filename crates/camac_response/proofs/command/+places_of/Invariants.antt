use Rattle.std.proofs.Common.{◌-◌}
use Rattle.camac_response.proofs.command.+places_of.Given as goal

abbrev pub decreases-places_of : goal.decreases-places_of
decreases-places_of l = 16 - l.a
