use Rattle.camac_check_costs.proofs.PlacesReached.{places_are_reached}
use Rattle.camac_check_costs.proofs.laws.places_are_reached.Goals as goal

pub returns : goal.returns
returns c = places_are_reached
