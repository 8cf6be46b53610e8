use Rattle.camac_check_costs.proofs.PlaceLaws.{places_are_found}
use Rattle.camac_check_costs.proofs.laws.places_are_found.Goals as goal

pub returns : goal.returns
returns c = places_are_found
