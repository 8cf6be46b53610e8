use Rattle.camac_response.proofs.Told.{IsSoFar}
use Rattle.camac_response.proofs.of_checked.sources_of.Given as goal

abbrev pub invariant-services : goal.invariant-services
invariant-services l = IsSoFar l.checked l.every l.i l.sources.items
