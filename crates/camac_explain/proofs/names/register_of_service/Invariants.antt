use Rattle.std.proofs.Common.{◌≡◌, map, drop}
use Rattle.camac_lang.specs.View.{service_of}
use Rattle.camac_explain.specs.Sentence.{register_in_service}
use Rattle.camac_explain.proofs.names.register_of_service.Given as goal

abbrev pub invariant-services : goal.invariant-services
invariant-services l = register_in_service l.lam l.number (map service_of (drop l.service-index l.services)) ≡ register_in_service l.lam l.number (map service_of l.services)
