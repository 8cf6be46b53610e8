use Rattle.std.proofs.Common.{◌≡◌, map, drop}
use Rattle.camac_lang.specs.View.{lam_of, service_of}
use Rattle.camac_explain.specs.Sentence.{first_served}
use Rattle.camac_explain.proofs.names.first_served.Given as goal

abbrev pub invariant-services : goal.invariant-services
invariant-services l = first_served l.crate_no l.station (map lam_of l.lams) (map service_of (drop l.service-index l.services)) ≡ first_served l.crate_no l.station (map lam_of l.lams) (map service_of l.services)
