use Rattle.std.proofs.Common.{◌≡◌, map, drop}
use Rattle.camac_lang.specs.View.{lam_of, service_of}
use Rattle.camac_names.specs.Link.{is_served, first_spot}
use Rattle.camac_names.proofs.link.first_spot.Given as goal

abbrev pub invariant-services : goal.invariant-services
invariant-services l =
    (first_spot (map lam_of l.lams) (lam_of l.lam) (map service_of (drop l.service-index l.services))
    ≡ first_spot (map lam_of l.lams) (lam_of l.lam) (map service_of l.services))
    × (is_served (map lam_of l.lams) (lam_of l.lam) (map service_of (drop l.service-index l.services))
    ≡ is_served (map lam_of l.lams) (lam_of l.lam) (map service_of l.services))
