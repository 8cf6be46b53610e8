use Rattle.std.proofs.Common.{◌≡◌, map, take, drop, [], Some}
use Rattle.camac_lang.specs.View.{lam_of, service_of}
use Rattle.camac_names.specs.Link.{service_bit, services_fault}
use Rattle.camac_names.proofs.link.link_services.Given as goal

abbrev pub invariant-services : goal.invariant-services
invariant-services l =
    (services_fault l.plan (map lam_of l.lams) (map service_of (take l.i l.services)) (map service_of (drop l.i l.services))
    ≡ services_fault l.plan (map lam_of l.lams) [] (map service_of l.services))
    × (map (service_bit l.plan (map lam_of l.lams)) (map service_of (take l.i l.services)) ≡ map Some l.bits.items)
