use Rattle.std.proofs.Common.{◌≡◌, ◌++◌, map, take, drop, []}
use Rattle.camac_lang.specs.View.{lam_of, service_of}
use Rattle.camac_names.specs.Link.{services_faults}
use Rattle.camac_names.proofs.link.push_service_faults.Given as goal

abbrev pub invariant-services : goal.invariant-services
invariant-services l =
    l.faults.items ++ services_faults l.plan (map lam_of l.lams) (map service_of (take l.i l.services)) (map service_of (drop l.i l.services))
    ≡ l.fn.faults.items ++ services_faults l.plan (map lam_of l.lams) [] (map service_of l.services)
