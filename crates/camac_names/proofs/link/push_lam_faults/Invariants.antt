use Rattle.std.proofs.Common.{◌≡◌, ◌++◌, map, drop}
use Rattle.camac_lang.specs.View.{lam_of}
use Rattle.camac_names.specs.Link.{lams_faults}
use Rattle.camac_names.proofs.link.push_lam_faults.Given as goal

abbrev pub invariant-lams : goal.invariant-lams
invariant-lams l =
    l.faults.items ++ lams_faults l.plan (map lam_of (drop l.lam-index l.lams))
    ≡ l.fn.faults.items ++ lams_faults l.plan (map lam_of l.lams)
