use Rattle.std.proofs.Common.{◌≡◌, map, drop}
use Rattle.camac_lang.specs.View.{lam_of}
use Rattle.camac_names.specs.Link.{lams_fault}
use Rattle.camac_names.proofs.link.link_lams.Given as goal

abbrev pub invariant-lams : goal.invariant-lams
invariant-lams l =
    lams_fault l.plan (map lam_of (drop l.lam-index l.lams)) ≡ lams_fault l.plan (map lam_of l.lams)
