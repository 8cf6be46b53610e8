use Rattle.std.proofs.Common.{◌≡◌, map, drop}
use Rattle.camac_lang.specs.View.{lam_of}
use Rattle.camac_explain.specs.Sentence.{first_lam}
use Rattle.camac_explain.proofs.names.first_lam.Given as goal

abbrev pub invariant-lams : goal.invariant-lams
invariant-lams l = first_lam l.crate_no l.station (map lam_of (drop l.lam-index l.lams)) ≡ first_lam l.crate_no l.station (map lam_of l.lams)
