use Rattle.std.proofs.Common.{◌≡◌, false, drop}
use Rattle.camac_explain_text_place.specs.Place.{ends_in_blanks}
use Rattle.camac_explain_text_place.proofs.found.ends_in_blanks.Given as goal

abbrev pub invariant-bytes : goal.invariant-bytes
invariant-bytes l = ends_in_blanks l.is_blank_line (drop l.byte-index l.text) ≡ ends_in_blanks false l.text
