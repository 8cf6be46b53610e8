use Rattle.std.proofs.Common.{◌≡◌, false, drop}
use Rattle.camac_explain_plan.specs.Place.{from_word}
use Rattle.camac_explain_plan.proofs.place.word_begin.Given as goal

abbrev pub invariant-bytes : goal.invariant-bytes
invariant-bytes l = from_word l.in_comment (drop l.place l.text) ≡ from_word false l.text
