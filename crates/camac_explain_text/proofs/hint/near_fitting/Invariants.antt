use Rattle.std.proofs.Common.{◌≡◌, drop}
use Rattle.camac_explain_text.specs.Meant.{near_fitting}
use Rattle.camac_explain_text_place.specs.Place.{place_of}
use Rattle.camac_explain_text.proofs.hint.near_fitting.Given as goal

abbrev pub invariant-words : goal.invariant-words
invariant-words l = near_fitting (place_of l.found) (drop l.word-index l.words) ≡ near_fitting (place_of l.found) l.words
