use Rattle.std.proofs.Common.{◌≡◌, drop}
use Rattle.camac_explain_text.specs.Meant.{near_among}
use Rattle.camac_explain_text.proofs.hint.near_among.Given as goal

abbrev pub invariant-words : goal.invariant-words
invariant-words l = near_among l.name (drop l.word-index l.words) ≡ near_among l.name l.words
