use Rattle.std.proofs.Common.{◌≡◌, map, drop}
use Rattle.camac_explain_text_words.specs.Absent.{is_spelled}
use Rattle.camac_explain_text_words.proofs.absent.is_spelled.Given as goal

abbrev pub invariant-spellings : goal.invariant-spellings
invariant-spellings l = is_spelled (map (λ s. s.now) (drop l.known-index l.spellings)) l.word ≡ is_spelled (map (λ s. s.now) l.spellings) l.word
