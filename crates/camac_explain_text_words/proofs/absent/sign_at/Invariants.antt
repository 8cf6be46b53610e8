use Rattle.std.proofs.Common.{◌≡◌, map, drop}
use Rattle.camac_explain_text_words.specs.Absent.{sign_at}
use Rattle.camac_explain_text_words.proofs.absent.sign_at.Given as goal

abbrev pub invariant-spellings : goal.invariant-spellings
invariant-spellings l = sign_at (map (λ s. s.now) (drop l.sign-index l.spellings)) l.size l.before l.rest ≡ sign_at (map (λ s. s.now) l.spellings) l.size l.before l.rest
