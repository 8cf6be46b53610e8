use Rattle.std.proofs.Common.{◌≡◌, map, drop}
use Rattle.camac_explain_text_words.specs.Absent.{row_of, sign_in}
use Rattle.camac_explain_text_words.proofs.absent.sign_in.Given as goal

abbrev pub invariant-rows : goal.invariant-rows
invariant-rows l = sign_in (map row_of (drop l.row-index l.rows)) l.size l.before l.rest ≡ sign_in (map row_of l.rows) l.size l.before l.rest
