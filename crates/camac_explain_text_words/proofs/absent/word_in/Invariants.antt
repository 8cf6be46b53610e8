use Rattle.std.proofs.Common.{◌≡◌, map, drop}
use Rattle.camac_explain_text_words.specs.Absent.{row_of, word_in}
use Rattle.camac_explain_text_words.proofs.absent.word_in.Given as goal

abbrev pub invariant-rows : goal.invariant-rows
invariant-rows l = word_in (map row_of (drop l.row-index l.rows)) l.word ≡ word_in (map row_of l.rows) l.word
