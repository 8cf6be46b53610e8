use Rattle.std.proofs.Common.{◌≡◌, map, drop}
use Rattle.camac_explain_text_words.specs.Forms.{form_in, row_of}
use Rattle.camac_explain_text_words.proofs.forms.form_in.Given as goal

abbrev pub invariant-rows : goal.invariant-rows
invariant-rows l = form_in (map row_of (drop l.row-index l.rows)) l.word ≡ form_in (map row_of l.rows) l.word
