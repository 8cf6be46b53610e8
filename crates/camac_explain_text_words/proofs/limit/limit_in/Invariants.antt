use Rattle.std.proofs.Common.{◌≡◌, map, drop}
use Rattle.camac_explain_text_words.specs.Forms.{limit_in, limit_of}
use Rattle.camac_explain_text_words.proofs.limit.limit_in.Given as goal

abbrev pub invariant-rows : goal.invariant-rows
invariant-rows l = limit_in l.token l.limit (map limit_of (drop l.row-index l.rows)) ≡ limit_in l.token l.limit (map limit_of l.rows)
