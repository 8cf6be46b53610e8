use Rattle.std.proofs.Common.{◌≡◌, ◌++◌, drop, length, string_bytes}
use Rattle.camac_explain_text_place.specs.Expected.{items_from}
use Rattle.camac_explain_text_place.proofs.expected.list_text.Given as goal

abbrev pub invariant-items : goal.invariant-items
invariant-items l = string_bytes l.text ++ items_from l.place (length l.expected) (drop l.place l.expected) ≡ items_from 0 (length l.expected) l.expected
