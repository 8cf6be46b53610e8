use Rattle.std.proofs.Common.{◌≡◌, drop, map}
use Rattle.camac_lang.specs.View.{item_of, procedure_of, service_of}
use Rattle.camac_word.specs.Watched.{inner_of, has_failed}
use Rattle.camac_word.proofs.Prefixes.{IsUnderWay}
use Rattle.camac_lines.specs.Headings.{headings_of, headings_text}
use Rattle.camac_lines.proofs.headings.write_headings.Given as goal

abbrev pub invariant-items : goal.invariant-items
invariant-items g l =
    IsUnderWay (headings_text l.script)
    (headings_of l.script.lams (map item_of (drop l.item-index l.item-items)) (map procedure_of l.procedures) (map service_of l.services))
    (g.W.Write.contents (inner_of l.fn.out)) (g.W.Write.contents (inner_of l.out))
    × (has_failed l.out ≡ has_failed l.fn.out)
