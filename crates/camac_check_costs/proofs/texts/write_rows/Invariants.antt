use Rattle.std.proofs.Common.{◌≡◌, drop, map, option_map}
use Rattle.std.specs.List.{flat_map}
use Rattle.camac_lang.specs.View.{procedure_of}
use Rattle.camac_word.specs.Watched.{inner_of, has_failed}
use Rattle.camac_word.proofs.Prefixes.{IsUnderWay}
use Rattle.camac_check_costs.specs.Texts.{row_text}
use Rattle.camac_check_costs.proofs.texts.write_rows.Given as goal

abbrev pub invariant-rows : goal.invariant-rows
invariant-rows g l =
    IsUnderWay (flat_map (row_text (option_map (λ t. t.now) l.text) (map procedure_of l.procedures)) l.rows) (flat_map (row_text (option_map (λ t. t.now) l.text) (map procedure_of l.procedures)) (drop l.row-index l.rows))
    (g.W.Write.contents (inner_of l.fn.out)) (g.W.Write.contents (inner_of l.out))
    × (has_failed l.out ≡ has_failed l.fn.out)
