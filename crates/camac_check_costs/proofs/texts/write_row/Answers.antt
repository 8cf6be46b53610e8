use Rattle.std.proofs.Common.{◌∙◌, map, option_map}
use Rattle.camac_lang.specs.View.{procedure_of}
use Rattle.camac_lines.proofs.Lines.{prefix_longer, Writes-at_err}
use Rattle.camac_lines.proofs.Texts.{Writes-after}
use Rattle.camac_check_costs.specs.Texts.{row_end, row_start}
use Rattle.camac_check_costs.proofs.texts.write_row.Goals as goal

pub returns-in_err-write_text-clause-text : goal.returns-in_err-write_text-clause-text
returns-in_err-write_text-clause-text g c =
    let r = c.args.row.now in
    Writes-at_err c.from_residual.result _ _ _ c.from_residual.ensures.0
    (prefix_longer (row_start (option_map (λ t. t.now) c.args.text) r) (row_end (map procedure_of c.args.procedures.now) r) _ _
    (rw (c.as_bytes.ensures ∙ c.start_row.ensures) at c.in_err-write_text.ensures.text))

pub returns-clause-text : goal.returns-clause-text
returns-clause-text g c =
    let r = c.args.row.now in
    Writes-after c.write_text-2.result (row_start (option_map (λ t. t.now) c.args.text) r) (row_end (map procedure_of c.args.procedures.now) r) _ _ _
    (rw (c.as_bytes.ensures ∙ c.start_row.ensures) at c.in_ok-write_text.ensures.text)
    (rw (c.as_bytes-2.ensures ∙ c.end_row.ensures) at c.write_text-2.ensures.text)
