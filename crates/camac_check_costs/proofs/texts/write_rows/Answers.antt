use Rattle.std.proofs.Common.{◌∙◌, refl, map, option_map}
use Rattle.std.proofs.Math.Bool.{or-false}
use Rattle.camac_lang.specs.View.{procedure_of}
use Rattle.camac_lines.proofs.Lines.{under_way_next, under_way_stops, Writes-at_err}
use Rattle.camac_lines.proofs.Texts.{flat_map-next, under_way_ends}
use Rattle.camac_check_costs.specs.Texts.{row_text}
use Rattle.camac_check_costs.proofs.Whole.{none_left}
use Rattle.camac_check_costs.proofs.texts.write_rows.Goals as goal

pub returns-in_err-write_row-clause-text : goal.returns-in_err-write_row-clause-text
returns-in_err-write_row-clause-text g c =
    let parts = flat_map-next (row_text (option_map (λ t. t.now) c.args.text) (map procedure_of c.args.procedures.now)) c.args.rows.now c.rows.row-index c.row-item.result _ c.rows-test.true c.row-item.is refl in
    Writes-at_err c.from_residual.result _ _ _ c.from_residual.ensures.0
    (under_way_stops _ _ _ _ _ _ _ c.rows.invariant.0 parts c.in_err-write_row.ensures.text)

pub rows-preserved : goal.rows-preserved
rows-preserved g c =
    let parts = flat_map-next (row_text (option_map (λ t. t.now) c.args.text) (map procedure_of c.args.procedures.now)) c.args.rows.now c.rows.row-index c.row-item.result _ c.rows-test.true c.row-item.is refl in (
      under_way_next _ _ _ _ _ _ _ c.rows.invariant.0 parts c.in_ok-write_row.ensures.text,
      c.in_ok-write_row.ensures.failed ∙ or-false _ ∙ c.rows.invariant.1,
    )

pub returns-clause-text : goal.returns-clause-text
returns-clause-text g c = under_way_ends _ _ _ _ c.rows.invariant.0 (none_left (row_text (option_map (λ t. t.now) c.args.text) (map procedure_of c.args.procedures.now)) c.args.rows.now c.rows.row-index c.rows-test.false)
