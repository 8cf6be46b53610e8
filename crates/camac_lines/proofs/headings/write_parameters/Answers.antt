use Rattle.std.proofs.Common.{◌∙◌, arith}
use Rattle.std.proofs.Math.Bool.{or-false}
use Rattle.camac_lines.proofs.Lines.{parameters_next, parameters_none, under_way_next, under_way_stops, Writes-at_err}
use Rattle.camac_lines.proofs.Texts.{under_way_ends}
use Rattle.camac_lines.proofs.headings.write_parameters.Goals as goal

pub returns-in_err-write_text-clause-text : goal.returns-in_err-write_text-clause-text
returns-in_err-write_text-clause-text g c =
    let parts = parameters_next c.parameters.between.now c.args.parameters.now c.parameters.parameter-index c.parameter-item.result c.line_of_parameter.result c.parameters-test.true c.parameter-item.is c.line_of_parameter.ensures in
    Writes-at_err c.from_residual.result _ _ _ c.from_residual.ensures.0
    (under_way_stops _ _ _ _ _ _ _ c.parameters.invariant.0 parts (rw c.as_bytes.ensures at c.in_err-write_text.ensures.text))

pub parameters-preserved : goal.parameters-preserved
parameters-preserved g c =
    let parts = parameters_next c.parameters.between.now c.args.parameters.now c.parameters.parameter-index c.parameter-item.result c.line_of_parameter.result c.parameters-test.true c.parameter-item.is c.line_of_parameter.ensures in (
      under_way_next _ _ _ _ _ _ _ c.parameters.invariant.0 parts (rw c.as_bytes.ensures at c.in_ok-write_text.ensures.text),
      c.in_ok-write_text.ensures.failed ∙ or-false _ ∙ c.parameters.invariant.1,
      omega arith,
    )

pub returns-clause-text : goal.returns-clause-text
returns-clause-text g c = under_way_ends _ _ _ _ c.parameters.invariant.0 (parameters_none c.parameters.between.now c.args.parameters.now c.parameters.parameter-index c.parameters-test.false)
