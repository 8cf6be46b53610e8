use Rattle.std.proofs.Common.{◌++◌}
use Rattle.std.specs.Prelude.{Some}
use Rattle.camac_lines.specs.Verdict.{verdict_text}
use Rattle.camac_lines.proofs.Lines.{prefix_longer, Writes-at_err}
use Rattle.camac_lines.proofs.Texts.{Writes-after}
use Rattle.camac_check_costs.specs.Texts.{costs_text}
use Rattle.camac_response.specs.Lines.{unkept_text}
use Rattle.camac_engines.proofs.telling.write_bounds.Goals as goal

pub returns-in_err-write_verdict-clause-text : goal.returns-in_err-write_verdict-clause-text
returns-in_err-write_verdict-clause-text g c =
    let its = c.args.checked.now in
    Writes-at_err c.from_residual.result _ _ _ c.from_residual.ensures.0
    (prefix_longer (verdict_text its.plan its.script its.bounds) (costs_text (Some c.args.text.now) its.plan its.script c.args.bodies.now ++ unkept_text its.script c.args.unkept.now) _ _ c.in_err-write_verdict.ensures.text)

pub returns-clause-text : goal.returns-clause-text
returns-clause-text g c =
    let its = c.args.checked.now in
    Writes-after c.write_more.result (verdict_text its.plan its.script its.bounds) (costs_text (Some c.args.text.now) its.plan its.script c.args.bodies.now ++ unkept_text its.script c.args.unkept.now) _ _ _
    c.in_ok-write_verdict.ensures.text c.write_more.ensures.text
