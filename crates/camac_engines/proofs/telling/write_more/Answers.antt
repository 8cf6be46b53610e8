use Rattle.std.specs.Prelude.{Some}
use Rattle.camac_lines.proofs.Lines.{prefix_longer, Writes-at_err}
use Rattle.camac_lines.proofs.Texts.{Writes-after}
use Rattle.camac_check_costs.specs.Texts.{costs_text}
use Rattle.camac_response.specs.Lines.{unkept_text}
use Rattle.camac_engines.proofs.telling.write_more.Goals as goal

pub returns-in_err-write_costs-clause-text : goal.returns-in_err-write_costs-clause-text
returns-in_err-write_costs-clause-text g c =
    let its = c.args.checked.now in
    Writes-at_err c.from_residual.result _ _ _ c.from_residual.ensures.0
    (prefix_longer (costs_text (Some c.args.text.now) its.plan its.script c.args.bodies.now) (unkept_text its.script c.args.unkept.now) _ _ c.in_err-write_costs.ensures.text)

pub returns-clause-text : goal.returns-clause-text
returns-clause-text g c =
    let its = c.args.checked.now in
    Writes-after c.write_unkept.result (costs_text (Some c.args.text.now) its.plan its.script c.args.bodies.now) (unkept_text its.script c.args.unkept.now) _ _ _
    c.in_ok-write_costs.ensures.text c.write_unkept.ensures.text
