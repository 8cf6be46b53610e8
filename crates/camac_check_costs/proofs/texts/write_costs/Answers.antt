use Rattle.std.proofs.Common.{◌∙◌, option_map, refl}
use Rattle.std.proofs.Math.Bool.{or-false}
use Rattle.camac_lines.proofs.Lines.{under_way_next, under_way_stops, Writes-at_err}
use Rattle.camac_lines.proofs.Texts.{flat_map-next, under_way_ends}
use Rattle.camac_check_costs.specs.Texts.{body_text}
use Rattle.camac_check_costs.proofs.Whole.{none_left}
use Rattle.camac_check_costs.proofs.texts.write_costs.Goals as goal

pub returns-in_err-write_body-clause-text : goal.returns-in_err-write_body-clause-text
returns-in_err-write_body-clause-text g c =
    let parts = flat_map-next (body_text (option_map (λ t. t.now) c.args.text) c.args.checked.now.plan c.args.checked.now.script) c.args.bodies.now c.bodies.body-index c.body-item.result _ c.bodies-test.true c.body-item.is refl in
    Writes-at_err c.from_residual.result _ _ _ c.from_residual.ensures.0
    (under_way_stops _ _ _ _ _ _ _ c.bodies.invariant.0 parts c.in_err-write_body.ensures.text)

pub bodies-preserved : goal.bodies-preserved
bodies-preserved g c =
    let parts = flat_map-next (body_text (option_map (λ t. t.now) c.args.text) c.args.checked.now.plan c.args.checked.now.script) c.args.bodies.now c.bodies.body-index c.body-item.result _ c.bodies-test.true c.body-item.is refl in (
      under_way_next _ _ _ _ _ _ _ c.bodies.invariant.0 parts c.in_ok-write_body.ensures.text,
      c.in_ok-write_body.ensures.failed ∙ or-false _ ∙ c.bodies.invariant.1,
    )

pub returns-clause-text : goal.returns-clause-text
returns-clause-text g c = under_way_ends _ _ _ _ c.bodies.invariant.0 (none_left (body_text (option_map (λ t. t.now) c.args.text) c.args.checked.now.plan c.args.checked.now.script) c.args.bodies.now c.bodies.body-index c.bodies-test.false)
