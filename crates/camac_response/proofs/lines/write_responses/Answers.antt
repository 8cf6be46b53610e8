use Rattle.std.proofs.Common.{◌∙◌, ap}
use Rattle.std.specs.Prelude.{◌||◌, is_err}
use Rattle.std.proofs.Math.Bool.{or-false}
use Rattle.std.specs.List.{flat_map}
use Rattle.camac_lines.specs.Texts.{texts}
use Rattle.camac_lines.proofs.Lines.{prefix_longer, Writes-at_err}
use Rattle.camac_lines.proofs.Texts.{Writes-after}
use Rattle.camac_response.specs.Lines.{bit_text, unkept_line}
use Rattle.camac_response.proofs.lines.write_responses.Goals as goal

pub returns-in_err-write_services-clause-text : goal.returns-in_err-write_services-clause-text
returns-in_err-write_services-clause-text g c =
    Writes-at_err c.from_residual.result _ _ _ c.from_residual.ensures.0
    (prefix_longer (texts (bit_text c.args.checked.now.script c.args.within.now c.args.unkept.now c.args.twice.now c.args.responses.now) 1 24) (flat_map (unkept_line c.args.checked.now.script) c.args.unkept.now) _ _ c.in_err-write_services.ensures.text)

pub returns-clause-text : goal.returns-clause-text
returns-clause-text g c =
    Writes-after c.write_unkept.result (texts (bit_text c.args.checked.now.script c.args.within.now c.args.unkept.now c.args.twice.now c.args.responses.now) 1 24) (flat_map (unkept_line c.args.checked.now.script) c.args.unkept.now) _ _ _
    c.in_ok-write_services.ensures.text c.write_unkept.ensures.text

pub returns-clause-failed : goal.returns-clause-failed
returns-clause-failed g c = c.write_unkept.ensures.failed ∙ ap (λ b. b || is_err c.write_unkept.result) (c.in_ok-write_services.ensures.failed ∙ or-false _)
