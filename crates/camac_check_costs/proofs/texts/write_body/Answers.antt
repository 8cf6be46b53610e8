use Rattle.std.proofs.Common.{◌∙◌, ap, option_map}
use Rattle.std.specs.List.{flat_map}
use Rattle.camac_lines.proofs.Lines.{prefix_longer, Writes-at_err}
use Rattle.camac_lines.proofs.Texts.{Writes-after}
use Rattle.camac_check_costs.specs.Texts.{head_text, row_text}
use Rattle.camac_check_costs.proofs.texts.write_body.Goals as goal

pub returns-in_err-write_text-clause-text : goal.returns-in_err-write_text-clause-text
returns-in_err-write_text-clause-text g c =
    let text = option_map (λ t. t.now) c.args.text in
    let plan = c.args.checked.now.plan in
    let s = c.args.checked.now.script in
    let b = c.args.body.now in
    let head = c.as_bytes.ensures ∙ c.line_of_body-head.ensures ∙ ap (λ o. head_text plan s o c.costs.result) c.owner.ensures ∙ ap (head_text plan s b.owner) c.costs.ensures in
    Writes-at_err c.from_residual.result _ _ _ c.from_residual.ensures.0
    (prefix_longer (head_text plan s b.owner b.costs) (flat_map (row_text text s.procedures) b.rows) _ _ (rw head at c.in_err-write_text.ensures.text))

pub returns-clause-text : goal.returns-clause-text
returns-clause-text g c =
    let text = option_map (λ t. t.now) c.args.text in
    let plan = c.args.checked.now.plan in
    let s = c.args.checked.now.script in
    let b = c.args.body.now in
    let head = c.as_bytes.ensures ∙ c.line_of_body-head.ensures ∙ ap (λ o. head_text plan s o c.costs.result) c.owner.ensures ∙ ap (head_text plan s b.owner) c.costs.ensures in
    let rows = ap (λ ps. flat_map (row_text text ps) c.rows.result.now) (c.procedures.ensures ∙ ap (λ x. x.procedures) c.script.ensures) ∙ ap (flat_map (row_text text s.procedures)) c.rows.ensures in
    Writes-after c.write_rows.result (head_text plan s b.owner b.costs) (flat_map (row_text text s.procedures) b.rows) _ _ _
    (rw head at c.in_ok-write_text.ensures.text)
    (rw rows at c.write_rows.ensures.text)
