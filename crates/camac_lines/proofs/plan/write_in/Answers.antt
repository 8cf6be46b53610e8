use Rattle.std.proofs.Common.{◌∙◌, ◌++◌, length, ap}
use Rattle.std.proofs.KnownBytes.{Appends-trans}
use Rattle.camac_lines.specs.Plan.{buffer_line, type_in, crate_text}
use Rattle.camac_lines.specs.Texts.{texts}
use Rattle.camac_lines.proofs.Lines.{prefix_longer, Writes-at_err}
use Rattle.camac_lines.proofs.Texts.{prefix_after, Writes-after}
use Rattle.camac_lines.proofs.plan.write_in.Goals as goal

pub returns-in_err-write_text-clause-text : goal.returns-in_err-write_text-clause-text
returns-in_err-write_text-clause-text g c =
    let plan = c.args.plan.now in
    let buffer = c.as_bytes.ensures ∙ c.line_of_buffer.ensures ∙ ap buffer_line c.buffer.ensures.value in
    let types = texts (type_in c.args.detail plan) 0 (length plan.types) in
    Writes-at_err c.from_residual.result _ _ _ c.from_residual.ensures.0
    (prefix_longer (buffer_line plan.buffer ++ types) (texts (crate_text plan) 1 7) _ _ (prefix_longer (buffer_line plan.buffer) types _ _ (rw buffer at c.in_err-write_text.ensures.text)))

pub returns-in_err-write_types-clause-text : goal.returns-in_err-write_types-clause-text
returns-in_err-write_types-clause-text g c =
    let plan = c.args.plan.now in
    let buffer = c.as_bytes.ensures ∙ c.line_of_buffer.ensures ∙ ap buffer_line c.buffer.ensures.value in
    let types = texts (type_in c.args.detail plan) 0 (length plan.types) in
    Writes-at_err c.from_residual-in_err-write_types.result _ _ _ c.from_residual-in_err-write_types.ensures.0
    (prefix_longer (buffer_line plan.buffer ++ types) (texts (crate_text plan) 1 7) _ _ (prefix_after (buffer_line plan.buffer) types _ _ _ (rw buffer at c.in_ok-write_text.ensures.text) c.in_err-write_types.ensures.text))

pub returns-clause-text : goal.returns-clause-text
returns-clause-text g c =
    let plan = c.args.plan.now in
    let buffer = c.as_bytes.ensures ∙ c.line_of_buffer.ensures ∙ ap buffer_line c.buffer.ensures.value in
    let types = texts (type_in c.args.detail plan) 0 (length plan.types) in
    Writes-after c.write_crates.result (buffer_line plan.buffer ++ types) (texts (crate_text plan) 1 7) _ _ _
    (Appends-trans _ _ _ (buffer_line plan.buffer) types (rw buffer at c.in_ok-write_text.ensures.text) c.in_ok-write_types.ensures.text) c.write_crates.ensures.text
