use Rattle.std.proofs.Common.{◌∙◌, ◌++◌, ap}
use Rattle.std.proofs.KnownBytes.{Appends-trans}
use Rattle.camac_lang.specs.View.{procedure_of}
use Rattle.camac_lines.specs.Headings.{parameters_text, procedure_end, procedure_start}
use Rattle.camac_lines.proofs.Lines.{prefix_longer, Writes-at_err}
use Rattle.camac_lines.proofs.Texts.{prefix_after, Writes-after}
use Rattle.camac_lines.proofs.headings.write_procedure.Goals as goal

pub returns-in_err-write_text-clause-text : goal.returns-in_err-write_text-clause-text
returns-in_err-write_text-clause-text g c =
    let p = procedure_of c.args.procedure.now in
    let parameters = parameters_text p.parameters in
    let start = c.as_bytes-2.ensures ∙ c.start_of_procedure.ensures ∙ ap procedure_start c.as_bytes.ensures.value in
    Writes-at_err c.from_residual.result _ _ _ c.from_residual.ensures.0
    (prefix_longer (procedure_start p.name ++ parameters) (procedure_end p.cycles p.words p.steps) _ _ (prefix_longer (procedure_start p.name) parameters _ _ (rw start at c.in_err-write_text.ensures.text)))

pub returns-in_err-write_parameters-clause-text : goal.returns-in_err-write_parameters-clause-text
returns-in_err-write_parameters-clause-text g c =
    let p = procedure_of c.args.procedure.now in
    let parameters = parameters_text p.parameters in
    let start = c.as_bytes-2.ensures ∙ c.start_of_procedure.ensures ∙ ap procedure_start c.as_bytes.ensures.value in
    Writes-at_err c.from_residual-in_err-write_parameters.result _ _ _ c.from_residual-in_err-write_parameters.ensures.0
    (prefix_longer (procedure_start p.name ++ parameters) (procedure_end p.cycles p.words p.steps) _ _ (prefix_after (procedure_start p.name) parameters _ _ _ (rw start at c.in_ok-write_text.ensures.text) (rw c.deref.ensures.value at c.in_err-write_parameters.ensures.text)))

pub returns-clause-text : goal.returns-clause-text
returns-clause-text g c =
    let p = procedure_of c.args.procedure.now in
    let parameters = parameters_text p.parameters in
    let start = c.as_bytes-2.ensures ∙ c.start_of_procedure.ensures ∙ ap procedure_start c.as_bytes.ensures.value in
    Writes-after c.write_text-2.result (procedure_start p.name ++ parameters) (procedure_end p.cycles p.words p.steps) _ _ _
    (Appends-trans _ _ _ (procedure_start p.name) parameters (rw start at c.in_ok-write_text.ensures.text) (rw c.deref.ensures.value at c.in_ok-write_parameters.ensures.text))
    (rw (c.as_bytes-3.ensures ∙ c.end_of_procedure.ensures) at c.write_text-2.ensures.text)
