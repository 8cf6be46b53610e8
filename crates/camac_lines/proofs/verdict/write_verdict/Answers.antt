use Rattle.std.proofs.Common.{codes, ◌∙◌, arith}
use Rattle.camac_lines.proofs.Lines.{prefix_longer, under_way_next, under_way_stops, service_texts-next, Writes-at_err}
use Rattle.std.proofs.Math.Bool.{or-false}
use Rattle.camac_lines.proofs.verdict.write_verdict.Goals as goal

pub returns-in_err-write_text-clause-text : goal.returns-in_err-write_text-clause-text
returns-in_err-write_text-clause-text g c = Writes-at_err c.from_residual.result _ _ _ c.from_residual.ensures.0 (prefix_longer (codes "accepted\n") _ _ _ c.in_err-write_text.ensures.text)

pub returns-in_err-write_text-2-clause-text : goal.returns-in_err-write_text-2-clause-text
returns-in_err-write_text-2-clause-text g c =
    let script = c.args.checked.now.script in
    let parts = service_texts-next c.args.checked.now.plan script.lams script.services c.args.checked.now.bounds c.services.i c.line_of_service.result (omega arith) (omega arith) c.line_of_service.ensures in
    Writes-at_err c.from_residual-in_err-write_text-2.result _ _ _ c.from_residual-in_err-write_text-2.ensures.0
    (under_way_stops _ _ _ _ _ _ _ c.services.invariant.0 parts (rw c.as_bytes.ensures at c.in_err-write_text-2.ensures.text))

pub services-preserved : goal.services-preserved
services-preserved g c =
    let script = c.args.checked.now.script in
    let parts = service_texts-next c.args.checked.now.plan script.lams script.services c.args.checked.now.bounds c.services.i c.line_of_service.result (omega arith) (omega arith) c.line_of_service.ensures in
    (under_way_next _ _ _ _ _ _ _ c.services.invariant.0 parts (rw c.as_bytes.ensures at c.in_ok-write_text-2.ensures.text), c.in_ok-write_text-2.ensures.failed ∙ or-false _ ∙ c.services.invariant.1)
