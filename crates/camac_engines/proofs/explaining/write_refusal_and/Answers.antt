use Rattle.camac_lines.specs.Refusal.{refusal_text}
use Rattle.camac_lines.proofs.Lines.{prefix_longer, Writes-at_err}
use Rattle.camac_lines.proofs.Texts.{Writes-after}
use Rattle.camac_engines.proofs.explaining.write_refusal_and.Goals as goal

pub returns-in_err-write_refusal-clause-text : goal.returns-in_err-write_refusal-clause-text
returns-in_err-write_refusal-clause-text g c =
    Writes-at_err c.from_residual.result _ _ _ c.from_residual.ensures.0
    (prefix_longer (refusal_text c.args.refusal) c.args.more.now _ _ c.in_err-write_refusal.ensures.text)

pub returns-clause-text : goal.returns-clause-text
returns-clause-text g c =
    Writes-after c.write_text.result (refusal_text c.args.refusal) c.args.more.now _ _ _ c.in_ok-write_refusal.ensures.text c.write_text.ensures.text
