use Rattle.std.proofs.Common.{◌++◌}
use Rattle.std.proofs.KnownBytes.{Appends-trans}
use Rattle.camac_lines.proofs.Lines.{prefix_longer, Writes-at_err}
use Rattle.camac_lines.proofs.Texts.{prefix_after, Writes-after}
use Rattle.camac_lines.proofs.plan.write_around.Goals as goal

pub returns-in_err-write_text-clause-text : goal.returns-in_err-write_text-clause-text
returns-in_err-write_text-clause-text g c =
    Writes-at_err c.from_residual.result _ _ _ c.from_residual.ensures.0
    (prefix_longer (c.args.start.now ++ c.args.name.now) c.args.end.now _ _ (prefix_longer c.args.start.now c.args.name.now _ _ (rw c.as_bytes.ensures at c.in_err-write_text.ensures.text)))

pub returns-in_err-write_text-2-clause-text : goal.returns-in_err-write_text-2-clause-text
returns-in_err-write_text-2-clause-text g c =
    Writes-at_err c.from_residual-in_err-write_text-2.result _ _ _ c.from_residual-in_err-write_text-2.ensures.0
    (prefix_longer (c.args.start.now ++ c.args.name.now) c.args.end.now _ _ (prefix_after c.args.start.now c.args.name.now _ _ _ (rw c.as_bytes.ensures at c.in_ok-write_text.ensures.text) c.in_err-write_text-2.ensures.text))

pub returns-clause-text : goal.returns-clause-text
returns-clause-text g c =
    Writes-after c.write_text-3.result (c.args.start.now ++ c.args.name.now) c.args.end.now _ _ _
    (Appends-trans _ _ _ c.args.start.now c.args.name.now (rw c.as_bytes.ensures at c.in_ok-write_text.ensures.text) c.in_ok-write_text-2.ensures.text)
    (rw c.as_bytes-2.ensures at c.write_text-3.ensures.text)
