use Rattle.std.proofs.Common.{◌∙◌, refl}
use Rattle.std.proofs.Math.Bool.{or-false}
use Rattle.camac_lines.proofs.Lines.{under_way_next, under_way_stops, Writes-at_err}
use Rattle.camac_lines.proofs.Texts.{texts-next, texts-none, under_way_ends}
use Rattle.camac_response.specs.Lines.{bit_text}
use Rattle.camac_response.proofs.lines.write_services.Goals as goal

pub returns-in_err-write_text-clause-text : goal.returns-in_err-write_text-clause-text
returns-in_err-write_text-clause-text g c =
    let parts = texts-next (bit_text c.args.checked.now.script c.args.within.now c.args.unkept.now c.args.twice.now c.args.responses.now) c.bits.bit 25 c.bits.bit c.bits-test.true refl in
    Writes-at_err c.from_residual.result _ _ _ c.from_residual.ensures.0
    (under_way_stops _ _ _ _ _ _ _ c.bits.invariant.0 parts (rw (c.as_bytes.ensures ∙ c.line_of_bit-line.ensures) at c.in_err-write_text.ensures.text))

pub bits-preserved : goal.bits-preserved
bits-preserved g c =
    let parts = texts-next (bit_text c.args.checked.now.script c.args.within.now c.args.unkept.now c.args.twice.now c.args.responses.now) c.bits.bit 25 c.bits.bit c.bits-test.true refl in
    (under_way_next _ _ _ _ _ _ _ c.bits.invariant.0 parts (rw (c.as_bytes.ensures ∙ c.line_of_bit-line.ensures) at c.in_ok-write_text.ensures.text), c.in_ok-write_text.ensures.failed ∙ or-false _ ∙ c.bits.invariant.1)

pub returns-clause-text : goal.returns-clause-text
returns-clause-text g c = under_way_ends _ _ _ _ c.bits.invariant.0 (texts-none (bit_text c.args.checked.now.script c.args.within.now c.args.unkept.now c.args.twice.now c.args.responses.now) c.bits.bit 25 c.bits-test.false)
