use Rattle.std.proofs.Common.{◌≡◌, drop, sym, subst, ◌∙◌, arith}
use Rattle.camac_model.specs.Meaning.{context}
use Rattle.camac_model.specs.Run.{with_bit}
use Rattle.camac_run.specs.Called.{chosen_of}
use Rattle.camac_run.proofs.Services.{with_bit_here, with_bit_next}
use Rattle.camac_run.proofs.service.with_bit.Goals as goal

pub returns-then-get-bit-clause-chosen : goal.returns-then-get-bit-clause-chosen
returns-then-get-bit-clause-chosen c =
    let k = c.args.checked.now in
    let b = c.gl-gl.result in
    let i = c.services.number in
    let same : b ≡ c.args.bit = sym c.get.ensures.value ∙ c.if-get-bit.true in
    let n = c.services-number-end.ensures.services in
    c.services.invariant
    ∙ subst (λ x. with_bit (context k.plan k.script) x i (drop i k.script.services) ≡ chosen_of k.script.services (record { number = i; gl = b })) same
    (with_bit_here k i b (omega arith) c.gl-gl.ensures)

pub services-preserved : goal.services-preserved
services-preserved c =
    let k = c.args.checked.now in
    let b = c.gl-gl.result in
    let i = c.services.number in
    let same = c.get.ensures.value in
    let n = c.services-number-end.ensures.services in
    c.services.invariant ∙ with_bit_next k i b c.args.bit (omega arith) c.gl-gl.ensures (λ e. c.if-get-bit.false (same ∙ e))
