use Rattle.std.proofs.Common.{◌-◌, ◌∙◌, sym}
use Rattle.std.proofs.lemmas.Bool.{eqb-true}
use Rattle.camac_model.specs.Meaning.{context}
use Rattle.camac_run.proofs.Services.{none_left, bit_here, bit_passed, no_bit_passed}
use Rattle.camac_run.proofs.service.first_service.Goals as goal
use Rattle.camac_run.proofs.service.first_service.Goals.{then-is_bit_set+in_default, else-is_bit_set}

pub returns-then-ends_before-clause-chosen : goal.returns-then-ends_before-clause-chosen
returns-then-ends_before-clause-chosen c =
    let k = c.args.checked.now in
    let bit = c.bits.bit in
    c.bits.invariant
    ∙ none_left (context k.plan k.script) (25 - bit) bit c.args.pattern k.script.services
    (eqb-true _ _ (sym c.ends_before.ensures ∙ c.if-ends_before.true))

pub returns-in-Some-clause-chosen : goal.returns-in-Some-clause-chosen
returns-in-Some-clause-chosen c =
    let k = c.args.checked.now in
    c.bits.invariant
    ∙ bit_here (context k.plan k.script) c.bits.bit c.args.pattern k.script.services c.in-Some.called c.in-Some.ensures.known c.bits-test.true
    (sym c.is_bit_set.ensures ∙ c.if-is_bit_set.true) c.in-Some.ensures.chosen

pub bits-preserved : goal.bits-preserved
bits-preserved c =
    let k = c.args.checked.now in
    let x = context k.plan k.script in
    let bit = c.bits.bit in
    c.bits.invariant
    ∙ (elim c.if-is_bit_set.branch [
      | then-is_bit_set+in_default w ↦ bit_passed x bit c.args.pattern k.script.services c.bits-test.true w.in_default.ensures.chosen
      | else-is_bit_set w ↦ no_bit_passed x bit c.args.pattern k.script.services c.bits-test.true (sym c.is_bit_set.ensures ∙ w.if-is_bit_set.false)
    ])
