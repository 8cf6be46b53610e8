use Rattle.std.proofs.Common.{◌≡◌, drop}
use Rattle.camac_model.specs.Meaning.{context}
use Rattle.camac_model.specs.Run.{with_bit}
use Rattle.camac_run.proofs.service.with_bit.Given as goal

abbrev pub invariant-services : goal.invariant-services
invariant-services l =
    let c = context l.checked.plan l.checked.script in
    with_bit c l.bit 0 l.checked.script.services ≡ with_bit c l.bit l.number (drop l.number l.checked.script.services)
