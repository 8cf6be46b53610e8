use Rattle.std.proofs.Common.{◌≡◌, ◌-◌}
use Rattle.camac_model.specs.Meaning.{context}
use Rattle.camac_model.specs.Run.{first_service}
use Rattle.camac_run.proofs.service.first_service.Given as goal

abbrev pub invariant-bits : goal.invariant-bits
invariant-bits l =
    let c = context l.checked.plan l.checked.script in
    let vs = l.checked.script.services in
    first_service c (25 - l.first) l.first l.pattern vs ≡ first_service c (25 - l.bit) l.bit l.pattern vs
