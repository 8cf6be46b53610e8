use Rattle.std.proofs.Common.{◌≡◌, length}
use Rattle.camac_explain_case.specs.Case.{register_at}
use Rattle.camac_explain_case.proofs.address.register_at.Given as goal

abbrev pub invariant-loop-rest : goal.invariant-loop-rest
invariant-loop-rest l = register_at l.left l.rest ≡ register_at l.left l.tokens

abbrev pub decreases-loop-rest : goal.decreases-loop-rest
decreases-loop-rest l = length l.rest
