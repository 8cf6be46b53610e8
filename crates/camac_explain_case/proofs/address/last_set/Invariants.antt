use Rattle.std.proofs.Common.{◌≡◌, None, length}
use Rattle.camac_explain_case.specs.Case.{last_set}
use Rattle.camac_explain_case.proofs.address.last_set.Given as goal

abbrev pub invariant-loop-rest : goal.invariant-loop-rest
invariant-loop-rest l = last_set l.left l.register l.line l.rest ≡ last_set l.left l.register None l.tokens

abbrev pub decreases-loop-rest : goal.decreases-loop-rest
decreases-loop-rest l = length l.rest
