use Rattle.std.proofs.Common.{◌≡◌, length}
use Rattle.camac_explain_text.specs.Mistake.{ends_in_marked_number}
use Rattle.camac_explain_text.proofs.marked.ends_in_marked_number.Given as goal

abbrev pub invariant-loop-rest : goal.invariant-loop-rest
invariant-loop-rest l = ends_in_marked_number l.rest ≡ ends_in_marked_number l.text

abbrev pub decreases-loop-rest : goal.decreases-loop-rest
decreases-loop-rest l = length l.rest
