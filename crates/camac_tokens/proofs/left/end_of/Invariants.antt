use Rattle.std.proofs.Common.{◌≡◌, length}
use Rattle.camac_tokens.specs.Scanning.{last_line, tokens_of}
use Rattle.camac_tokens.specs.Left.{end_by}
use Rattle.camac_tokens.proofs.left.end_of.Given as goal

abbrev pub invariant-loop-left : goal.invariant-loop-left
invariant-loop-left l = l.left.end ≡ end_by (tokens_of l.text) (last_line l.text)

abbrev pub decreases-loop-left : goal.decreases-loop-left
decreases-loop-left l = length l.left.tokens
