use Rattle.std.proofs.Common.{◌≡◌, ◌++◌, length}
use Rattle.camac_tokens.specs.Scanning.{last_line, tokens_of}
use Rattle.camac_tokens.specs.Left.{tokens_before, end_by}
use Rattle.camac_tokens.proofs.scanner.scan.Given as goal

abbrev pub invariant-loop-token : goal.invariant-loop-token
invariant-loop-token l = record { before : l.tokens.items ++ l.left.tokens ≡ tokens_before 0 1 l.fn.text; end : l.left.end ≡ end_by (tokens_of l.fn.text) (last_line l.fn.text) }

abbrev pub decreases-loop-token : goal.decreases-loop-token
decreases-loop-token l = length l.left.tokens
