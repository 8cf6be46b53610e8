use Rattle.std.proofs.Common.{◌≡◌, ◌+◌, ◌≤◌, length}
use Rattle.camac_tokens.specs.Left.{ahead_from}
use Rattle.camac_tokens.proofs.left.past_long_gaps.Given as goal

abbrev pub invariant-loop-byte : goal.invariant-loop-byte
invariant-loop-byte l = record { same : ahead_from l.at l.rest ≡ ahead_from l.line l.text; lines : l.at + length l.rest ≤ l.line + length l.text }

abbrev pub decreases-loop-byte : goal.decreases-loop-byte
decreases-loop-byte l = length l.rest
