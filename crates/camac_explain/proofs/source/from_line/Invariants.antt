use Rattle.std.proofs.Common.{◌≡◌, ◌-◌}
use Rattle.camac_explain.specs.Source.{after_lines}
use Rattle.camac_explain.proofs.source.from_line.Given as goal

abbrev pub invariant-loop-lines : goal.invariant-loop-lines
invariant-loop-lines l = after_lines l.lines l.rest ≡ after_lines (l.fn.line - 1) l.fn.text

abbrev pub decreases-loop-lines : goal.decreases-loop-lines
decreases-loop-lines l = l.lines
