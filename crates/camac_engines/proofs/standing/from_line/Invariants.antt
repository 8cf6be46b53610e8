use Rattle.std.proofs.Common.{◌≡◌, length}
use Rattle.camac_engines.specs.Standing.{from_line}
use Rattle.camac_engines.proofs.standing.from_line.Given as goal

abbrev pub invariant-loop-rest : goal.invariant-loop-rest
invariant-loop-rest l = from_line l.rest l.feeds ≡ from_line l.text l.fn.feeds

abbrev pub decreases-loop-rest : goal.decreases-loop-rest
decreases-loop-rest l = length l.rest
