use Rattle.std.proofs.Common.{◌≡◌, length}
use Rattle.camac_engines.specs.Standing.{bytes_from, standing_at, standings}
use Rattle.camac_engines.proofs.standing.standing_at.Given as goal

abbrev pub invariant-loop-rest : goal.invariant-loop-rest
invariant-loop-rest l =
    standings l.line (bytes_from l.text l.line l.column) l.here l.found l.rest ≡ standing_at l.text l.tokens l.line l.column

abbrev pub decreases-loop-rest : goal.decreases-loop-rest
decreases-loop-rest l = length l.rest
