use Rattle.std.proofs.Common.{◌≡◌, ◌+◌}
use Rattle.camac_response_times.specs.Rounds.{settle}
use Rattle.camac_response_times.specs.Found.{gathered}
use Rattle.camac_response_times.proofs.search.settle_from.Given as goal

abbrev pub invariant-loop-left : goal.invariant-loop-left
invariant-loop-left l = settle (λ e. l.first + gathered e l.wanted) l.rounds 0 ≡ settle (λ e. l.first + gathered e l.wanted) l.left l.cycles

abbrev pub decreases-loop-left : goal.decreases-loop-left
decreases-loop-left l = l.left
