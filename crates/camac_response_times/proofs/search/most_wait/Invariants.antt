use Rattle.std.proofs.Common.{◌+◌, ◌-◌}
use Rattle.camac_response_times.specs.Response.{calls_within}
use Rattle.camac_response_times.specs.Rounds.{greatest_wait}
use Rattle.camac_response_times.proofs.Rates.{IsAt}
use Rattle.camac_response_times.proofs.search.most_wait.Given as goal

abbrev pub invariant-loop-n : goal.invariant-loop-n
invariant-loop-n l =
    IsAt l.sources l.source (greatest_wait l.sources l.source (calls_within l.source.every l.fn.longest.cycles) 1 l.fn.longest.rounds 0) l.calls l.n l.left l.start
    l.blocked l.period

abbrev pub decreases-loop-n : goal.decreases-loop-n
decreases-loop-n l = l.calls + 1 - l.n
