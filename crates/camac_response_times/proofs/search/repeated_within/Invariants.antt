use Rattle.std.proofs.Common.{◌≡◌, ◌+◌, ◌*◌, ◌^◌, ◌≤◌, drop}
use Rattle.camac_response_times.specs.Found.{repeated}
use Rattle.camac_response_times.proofs.search.repeated_within.Given as goal

abbrev pub invariant-callers : goal.invariant-callers
invariant-callers l =
    (l.all + repeated l.cycles (drop l.caller-index l.callers) ≡ l.first + repeated l.cycles l.callers) × (l.all ≤ (l.caller-index + 1) * 2 ^ 32)
