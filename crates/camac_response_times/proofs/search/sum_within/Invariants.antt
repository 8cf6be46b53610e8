use Rattle.std.proofs.Common.{◌≡◌, ◌+◌, drop}
use Rattle.camac_response_times.specs.Response.{called_within}
use Rattle.camac_response_times.specs.Found.{is_meant}
use Rattle.camac_response_times.proofs.search.sum_within.Given as goal

abbrev pub invariant-services : goal.invariant-services
invariant-services l =
    l.all + called_within (is_meant l.bit l.own) l.cycles (drop l.source-index l.sources) ≡ l.first + called_within (is_meant l.bit l.own) l.cycles l.sources
