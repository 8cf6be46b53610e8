use Rattle.camac_response_times.specs.Found.{is_meant}
use Rattle.camac_response_times.proofs.Words.{IsGathered}
use Rattle.camac_response_times.proofs.search.gather.Given as goal

abbrev pub invariant-services : goal.invariant-services
invariant-services l = IsGathered (is_meant l.bit l.own) l.near l.source-index l.once l.callers.items
