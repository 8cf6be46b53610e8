use Rattle.std.proofs.Common.{◌≡◌, ◌<◌, ℕ, Option, length}
use Rattle.std.specs.Prelude.{slice_index_or}
use Rattle.camac_response_times.specs.declared.search.Response.{Response}
use Rattle.camac_response_times.specs.Found.{response_at}
use Rattle.camac_response_times.proofs.responses.Responses.of.Given as goal

abbrev pub invariant-services : goal.invariant-services
invariant-services l =
    (length l.found.items ≡ l.number) × ((i : ℕ) (d : Option Response) → i < length l.found.items → slice_index_or l.found.items i d ≡ response_at l.sources.items i)
