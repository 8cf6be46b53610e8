use Rattle.std.proofs.Common.{◌≡◌, length}
use Rattle.camac_tool_host.specs.Streams.{given_to, has_stopped}
use Rattle.camac_word.proofs.Prefixes.{IsUnderWay}
use Rattle.camac_tool_host.proofs.gathered.GatheredTextWriter.put_text.Given as goal

abbrev pub invariant-loop-rest : goal.invariant-loop-rest
invariant-loop-rest g l =
    IsUnderWay l.text l.rest (given_to g.W.Device.contents l.initial.self) (given_to g.W.Device.contents l.self)
    × (has_stopped g.W.Device.failed l.self ≡ has_stopped g.W.Device.failed l.initial.self)

abbrev pub decreases-loop-rest : goal.decreases-loop-rest
decreases-loop-rest g l = length l.rest
