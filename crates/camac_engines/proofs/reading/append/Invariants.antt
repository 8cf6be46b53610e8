use Rattle.std.proofs.Common.{◌≡◌, ◌++◌, length}
use Rattle.camac_engines.proofs.reading.append.Given as goal

abbrev pub invariant-loop-rest : goal.invariant-loop-rest
invariant-loop-rest l = l.bytes.items ++ l.rest ≡ l.initial.bytes.items ++ l.part

abbrev pub decreases-loop-rest : goal.decreases-loop-rest
decreases-loop-rest l = length l.rest
