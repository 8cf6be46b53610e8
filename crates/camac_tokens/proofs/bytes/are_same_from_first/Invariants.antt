use Rattle.std.proofs.Common.{◌≡◌, length}
use Rattle.std.specs.Str.{bytes_eq}
use Rattle.camac_tokens.proofs.bytes.are_same_from_first.Given as goal

abbrev pub invariant-loop-one : goal.invariant-loop-one
invariant-loop-one l = bytes_eq l.one l.other ≡ bytes_eq l.fn.one l.fn.other

abbrev pub decreases-loop-one : goal.decreases-loop-one
decreases-loop-one l = length l.one
