use Rattle.std.proofs.Common.{◌≡◌, ◌-◌, ◌≤◌, length, drop}
use Rattle.std.specs.Str.{bytes_eq}
use Rattle.camac_tokens.proofs.bytes.are_same.Given as goal

abbrev pub invariant-loop-rest : goal.invariant-loop-rest
invariant-loop-rest l =
    (bytes_eq l.rest l.other_rest ≡ bytes_eq l.fn.one l.fn.other)
    × (length l.rest ≤ length l.fn.one)
    × (l.rest ≡ drop (length l.fn.one - length l.rest) l.fn.one)
    × (l.other_rest ≡ drop (length l.fn.one - length l.rest) l.fn.other)

abbrev pub decreases-loop-rest : goal.decreases-loop-rest
decreases-loop-rest l = length l.rest
