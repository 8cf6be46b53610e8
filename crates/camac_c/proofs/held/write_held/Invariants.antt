use Rattle.std.proofs.Common.{◌≡◌, reverse}
use Rattle.camac_c.specs.Filled.{over_words}
use Rattle.camac_c.proofs.held.write_held.Given as goal

abbrev pub invariant-loop-i : goal.invariant-loop-i
invariant-loop-i l = l.bytes ≡ over_words l.i (reverse l.held) l.fn.bytes
