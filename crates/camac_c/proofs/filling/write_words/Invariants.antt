use Rattle.std.proofs.Common.{◌≡◌}
use Rattle.camac_c.specs.Filled.{over_words}
use Rattle.camac_c.proofs.filling.write_words.Given as goal

abbrev pub invariant-loop-i : goal.invariant-loop-i
invariant-loop-i l = l.bytes ≡ over_words l.i l.held l.fn.bytes
