use Rattle.std.proofs.Common.{◌≡◌}
use Rattle.camac_c.specs.Filled.{over_words}
use Rattle.camac_c.proofs.abandon.write_crates.Given as goal

abbrev pub invariant-loop-i : goal.invariant-loop-i
invariant-loop-i l = l.bytes ≡ over_words l.i l.crates l.fn.bytes
