use Rattle.std.proofs.Common.{◌≡◌, replicate}
use Rattle.camac_c.specs.Filled.{over}
use Rattle.camac_c.proofs.session.crates_of.Given as goal

abbrev pub invariant-loop-i : goal.invariant-loop-i
invariant-loop-i l = l.listed ≡ over l.i l.crates (replicate 8 0)
