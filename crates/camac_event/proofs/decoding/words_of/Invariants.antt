use Rattle.std.proofs.Common.{◌≡◌, take}
use Rattle.camac_event.proofs.decoding.words_of.Given as goal

abbrev pub invariant-loop-i : goal.invariant-loop-i
invariant-loop-i l = l.copy.items ≡ take l.i l.words
