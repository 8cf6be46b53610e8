use Rattle.std.proofs.Common.{length}
use Rattle.camac_lang.proofs.depth.+deepest.Given as goal

abbrev pub decreases-deepest : goal.decreases-deepest
decreases-deepest l = length l.callables.now
