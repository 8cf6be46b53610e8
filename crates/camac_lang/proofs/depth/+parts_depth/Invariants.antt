use Rattle.std.proofs.Common.{length}
use Rattle.camac_lang.proofs.depth.+parts_depth.Given as goal

abbrev pub decreases-parts_depth : goal.decreases-parts_depth
decreases-parts_depth l = length l.parts.now
