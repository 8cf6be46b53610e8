use Rattle.std.proofs.Common.{length}
use Rattle.camac_lang.proofs.depth.+arguments_depth.Given as goal

abbrev pub decreases-arguments_depth : goal.decreases-arguments_depth
decreases-arguments_depth l = length l.arguments.now
