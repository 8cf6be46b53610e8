use Rattle.std.proofs.Common.{length}
use Rattle.camac_lang.proofs.depth.+services_depth.Given as goal

abbrev pub decreases-services_depth : goal.decreases-services_depth
decreases-services_depth l = length l.services.now
