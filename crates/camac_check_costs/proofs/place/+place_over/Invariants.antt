use Rattle.std.proofs.Common.{length}
use Rattle.camac_check_costs.proofs.place.+place_over.Given as goal

abbrev pub decreases-place_over : goal.decreases-place_over
decreases-place_over l = length l.items.now
