use Rattle.std.proofs.Common.{length}
use Rattle.camac_check.proofs.accept.+accept_items.Given as goal

abbrev pub decreases-accept_items : goal.decreases-accept_items
decreases-accept_items l = length l.items.now
