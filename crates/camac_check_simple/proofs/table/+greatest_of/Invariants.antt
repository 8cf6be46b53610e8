use Rattle.std.proofs.Common.{length}
use Rattle.camac_check_simple.proofs.table.+greatest_of.Given as goal

abbrev pub decreases-greatest_of : goal.decreases-greatest_of
decreases-greatest_of l = length l.words.now
