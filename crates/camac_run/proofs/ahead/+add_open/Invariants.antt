use Rattle.std.proofs.Common.{length}
use Rattle.camac_run.proofs.ahead.+add_open.Given as goal

abbrev pub decreases-add_open : goal.decreases-add_open
decreases-add_open g l = length l.frames.now
