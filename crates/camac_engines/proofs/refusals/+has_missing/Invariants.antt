use Rattle.std.proofs.Common.{length}
use Rattle.camac_engines.proofs.refusals.+has_missing.Given as goal

abbrev pub decreases-has_missing : goal.decreases-has_missing
decreases-has_missing l = length l.faults.now
