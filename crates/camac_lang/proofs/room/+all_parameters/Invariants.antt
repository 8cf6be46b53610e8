use Rattle.std.proofs.Common.{length}
use Rattle.camac_lang.proofs.room.+all_parameters.Given as goal

abbrev pub decreases-all_parameters : goal.decreases-all_parameters
decreases-all_parameters l = length l.procedures.now
