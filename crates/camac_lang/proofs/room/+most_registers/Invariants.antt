use Rattle.std.proofs.Common.{length}
use Rattle.camac_lang.proofs.room.+most_registers.Given as goal

abbrev pub decreases-most_registers : goal.decreases-most_registers
decreases-most_registers l = length l.services.now
