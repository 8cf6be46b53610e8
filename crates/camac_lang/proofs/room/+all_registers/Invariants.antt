use Rattle.std.proofs.Common.{length}
use Rattle.camac_lang.proofs.room.+all_registers.Given as goal

abbrev pub decreases-all_registers : goal.decreases-all_registers
decreases-all_registers l = length l.procedures.now
