use Rattle.std.proofs.Common.{◌≡◌, min, take, map, length}
use Rattle.camac_lang.specs.Tests.{total}
use Rattle.camac_lang.specs.Tree.{Procedure}
use Rattle.camac_lang.specs.View.{procedure_of}
use Rattle.camac_text_cursor.proofs.counting.registers_of_all.Given as goal

abbrev pub invariant-loop-procedure : goal.invariant-loop-procedure
invariant-loop-procedure l = l.count ≡ min 64 (total (λ (p : Procedure). length p.registers) (map procedure_of (take l.procedure-index l.procedures)))
