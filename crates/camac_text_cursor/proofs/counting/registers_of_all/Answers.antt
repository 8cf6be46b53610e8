use Rattle.std.proofs.Common.{length, arith}
use Rattle.camac_lang.specs.Tree.{Procedure}
use Rattle.camac_lang.specs.View.{procedure_of}
use Rattle.camac_text_cursor.proofs.Sets.{total_more}
use Rattle.camac_text_cursor.proofs.counting.registers_of_all.Goals as goal

pub loop-procedure-preserved : goal.loop-procedure-preserved
loop-procedure-preserved c =
    let more = total_more (λ (p : Procedure). length p.registers) procedure_of c.args.procedures.now c.loop-procedure.procedure-index c.procedure-item.result c.loop-procedure-test.true c.procedure-item.is in
    omega (arith, more, c.loop-procedure.invariant, c.len.ensures, c.min-count.ensures)
