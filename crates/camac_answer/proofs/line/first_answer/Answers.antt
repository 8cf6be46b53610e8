use Rattle.std.proofs.Common.{◌∙◌, sym}
use Rattle.camac_answer.proofs.Spelled.{spells_first}
use Rattle.camac_answer.proofs.line.first_answer.Goals as goal

pub returns-in-Ok : goal.returns-in-Ok
returns-in-Ok c =
    spells_first c.args.bytes.now c.judged_length-len.result c.in-Ok.answer c.judged_length-len.ensures (sym c.in-Ok.is ∙ c.answer_of.ensures)
