use Rattle.std.proofs.Common.{sym, ◌∙◌}
use Rattle.std.proofs.lemmas.Bool.{false≢true}
use Rattle.camac_explain_plan.proofs.Sentences.{told_table, told_text}
use Rattle.camac_explain_plan.proofs.sentence.read_sentence.Goals as goal

pub returns-in-Ok : goal.returns-in-Ok
returns-in-Ok c = told_table c.args.text.now c.args.case _ _ c.in-Ok.ensures.ok c.sentence_of_table.ensures

pub returns-else-is_memory : goal.returns-else-is_memory
returns-else-is_memory c =
    told_text c.args.text.now c.args.case c.message.result.now _
    (c.in-Err.ensures.refused (λ m. false≢true (sym c.if-is_memory.false ∙ c.is_memory.ensures.1 m))) c.sentence_of_text.ensures
