use Rattle.std.proofs.Common.{◌∙◌, Err, sym, ap}
use Rattle.std.proofs.lemmas.Bool.{eqb-true, and_parts}
use Rattle.camac_answer.proofs.Spelled.{shaped_answer, unflagged}
use Rattle.camac_answer.proofs.line.answer_of.Goals as goal

pub fields_after-requires : goal.fields_after-requires
fields_after-requires c = eqb-true _ _ (and_parts _ _ c.in-Some.ensures.shape).0

pub returns-in-Some : goal.returns-in-Some
returns-in-Some c = c.fields_after.ensures ∙ sym (shaped_answer c.args.line.now _ _ c.in-Some.ensures.shape c.in-Some.ensures.bits.0 c.in-Some.ensures.bits.1)

pub returns-in-None : goal.returns-in-None
returns-in-None c = ap Err c.broken_rule.ensures ∙ sym (unflagged c.args.line.now c.in-None.ensures.none)
