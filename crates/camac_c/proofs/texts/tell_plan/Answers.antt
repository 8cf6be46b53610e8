use Rattle.std.proofs.Common.{sym, ap, ◌∙◌}
use Rattle.std.specs.Prelude.{Some}
use Rattle.std.specs.contracts.io.impls.RefSliceU8Read.TheImpl.{ghosts}
use Rattle.camac_engines.specs.declared.plan.PlanSource.TheVariants.{Text}
use Rattle.camac_word.specs.Watched.{inner_of}
use Rattle.camac_c.proofs.Answered.{plan_told}
use Rattle.camac_c.proofs.texts.tell_plan.Goals as goal

pub returns : goal.returns
returns c =
    plan_told c.args.text.now c.give_answer.new.text c.give_answer.new.size c.deref.result.now
    (ap (λ v. Some v.items) c.new-out.ensures.inner ∙ ap Some c.new-2.ensures.items)
    (ap (λ v. Some v.items) (sym c.into_inner.ensures) ∙ ap Some (sym c.deref.ensures.value))
    _ c.code_of.ensures c.give_answer.ensures (λ w. ghosts.remaining (inner_of w)) (Text c.new.result) c.answer_plan-answer.new.plan c.args.plan.now (ap (λ r. Some r.now) c.new.ensures.inner)
    c.args.ask c.answer_plan-answer.ensures.answers
