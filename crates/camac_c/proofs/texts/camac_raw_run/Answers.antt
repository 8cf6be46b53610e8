use Rattle.std.proofs.Common.{ℕ, refl, sym, ap, ◌∙◌, subst}
use Rattle.std.specs.Prelude.{Some}
use Rattle.camac_c.specs.Run.{AnswersRun}
use Rattle.camac_c.proofs.Answered.{held, run_answers}
use Rattle.camac_c.proofs.texts.camac_raw_run.Goals as goal

pub returns : goal.returns
returns c =
    let before = held (ap (λ v. Some v.items) c.new-out.ensures.inner ∙ ap Some c.new-2.ensures.items) (ap (λ v. Some v.items) c.new-events.ensures.inner ∙ ap Some c.new-3.ensures.items) in
    let after = held (ap (λ v. Some v.items) (sym c.into_inner.ensures) ∙ ap Some (sym c.deref.ensures.value)) (ap (λ v. Some v.items) (sym c.into_inner-2.ensures) ∙ ap Some (sym c.deref-2.ensures.value)) in
    subst
    (λ (code : ℕ). AnswersRun c.args.plan.now c.args.script.now c.args.answers.now code c.args.text.now c.give_answer.new.text c.give_answer.new.size c.args.file.now c.give_answer-2.new.text c.give_answer-2.new.size)
    (sym c.code_of.ensures)
    (run_answers _ _ c.args.plan.now c.args.script.now c.args.answers.now (ap (λ r. Some r.now) c.new.ensures.inner) (ap (λ r. Some r.now) c.new-script.ensures.inner)
    (ap (λ r. Some r.now) c.new-answers.ensures.inner) refl c.deref.result.now c.deref-2.result.now before after _ c.engine_run-answer.ensures _ _ _ _ _ _ c.give_answer.ensures c.give_answer-2.ensures)
