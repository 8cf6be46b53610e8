use Rattle.std.proofs.Common.{◌∙◌, ap, Err}
use Rattle.std.proofs.lemmas.Result.{err_from_is_err_and}
use Rattle.camac_engines.specs.Ask.{TellsPlan}
use Rattle.camac_tool.specs.Input.{IsPlanOf}
use Rattle.camac_engines.specs.declared.outcome.Outcome.{Outcome}
use Rattle.camac_tool.proofs.Caused.{of_plan, raised, read_of}
use Rattle.camac_tool.proofs.Ended.{stopped}
use Rattle.camac_tool.proofs.Inputs.{plan_long, plan_read}
use Rattle.camac_tool.proofs.program.Tool.ask_plan.Goals as goal

pub returns-in_err-outcome-clause-told : goal.returns-in_err-outcome-clause-told
returns-in_err-outcome-clause-told g c =
    let fault = err_from_is_err_and c.from_residual-in_err-outcome.result c.from_residual-in_err-outcome.ensures.1 in
    stopped _ (IsPlanOf (g.R.Host.bytes_of c.args.self.now.rt.now) c.args.plan.now) (TellsPlan c.args.ask) _ _ _ _
    (λ says h. plan_read _ _ _ c.in_ok-open_plan.field-0 _ _ says c.in_ok-open_plan.ensures.input c.source_of-plan.ensures h)
    (λ h. plan_long _ _ _ c.in_ok-open_plan.field-0 _ _ c.in_ok-open_plan.ensures.input c.source_of-plan.ensures h) c.in_err-outcome.field-0.0 c.from_residual-in_err-outcome.result (fault.1 ∙ ap Err fault.2) c.in_err-outcome.ensures.answers

pub returns-in_err-outcome-clause-unread : goal.returns-in_err-outcome-clause-unread
returns-in_err-outcome-clause-unread g c is =
    let fault = err_from_is_err_and c.from_residual-in_err-outcome.result c.from_residual-in_err-outcome.ensures.1 in
    let read = read_of Outcome c.in_err-outcome.field-0.0 c.from_residual-in_err-outcome.result (fault.1 ∙ ap Err fault.2) is in
    c.args.self.now.fails ∙ of_plan (λ i. i.failed) g.K.Failing.fails (λ i. i.cause) c.answer_plan.new.plan (raised _ _ _ c.in_err-outcome.ensures.in_failed read)

pub returns-clause-told : goal.returns-clause-told
returns-clause-told g c =
    let told = c.in_ok-outcome.ensures.answers in
    (told.2.0, (told.0, plan_read _ _ _ c.in_ok-open_plan.field-0 _ _ told.0 c.in_ok-open_plan.ensures.input c.source_of-plan.ensures told.1, told.2.1), told.2.2)
