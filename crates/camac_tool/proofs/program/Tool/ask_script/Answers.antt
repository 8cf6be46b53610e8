use Rattle.std.proofs.Common.{◌∙◌, ap, Err}
use Rattle.std.proofs.lemmas.Result.{err_from_is_err_and}
use Rattle.camac_engines.specs.Ask.{TellsFound}
use Rattle.camac_tool.specs.Input.{IsFoundIn}
use Rattle.camac_engines.specs.declared.outcome.Outcome.{Outcome}
use Rattle.camac_tool.proofs.Caused.{of_texts, raised, read_of}
use Rattle.camac_tool.proofs.Ended.{stopped}
use Rattle.camac_tool.proofs.Inputs.{found_read, long_read}
use Rattle.camac_tool.proofs.program.Tool.ask_script.Goals as goal

pub returns-in_err-outcome-clause-told : goal.returns-in_err-outcome-clause-told
returns-in_err-outcome-clause-told g c =
    let fault = err_from_is_err_and c.from_residual-in_err-outcome.result c.from_residual-in_err-outcome.ensures.1 in
    let bytes_of = g.R.Host.bytes_of c.args.self.now.rt.now in
    stopped _ (IsFoundIn bytes_of c.args.plan.now c.args.script.now) (TellsFound c.args.ask) _ _ _ _
    (found_read bytes_of c.args.plan.now c.args.script.now _ c.in_ok-open_plan.field-0 _ _ _ _ c.in_ok-open_plan.ensures.input c.source_of-plan.ensures c.in_ok-script.ensures.bytes)
    (long_read bytes_of c.args.plan.now c.args.script.now _ c.in_ok-open_plan.field-0 _ _ _ _ c.in_ok-open_plan.ensures.input c.source_of-plan.ensures c.in_ok-script.ensures.bytes)
    c.in_err-outcome.field-0.0 c.from_residual-in_err-outcome.result (fault.1 ∙ ap Err fault.2) c.in_err-outcome.ensures.answers

pub returns-in_err-outcome-clause-unread : goal.returns-in_err-outcome-clause-unread
returns-in_err-outcome-clause-unread g c is =
    let fault = err_from_is_err_and c.from_residual-in_err-outcome.result c.from_residual-in_err-outcome.ensures.1 in
    let read = read_of Outcome c.in_err-outcome.field-0.0 c.from_residual-in_err-outcome.result (fault.1 ∙ ap Err fault.2) is in
    c.args.self.now.fails
    ∙ of_texts (λ i. i.failed) g.K.Failing.fails (λ i. i.cause) c.answer.new.plan c.answer.new.script (raised _ _ _ c.in_err-outcome.ensures.in_failed read)

pub returns-clause-told : goal.returns-clause-told
returns-clause-told g c =
    let bytes_of = g.R.Host.bytes_of c.args.self.now.rt.now in
    let told = c.in_ok-outcome.ensures.answers in
    let found = found_read bytes_of c.args.plan.now c.args.script.now _ c.in_ok-open_plan.field-0 _ _ _ _ c.in_ok-open_plan.ensures.input c.source_of-plan.ensures c.in_ok-script.ensures.bytes told.0 told.1 in
    (told.2.0, (told.0, found, told.2.1), told.2.2)
