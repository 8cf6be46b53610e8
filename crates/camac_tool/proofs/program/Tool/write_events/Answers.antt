use Rattle.std.proofs.Common.{◌∙◌, ap, Err}
use Rattle.std.proofs.lemmas.Result.{err_from_is_err_and}
use Rattle.camac_event.specs.Reading.{file_at}
use Rattle.camac_engines.specs.Report.{Reports, report_events}
use Rattle.camac_engines.specs.declared.reading.TheConstants.{EVENTS_LIMIT}
use Rattle.camac_tool.specs.Input.{IsTextOf}
use Rattle.camac_engines.specs.declared.outcome.Outcome.{Outcome}
use Rattle.camac_tool.proofs.Caused.{raised, read_of}
use Rattle.camac_tool.proofs.Ended.{stopped}
use Rattle.camac_tool.proofs.Inputs.{read_long, read_text}
use Rattle.camac_tool.proofs.program.Tool.write_events.Goals as goal

pub returns-in_err-outcome-clause-told : goal.returns-in_err-outcome-clause-told
returns-in_err-outcome-clause-told g c =
    let fault = err_from_is_err_and c.from_residual-in_err-outcome.result c.from_residual-in_err-outcome.ensures.1 in
    stopped _ (IsTextOf EVENTS_LIMIT (g.R.Host.bytes_of c.args.self.now.rt.now c.args.file.now)) (λ bytes. Reports (report_events (file_at bytes))) _ _ _ _
    (λ bytes h. read_text EVENTS_LIMIT _ _ _ bytes c.in_ok-input.ensures.bytes h)
    (λ h. read_long EVENTS_LIMIT _ _ _ c.in_ok-input.ensures.bytes h)
    c.in_err-outcome.field-0.0 c.from_residual-in_err-outcome.result (fault.1 ∙ ap Err fault.2) c.in_err-outcome.ensures.answers

pub returns-in_err-outcome-clause-unread : goal.returns-in_err-outcome-clause-unread
returns-in_err-outcome-clause-unread g c is =
    let fault = err_from_is_err_and c.from_residual-in_err-outcome.result c.from_residual-in_err-outcome.ensures.1 in
    let read = read_of Outcome c.in_err-outcome.field-0.0 c.from_residual-in_err-outcome.result (fault.1 ∙ ap Err fault.2) is in
    c.args.self.now.fails ∙ c.engine_events.new.input.cause (raised _ _ _ c.in_err-outcome.ensures.in_failed read)

pub returns-clause-told : goal.returns-clause-told
returns-clause-told g c =
    let told = c.in_ok-outcome.ensures.answers in
    let read = read_text EVENTS_LIMIT _ _ _ told.0 c.in_ok-input.ensures.bytes told.1 in
    (told.2.0, (told.0, read, told.2.1), told.2.2)
