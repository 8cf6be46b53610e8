use Rattle.std.proofs.Common.{◌∙◌, ap, map, subst, inr, Err}
use Rattle.std.proofs.lemmas.Result.{err_from_is_err_and}
use Rattle.camac_response_times.specs.Setting.{ReadsSettings}
use Rattle.camac_engines.specs.declared.response.Responded.{Responded}
use Rattle.camac_tool.proofs.Caused.{of_texts, raised, read_of}
use Rattle.camac_tool.proofs.Ended.{response_stopped}
use Rattle.camac_tool.proofs.Inputs.{judged_read, long_read}
use Rattle.camac_tool.proofs.program.Tool.respond.Goals as goal

pub returns-in_err-outcome-clause-told : goal.returns-in_err-outcome-clause-told
returns-in_err-outcome-clause-told g c =
    let fault = err_from_is_err_and c.from_residual-in_err-outcome.result c.from_residual-in_err-outcome.ensures.1 in
    let bytes_of = g.R.Host.bytes_of c.args.self.now.rt.now in
    response_stopped _ _ c.in-Ok.settings _ _ c.in_err-outcome.field-0.0 c.from_residual-in_err-outcome.result (fault.1 ∙ ap Err fault.2) c.in_err-outcome.ensures.responds
    bytes_of c.args.plan.now c.args.script.now
    (map (λ w. w.now) c.args.every.now) (map (λ w. w.now) c.args.within.now)
    (subst (ReadsSettings (map (λ w. w.now) c.args.every.now) (map (λ w. w.now) c.args.within.now)) c.in-Ok.is c.in_ok-settings.ensures)
    (judged_read bytes_of c.args.plan.now c.args.script.now _ c.in_ok-open_plan.field-0 _ _ _ _ c.in_ok-open_plan.ensures.input c.source_of-plan.ensures c.in_ok-script.ensures.bytes)
    (long_read bytes_of c.args.plan.now c.args.script.now _ c.in_ok-open_plan.field-0 _ _ _ _ c.in_ok-open_plan.ensures.input c.source_of-plan.ensures c.in_ok-script.ensures.bytes)

pub returns-in_err-outcome-clause-unread : goal.returns-in_err-outcome-clause-unread
returns-in_err-outcome-clause-unread g c is =
    let fault = err_from_is_err_and c.from_residual-in_err-outcome.result c.from_residual-in_err-outcome.ensures.1 in
    let read = read_of Responded c.in_err-outcome.field-0.0 c.from_residual-in_err-outcome.result (fault.1 ∙ ap Err fault.2) is in
    c.args.self.now.fails
    ∙ of_texts (λ i. i.failed) g.K.Failing.fails (λ i. i.cause) c.engine_response.new.plan c.engine_response.new.script (raised _ _ _ c.in_err-outcome.ensures.in_failed read)

pub returns-in-Told-clause-told : goal.returns-in-Told-clause-told
returns-in-Told-clause-told g c =
    let told = rw c.in-Told.is at c.in_ok-outcome.ensures.responds in
    let judged =
    judged_read (g.R.Host.bytes_of c.args.self.now.rt.now) c.args.plan.now c.args.script.now _ c.in_ok-open_plan.field-0 _ _ _ _ c.in_ok-open_plan.ensures.input c.source_of-plan.ensures c.in_ok-script.ensures.bytes told.0 told.1 in (
      told.2.0,
      (
        c.in-Ok.settings,
        (subst (ReadsSettings (map (λ w. w.now) c.args.every.now) (map (λ w. w.now) c.args.within.now)) c.in-Ok.is c.in_ok-settings.ensures),
        (told.0, judged, told.2.1),
      ),
      told.2.2,
    )

pub returns-clause-told : goal.returns-clause-told
returns-clause-told g c =
    let told = rw c.in-Misused.is at c.in_ok-outcome.ensures.responds in
    let judged =
    judged_read (g.R.Host.bytes_of c.args.self.now.rt.now) c.args.plan.now c.args.script.now _ c.in_ok-open_plan.field-0 _ _ _ _ c.in_ok-open_plan.ensures.input c.source_of-plan.ensures c.in_ok-script.ensures.bytes told.0 told.1 in
    (inr (c.in-Ok.settings, (subst (ReadsSettings (map (λ w. w.now) c.args.every.now) (map (λ w. w.now) c.args.within.now)) c.in-Ok.is c.in_ok-settings.ensures), (told.0, judged, told.2.0)), told.2.1)
