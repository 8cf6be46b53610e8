use Rattle.std.proofs.Common.{◌≡◌, ◌∙◌, refl, inl, inr}
use Rattle.camac_engines.specs.Engine.{is_write_fault}
use Rattle.camac_play.specs.declared.telling.Telling.TheVariants.{Requests}
use Rattle.camac_tool.proofs.Caused.{of_readers, of_run, raised}
use Rattle.camac_tool.proofs.Ended.{none_run, run_settled}
use Rattle.camac_tool.proofs.Inputs.{judged_read, long_read}
use Rattle.camac_tool_host.specs.Apart.{words_of}
use Rattle.camac_tool.specs.Devices.{outputs}
use Rattle.camac_tool.proofs.program.Tool.drive.Goals as goal

pub returns-in-Err-clause-does : goal.returns-in-Err-clause-does
returns-in-Err-clause-does g c =
    let a = outputs g.D.Device.contents g.R.Host.holds c.args.out c.args.events in
    (inl (none_run (g.R.Host.bytes_of c.args.self.now.rt.now) (g.R.Host.finds c.args.self.now.rt.now) (words_of c.args.words) a Requests _ c.in-Err.ensures.fault), tt)

pub returns-in-Err-clause-cause : goal.returns-in-Err-clause-cause
returns-in-Err-clause-cause g c failed = inr (c.in-Err.ensures.cause failed)

pub returns-clause-does : goal.returns-clause-does
returns-clause-does g c =
    let bytes_of = g.R.Host.bytes_of c.args.self.now.rt.now in
    let held : g.R.Host.holds c.new.result.device.events ≡ g.R.Host.holds c.args.events = rw (c.new.ensures, c.named-file.ensures.events) refl in
    run_settled bytes_of (g.R.Host.finds c.args.self.now.rt.now) _ g.S.Saving.begun c.requires.begun (words_of c.args.words) g.S.Saving.saves c.in-Ok.ensures.apart _ held c.in-Ok.ensures.answers
    (λ after j h. judged_read bytes_of c.args.words.plan.now c.args.words.script.now _ c.in-Ok.inputs.0 _ _ _ _ c.in-Ok.ensures.plan c.source_of.ensures c.in-Ok.ensures.script j h)
    (λ after h. long_read bytes_of c.args.words.plan.now c.args.words.script.now _ c.in-Ok.inputs.0 _ _ _ _ c.in-Ok.ensures.plan c.source_of.ensures c.in-Ok.ensures.script h)
    refl _ c.run_over-outcome.result c.settled-done.result c.run_over-outcome.ensures.runs c.settled-done.ensures.ended c.settled-done.ensures.saved

pub returns-clause-cause : goal.returns-clause-cause
returns-clause-cause g c failed =
    let io = c.run_over-outcome.new.io in
    of_run (g.D.Device.failed io.requests.0) io.records.0.device.failed _ (is_write_fault c.run_over-outcome.result) _ g.K.Failing.fails c.args.self.now.fails c.run_over-outcome.ensures.runs.out_failed io.records.0.device.cause
    (c.settled-done.ensures.cause failed)

pub returns-clause-unread : goal.returns-clause-unread
returns-clause-unread g c is =
    let ran = c.run_over-outcome in
    c.args.self.now.fails
    ∙ of_readers (λ i. i.failed) g.K.Failing.fails (λ i. i.cause) ran.new.plan ran.new.script ran.new.io.answers (raised _ _ _ ran.ensures.runs.in_failed (c.settled-done.ensures.read is))
