use Rattle.std.proofs.Common.{◌≡◌, ◌∙◌, refl, inr}
use Rattle.camac_engines.specs.Engine.{is_write_fault}
use Rattle.camac_tool.proofs.Caused.{of_readers, of_run}
use Rattle.camac_tool.proofs.Ended.{not_begun, run_handed}
use Rattle.camac_tool.proofs.Inputs.{judged_read, long_read}
use Rattle.camac_tool_host.specs.Apart.{words_of}
use Rattle.camac_tool.specs.Devices.{outputs}
use Rattle.camac_tool.proofs.program.Tool.run.Goals as goal

pub returns-in-Err-clause-does : goal.returns-in-Err-clause-does
returns-in-Err-clause-does g c =
    let a = outputs g.D.Device.contents g.R.Host.holds c.args.out c.args.events in
    not_begun (g.R.Host.bytes_of c.args.self.now.rt.now) (g.R.Host.finds c.args.self.now.rt.now) (words_of c.args.words) a g.S.Saving.saves _ c.in-Err.ensures.fault

pub returns-in-Err-clause-cause : goal.returns-in-Err-clause-cause
returns-in-Err-clause-cause g c failed = inr (c.in-Err.ensures.cause failed)

pub returns-clause-does : goal.returns-clause-does
returns-clause-does g c =
    let bytes_of = g.R.Host.bytes_of c.args.self.now.rt.now in
    let held : g.R.Host.holds c.new.result.device.events ≡ g.R.Host.holds c.args.events = rw (c.new.ensures, c.named-file.ensures.events) refl in
    run_handed bytes_of (g.R.Host.finds c.args.self.now.rt.now) _ g.S.Saving.begun c.requires.begun (words_of c.args.words) g.S.Saving.saves c.in-Ok.ensures.apart _ held c.in-Ok.ensures.answers
    (λ after j h. judged_read bytes_of c.args.words.plan.now c.args.words.script.now _ c.in-Ok.inputs.0 _ _ _ _ c.in-Ok.ensures.plan c.source_of.ensures c.in-Ok.ensures.script j h)
    (λ after h. long_read bytes_of c.args.words.plan.now c.args.words.script.now _ c.in-Ok.inputs.0 _ _ _ _ c.in-Ok.ensures.plan c.source_of.ensures c.in-Ok.ensures.script h)
    refl _ (outputs g.D.Device.contents g.R.Host.holds c.run_on_devices-ran.result.listing c.run_on_devices-ran.result.records.device.events) c.run_on_devices-ran.result.outcome c.settled-done.result (λ s. refl) c.run_on_devices-ran.ensures.runs c.settled-done.ensures.ended c.settled-done.ensures.saved

pub returns-clause-cause : goal.returns-clause-cause
returns-clause-cause g c failed =
    let ran = c.run_on_devices-ran.result in
    of_run (g.D.Device.failed ran.listing) ran.records.device.failed _ (is_write_fault ran.outcome) _ g.K.Failing.fails c.args.self.now.fails c.run_on_devices-ran.ensures.failed ran.records.device.cause (c.settled-done.ensures.cause failed)

pub returns-clause-unread : goal.returns-clause-unread
returns-clause-unread g c is =
    let ran = c.run_on_devices-ran in
    c.args.self.now.fails
    ∙ of_readers (λ i. i.failed) g.K.Failing.fails (λ i. i.cause) ran.new.plan ran.new.script ran.result.answers (ran.ensures.unread (c.settled-done.ensures.read is))
