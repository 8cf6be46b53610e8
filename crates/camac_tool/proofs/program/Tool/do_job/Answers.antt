use Rattle.std.proofs.Common.{subst}
use Rattle.camac_tool_host.specs.Apart.{Words}
use Rattle.camac_tool.specs.Causes.{RunCanFail}
use Rattle.camac_tool.specs.Devices.{outputs}
use Rattle.camac_tool.specs.Jobs.{DoesRun, Drives}
use Rattle.camac_tool.proofs.program.Tool.do_job.Goals as goal

pub returns-in-Run-clause-does : goal.returns-in-Run-clause-does
returns-in-Run-clause-does g c =
    let rt = c.args.self.now.rt.now in
    rw c.in-Run.is
    (subst (λ (w : Words). DoesRun (g.R.Host.bytes_of rt) (g.R.Host.finds rt) w (g.R.Host.saved rt w) (outputs g.D.Device.contents g.R.Host.holds c.args.out c.args.events) (outputs g.D.Device.contents g.R.Host.holds c.run.result.1 c.run.result.2) c.run.result.0) c.new-words.ensures c.run.ensures.does)

pub returns-in-Run-clause-cause : goal.returns-in-Run-clause-cause
returns-in-Run-clause-cause g c failed =
    let rt = c.args.self.now.rt.now in
    rw c.in-Run.is
    (subst (λ (w : Words). RunCanFail (g.R.Host.finds rt) (g.R.Host.fails rt) w (g.D.Device.failed c.run.result.1)) c.new-words.ensures (c.run.ensures.cause failed))

pub returns-in-Drive-clause-does : goal.returns-in-Drive-clause-does
returns-in-Drive-clause-does g c =
    let rt = c.args.self.now.rt.now in
    rw c.in-Drive.is
    (subst (λ (w : Words). Drives (g.R.Host.bytes_of rt) (g.R.Host.finds rt) w (g.R.Host.saved rt w) (outputs g.D.Device.contents g.R.Host.holds c.args.out c.args.events) (outputs g.D.Device.contents g.R.Host.holds c.drive.result.1 c.drive.result.2) c.drive.result.0) c.new-words-in-Drive.ensures c.drive.ensures.does)

pub returns-in-Drive-clause-cause : goal.returns-in-Drive-clause-cause
returns-in-Drive-clause-cause g c failed =
    let rt = c.args.self.now.rt.now in
    rw c.in-Drive.is
    (subst (λ (w : Words). RunCanFail (g.R.Host.finds rt) (g.R.Host.fails rt) w (g.D.Device.failed c.drive.result.1)) c.new-words-in-Drive.ensures (c.drive.ensures.cause failed))
