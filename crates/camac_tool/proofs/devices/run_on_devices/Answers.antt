use Rattle.std.proofs.Common.{◌||◌, refl}
use Rattle.camac_tool_host.specs.Streams.{before}
use Rattle.camac_tool_run.specs.World.{world}
use Rattle.camac_tool.proofs.Caused.{raised}
use Rattle.camac_tool.proofs.Ended.{no_run}
use Rattle.camac_tool.proofs.devices.run_on_devices.Goals as goal

pub returns-in-Err-clause-runs : goal.returns-in-Err-clause-runs
returns-in-Err-clause-runs g c =
    let s = before (g.A.TextReader.remaining c.args.answers) (g.W.Device.contents c.args.listing) (g.E.Device.contents c.args.records) (g.A.TextReader.failed c.args.answers) (g.W.Device.failed c.args.listing || g.E.Device.failed c.args.records) in
    rw (c.in-Err.ensures.memory.1, c.in-Err.ensures.memory.2)
    (no_run (world g.P.TextReader.remaining g.P.TextReader.failed g.S.TextReader.remaining g.S.TextReader.failed c.args.plan.now c.args.script.now s) (world g.P.TextReader.remaining g.P.TextReader.failed g.S.TextReader.remaining g.S.TextReader.failed c.args.plan.now c.args.script.now) s refl)

pub returns-in-Ok-clause-unread : goal.returns-in-Ok-clause-unread
returns-in-Ok-clause-unread g c is =
    rw c.finish.ensures.answers (raised _ _ _ c.run_over-outcome.ensures.runs.in_failed (c.finish.ensures.read is))
