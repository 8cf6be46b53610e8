use Rattle.std.proofs.Common.{Err, subst}
use Rattle.camac_play.specs.Play.{PlaysIn}
use Rattle.camac_tool_run.proofs.running.run_checked.Goals as goal

pub returns-in-Ok-clause-runs : goal.returns-in-Ok-clause-runs
returns-in-Ok-clause-runs g c = (c.in-Ok.ending, c.outcome_of.ensures, c.in-Ok.ensures.plays)

pub returns-in-Ok-clause-headline : goal.returns-in-Ok-clause-headline
returns-in-Ok-clause-headline g c = (c.is_checked.ensures.accepted, c.in-Ok.ensures.headline)

pub returns-in-Err-Write-clause-runs : goal.returns-in-Err-Write-clause-runs
returns-in-Err-Write-clause-runs g c =
    subst (λ e. PlaysIn c.args.telling c.args.checked.now.plan c.args.checked.now.script (g.I.RunIo.state c.args.io.now) (g.I.RunIo.state c.play_over.new.io) (Err e)) c.in-Err-Write.field-0-is c.in-Err-Write.ensures.plays
