use Rattle.camac_play.proofs.Whole.{headline_over}
use Rattle.camac_play.proofs.playing.play_over.Goals as goal

pub returns-clause-headline : goal.returns-clause-headline
returns-clause-headline g c =
    headline_over _ c.args.telling c.args.checked.now.plan c.args.checked.now.script _ _ c.args.checked.now.bounds c.runs_by_headline.ensures.headline c.runs_by_headline.ensures.always c.requests_are_safe.ensures _ _ c.play_on.result c.play_on.ensures.plays
