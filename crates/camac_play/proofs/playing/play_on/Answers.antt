use Rattle.std.proofs.Common.{◌∙◌, ap, Err}
use Rattle.std.proofs.lemmas.Result.{err_from_is_err_and}
use Rattle.camac_play.specs.Told.{ending_text}
use Rattle.camac_play.proofs.Sending.{listing_by}
use Rattle.camac_play.proofs.Whole.{stops_over, finishes_over}
use Rattle.camac_play.proofs.playing.play_on.Goals as goal

pub returns-in_err-ending-clause-plays : goal.returns-in_err-ending-clause-plays
returns-in_err-ending-clause-plays g c =
    let p = err_from_is_err_and c.from_residual.result c.from_residual.ensures.1 in
    stops_over _ c.args.telling c.args.checked.now.plan c.args.checked.now.script _ _ _ _ c.in_err-ending.field-0.0 c.from_residual.result (p.1 ∙ ap Err p.2) c.in_err-ending.ensures.feeds

pub returns-clause-plays : goal.returns-clause-plays
returns-clause-plays g c =
    rw c.finish.ensures.only.left
    (finishes_over _ c.args.telling c.args.checked.now.plan c.args.checked.now.script _ _ _ _ _ c.in_ok-ending.ending c.in_ok-ending.count c.finish.result c.finish.ensures.few c.in_ok-ending.ensures.feeds
    c.finish.ensures.value c.finish.ensures.fault
    (listing_by c.finish.result _ _ _ _ (ending_text c.in_ok-ending.ending c.in_ok-ending.count) c.finish.ensures.only.records c.finish.ensures.text))
