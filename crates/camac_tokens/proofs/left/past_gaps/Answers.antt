use Rattle.camac_tokens.proofs.Steps.{space_is_past, line_feed_is_past}
use Rattle.camac_tokens.proofs.left.past_gaps.Goals as goal

pub returns-in-len2-up : goal.returns-in-len2-up
returns-in-len2-up c = rw c.split_at.ensures.back (space_is_past c.args.line c.args.text.now c.in-len2-up.len_at_least c.if-first-eq32.true c.if-second-gt35.true)

pub returns-in-len2-up-2 : goal.returns-in-len2-up-2
returns-in-len2-up-2 c = rw c.split_at-in-len2-up-2.ensures.back (line_feed_is_past c.args.line c.args.text.now c.in-len2-up-2.len_at_least c.if-first-eq10.true c.if-second-gt35-2.true)
