use Rattle.std.proofs.Common.{sym, ◌∙◌, arith}
use Rattle.camac_tokens.specs.Scanning.{is_no_line_feed}
use Rattle.camac_tokens.proofs.Scans.{run_of_eight, run_on}
use Rattle.camac_tokens.proofs.scanner.comment_len.Goals as goal

pub loop-rest-preserved : goal.loop-rest-preserved
loop-rest-preserved c =
    let rest = c.loop-rest.rest.now in
    let eight = run_of_eight is_no_line_feed rest c.in-len8-up.len_at_least (sym c.has_no_line_feed.ensures ∙ c.if-not-has_no_line_feed.false) (sym c.has_no_line_feed-else-not-has_no_line_feed.ensures ∙ c.if-not-has_no_line_feed-2.false) in
    run_on is_no_line_feed 8 c.loop-rest.count c.args.text.now rest c.in-len8-up.len_at_least eight c.loop-rest.invariant

pub returns : goal.returns
returns c = omega (arith, c.loop-rest.invariant.0, c.short_comment_len.ensures)
