use Rattle.std.proofs.Common.{◌≡◌, ℕ, ◌<◌, true, length, drop, sym, ap, ◌∙◌, arith}
use Rattle.std.specs.Prelude.{take_while, slice_index}
use Rattle.camac_tokens.specs.Scanning.{is_blank, is_no_line_feed}
use Rattle.camac_tokens.proofs.Scans.{some_left}
use Rattle.camac_tokens.proofs.Steps.{comment_skips, blank_skips, spaces_skip}
use Rattle.camac_tokens.proofs.left.past_long_gaps.Goals as goal

pub loop-byte-preserved-then-byte-eq35 : goal.loop-byte-preserved-then-byte-eq35
loop-byte-preserved-then-byte-eq35 c =
    let rest = c.loop-byte.rest.now in
    let some : 0 < length rest = some_left (length rest) (sym c.is_empty.ensures ∙ c.loop-byte-test.true) in
    let skips = comment_skips c.loop-byte.at rest some c.if-byte-eq35.true in
    let back : c.split_at.result.1.now ≡ drop (length (take_while is_no_line_feed rest)) rest = c.split_at.ensures.back ∙ ap (λ (n : ℕ). drop n rest) c.comment_len.ensures in
    rw back (record { same = skips.same ∙ c.loop-byte.invariant.same; lines = omega (arith, skips.lines, c.loop-byte.invariant.lines) })

pub loop-byte-preserved-then-begins_with_eight_spaces : goal.loop-byte-preserved-then-begins_with_eight_spaces
loop-byte-preserved-then-begins_with_eight_spaces c =
    let skips = spaces_skip 7 c.loop-byte.at c.loop-byte.rest.now (c.begins_with_eight_spaces.ensures c.if-begins_with_eight_spaces.true) in
    rw c.split_at-then-begins_with_eight_spaces.ensures.back (record { same = skips.same ∙ c.loop-byte.invariant.same; lines = omega (arith, skips.lines, c.loop-byte.invariant.lines) })

pub loop-byte-preserved-then-begins_with_two_spaces : goal.loop-byte-preserved-then-begins_with_two_spaces
loop-byte-preserved-then-begins_with_two_spaces c =
    let skips = spaces_skip 1 c.loop-byte.at c.loop-byte.rest.now (c.begins_with_two_spaces.ensures c.if-begins_with_two_spaces.true) in
    rw c.split_at-then-begins_with_two_spaces.ensures.back (record { same = skips.same ∙ c.loop-byte.invariant.same; lines = omega (arith, skips.lines, c.loop-byte.invariant.lines) })

pub loop-byte-preserved : goal.loop-byte-preserved
loop-byte-preserved c =
    let rest = c.loop-byte.rest.now in
    let some : 0 < length rest = some_left (length rest) (sym c.is_empty.ensures ∙ c.loop-byte-test.true) in
    let blank : is_blank (slice_index rest 0) ≡ true = sym c.is_blank.ensures ∙ c.if-is_blank.true in
    let skips = blank_skips c.loop-byte.at rest some blank in
    rw (c.split_at-then-is_blank.ensures.back, c.line_after-at.ensures) (record { same = skips.same ∙ c.loop-byte.invariant.same; lines = omega (arith, skips.lines, c.loop-byte.invariant.lines) })
