use Rattle.std.proofs.Common.{◌<◌, length, sym, ◌∙◌}
use Rattle.std.proofs.lemmas.Bool.{eqb-true}
use Rattle.camac_tokens.proofs.Scans.{some_left}
use Rattle.camac_tokens.proofs.Steps.{put_left, nothing_ahead}
use Rattle.camac_tokens.proofs.left.cut.Goals as goal

pub returns-then-is_empty-clause-ahead : goal.returns-then-is_empty-clause-ahead
returns-then-is_empty-clause-ahead c =
    nothing_ahead c.past_gaps-line.result.1 c.past_gaps-line.result.0.now (eqb-true _ 0 (sym c.is_empty.ensures ∙ c.if-is_empty.true)) ∙ c.past_gaps-line.ensures.same

pub split_at-requires : goal.split_at-requires
split_at-requires c =
    let rest = c.past_gaps-line.result.0.now in
    let at = c.past_gaps-line.result.1 in
    let some : 0 < length rest = some_left (length rest) (sym c.is_empty.ensures ∙ c.if-is_empty.false) in
    (put_left at rest c.put_token-size.new.next c.put_token-size.result some c.past_gaps-line.ensures.begins (rw c.line_number.ensures at c.put_token-size.ensures)).fits

pub returns-clause-ahead : goal.returns-clause-ahead
returns-clause-ahead c =
    let rest = c.past_gaps-line.result.0.now in
    let at = c.past_gaps-line.result.1 in
    let some : 0 < length rest = some_left (length rest) (sym c.is_empty.ensures ∙ c.if-is_empty.false) in
    rw c.split_at.ensures.back ((put_left at rest c.put_token-size.new.next c.put_token-size.result some c.past_gaps-line.ensures.begins (rw c.line_number.ensures at c.put_token-size.ensures)).ahead ∙ c.past_gaps-line.ensures.same)
