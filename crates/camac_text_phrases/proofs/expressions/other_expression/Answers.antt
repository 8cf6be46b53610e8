use Rattle.std.proofs.lemmas.Result.{err_from_is_err_and}
use Rattle.camac_text_cursor.specs.Parser.{state}
use Rattle.camac_text_phrases.proofs.ExpressionsRead.{factor_fails}
use Rattle.camac_text_phrases.proofs.expressions.other_expression.Goals as goal

pub returns-in_err-first : goal.returns-in_err-first
returns-in_err-first c =
    let p = err_from_is_err_and c.from_residual.result c.from_residual.ensures.1 in
    rw (p.1, p.2) (factor_fails c.args.room (state c.args.parser.now) c.in_err-first.field-0.0 (state c.other_leaf.new.parser).tried (c.in_err-first.ensures c.args.room 0))

pub long_expression-requires : goal.long_expression-requires
long_expression-requires c = (state c.args.parser.now, c.in_ok-first.ensures c.args.room 0)

pub returns : goal.returns
returns c = c.long_expression.ensures (state c.args.parser.now) (c.in_ok-first.ensures c.args.room 0)
