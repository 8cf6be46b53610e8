use Rattle.std.proofs.Common.{◌≡◌, map, ◌++◌, ◌∷◌, [], sym, ◌∙◌}
use Rattle.std.proofs.lemmas.Result.{err_from_is_err_and}
use Rattle.std.proofs.lemmas.List.{map_push}
use Rattle.camac_lang.specs.View.{statement_of}
use Rattle.camac_text_cursor.specs.Reading.{one_more, many}
use Rattle.camac_text_statements.specs.Statements.{is_no_end, statement_with, block_at}
use Rattle.camac_text_cursor.specs.Parser.{state}
use Rattle.camac_text_statements.proofs.Bodies.{statement_ok, block_ok, statements_progress}
use Rattle.camac_text_cursor.proofs.Loops.{more, more_fails, ends}
use Rattle.camac_text_statements.proofs.+statement.Goals as goal

pub statements::statements-returns-in_err-statement : goal.statements::statements-returns-in_err-statement
statements::statements-returns-in_err-statement t c =
    let p = err_from_is_err_and c.from_residual.result c.from_residual.ensures.1 in
    rw (p.1, p.2) (more_fails is_no_end (statement_with c.args.room (block_at c.args.room)) (statements_progress c.args.room) (map statement_of c.loop-parser.body.items) (state c.loop-parser.parser) (many is_no_end (statement_with c.args.room (block_at c.args.room)) (state c.args.parser.now)) c.in_err-statement.field-0.0 (state c.statement.new.parser).tried (sym c.is_in_block.ensures ∙ c.loop-parser-test.true) c.in_err-statement.ensures c.loop-parser.invariant)

pub statements::statements-loop-parser-smaller : goal.statements::statements-loop-parser-smaller
statements::statements-loop-parser-smaller t c = (statement_ok c.args.room (block_at c.args.room) (block_ok c.args.room) (state c.loop-parser.parser) (statement_of c.in_ok-statement.ensures.0, state c.statement.new.parser) c.in_ok-statement.ensures.2).less

pub statements::statements-loop-parser-preserved : goal.statements::statements-loop-parser-preserved
statements::statements-loop-parser-preserved t c =
    let added = c.in_ok-statement.ensures in
    let e : (map statement_of c.statement.new.body.items) ≡ (map statement_of c.loop-parser.body.items) ++ (statement_of added.0) ∷ [] = rw added.1 (map_push statement_of c.loop-parser.body.items added.0) in
    rw e (more is_no_end (statement_with c.args.room (block_at c.args.room)) (statements_progress c.args.room) (map statement_of c.loop-parser.body.items) (state c.loop-parser.parser) (many is_no_end (statement_with c.args.room (block_at c.args.room)) (state c.args.parser.now)) (statement_of added.0) (state c.statement.new.parser) (sym c.is_in_block.ensures ∙ c.loop-parser-test.true) added.2 c.loop-parser.invariant)

pub statements::statements-returns : goal.statements::statements-returns
statements::statements-returns t c = ends is_no_end (one_more (statement_with c.args.room (block_at c.args.room))) (statements_progress c.args.room) (map statement_of c.loop-parser.body.items) (state c.loop-parser.parser) (many is_no_end (statement_with c.args.room (block_at c.args.room)) (state c.args.parser.now)) (sym c.is_in_block.ensures ∙ c.loop-parser-test.false) c.loop-parser.invariant
