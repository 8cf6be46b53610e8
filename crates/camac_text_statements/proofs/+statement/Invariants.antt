use Rattle.std.proofs.Common.{◌≡◌, ◌+◌, ◌*◌, length, map}
use Rattle.camac_lang.specs.View.{statement_of}
use Rattle.camac_text_cursor.specs.Reading.{while_next, one_more, many}
use Rattle.camac_text_statements.specs.Statements.{is_no_end, statement_with, block_at}
use Rattle.camac_text_cursor.specs.Parser.{state}
use Rattle.camac_text_statements.proofs.+statement.Given as goal

abbrev pub decreases-statements::block : goal.decreases-statements::block
decreases-statements::block l = 11 * l.room

abbrev pub decreases-nesting::if_statement : goal.decreases-nesting::if_statement
decreases-nesting::if_statement l = 11 * l.room + 1

abbrev pub decreases-nesting::for_statement : goal.decreases-nesting::for_statement
decreases-nesting::for_statement l = 11 * l.room + 2

abbrev pub decreases-nesting::while_statement : goal.decreases-nesting::while_statement
decreases-nesting::while_statement l = 11 * l.room + 3

abbrev pub decreases-nesting::lock_statement : goal.decreases-nesting::lock_statement
decreases-nesting::lock_statement l = 11 * l.room + 4

abbrev pub decreases-statements::other_statement : goal.decreases-statements::other_statement
decreases-statements::other_statement l = 11 * l.room + 5

abbrev pub decreases-statements::rare_statement : goal.decreases-statements::rare_statement
decreases-statements::rare_statement l = 11 * l.room + 6

abbrev pub decreases-statements::keyword_statement : goal.decreases-statements::keyword_statement
decreases-statements::keyword_statement l = 11 * l.room + 7

abbrev pub decreases-statements::statement : goal.decreases-statements::statement
decreases-statements::statement l = 11 * l.room + 8

abbrev pub decreases-statements::statements : goal.decreases-statements::statements
decreases-statements::statements l = 11 * l.room + 9

abbrev pub decreases-statements::in_braces : goal.decreases-statements::in_braces
decreases-statements::in_braces l = 11 * l.room + 10

abbrev pub invariant-statements::statements-loop-parser : goal.invariant-statements::statements-loop-parser
invariant-statements::statements-loop-parser l = while_next is_no_end (one_more (statement_with l.room (block_at l.room))) (map statement_of l.body.items) (state l.parser) ≡ many is_no_end (statement_with l.fn.room (block_at l.fn.room)) (state l.fn.parser)

abbrev pub decreases-statements::statements-loop-parser : goal.decreases-statements::statements-loop-parser
decreases-statements::statements-loop-parser l = length (state l.parser).rest
