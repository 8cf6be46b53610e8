use Rattle.std.proofs.Common.{◌≡◌, length}
use Rattle.camac_text_cursor.specs.declared.choice.Choice.TheVariants as choice
use Rattle.camac_text_cursor.specs.Reading.{until}
use Rattle.camac_text_cursor.specs.Parser.{state}
use Rattle.camac_text_cursor.specs.Readers.{is_number}
use Rattle.camac_text.specs.Tables.{one_more_word, table_words}
use Rattle.camac_text.proofs.tables.table_words.Given as goal

abbrev pub invariant-loop-parser : goal.invariant-loop-parser
invariant-loop-parser l = until choice.Number is_number one_more_word l.words.items (state l.parser) ≡ table_words (state l.fn.parser)

abbrev pub decreases-loop-parser : goal.decreases-loop-parser
decreases-loop-parser l = length (state l.parser).rest
