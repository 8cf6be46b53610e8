use Rattle.std.proofs.Common.{◌≡◌, length, map}
use Rattle.camac_lang.specs.View.{part_of}
use Rattle.camac_tokens.specs.declared.token.Keyword.TheVariants as word
use Rattle.camac_text_cursor.specs.declared.choice.Choice.TheVariants as choice
use Rattle.camac_text_cursor.specs.Reading.{until}
use Rattle.camac_text_cursor.specs.Readers.{is_keyword}
use Rattle.camac_text_phrases.specs.Conditions.{one_more_part, condition_at}
use Rattle.camac_text_cursor.specs.Parser.{state}
use Rattle.camac_text_phrases.proofs.conditions.condition.Given as goal

abbrev pub invariant-loop-parser : goal.invariant-loop-parser
invariant-loop-parser l = until (choice.Word word.And) (is_keyword word.And) (one_more_part l.room) (map part_of l.parts.items) (state l.parser) ≡ condition_at l.fn.room (state l.fn.parser)

abbrev pub decreases-loop-parser : goal.decreases-loop-parser
decreases-loop-parser l = length (state l.parser).rest
