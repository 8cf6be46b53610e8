use Rattle.std.proofs.Common.{◌≡◌, length, map}
use Rattle.camac_lang.specs.View.{parameter_of}
use Rattle.camac_tokens.specs.declared.token.Sign.TheVariants as sign
use Rattle.camac_text_cursor.specs.declared.choice.Choice.TheVariants as choice
use Rattle.camac_text_cursor.specs.Reading.{one_more, until}
use Rattle.camac_text_cursor.specs.Readers.{is_sign}
use Rattle.camac_text_cursor.specs.Parser.{state}
use Rattle.camac_text.specs.Procedures.{next_parameter, parameter_list}
use Rattle.camac_text.proofs.procedures.parameter_list.Given as goal

abbrev pub invariant-loop-parser : goal.invariant-loop-parser
invariant-loop-parser l = until (choice.Mark sign.Comma) (is_sign sign.Comma) (one_more next_parameter) (map parameter_of l.parameters.items) (state l.parser) ≡ parameter_list (state l.fn.parser)

abbrev pub decreases-loop-parser : goal.decreases-loop-parser
decreases-loop-parser l = length (state l.parser).rest
