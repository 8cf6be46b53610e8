use Rattle.std.proofs.Common.{◌≡◌, length, map}
use Rattle.camac_lang.specs.View.{keep_of}
use Rattle.camac_tokens.specs.declared.token.Sign.TheVariants as sign
use Rattle.camac_text_cursor.specs.declared.choice.Choice.TheVariants as choice
use Rattle.camac_text_cursor.specs.Reading.{until}
use Rattle.camac_text_cursor.specs.Readers.{is_sign}
use Rattle.camac_text_phrases.specs.Keeps.{one_more_keep, keep_list}
use Rattle.camac_text_cursor.specs.Parser.{state}
use Rattle.camac_text_phrases.proofs.keeping.keep_list.Given as goal

abbrev pub invariant-more : goal.invariant-more
invariant-more l = until (choice.Mark sign.Comma) (is_sign sign.Comma) (one_more_keep l.own) (map keep_of l.keeps.items) (state l.parser) ≡ keep_list l.fn.own (state l.fn.parser)

abbrev pub decreases-more : goal.decreases-more
decreases-more l = length (state l.parser).rest
