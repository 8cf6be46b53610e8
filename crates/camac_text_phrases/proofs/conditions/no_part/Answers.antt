use Rattle.std.proofs.Common.{ap, ◌∙◌}
use Rattle.camac_tokens.specs.declared.token.Sign.TheVariants as sign
use Rattle.camac_text_cursor.specs.declared.choice.Choice.TheVariants as choice
use Rattle.camac_text_cursor.specs.Reading.{missed}
use Rattle.camac_text_phrases.proofs.conditions.no_part.Goals as goal

pub returns-clause-missed : goal.returns-clause-missed
returns-clause-missed c = c.unexpected.ensures.missed ∙ ap (missed (choice.Mark sign.LeftBracket)) (c.miss-4.ensures ∙ ap (missed choice.Name) (c.miss-3.ensures ∙ ap (missed choice.Number) (c.miss-2.ensures ∙ ap (missed choice.Flag) c.miss.ensures)))
