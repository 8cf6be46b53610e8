use Rattle.camac_tokens.proofs.Spellings.{told_by_numbers}
use Rattle.camac_tokens.proofs.words.is_word.Goals as goal

pub returns : goal.returns
returns c =
    told_by_numbers c.args.text.now c.args.word.now c.args.number c.number_of.result
    c.requires.number (record { value = c.number_of.ensures.value; only = c.number_of.ensures.only }) c.requires.short
