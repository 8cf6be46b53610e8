use Rattle.std.proofs.Common.{◌≡◌, ◌++◌, drop, map}
use Rattle.std.specs.Prelude.{filter}
use Rattle.camac_explain_text_place.specs.Expected.{is_word_alone}
use Rattle.camac_explain_text_place.specs.declared.expected.Expected.TheVariants as expected
use Rattle.camac_explain_text_place.proofs.expected.push_words.Given as goal

abbrev pub invariant-words : goal.invariant-words
invariant-words l =
    l.found.items ++ map expected.Word (filter (is_word_alone l.noted) (drop l.word-index l.words)) ≡ l.initial.found.items ++ map expected.Word (filter (is_word_alone l.noted) l.words)
