use Rattle.std.proofs.Common.{drop, map}
use Rattle.camac_tool_words.proofs.CommandLines.{AreRead}
use Rattle.camac_tool_words.proofs.words.numbers_in.Given as goal

abbrev pub invariant-words : goal.invariant-words
invariant-words l = AreRead (map (λ w. w.now) l.words) (drop l.word-index (map (λ w. w.now) l.words)) l.numbers.items
