use Rattle.std.proofs.Common.{◌≡◌, ◌≤◌, ◌+◌, ◌-◌, ◌*◌, ◌++◌, codes, drop, length}
use Rattle.std.specs.List.{flat_map}
use Rattle.camac_word.proofs.Prefixes.{IsUnderWay}
use Rattle.camac_lines.specs.Events.{word_text}
use Rattle.camac_lines.proofs.events.put_file_words.Given as goal

abbrev pub invariant-pieces : goal.invariant-pieces
invariant-pieces g l =
    IsUnderWay (l.initial.line ++ flat_map word_text l.words ++ codes "\n") (l.line ++ flat_map word_text (drop l.first l.words) ++ codes "\n")
    (g.W.TextWriter.contents l.initial.out) (g.W.TextWriter.contents l.out)
    × (g.W.TextWriter.failed l.out ≡ g.W.TextWriter.failed l.initial.out)
    × (l.first ≤ length l.words)
    × (length l.line + 7 * l.room ≤ 255)
    × (1 ≤ l.room)

abbrev pub decreases-pieces : goal.decreases-pieces
decreases-pieces g l = length l.words - l.first
