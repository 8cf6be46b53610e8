use Rattle.std.proofs.Common.{◌≡◌, ◌++◌, drop}
use Rattle.std.specs.List.{flat_map}
use Rattle.byteorder.specs.Endian.{big_bytes}
use Rattle.camac_word.proofs.Prefixes.{IsUnderWay}
use Rattle.camac_event.proofs.writing.write_words.Given as goal

abbrev pub invariant-words : goal.invariant-words
invariant-words g l =
    IsUnderWay (l.initial.layout.items ++ flat_map (big_bytes 4) l.words) (l.layout.items ++ flat_map (big_bytes 4) (drop l.word-index l.words))
    (g.W.TextWriter.contents l.initial.out) (g.W.TextWriter.contents l.out)
    × (g.W.TextWriter.failed l.out ≡ g.W.TextWriter.failed l.initial.out)
