use Rattle.std.proofs.Common.{◌≡◌, ◌+◌, ◌*◌, length, take}
use Rattle.std.specs.List.{between, flat_map}
use Rattle.camac_lines.specs.Events.{word_text}
use Rattle.camac_lines.proofs.line.four_words.Given as goal

abbrev pub invariant-words : goal.invariant-words
invariant-words l =
    record {
      so_far : take l.at l.bytes ≡ flat_map word_text (between l.first (l.first + l.i) l.words);
      place : l.at ≡ 7 * l.i;
      len : length l.bytes ≡ 28;
    }
