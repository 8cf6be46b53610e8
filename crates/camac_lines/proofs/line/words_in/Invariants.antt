use Rattle.std.proofs.Common.{◌≡◌, ◌+◌, ◌-◌, ◌*◌, ◌++◌, length, take}
use Rattle.std.specs.List.{between, flat_map}
use Rattle.camac_lines.specs.Events.{word_text}
use Rattle.camac_lines.proofs.line.words_in.Given as goal

abbrev pub invariant-words : goal.invariant-words
invariant-words l =
    record {
      so_far : take l.at l.bytes ≡ take l.start l.initial.bytes ++ flat_map word_text (between l.fn.first l.i l.fn.words);
      place : l.at ≡ l.start + 7 * (l.i - l.fn.first);
      len : length l.bytes ≡ length l.initial.bytes;
    }
