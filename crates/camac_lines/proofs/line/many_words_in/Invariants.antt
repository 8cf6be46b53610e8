use Rattle.std.proofs.Common.{◌≡◌, ◌≤◌, ◌+◌, ◌-◌, ◌*◌, ◌++◌, length, take}
use Rattle.std.specs.List.{between, flat_map}
use Rattle.camac_lines.specs.Events.{word_text}
use Rattle.camac_lines.proofs.line.many_words_in.Given as goal

abbrev pub invariant-fours : goal.invariant-fours
invariant-fours l =
    record {
      so_far : take l.at l.bytes ≡ take l.start l.initial.bytes ++ flat_map word_text (between l.first l.next l.words);
      place : l.at ≡ l.start + 7 * (l.next - l.first);
      from : l.first ≤ l.next;
      to : l.next ≤ l.last;
      len : length l.bytes ≡ length l.initial.bytes;
    }

abbrev pub decreases-fours : goal.decreases-fours
decreases-fours l = l.last - l.next
