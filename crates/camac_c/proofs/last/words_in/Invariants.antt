use Rattle.std.proofs.Common.{◌≡◌, ◌+◌, ◌*◌, ◌++◌, drop, take, length}
use Rattle.std.specs.List.{flat_map}
use Rattle.byteorder.specs.Endian.{big_bytes}
use Rattle.camac_c.proofs.last.words_in.Given as goal

abbrev pub invariant-words : goal.invariant-words
invariant-words l = record {
  written : take l.start l.initial.bytes ++ flat_map (big_bytes 4) l.words ≡ take l.end l.bytes ++ flat_map (big_bytes 4) (drop l.word-index l.words);
  end : l.end ≡ l.start + 4 * l.word-index;
  len : length l.bytes ≡ length l.initial.bytes;
}
