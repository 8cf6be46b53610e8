use Rattle.std.proofs.Common.{◌≡◌, ◌≤◌, ◌<◌, ◌-◌, length, take, slice_index}
use Rattle.std.specs.Io.KnownBytes.{Consumes}
use Rattle.camac_answer.proofs.filling.fill.Given as goal

abbrev pub invariant-pieces : goal.invariant-pieces
invariant-pieces g l =
    record {
      within : l.len ≤ length l.initial.line;
      room : length l.line ≡ length l.initial.line;
      bytes : Consumes (g.R.TextReader.remaining l.initial.reader) (g.R.TextReader.remaining l.reader) (take l.len l.line);
      no_more : 8 < l.len → slice_index l.line 7 ≡ 10 → ⊥;
      flag : g.R.TextReader.failed l.reader ≡ g.R.TextReader.failed l.initial.reader;
    }

abbrev pub decreases-pieces : goal.decreases-pieces
decreases-pieces g l = length l.initial.line - l.len
