use Rattle.std.proofs.Common.{◌≡◌, ◌≤◌, ◌+◌, ◌-◌, length}
use Rattle.std.specs.Io.KnownBytes.{Consumes}
use Rattle.camac_engines.proofs.reading.read_whole.Given as goal

abbrev pub invariant-loop-chunk : goal.invariant-loop-chunk
invariant-loop-chunk g l =
    Consumes (g.R.TextReader.remaining l.initial.reader) (g.R.TextReader.remaining l.reader) l.bytes.items
    × (length l.bytes.items ≤ l.limit + 1)
    × (length l.chunk ≡ 16384)
    × (g.R.TextReader.failed l.reader ≡ g.R.TextReader.failed l.initial.reader)

abbrev pub decreases-loop-chunk : goal.decreases-loop-chunk
decreases-loop-chunk g l = (l.limit + 1) - length l.bytes.items
