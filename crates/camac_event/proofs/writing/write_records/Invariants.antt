use Rattle.std.proofs.Common.{◌≡◌, take}
use Rattle.std.specs.Io.KnownBytes.{Appends}
use Rattle.camac_event.specs.Spelling.{entries_of, records_from}
use Rattle.camac_event.proofs.writing.write_records.Given as goal

abbrev pub invariant-loop-event : goal.invariant-loop-event
invariant-loop-event g l =
    (l.number ≡ l.event-index)
    × Appends (g.W.TextWriter.contents l.initial.out) (g.W.TextWriter.contents l.out) (records_from 1 (entries_of (take l.event-index l.events)))
