use Rattle.std.proofs.Common.{◌≡◌, ◌≤◌, ◌+◌, ◌++◌, length}
use Rattle.camac_word.proofs.Prefixes.{IsUnderWay}
use Rattle.camac_lines.specs.Events.{event_lines, last_line, events_text}
use Rattle.camac_lines.proofs.events.write_event_file.Given as goal

abbrev pub invariant-records : goal.invariant-records
invariant-records g l =
    IsUnderWay (events_text l.file.events) (l.line ++ (event_lines (l.records.read + 1) l.records.events ++ last_line (length l.file.events)))
    (g.W.TextWriter.contents l.fn.out) (g.W.TextWriter.contents l.out)
    × (g.W.TextWriter.failed l.out ≡ g.W.TextWriter.failed l.fn.out)
    × (l.records.read + length l.records.events ≡ length l.file.events)
    × (length l.line ≤ 140)

abbrev pub decreases-records : goal.decreases-records
decreases-records g l = length l.records.events
