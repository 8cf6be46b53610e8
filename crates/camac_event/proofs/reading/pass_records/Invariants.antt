use Rattle.std.proofs.Common.{◌≡◌, ◌+◌, ◌≤◌, List, length}
use Rattle.camac_event.specs.Spelling.{Entry}
use Rattle.camac_event.specs.Reading.{records_at}
use Rattle.camac_event.proofs.Loops.{IsReading}
use Rattle.camac_event.proofs.reading.pass_records.Given as goal

abbrev pub invariant-loop-rest : goal.invariant-loop-rest
invariant-loop-rest l =
    (l.number + length l.rest ≤ length l.bytes)
    × (prefix : List Entry) × (length prefix ≡ l.number) × IsReading l.version l.total prefix l.rest (records_at (length l.bytes) l.version 1 l.total l.bytes)

abbrev pub decreases-loop-rest : goal.decreases-loop-rest
decreases-loop-rest l = length l.rest
