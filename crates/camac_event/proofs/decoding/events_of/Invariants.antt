use Rattle.std.proofs.Common.{◌≡◌, ◌++◌, length}
use Rattle.camac_event.specs.Spelling.{entries_of}
use Rattle.camac_event.proofs.decoding.events_of.Given as goal

abbrev pub invariant-loop-record : goal.invariant-loop-record
invariant-loop-record l = entries_of l.events.items ++ l.records.events ≡ l.file.events

abbrev pub decreases-loop-record : goal.decreases-loop-record
decreases-loop-record l = length l.records.events
