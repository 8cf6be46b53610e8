use Rattle.std.proofs.Common.{ap, ◌+◌}
use Rattle.camac_event.proofs.Loops.{records_more}
use Rattle.camac_event.proofs.writing.write_records.Goals as goal

pub loop-event-preserved : goal.loop-event-preserved
loop-event-preserved g c = (
  ap (λ n. n + 1) c.loop-event.invariant.0,
  records_more c.args.events.now c.loop-event.event-index c.event-item.result c.loop-event.number _ _ _ c.loop-event-test.true c.event-item.is c.loop-event.invariant.0 c.loop-event.invariant.1
      (rw c.deref.ensures.value at c.in_ok-write_entry.ensures.text),
)
