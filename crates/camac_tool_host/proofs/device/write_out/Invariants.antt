-- `write_out` ends, since each turn writes some bytes, and what is written is in the writer.
use Rattle.std.proofs.Common.{◌≡◌, ◌-◌, ◌≤◌, length, take}
use Rattle.std.specs.Io.KnownBytes.{Appends}
use Rattle.camac_tool_host.proofs.device.write_out.Given as goal

abbrev pub invariant-loop-written : goal.invariant-loop-written
invariant-loop-written g l = record {
  bound : l.written ≤ length l.bytes;
  bytes : Appends (g.D.Device.contents l.initial.to) (g.D.Device.contents l.to) (take l.written l.bytes);
  failed : g.D.Device.failed l.to ≡ g.D.Device.failed l.initial.to;
}

abbrev pub decreases-loop-written : goal.decreases-loop-written
decreases-loop-written g l = length l.bytes - l.written
