use Rattle.std.proofs.Common.{◌≡◌, ◌++◌, drop, map}
use Rattle.camac_explain.specs.Source.{shown_byte}
use Rattle.camac_explain.proofs.source.push_shown.Given as goal

abbrev pub invariant-bytes : goal.invariant-bytes
invariant-bytes l = l.lines.items ++ map shown_byte (drop l.byte-index l.bytes) ≡ l.fn.lines.items ++ map shown_byte l.bytes
