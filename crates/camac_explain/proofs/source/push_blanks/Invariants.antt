use Rattle.std.proofs.Common.{◌≡◌, ◌++◌, drop}
use Rattle.std.specs.List.{flat_map}
use Rattle.camac_explain.specs.Source.{blank_below}
use Rattle.camac_explain.proofs.source.push_blanks.Given as goal

abbrev pub invariant-bytes : goal.invariant-bytes
invariant-bytes l = l.lines.items ++ flat_map blank_below (drop l.byte-index l.bytes) ≡ l.fn.lines.items ++ flat_map blank_below l.bytes
