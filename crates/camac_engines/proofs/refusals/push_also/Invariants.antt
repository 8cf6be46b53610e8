use Rattle.std.proofs.Common.{◌≡◌, ◌++◌, drop}
use Rattle.std.specs.Prelude.{flat_map}
use Rattle.camac_engines.specs.Refusals.{also_line}
use Rattle.camac_engines.proofs.refusals.push_also.Given as goal

abbrev pub invariant-findings : goal.invariant-findings
invariant-findings l =
    l.lines.items ++ flat_map (also_line l.text) (drop l.finding-index l.findings) ≡ l.fn.lines.items ++ flat_map (also_line l.text) l.findings
