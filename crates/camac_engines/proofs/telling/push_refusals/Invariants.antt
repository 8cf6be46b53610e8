use Rattle.std.proofs.Common.{◌≡◌, ◌++◌, drop}
use Rattle.std.specs.Prelude.{flat_map}
use Rattle.camac_engines.specs.Tell.{told_refusal}
use Rattle.camac_engines.proofs.telling.push_refusals.Given as goal

abbrev pub invariant-findings : goal.invariant-findings
invariant-findings l =
    l.lines.items ++ flat_map (told_refusal l.plan l.text l.script) (drop l.finding-index l.findings)
    ≡ l.fn.lines.items ++ flat_map (told_refusal l.plan l.text l.script) l.findings
