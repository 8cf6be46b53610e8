use Rattle.std.proofs.Common.{◌≡◌, ◌++◌, drop}
use Rattle.std.specs.Prelude.{flat_map}
use Rattle.camac_engines.specs.Refusals.{further_finding, link_finding}
use Rattle.camac_engines.proofs.refusals.link_findings.Given as goal

abbrev pub invariant-faults : goal.invariant-faults
invariant-faults l =
    l.findings.items ++ flat_map (further_finding l.fn.faults) (drop l.fault-index l.further) ≡ link_finding l.fn.first ++ flat_map (further_finding l.fn.faults) l.further
