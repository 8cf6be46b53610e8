use Rattle.std.proofs.Common.{◌≡◌, ◌++◌, drop}
use Rattle.std.specs.Prelude.{flat_map}
use Rattle.camac_engines.specs.Refusals.{check_finding}
use Rattle.camac_engines.proofs.refusals.check_findings.Given as goal

abbrev pub invariant-faults : goal.invariant-faults
invariant-faults l =
    l.findings.items ++ flat_map check_finding (drop l.fault-index l.faults) ≡ flat_map check_finding l.faults
