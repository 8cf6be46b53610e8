use Rattle.std.proofs.Common.{◌≡◌, ◌-◌, max}
use Rattle.camac_rules.specs.Addresses.{waits_in}
use Rattle.camac_rules.specs.Walks.{greatest_from}
use Rattle.camac_check_known.proofs.address.waits_from.Given as goal

abbrev pub invariant-loop-c : goal.invariant-loop-c
invariant-loop-c l =
    max l.greatest (greatest_from (waits_in l.plan l.around.locked) l.c (l.end - l.c)) ≡ greatest_from (waits_in l.plan l.around.locked) l.from (l.end - l.from)
