use Rattle.std.proofs.Common.{◌≡◌, take}
use Rattle.camac_rules.specs.Joined.{join_registers}
use Rattle.camac_check_known.proofs.joined.join_registers.Given as goal

abbrev pub invariant-places : goal.invariant-places
invariant-places l = l.all.items ≡ take l.i (join_registers l.first l.second)
