use Rattle.std.proofs.Common.{◌≡◌, take}
use Rattle.camac_rules.specs.Joined.{hulls}
use Rattle.camac_check_known.proofs.joined.hulls.Given as goal

abbrev pub invariant-places : goal.invariant-places
invariant-places l = l.all.items ≡ take l.i (hulls l.first l.second)
