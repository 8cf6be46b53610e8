use Rattle.std.proofs.Common.{◌≡◌}
use Rattle.camac_check_costs.specs.Places.{locked_in_both}
use Rattle.camac_check_costs.proofs.told.locked_in_both.Given as goal

abbrev pub invariant-crates : goal.invariant-crates
invariant-crates l = l.both ≡ locked_in_both l.crate_no l.first l.second
