use Rattle.std.proofs.Common.{◌≡◌, drop}
use Rattle.toml.specs.View.{items_view}
use Rattle.camac_plan.specs.Crates.{first_with_bit}
use Rattle.camac_plan.proofs.station.first_with_bit.Given as goal

abbrev pub invariant-crates : goal.invariant-crates
invariant-crates l = first_with_bit l.bit l.crate_place (items_view (drop l.crate_place l.crates.items)) ≡ first_with_bit l.bit 0 (items_view l.crates.items)
