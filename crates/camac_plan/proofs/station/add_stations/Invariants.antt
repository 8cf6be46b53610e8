use Rattle.std.proofs.Common.{◌≡◌, drop, IsSome}
use Rattle.toml.specs.View.{items_view}
use Rattle.camac_branch.specs.Plan.{crate_at}
use Rattle.camac_plan.specs.Crates.{crate_view, with_stations}
use Rattle.camac_plan.proofs.station.add_stations.Given as goal

abbrev pub invariant-stations : goal.invariant-stations
invariant-stations l =
    IsSome (crate_at l.plan l.k.number)
    × (with_stations (items_view l.crates.items) (crate_view l.k) l.place l.plan (items_view (drop l.place l.items.items))
    ≡ with_stations (items_view l.crates.items) (crate_view l.k) 0 l.initial.plan (items_view l.items.items))
