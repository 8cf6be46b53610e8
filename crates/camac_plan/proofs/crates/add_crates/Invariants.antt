use Rattle.std.proofs.Common.{◌≡◌, drop}
use Rattle.toml.specs.View.{items_view}
use Rattle.camac_plan.specs.Crates.{with_crates}
use Rattle.camac_plan.proofs.crates.add_crates.Given as goal

abbrev pub invariant-crates : goal.invariant-crates
invariant-crates l =
    with_crates (items_view l.crates.items) l.place l.plan (items_view (drop l.place l.crates.items))
    ≡ with_crates (items_view l.crates.items) 0 l.initial.plan (items_view l.crates.items)
