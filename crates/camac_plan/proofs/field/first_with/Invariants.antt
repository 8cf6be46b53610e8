use Rattle.std.proofs.Common.{◌≡◌, drop}
use Rattle.toml.specs.View.{items_view}
use Rattle.camac_plan.specs.Field.{first_with}
use Rattle.camac_plan.proofs.field.first_with.Given as goal

abbrev pub invariant-items : goal.invariant-items
invariant-items l = first_with l.key l.number l.place (items_view (drop l.place l.items.items)) ≡ first_with l.key l.number 0 (items_view l.items.items)
