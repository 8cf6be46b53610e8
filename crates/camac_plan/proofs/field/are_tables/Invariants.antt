use Rattle.std.proofs.Common.{◌≡◌, drop}
use Rattle.toml.specs.View.{items_view}
use Rattle.camac_plan.specs.Field.{are_tables}
use Rattle.camac_plan.proofs.field.are_tables.Given as goal

abbrev pub invariant-items : goal.invariant-items
invariant-items l = are_tables (items_view (drop l.item-index l.item-items)) ≡ are_tables (items_view l.item-items)
