use Rattle.std.proofs.Common.{◌≡◌, drop}
use Rattle.toml.specs.View.{items_view}
use Rattle.camac_plan.specs.Types.{with_types}
use Rattle.camac_plan.proofs.module_type.add_types.Given as goal

abbrev pub invariant-types : goal.invariant-types
invariant-types l = with_types l.plan (items_view (drop l.item-index l.items.items)) ≡ with_types l.initial.plan (items_view l.items.items)
