use Rattle.std.proofs.Common.{◌≡◌, drop}
use Rattle.toml.specs.View.{items_view}
use Rattle.camac_explain_plan.specs.Told.{first_other}
use Rattle.camac_explain_plan.proofs.told.first_other.Given as goal

abbrev pub invariant-items : goal.invariant-items
invariant-items l = first_other l.place (items_view (drop l.place l.items.items)) ≡ first_other 0 (items_view l.items.items)
