use Rattle.std.proofs.Common.{◌≡◌, drop}
use Rattle.toml.specs.View.{items_view}
use Rattle.camac_plan.specs.Commands.{first_declaring}
use Rattle.camac_plan.proofs.command.first_declaring.Given as goal

abbrev pub invariant-items : goal.invariant-items
invariant-items l = first_declaring l.f l.a l.place (items_view (drop l.place l.items.items)) ≡ first_declaring l.f l.a 0 (items_view l.items.items)
