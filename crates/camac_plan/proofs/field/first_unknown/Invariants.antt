use Rattle.std.proofs.Common.{◌≡◌, ◌+◌, length}
use Rattle.toml.specs.View.{members_view}
use Rattle.camac_plan.specs.Field.{first_unknown}
use Rattle.camac_plan.proofs.field.first_unknown.Given as goal

abbrev pub invariant-members : goal.invariant-members
invariant-members l =
    (goal.iterator-members).can_next l.key-iterator × (goal.iterator-members).is_finite l.key-iterator
    × (first_unknown l.keys l.entry (members_view l.key-iterator) ≡ first_unknown l.keys 0 (members_view l.table.entries))
    × (l.entry + length l.key-iterator ≡ l.size)
