use Rattle.std.proofs.Common.{◌≡◌}
use Rattle.toml.specs.View.{members_view}
use Rattle.camac_explain_plan.specs.Told.{nth_key}
use Rattle.camac_explain_plan.proofs.unknown.nth_key.Given as goal

abbrev pub invariant-members : goal.invariant-members
invariant-members l =
    (goal.iterator-members).can_next l.key-iterator × (goal.iterator-members).is_finite l.key-iterator
    × (nth_key l.left (members_view l.key-iterator) ≡ nth_key l.entry (members_view l.members.entries))
