use Rattle.std.proofs.Common.{◌≡◌, ◌≤◌, ◌+◌, drop}
use Rattle.std.specs.Prelude.{count_by}
use Rattle.camac_explain_plan.specs.Place.{begins_character}
use Rattle.camac_explain_plan.proofs.place.characters.Given as goal

abbrev pub invariant-bytes : goal.invariant-bytes
invariant-bytes l = (l.count + count_by begins_character (drop l.byte-index l.line) ≡ count_by begins_character l.line) × (l.count ≤ l.byte-index)
