use Rattle.std.proofs.Common.{◌≡◌, ◌≤◌, drop}
use Rattle.camac_explain_plan.specs.Place.{last_begin_from}
use Rattle.camac_explain_plan.proofs.place.last_begin.Given as goal

abbrev pub invariant-bytes : goal.invariant-bytes
invariant-bytes l = (last_begin_from l.begin l.place (drop l.place l.text) ≡ last_begin_from 0 0 l.text) × (l.begin ≤ l.place)
