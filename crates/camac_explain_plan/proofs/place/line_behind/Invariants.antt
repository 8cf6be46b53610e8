use Rattle.std.proofs.Common.{◌≡◌, ◌≤◌, ◌+◌, drop}
use Rattle.std.specs.Prelude.{count_by}
use Rattle.camac_explain_plan.specs.Place.{is_line_feed}
use Rattle.camac_explain_plan.proofs.place.line_behind.Given as goal

abbrev pub invariant-bytes : goal.invariant-bytes
invariant-bytes l = (l.line + count_by is_line_feed (drop l.byte-index l.before) ≡ count_by is_line_feed l.before + 1) × (l.line ≤ l.byte-index + 1)
