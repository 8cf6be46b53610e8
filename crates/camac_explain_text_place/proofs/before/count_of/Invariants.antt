use Rattle.std.proofs.Common.{◌≡◌, ◌+◌, ◌≤◌, drop}
use Rattle.camac_explain_text_place.specs.Before.{count_of}
use Rattle.camac_explain_text_place.proofs.before.count_of.Given as goal

abbrev pub invariant-kinds : goal.invariant-kinds
invariant-kinds l = (l.count + count_of l.wanted (drop l.kind-index l.phrase) ≡ count_of l.wanted l.phrase) × (l.count ≤ l.kind-index)
