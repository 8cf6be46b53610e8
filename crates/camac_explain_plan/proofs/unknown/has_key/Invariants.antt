use Rattle.std.proofs.Common.{◌≡◌, drop}
use Rattle.std.specs.List.{list_any}
use Rattle.camac_plan.specs.Field.{is_text}
use Rattle.camac_explain_plan.proofs.unknown.has_key.Given as goal

abbrev pub invariant-known : goal.invariant-known
invariant-known l = list_any (is_text l.key) (drop l.it-index l.known) ≡ list_any (is_text l.key) l.known
