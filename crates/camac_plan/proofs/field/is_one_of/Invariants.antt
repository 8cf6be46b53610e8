use Rattle.std.proofs.Common.{◌≡◌, drop}
use Rattle.std.specs.List.{list_any}
use Rattle.camac_plan.specs.Field.{is_text}
use Rattle.camac_plan.proofs.field.is_one_of.Given as goal

abbrev pub invariant-keys : goal.invariant-keys
invariant-keys l = list_any (is_text l.key) (drop l.known-index l.keys) ≡ list_any (is_text l.key) l.keys
