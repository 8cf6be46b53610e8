use Rattle.std.proofs.Common.{◌≡◌, ◌++◌, drop, length, string_bytes}
use Rattle.camac_explain_plan.specs.Told.{keys_from}
use Rattle.camac_explain_plan.proofs.unknown.keys_text.Given as goal

abbrev pub invariant-keys : goal.invariant-keys
invariant-keys l = string_bytes l.text ++ keys_from l.place (length l.keys) (drop l.place l.keys) ≡ keys_from 0 (length l.keys) l.keys
