use Rattle.std.proofs.Common.{◌≡◌, ◌++◌, drop, take}
use Rattle.std.specs.Prelude.{take_while}
use Rattle.std.specs.Char.{is_ascii_alphanumeric}
use Rattle.camac_explain_plan.proofs.place.first_word.Given as goal

abbrev pub invariant-bytes : goal.invariant-bytes
invariant-bytes l = take l.place l.text ++ take_while is_ascii_alphanumeric (drop l.place l.text) ≡ take_while is_ascii_alphanumeric l.text
