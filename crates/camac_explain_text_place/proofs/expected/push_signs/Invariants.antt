use Rattle.std.proofs.Common.{◌≡◌, ◌++◌, drop, map}
use Rattle.std.specs.Prelude.{filter}
use Rattle.camac_explain_text_place.specs.Expected.{is_sign_alone}
use Rattle.camac_explain_text_place.specs.declared.expected.Expected.TheVariants as expected
use Rattle.camac_explain_text_place.proofs.expected.push_signs.Given as goal

abbrev pub invariant-signs : goal.invariant-signs
invariant-signs l =
    l.found.items ++ map expected.Sign (filter (is_sign_alone l.noted) (drop l.sign-index l.signs)) ≡ l.initial.found.items ++ map expected.Sign (filter (is_sign_alone l.noted) l.signs)
