use Rattle.std.proofs.Common.{◌≡◌, ◌++◌, drop, map}
use Rattle.std.specs.Prelude.{filter}
use Rattle.camac_explain_text_place.specs.Expected.{is_group}
use Rattle.camac_explain_text_place.specs.declared.expected.Expected.TheVariants as expected
use Rattle.camac_explain_text_place.proofs.expected.push_groups.Given as goal

abbrev pub invariant-groups : goal.invariant-groups
invariant-groups l =
    l.found.items ++ map expected.Group (filter (is_group l.noted) (drop l.group-index l.groups)) ≡ l.initial.found.items ++ map expected.Group (filter (is_group l.noted) l.groups)
