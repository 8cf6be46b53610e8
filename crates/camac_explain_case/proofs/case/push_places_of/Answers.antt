use Rattle.std.proofs.Common.{◌∙◌}
use Rattle.camac_explain_case.proofs.Told.{pushed}
use Rattle.camac_explain_case.proofs.case.push_places_of.Goals as goal

pub returns-in_ok-extend_from_slice-in-len1-up-3 : goal.returns-in_ok-extend_from_slice-in-len1-up-3
returns-in_ok-extend_from_slice-in-len1-up-3 c =
    pushed c.args.lines.now.items _ _ _ _ c.args.places.now c.args.function c.in-len1-up.len_at_least (c.as_bytes.ensures.value ∙ c.in_ok-format-in-len1-up.ensures.ok)
    c.in_ok-extend_from_slice-in-len1-up.ensures.items c.in_ok-extend_from_slice-in-len1-up-2.ensures.items c.in_ok-extend_from_slice-in-len1-up-3.ensures.items
