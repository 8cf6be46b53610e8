use Rattle.std.proofs.Common.{◌≡◌, drop, option_map}
use Rattle.std.specs.List.{flat_map}
use Rattle.camac_word.specs.Watched.{inner_of, has_failed}
use Rattle.camac_word.proofs.Prefixes.{IsUnderWay}
use Rattle.camac_check_costs.specs.Texts.{body_text}
use Rattle.camac_check_costs.proofs.texts.write_costs.Given as goal

abbrev pub invariant-bodies : goal.invariant-bodies
invariant-bodies g l =
    IsUnderWay (flat_map (body_text (option_map (λ t. t.now) l.text) l.checked.plan l.checked.script) l.bodies) (flat_map (body_text (option_map (λ t. t.now) l.text) l.checked.plan l.checked.script) (drop l.body-index l.bodies))
    (g.W.Write.contents (inner_of l.fn.out)) (g.W.Write.contents (inner_of l.out))
    × (has_failed l.out ≡ has_failed l.fn.out)
