use Rattle.std.proofs.Common.{◌≡◌, ◌-◌, length}
use Rattle.camac_word.specs.Watched.{inner_of, has_failed}
use Rattle.camac_word.proofs.Prefixes.{IsUnderWay}
use Rattle.camac_lines.specs.Plan.{type_in}
use Rattle.camac_lines.specs.Texts.{texts}
use Rattle.camac_lines.proofs.plan.write_types.Given as goal

abbrev pub invariant-types : goal.invariant-types
invariant-types g l =
    IsUnderWay (texts (type_in l.detail l.plan) 0 (length l.plan.types)) (texts (type_in l.detail l.plan) l.t (length l.plan.types - l.t))
    (g.W.Write.contents (inner_of l.fn.out)) (g.W.Write.contents (inner_of l.out))
    × (has_failed l.out ≡ has_failed l.fn.out)
