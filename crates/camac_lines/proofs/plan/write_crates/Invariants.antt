use Rattle.std.proofs.Common.{◌≡◌, ◌-◌}
use Rattle.camac_word.specs.Watched.{inner_of, has_failed}
use Rattle.camac_word.proofs.Prefixes.{IsUnderWay}
use Rattle.camac_lines.specs.Plan.{crate_text}
use Rattle.camac_lines.specs.Texts.{texts}
use Rattle.camac_lines.proofs.plan.write_crates.Given as goal

abbrev pub invariant-crates : goal.invariant-crates
invariant-crates g l =
    IsUnderWay (texts (crate_text l.plan) 1 7) (texts (crate_text l.plan) l.c (8 - l.c))
    (g.W.Write.contents (inner_of l.fn.out)) (g.W.Write.contents (inner_of l.out))
    × (has_failed l.out ≡ has_failed l.fn.out)
