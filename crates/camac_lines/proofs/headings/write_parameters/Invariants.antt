use Rattle.std.proofs.Common.{◌≡◌, ◌≤◌, drop, length, map}
use Rattle.camac_lang.specs.View.{parameter_of}
use Rattle.camac_word.specs.Watched.{inner_of, has_failed}
use Rattle.camac_word.proofs.Prefixes.{IsUnderWay}
use Rattle.camac_lines.specs.Headings.{parameters_after, parameters_text}
use Rattle.camac_lines.proofs.headings.write_parameters.Given as goal

abbrev pub invariant-parameters : goal.invariant-parameters
invariant-parameters g l =
    IsUnderWay (parameters_text (map parameter_of l.parameters)) (parameters_after l.between (map parameter_of (drop l.parameter-index l.parameters)))
    (g.W.Write.contents (inner_of l.fn.out)) (g.W.Write.contents (inner_of l.out))
    × (has_failed l.out ≡ has_failed l.fn.out) × (length l.between ≤ 2)
