use Rattle.std.proofs.Common.{◌≡◌, ◌++◌, drop, map, string_bytes}
use denote.Shadow.{shadow}
use denote.Text.{Utf8}
use Rattle.camac_sentence.specs.Filled.{filled, part_text}
use Rattle.camac_sentence.proofs.gaps.fill.Given as goal

abbrev pub invariant-parts : goal.invariant-parts
invariant-parts l =
    (string_bytes l.sentence ++ filled l.rest (map part_text (drop l.part-index l.parts)) ≡ filled l.text (map part_text l.parts))
    × shadow (Utf8 l.rest)
