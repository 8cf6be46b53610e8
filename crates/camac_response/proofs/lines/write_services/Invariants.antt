use Rattle.std.proofs.Common.{◌≡◌, ◌-◌}
use Rattle.camac_word.specs.Watched.{inner_of, has_failed}
use Rattle.camac_word.proofs.Prefixes.{IsUnderWay}
use Rattle.camac_lines.specs.Texts.{texts}
use Rattle.camac_response.specs.Lines.{bit_text}
use Rattle.camac_response.proofs.lines.write_services.Given as goal

abbrev pub invariant-bits : goal.invariant-bits
invariant-bits g l =
    IsUnderWay (texts (bit_text l.checked.script l.within l.unkept l.twice l.responses) 1 24) (texts (bit_text l.checked.script l.within l.unkept l.twice l.responses) l.bit (25 - l.bit))
    (g.W.Write.contents (inner_of l.fn.out)) (g.W.Write.contents (inner_of l.out))
    × (has_failed l.out ≡ has_failed l.fn.out)
