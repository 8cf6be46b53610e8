use Rattle.std.proofs.Common.{◌≡◌, drop}
use Rattle.std.specs.List.{flat_map}
use Rattle.camac_word.specs.Watched.{inner_of, has_failed}
use Rattle.camac_word.proofs.Prefixes.{IsUnderWay}
use Rattle.camac_response.specs.Lines.{unkept_line}
use Rattle.camac_response.proofs.lines.write_unkept.Given as goal

abbrev pub invariant-found : goal.invariant-found
invariant-found g l =
    IsUnderWay (flat_map (unkept_line l.checked.script) l.unkept) (flat_map (unkept_line l.checked.script) (drop l.one-index l.unkept))
    (g.W.Write.contents (inner_of l.fn.out)) (g.W.Write.contents (inner_of l.out))
    × (has_failed l.out ≡ has_failed l.fn.out)
