use Rattle.std.proofs.Common.{◌≡◌, ◌-◌}
use Rattle.camac_word.specs.Watched.{inner_of, has_failed}
use Rattle.camac_word.proofs.Prefixes.{IsUnderWay}
use Rattle.camac_lines.specs.Plan.{station_text}
use Rattle.camac_lines.specs.Texts.{texts}
use Rattle.camac_lines.proofs.plan.write_stations.Given as goal

abbrev pub invariant-stations : goal.invariant-stations
invariant-stations g l =
    IsUnderWay (texts (station_text l.plan l.c) 1 23) (texts (station_text l.plan l.c) l.n (24 - l.n))
    (g.W.Write.contents (inner_of l.fn.out)) (g.W.Write.contents (inner_of l.out))
    × (has_failed l.out ≡ has_failed l.fn.out)
