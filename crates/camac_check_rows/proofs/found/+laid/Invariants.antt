use Rattle.std.proofs.Common.{◌≡◌, ◌++◌, map, drop}
use Rattle.camac_rules.specs.Capped.{capped}
use Rattle.camac_check_rows.proofs.Laid.{parts_rows}
use Rattle.camac_check_rows.specs.Weights.{laid_row}
use Rattle.camac_check_rows.proofs.found.+laid.Given as goal

abbrev pub invariant-lay-parts : goal.invariant-lay-parts
invariant-lay-parts l =
    l.rows.items ++ map (laid_row capped l.level) (parts_rows (drop l.part-index l.parts))
    ≡ l.fn.rows.items ++ map (laid_row capped l.level) (parts_rows l.parts)
