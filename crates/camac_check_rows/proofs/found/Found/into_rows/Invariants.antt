use Rattle.std.proofs.Common.{◌≡◌, ◌++◌, drop}
use Rattle.camac_check_rows.proofs.Laid.{parts_rows}
use Rattle.camac_check_rows.proofs.found.Found.into_rows.Given as goal

abbrev pub invariant-parts : goal.invariant-parts
invariant-parts l = l.rows.items ++ parts_rows (drop l.part-index l.part-items) ≡ parts_rows l.part-items
