use Rattle.std.proofs.Common.{◌≡◌, ◌++◌, map, take}
use Rattle.camac_rules.specs.Capped.{capped}
use Rattle.camac_check_rows.specs.Weights.{laid_row}
use Rattle.camac_check_rows.proofs.inside.push_laid.Given as goal

abbrev pub invariant-inner : goal.invariant-inner
invariant-inner l = l.rows.items ≡ l.fn.rows.items ++ map (laid_row capped l.level) (take l.row-index l.inner)
