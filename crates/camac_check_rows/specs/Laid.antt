-- The rows of a part, laid out.
use Rattle.std.specs.Prelude.{List, ◌∷◌, ◌++◌, map, flat_map}
use Rattle.camac_rules.specs.Capped.{capped}
use Rattle.camac_check_rows.specs.declared.row.Row.{Row}
use Rattle.camac_check_rows.specs.declared.found.Part.{Part}
use Rattle.camac_check_rows.specs.declared.found.Part.TheFolds.{fold-Part}
use Rattle.camac_check_rows.specs.Weights.{inside_row}

-- of each part of its block it has the rows
abbrev pub part_rows : Part → List Row
part_rows = fold-Part (List Row) (λ p. p.before.items ++ p.own ∷ map (inside_row capped p.weight) (flat_map (λ rows. rows) p.parts.items ++ p.last.items))
