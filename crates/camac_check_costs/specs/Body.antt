-- The bound of a body, and what each of its statements has of it.
use Rattle.std.specs.Prelude.{List}
use Rattle.camac_model.specs.Fine.{Bounds}
use Rattle.camac_check_costs.specs.declared.bodies.Owner.{Owner}
use Rattle.camac_check_rows.specs.declared.row.Row.{Row}

pub record BodyRows : Type 0 where
  pub owner : Owner
  pub costs : Bounds
  pub rows : List Row
