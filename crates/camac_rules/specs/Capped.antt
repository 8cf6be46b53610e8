-- Costs in 64 bits.
use Rattle.std.specs.Prelude.{◌-◌, ◌^◌, min}
use Rattle.camac_model.specs.Fine.{Bounds}
use Rattle.camac_rules.specs.Costs.{costs}

-- each cost, or the largest number of the code
abbrev pub capped : Bounds → Bounds
capped c = costs (min c.cycles (2 ^ 64 - 1)) (min c.words (2 ^ 64 - 1)) (min c.steps (2 ^ 64 - 1))
