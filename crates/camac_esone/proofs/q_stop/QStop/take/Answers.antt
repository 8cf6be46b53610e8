use Rattle.std.proofs.Common.{rules}
use Rattle.camac_esone.proofs.InProgress.{adds_cycle}
use Rattle.camac_esone.proofs.q_stop.QStop.take.Goals as goal

pub returns-then-q-clause-stands : goal.returns-then-q-clause-stands
returns-then-q-clause-stands c = adds_cycle _ _ _ (search rules)

pub returns-else-q-clause-stands : goal.returns-else-q-clause-stands
returns-else-q-clause-stands c = adds_cycle _ _ _ (search rules)
