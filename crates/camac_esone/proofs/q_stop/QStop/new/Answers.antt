use Rattle.camac_esone.proofs.InProgress.{at_start}
use Rattle.camac_esone.proofs.q_stop.QStop.new.Goals as goal

pub returns-clause-stands : goal.returns-clause-stands
returns-clause-stands c = at_start _
