use Rattle.camac_esone.proofs.InProgress.{at_start}
use Rattle.camac_esone.proofs.address_scan.Scan.new.Goals as goal

pub returns-clause-stands : goal.returns-clause-stands
returns-clause-stands c = rw (← c.first.view_is, c.from.ensures) (at_start _)
