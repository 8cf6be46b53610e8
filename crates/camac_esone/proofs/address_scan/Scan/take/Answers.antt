use Rattle.std.proofs.Common.{rules}
use Rattle.camac_esone.proofs.InProgress.{adds_cycle}
use Rattle.camac_esone.proofs.address_scan.Scan.take.Goals as goal

pub returns-then-self-lt15-clause-stands : goal.returns-then-self-lt15-clause-stands
returns-then-self-lt15-clause-stands c = adds_cycle _ _ _ (search rules)

pub returns-else-q-2-clause-stands : goal.returns-else-q-2-clause-stands
returns-else-q-2-clause-stands c = adds_cycle _ _ _ (search rules)
