use Rattle.std.proofs.Common.{rules, Some, None}
use Rattle.camac_branch.specs.Address.{address}
use Rattle.camac_esone.proofs.InProgress.{leads_along_scan}
use Rattle.camac_esone.proofs.address_scan.Scan.next.Goals as goal

pub returns-then-is_by_last-clause-list : goal.returns-then-is_by_last-clause-list
returns-then-is_by_last-clause-list c = leads_along_scan _ (Some (address c.self.inside.c c.self.inside.n c.self.inside.a)) (search rules)

pub returns-else-self-gt0-clause-list : goal.returns-else-self-gt0-clause-list
returns-else-self-gt0-clause-list c = leads_along_scan _ None (search rules)
