use Rattle.std.proofs.Common.{rules, Some, None}
use Rattle.camac_esone.proofs.InProgress.{leads_along_q_stop}
use Rattle.camac_esone.proofs.q_stop.QStop.next.Goals as goal

pub returns-then-self-gt0-clause-list : goal.returns-then-self-gt0-clause-list
returns-then-self-gt0-clause-list c = leads_along_q_stop _ (Some c.self.inside.address) (search rules)

pub returns-else-self-gt0-clause-list : goal.returns-else-self-gt0-clause-list
returns-else-self-gt0-clause-list c = leads_along_q_stop _ None (search rules)
