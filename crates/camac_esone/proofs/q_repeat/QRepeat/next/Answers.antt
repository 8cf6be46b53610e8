use Rattle.std.proofs.Common.{rules, Some, None}
use Rattle.camac_esone.proofs.InProgress.{leads_along_q_repeat}
use Rattle.camac_esone.proofs.q_repeat.QRepeat.next.Goals as goal

pub returns-then-self-gt0-2-clause-list : goal.returns-then-self-gt0-2-clause-list
returns-then-self-gt0-2-clause-list c = leads_along_q_repeat _ (Some c.self.inside.address) (search rules)

pub returns-else-self-gt0-clause-list : goal.returns-else-self-gt0-clause-list
returns-else-self-gt0-clause-list c = leads_along_q_repeat _ None (search rules)
