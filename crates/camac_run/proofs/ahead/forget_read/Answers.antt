use Rattle.std.proofs.Common.{sym, subst}
use Rattle.camac_model.specs.State.{Variables}
use Rattle.camac_run.specs.Sure.{KnowsVariables}
use Rattle.camac_run.proofs.Steps.{read_known}
use Rattle.camac_run.proofs.ahead.forget_read.Goals as goal

pub returns-in-Cycle : goal.returns-in-Cycle
returns-in-Cycle c = λ f g k a. let same = rw c.in-Cycle.is at a in subst (λ (vs : Variables). KnowsVariables c.args.variables.now vs) (sym same) k

pub returns-in-Read : goal.returns-in-Read
returns-in-Read c = λ f g k a. let its = rw c.in-Read.is at a in rw c.note.ensures (read_known c.args.variables.now f g c.in-Read.variable its.0 its.1 k)

pub returns-in-Lock : goal.returns-in-Lock
returns-in-Lock c = λ f g k a. let same = rw c.in-Lock.is at a in subst (λ (vs : Variables). KnowsVariables c.args.variables.now vs) (sym same) k

pub returns-in-Transfer : goal.returns-in-Transfer
returns-in-Transfer c = λ f g k a. let its = rw c.in-Transfer.is at a in rw c.note-in-Transfer.ensures (read_known c.args.variables.now f g c.in-Transfer.transfer.tally its.0 its.1 k)

pub returns-in-Pause : goal.returns-in-Pause
returns-in-Pause c = λ f g k a. let no = rw c.in-Pause.is at a in absurd no
