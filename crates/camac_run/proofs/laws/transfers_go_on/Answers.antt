use Rattle.camac_run.proofs.Transfers.{transfers_begin, transfers_go_on}
use Rattle.camac_run.proofs.laws.transfers_go_on.Goals as goal

pub returns : goal.returns
returns c = record { begins = transfers_begin; goes_on = transfers_go_on }
