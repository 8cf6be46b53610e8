use Rattle.camac_run.proofs.Undone.{setting_back_holds}
use Rattle.camac_run.proofs.laws.setting_back_holds.Goals as goal

pub returns : goal.returns
returns c = setting_back_holds
