use Rattle.camac_lang.proofs.Standing as standing
use Rattle.camac_lang.proofs.laws.limits_hold.Goals as goal

pub returns : goal.returns
returns c = standing.limits_hold
