use Rattle.camac_lang.proofs.Standing as standing
use Rattle.camac_lang.proofs.laws.services_stand.Goals as goal

pub returns : goal.returns
returns c = standing.services_stand
