use Rattle.camac_tool.proofs.Caused.{none_have, none_long}
use Rattle.camac_tool.proofs.laws.long_faults_have_causes.Goals as goal

pub returns-clause-texts : goal.returns-clause-texts
returns-clause-texts c = none_have

pub returns-clause-events : goal.returns-clause-events
returns-clause-events c = none_long
