use Rattle.camac_lang.specs.Nodes.{size}
use Rattle.camac_lang.specs.View.{term_of}
use Rattle.camac_check_known.proofs.condition.+sole_variable.Given as goal

abbrev pub decreases-sole_variable : goal.decreases-sole_variable
decreases-sole_variable l = size (term_of l.e)
