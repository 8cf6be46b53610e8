use Rattle.camac_lang.specs.Nodes.{size}
use Rattle.camac_lang.specs.View.{term_of}
use Rattle.camac_run.proofs.sure.+value_in.Given as goal

abbrev pub decreases-value_in : goal.decreases-value_in
decreases-value_in l = size (term_of l.e)
