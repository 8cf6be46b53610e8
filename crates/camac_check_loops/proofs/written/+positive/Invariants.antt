use Rattle.camac_lang.specs.Nodes.{size}
use Rattle.camac_lang.specs.View.{term_of}
use Rattle.camac_check_loops.proofs.written.+positive.Given as goal

abbrev pub decreases-positive : goal.decreases-positive
decreases-positive l = size (term_of l.e)
