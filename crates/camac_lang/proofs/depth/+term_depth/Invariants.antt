use Rattle.camac_lang.specs.Nodes.{size}
use Rattle.camac_lang.specs.View.{term_of}
use Rattle.camac_lang.proofs.depth.+term_depth.Given as goal

abbrev pub decreases-term_depth : goal.decreases-term_depth
decreases-term_depth l = size (term_of l.e)
