use Rattle.camac_lang.specs.Nodes.{size}
use Rattle.camac_lang.specs.View.{term_of}
use Rattle.camac_check_loops.proofs.written.+fall_by.Given as goal

abbrev pub decreases-fall_by : goal.decreases-fall_by
decreases-fall_by l = size (term_of l.value)
