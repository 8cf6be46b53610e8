use Rattle.std.proofs.Common.{◌+◌, ◌*◌}
use Rattle.camac_lang.specs.Nodes.{size}
use Rattle.camac_lang.specs.View.{term_of}
use Rattle.camac_check_known.proofs.expression.+reach.Given as goal

abbrev pub decreases-reach : goal.decreases-reach
decreases-reach l = 2 * size (term_of l.e) + 1

abbrev pub decreases-reach_operator : goal.decreases-reach_operator
decreases-reach_operator l = 2 * size (term_of l.e)
