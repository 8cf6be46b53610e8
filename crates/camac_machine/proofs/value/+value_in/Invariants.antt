use Rattle.std.proofs.Common.{◌+◌, ◌*◌}
use Rattle.camac_lang.specs.Nodes.{size}
use Rattle.camac_lang.specs.View.{term_of}
use Rattle.camac_machine.proofs.value.+value_in.Given as goal

abbrev pub decreases-value_in : goal.decreases-value_in
decreases-value_in l = 2 * size (term_of l.e) + 1

abbrev pub decreases-computed : goal.decreases-computed
decreases-computed l = 2 * size (term_of l.e)
