use Rattle.std.proofs.Common.{◌≡◌, ◌++◌, drop}
use Rattle.camac_lang.specs.View.{statements_of}
use Rattle.camac_check_costs.specs.Places.{each_around}
use Rattle.camac_check_costs.proofs.turns.+around.Given as goal

abbrev pub invariant-push_each_around-statements : goal.invariant-push_each_around-statements
invariant-push_each_around-statements l =
    l.loops.items ++ each_around l.left (statements_of (drop l.statement-index l.block)) ≡ l.fn.loops.items ++ each_around l.left (statements_of l.block)
