use Rattle.std.proofs.Common.{◌+◌, ◌*◌, drop}
use Rattle.camac_lang.specs.View.{statements_of}
use Rattle.camac_model.specs.Fine.{most_turns}
use Rattle.camac_model.specs.Meaning.{block_meaning}
use Rattle.camac_run.specs.Sure.{context_of}
use Rattle.camac_run.proofs.Making.{Extends, TurnsLeft}
use Rattle.camac_run.proofs.ahead.+walk.Given as goal

abbrev pub invariant-add_block-statements : goal.invariant-add_block-statements
invariant-add_block-statements l =
    Extends l.inside.checked.now.plan (block_meaning (context_of l.inside) most_turns (statements_of l.block)) l.fn.known l.fn.coming.ahead.items (block_meaning (context_of l.inside) most_turns (statements_of (drop l.statement-index l.block))) l.known l.coming.ahead.items

abbrev pub invariant-add_turns-turns : goal.invariant-add_turns-turns
invariant-add_turns-turns l =
    TurnsLeft l.inside.checked.now.plan l.variable l.first l.last l.value (block_meaning (context_of l.inside) most_turns (statements_of l.body)) l.fn.known l.known l.fn.coming.ahead.items l.coming.ahead.items

abbrev pub decreases-add_block : goal.decreases-add_block
decreases-add_block l = 7 * l.inside.now.depth + 6

abbrev pub decreases-add_statement : goal.decreases-add_statement
decreases-add_statement l = 7 * l.inside.now.depth + 5

abbrev pub decreases-add_lock : goal.decreases-add_lock
decreases-add_lock l = 7 * l.inside.now.depth + 4

abbrev pub decreases-add_if : goal.decreases-add_if
decreases-add_if l = 7 * l.inside.now.depth + 4

abbrev pub decreases-add_for : goal.decreases-add_for
decreases-add_for l = 7 * l.inside.now.depth + 4

abbrev pub decreases-add_from : goal.decreases-add_from
decreases-add_from l = 7 * l.inside.now.depth + 3

abbrev pub decreases-add_turns : goal.decreases-add_turns
decreases-add_turns l = 7 * l.inside.now.depth + 2

abbrev pub decreases-add_turn : goal.decreases-add_turn
decreases-add_turn l = 7 * l.inside.now.depth + 1

abbrev pub decreases-add_call : goal.decreases-add_call
decreases-add_call l = 7 * l.inside.now.depth + 1
