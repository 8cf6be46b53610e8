use Rattle.std.proofs.Common.{◌≡◌, ◌+◌, ◌*◌, [], drop}
use Rattle.camac_lang.specs.View.{statements_of}
use Rattle.camac_model.specs.Fine.{most_turns}
use Rattle.camac_model.specs.Meaning.{block_meaning}
use Rattle.camac_run.specs.Sure.{KnowsLess, context_of}
use Rattle.camac_run.specs.declared.ahead.Known.{Known}
use Rattle.camac_run.proofs.Making.{Extends}
use Rattle.camac_run.proofs.sure.+forget.Given as goal

abbrev pub invariant-forget_block-statements : goal.invariant-forget_block-statements
invariant-forget_block-statements l = record {
  keeps : (k : Known) → KnowsLess l.known k → Extends l.inside.checked.now.plan (block_meaning (context_of l.inside) most_turns (statements_of l.block)) k [] (block_meaning (context_of l.inside) most_turns (statements_of (drop l.statement-index l.block))) k [];
  less : KnowsLess l.fn.known l.known;
  none : l.coming ≡ record l.fn.coming { steps = l.coming.steps };
}

abbrev pub decreases-forget_block : goal.decreases-forget_block
decreases-forget_block l = 5 * l.inside.now.depth + 3

abbrev pub decreases-forget : goal.decreases-forget
decreases-forget l = 5 * l.inside.now.depth + 2

abbrev pub decreases-forget_action : goal.decreases-forget_action
decreases-forget_action l = 5 * l.inside.now.depth + 1

abbrev pub decreases-forget_call : goal.decreases-forget_call
decreases-forget_call l = 5 * l.inside.now.depth

abbrev pub decreases-forget_turns : goal.decreases-forget_turns
decreases-forget_turns l = 5 * l.inside.now.depth + 4

abbrev pub decreases-forget_for : goal.decreases-forget_for
decreases-forget_for l = 5 * l.inside.now.depth + 5
