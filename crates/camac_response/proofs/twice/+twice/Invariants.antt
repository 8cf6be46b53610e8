use Rattle.std.proofs.Common.{◌≡◌, drop}
use Rattle.camac_lang.specs.View.{statements_of}
use Rattle.camac_commands.specs.Commands.{behind_block}
use Rattle.camac_response.specs.Twice.{clears_block}
use Rattle.camac_response.proofs.twice.+twice.Given as goal

abbrev pub invariant-block_clears-statements : goal.invariant-block_clears-statements
invariant-block_clears-statements l = record {
  clears : clears_block l.asked.plan.now l.asked.lam l.called l.clears (statements_of (drop l.statement-index l.block)) l.left ≡ clears_block l.asked.plan.now l.asked.lam l.called l.fn.so_far (statements_of l.block) l.rows;
  behind : behind_block (statements_of (drop l.statement-index l.block)) l.left ≡ behind_block (statements_of l.block) l.rows;
}
