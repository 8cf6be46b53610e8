use Rattle.std.proofs.Common.{◌≡◌, drop}
use Rattle.std.specs.Prelude.{◌||◌}
use Rattle.camac_lang.specs.View.{statements_of}
use Rattle.camac_commands.specs.Commands.{behind_block}
use Rattle.camac_commands.specs.Surely.{surely_block}
use Rattle.camac_response.specs.Reach.{must_clear}
use Rattle.camac_response.proofs.clears.+clears.Given as goal

abbrev pub invariant-block_clears-statements : goal.invariant-block_clears-statements
invariant-block_clears-statements l = record {
  clears : (l.clears || surely_block (must_clear l.asked.plan.now l.asked.lam) l.called (statements_of (drop l.statement-index l.block)) l.left) ≡ surely_block (must_clear l.asked.plan.now l.asked.lam) l.called (statements_of l.block) l.rows;
  behind : behind_block (statements_of (drop l.statement-index l.block)) l.left ≡ behind_block (statements_of l.block) l.rows;
}
