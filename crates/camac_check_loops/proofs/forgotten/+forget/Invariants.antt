use Rattle.std.proofs.Common.{◌≡◌, drop}
use Rattle.camac_lang.specs.View.{statements_of}
use Rattle.camac_rules.specs.Writes.{forget_block}
use Rattle.camac_check_loops.proofs.forgotten.+forget.Given as goal

abbrev pub invariant-forget_block-statements : goal.invariant-forget_block-statements
invariant-forget_block-statements l =
    forget_block (statements_of (drop l.statement-index l.block)) l.left ≡ forget_block (statements_of l.block) l.fn.left
