use Rattle.std.proofs.Common.{◌≡◌, ◌++◌, None, drop}
use Rattle.camac_lang.specs.View.{statements_of}
use Rattle.camac_rules.specs.Cycles.{Around}
use Rattle.camac_check_simple.specs.Gives.{by_code}
use Rattle.camac_check_rows.specs.Rows.{block_rows, inside}
use Rattle.camac_check_rows.proofs.unreached.+unreached.Given as goal

abbrev pub invariant-push_unreached-statements : goal.invariant-push_unreached-statements
invariant-push_unreached-statements l =
    (around : Around)
    → l.rows.items ++ inside (by_code l.context) l.weight (block_rows (by_code l.context) around (statements_of (drop l.statement-index l.block)) None)
    ≡ l.fn.rows.items ++ inside (by_code l.context) l.weight (block_rows (by_code l.context) around (statements_of l.block) None)
