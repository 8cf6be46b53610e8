use Rattle.std.proofs.Common.{◌≡◌, drop}
use Rattle.camac_lang.specs.View.{statements_of}
use Rattle.camac_rules.specs.Writes.{block_writes}
use Rattle.camac_check_loops.proofs.written.+writes.Given as goal

abbrev pub invariant-block_writes-statements : goal.invariant-block_writes-statements
invariant-block_writes-statements l =
    block_writes (statements_of (drop l.statement-index l.block)) l.variable ≡ block_writes (statements_of l.block) l.variable
