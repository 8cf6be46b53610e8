use Rattle.std.proofs.Common.{◌≡◌, drop}
use Rattle.camac_lang.specs.View.{statements_of}
use Rattle.camac_rules.specs.EachLimit.{count_block}
use Rattle.camac_check_loops.proofs.judged.+count.Given as goal

abbrev pub invariant-count_block-statements : goal.invariant-count_block-statements
invariant-count_block-statements l =
    count_block l.place (statements_of (drop l.statement-index l.block)) l.sum ≡ count_block l.place (statements_of l.block) l.fn.before
