use Rattle.std.proofs.Common.{◌≡◌, drop}
use Rattle.camac_lang.specs.View.{statements_of}
use Rattle.camac_commands.specs.Commands.{behind_block}
use Rattle.camac_response.specs.Unkept.{asks, first_block}
use Rattle.camac_response.proofs.least.+first.Given as goal

abbrev pub invariant-block_line-statements : goal.invariant-block_line-statements
invariant-block_line-statements l =
    let test = asks l.least.plan.now l.least.asked l.least.lam in
    record {
      line : first_block test l.called l.line (statements_of (drop l.statement-index l.block)) l.left ≡ first_block test l.called l.fn.so_far (statements_of l.block) l.rows;
      behind : behind_block (statements_of (drop l.statement-index l.block)) l.left ≡ behind_block (statements_of l.block) l.rows;
    }
