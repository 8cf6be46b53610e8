use Rattle.std.proofs.Common.{◌≡◌, ◌+◌, ◌-◌, ◌≤◌, Some, drop}
use Rattle.std.specs.Prelude.{option_map}
use Rattle.camac_lang.specs.View.{statements_of}
use Rattle.camac_rules.specs.Capped.{capped}
use Rattle.camac_rules.specs.Costs.{costs, unreached, verdict}
use Rattle.camac_rules.specs.Refusal.{if_reached}
use Rattle.camac_rules.specs.Statements.{accept_block}
use Rattle.camac_check_simple.specs.Gives.{by_code}
use Rattle.camac_check_rows.specs.Rows.{block_rows, block_verdict, with_rows}
use Rattle.camac_check_rows.specs.Turns.{turned, turns_over}
use Rattle.camac_check.proofs.Blocks.{rest_rule, rest_turns}
use Rattle.camac_check.proofs.statement.+statements.Given as goal

abbrev pub invariant-accept_block-statements : goal.invariant-accept_block-statements
invariant-accept_block-statements l = record {
  rest : rest_rule l.context l.around (verdict l.here l.costs) (statements_of (drop l.statement-index l.block)) ≡ if_reached unreached l.fn.known (accept_block (by_code l.context) l.around (statements_of l.block));
  cut : capped l.costs ≡ l.costs;
  rows : with_rows l.rows (block_rows (by_code l.context) l.around (statements_of (drop l.statement-index l.block)) l.here) ≡ with_rows l.fn.rows (block_rows (by_code l.context) l.around (statements_of l.block) l.fn.known);
}

abbrev pub invariant-accept_turns-turns : goal.invariant-accept_turns-turns
invariant-accept_turns-turns l =
    let context = by_code l.inside.context.now in
    let around = l.inside.around.now in
    let body = statements_of l.body in
    let it = l.head in
    record {
      rest : rest_turns (l.turns - l.turn) it.variable (it.first + l.turn) it.last (accept_block context around body) (verdict l.here l.costs) ≡ rest_turns l.turns it.variable it.first it.last (accept_block context around body) (verdict (Some l.fn.known) (costs 0 0 1));
      cut : capped l.costs ≡ l.costs;
      few : l.reached ≤ l.turn;
      rows : option_map (λ xs. turns_over capped (l.turns - l.turn) it.variable (it.first + l.turn) (block_verdict context around body) (block_rows context around body) l.here (turned l.reached xs)) l.rows ≡ option_map (λ xs. turns_over capped l.turns it.variable it.first (block_verdict context around body) (block_rows context around body) (Some l.fn.known) (turned 0 xs)) l.fn.rows;
    }
