use Rattle.std.proofs.Common.{◌≡◌, ◌++◌, length, take, drop}
use Rattle.camac_rules.specs.Capped.{capped}
use Rattle.camac_check_rows.specs.Turns.{merge}
use Rattle.camac_check_rows.proofs.turns.merge_rows.Given as goal

abbrev pub invariant-rows : goal.invariant-rows
invariant-rows l = record {
  merged : take l.i l.rows.items ++ merge capped (drop l.i l.rows.items) (drop l.i l.turn) ≡ merge capped l.fn.rows.items l.turn;
  long : length l.rows.items ≡ length l.fn.rows.items;
}
