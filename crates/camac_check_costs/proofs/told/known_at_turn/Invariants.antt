use Rattle.std.proofs.Common.{◌≡◌, ◌-◌}
use Rattle.camac_lang.specs.View.{statements_of}
use Rattle.camac_rules.specs.Statements.{accept_block}
use Rattle.camac_check_simple.specs.Gives.{by_code}
use Rattle.camac_check_costs.specs.Places.{at_turn}
use Rattle.camac_check_costs.proofs.told.known_at_turn.Given as goal

abbrev pub invariant-turns : goal.invariant-turns
invariant-turns l =
    at_turn (accept_block (by_code l.context) l.around (statements_of l.body)) l.head.variable l.value (l.wanted - l.value) l.here
    ≡ at_turn (accept_block (by_code l.context) l.around (statements_of l.body)) l.head.variable l.head.first (l.wanted - l.head.first) l.fn.known
