use Rattle.std.proofs.Common.{ap, refl, ◌∙◌}
use Rattle.camac_rules.specs.Refusal.{if_reached}
use Rattle.camac_check_simple.specs.Gives.{by_code, leaving}
use Rattle.camac_check_rows.specs.Rows.{with_rows}
use Rattle.camac_check.proofs.Rows.{action_found}
use Rattle.camac_check.proofs.statement.with_its_row.Goals as goal

pub returns-clause-rows : goal.returns-clause-rows
unfolding if_reached
returns-clause-rows c =
    c.in_ok-put.ensures
    ∙ ap (with_rows c.args.rows.now)
    (action_found (by_code c.args.place.now.context.now) c.args.place.now.around.now c.args.action.now c.args.known.now (leaving c.by_its_rule.new.known c.in_ok-costs.costs)
    c.in_ok-detail.detail _ c.in_ok-costs.ensures c.in_ok-detail.ensures refl)
