use Rattle.camac_rules.specs.Addresses.{region_widths, undeclared}
use Rattle.camac_rules.specs.declared.rule.CheckRule.TheVariants.{CommandNotDeclared}
use Rattle.camac_check_known.proofs.Walks.{region_small, given_small}
use Rattle.camac_check_known.proofs.address.walked_widths.Goals as goal

pub returns-clause-in_range : goal.returns-clause-in_range
returns-clause-in_range c =
    given_small (region_widths c.args.plan.now c.args.f c.args.g) c.declared_widths.result CommandNotDeclared c.args.spot (undeclared c.args.plan.now c.args.f c.args.g) c.declared_widths.ensures
    (λ w e. region_small c.args.plan.now c.allows_commands.ensures c.args.f c.args.g w e)
