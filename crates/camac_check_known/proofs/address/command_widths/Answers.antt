use Rattle.camac_check_known.proofs.Walks.{declared_at}
use Rattle.camac_check_known.proofs.address.command_widths.Goals as goal

pub returns-in-Some-clause-rule : goal.returns-in-Some-clause-rule
returns-in-Some-clause-rule c =
    declared_at c.args.plan.now c.args.spot c.args.f c.args.g c.in-Some.widths c.in-Some.ensures.installed c.in-Some.ensures.widths
