use Rattle.camac_branch.specs.Plan.{kind}
use Rattle.camac_lines.specs.Commands.{commands_text}
use Rattle.camac_lines.specs.Plan.{type_text}
use Rattle.camac_lines.proofs.Lines.{prefix_longer, Writes-at_err}
use Rattle.camac_lines.proofs.Texts.{Writes-after}
use Rattle.camac_lines.proofs.plan.write_type_in.Goals as goal

pub returns-in_err-write_type-in-Commands-clause-text : goal.returns-in_err-write_type-in-Commands-clause-text
returns-in_err-write_type-in-Commands-clause-text g c =
    rw c.in-Commands.is (Writes-at_err c.from_residual.result _ _ _ c.from_residual.ensures.0
    (prefix_longer (type_text c.args.plan.now c.args.t) (commands_text (kind c.args.plan.now c.args.t).commands) _ _ c.in_err-write_type-in-Commands.ensures.text))

pub returns-in_ok-write_type-in-Commands-clause-text : goal.returns-in_ok-write_type-in-Commands-clause-text
returns-in_ok-write_type-in-Commands-clause-text g c =
    rw c.in-Commands.is (Writes-after c.write_commands.result (type_text c.args.plan.now c.args.t) (commands_text (kind c.args.plan.now c.args.t).commands) _ _ _
    c.in_ok-write_type-in-Commands.ensures.text c.write_commands.ensures.text)
