use Rattle.std.proofs.Common.{ap, subst, ◌∙◌}
use Rattle.std.specs.Prelude.{IfSome}
use Rattle.camac_branch.specs.Allowed.{AllowsCommands}
use Rattle.camac_branch.specs.Plan.{Layout}
use Rattle.camac_machine.specs.MachineState.{IsWidthOf, with_value}
use Rattle.camac_machine.proofs.Courses.{next_at, next_data, proceeds_on, proceeds_over}
use Rattle.camac_machine.proofs.machine.Machine.proceed.Goals as goal

pub command-requires-clause-at : goal.command-requires-clause-at
command-requires-clause-at g c =
    let P : Layout → Type 0 = λ p. AllowsCommands p in
    next_at c.args.self.now c.args.transfer.now (subst P c.plan-plan.ensures c.allows_commands.ensures) c.requires.fine

pub command-requires-clause-data : goal.command-requires-clause-data
command-requires-clause-data g c = next_data c.args.self.now c.args.transfer.now c.requires.fine

pub returns-in-Some-clause-goes : goal.returns-in-Some-clause-goes
returns-in-Some-clause-goes g c =
    let m = c.in-Some.ensures.moves in
    proceeds_on c.args.self.now c.args.transfer.now c.in-Some.command c.width_to_keep-kept_width.result (subst (λ p. IfSome c.width_to_keep-kept_width.result (IsWidthOf p c.in-Some.command)) c.plan-plan.ensures c.width_to_keep-kept_width.ensures) c.requires.fine c.requires.tally c.in-Some.ensures.next_address m.0 m.1 c.requires.room

pub returns-in-None-clause-goes : goal.returns-in-None-clause-goes
returns-in-None-clause-goes g c =
    let h = c.args.self.now in
    let t = c.args.transfer.now in
    proceeds_over h t c.set_variable.new.self c.in-None.ensures.next_address c.requires.tally
    (c.set_variable.ensures.same ∙ ap (λ n. with_value h t.tally n) c.tally.ensures) c.requires.room
