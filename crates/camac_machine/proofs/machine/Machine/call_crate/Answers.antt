use Rattle.std.proofs.Common.{◌≡◌, ◌≤◌, ℕ, Some, sym, ap, subst, ◌∙◌}
use Rattle.std.proofs.lemmas.Bool.{false≢true}
use Rattle.camac_branch.specs.Allowed.{AllowsCommands}
use Rattle.camac_branch.specs.Plan.{Layout}
use Rattle.camac_esone.specs.Calls.{crate_address, crate_function}
use Rattle.camac_func.specs.declared.data.DataMove.TheVariants as moved
use Rattle.camac_lang.specs.View.{expression_of}
use Rattle.camac_model.specs.Value.{value}
use Rattle.camac_machine.specs.MachineState.{variables_here}
use Rattle.camac_machine.proofs.Actions.{crate_has, crate_can, crate_wants, crate_of}
use Rattle.camac_machine.proofs.Commands.{on_branch}
use Rattle.camac_machine.proofs.machine.Machine.call_crate.Goals as goal

pub value_of-requires : goal.value_of-requires
value_of-requires g c =
    (search, (c.requires.room, (c.requires.fits, crate_has c.args.self.now c.args.action.now.call (expression_of c.args.action.now.crate_no) c.requires.fine)))

pub unreachable-requires : goal.unreachable-requires
unreachable-requires g c =
    let P : Layout → Type 0 = λ p. AllowsCommands p in
    let Q : ℕ → Type 0 = λ n. (1 ≤ n) × (n ≤ 7) in
    let h = c.args.self.now in
    let can = crate_can h c.args.action.now.call (expression_of c.args.action.now.crate_no) c.value_of.result c.value_of.ensures c.requires.fine in
    let on = on_branch h.checked.now.plan (subst P c.plan-plan.ensures c.allows_commands.ensures) (crate_address c.args.action.now.call c.value_of.result) (crate_function c.args.action.now.call) moved.None can.1 in
    absurd (false≢true (c.in-None.ensures.in_range.1 (subst Q (crate_of h c.args.action.now.call c.value_of.result) (on.crate_from_1, on.crate_to_7))))

pub returns : goal.returns
returns g c =
    let h = c.args.self.now in
    let e = expression_of c.args.action.now.crate_no in
    let is : value e (variables_here h) ≡ Some c.in-Some.c = c.value_of.ensures ∙ ap (λ n. Some n) (sym c.in-Some.ensures.kept) in
    crate_wants h c.args.action.now.call e c.in-Some.c c.crate_call.result is c.crate_call.ensures (crate_can h c.args.action.now.call e c.in-Some.c is c.requires.fine)
