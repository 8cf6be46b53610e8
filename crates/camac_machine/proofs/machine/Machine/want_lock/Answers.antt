use Rattle.std.proofs.Common.{◌≡◌, Some, sym, ap, subst, ◌∙◌}
use Rattle.std.proofs.lemmas.Bool.{false≢true}
use Rattle.camac_branch.specs.Plan.{Layout, IsPlan}
use Rattle.camac_lang.specs.View.{expression_of, statements_of}
use Rattle.camac_model.specs.Value.{value}
use Rattle.camac_machine.specs.MachineState.{variables_here}
use Rattle.camac_machine.proofs.Actions.{lock_has, lock_can, lock_wants}
use Rattle.camac_machine.proofs.Commands.{crate_in_range}
use Rattle.camac_machine.proofs.machine.Machine.want_lock.Goals as goal

pub value_of-requires : goal.value_of-requires
value_of-requires g c =
    (search, (c.requires.room, (c.requires.declared, lock_has c.args.self.now (expression_of c.args.crate_no.now) (statements_of c.args.body.now) c.requires.fine)))

pub unreachable-requires : goal.unreachable-requires
unreachable-requires g c =
    let P : Layout → Type 0 = λ p. IsPlan p in
    let h = c.args.self.now in
    let can = lock_can h (expression_of c.args.crate_no.now) (statements_of c.args.body.now) c.value_of.result c.value_of.ensures c.requires.fine in
    absurd (false≢true (c.in-None.ensures.in_range.1 (crate_in_range h.checked.now.plan c.value_of.result (subst P c.plan-plan.ensures c.is_plan.ensures) can.0)))

pub returns : goal.returns
returns g c =
    let P : Layout → Type 0 = λ p. IsPlan p in
    let h = c.args.self.now in
    let e = expression_of c.args.crate_no.now in
    let k = c.in-Some.crate_no in
    let is : value e (variables_here h) ≡ Some k = c.value_of.ensures ∙ ap (λ n. Some n) (sym c.in-Some.ensures.kept) in
    let can = lock_can h e (statements_of c.args.body.now) k is c.requires.fine in
    lock_wants h e c.args.body k is (crate_in_range h.checked.now.plan k (subst P c.plan-plan.ensures c.is_plan.ensures) can.0) c.requires.body can
