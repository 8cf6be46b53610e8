use Rattle.std.proofs.Common.{◌≡◌, Some, sym, ap, subst, ◌∙◌}
use Rattle.std.proofs.lemmas.Bool.{false≢true}
use Rattle.camac_branch.specs.Allowed.{AllowsCommands, width}
use Rattle.camac_branch.specs.Plan.{Layout}
use Rattle.camac_func.specs.declared.data.DataMove.TheVariants as moved
use Rattle.camac_lang.specs.View.{expression_of, move_of}
use Rattle.camac_model.specs.Cycle.{sized}
use Rattle.camac_model.specs.Value.{value}
use Rattle.camac_machine.specs.MachineState.{variables_here}
use Rattle.camac_machine.specs.Rest.{address_of}
use Rattle.camac_machine.proofs.Actions.{address_set, control_can, read_can, write_has, write_can, control_wants, read_wants, write_wants}
use Rattle.camac_machine.proofs.Commands.{on_branch, word_fits}
use Rattle.camac_machine.proofs.machine.Machine.single.Goals as goal

pub address_in-at-requires : goal.address_in-at-requires
address_in-at-requires g c =
    (search, (c.requires.room, (c.requires.fits.0, address_set c.args.self.now c.args.action.now.size c.args.action.now.function c.args.action.now.register (move_of c.args.action.now.data) c.requires.fine)))

pub command-requires : goal.command-requires
command-requires g c =
    let P : Layout → Type 0 = λ p. AllowsCommands p in
    let h = c.args.self.now in
    on_branch h.checked.now.plan (subst P c.plan-plan.ensures c.allows_commands.ensures) c.address_in-at.result c.args.action.now.function moved.None
    (control_can h c.args.action.now.size c.args.action.now.function c.args.action.now.register c.address_in-at.result c.address_in-at.ensures (rw c.in-NoData.is at c.requires.fine)).1

pub command-command-requires : goal.command-command-requires
command-command-requires g c =
    let P : Layout → Type 0 = λ p. AllowsCommands p in
    let h = c.args.self.now in
    on_branch h.checked.now.plan (subst P c.plan-plan.ensures c.allows_commands.ensures) c.address_in-at.result c.args.action.now.function moved.In
    (read_can h c.args.action.now.size c.args.action.now.function c.args.action.now.register _ c.address_in-at.result c.address_in-at.ensures (rw c.in-Into.is at c.requires.fine)).1

pub value_of-requires : goal.value_of-requires
value_of-requires g c =
    let has = write_has c.args.self.now c.args.action.now.size c.args.action.now.function c.args.action.now.register (expression_of c.in-From.value) c.address_in-at.result c.address_in-at.ensures (rw c.in-From.is at c.requires.fine) in
    (search, (c.requires.room, (rw c.in-From.is at c.requires.fits.1, has)))

pub command-requires-in-Some : goal.command-requires-in-Some
command-requires-in-Some g c =
    let P : Layout → Type 0 = λ p. AllowsCommands p in
    let h = c.args.self.now in
    let can = write_can h c.args.action.now.size c.args.action.now.function c.args.action.now.register (expression_of c.in-From.value) c.address_in-at.result c.value_of.result c.address_in-at.ensures c.value_of.ensures (rw c.in-From.is at c.requires.fine) in
    on_branch h.checked.now.plan (subst P c.plan-plan.ensures c.allows_commands.ensures) c.address_in-at.result c.args.action.now.function (moved.Out c.value_of.result) can.1.1

pub unreachable-requires : goal.unreachable-requires
unreachable-requires g c =
    let P : Layout → Type 0 = λ p. AllowsCommands p in
    let h = c.args.self.now in
    let can = write_can h c.args.action.now.size c.args.action.now.function c.args.action.now.register (expression_of c.in-From.value) c.address_in-at.result c.value_of.result c.address_in-at.ensures c.value_of.ensures (rw c.in-From.is at c.requires.fine) in
    absurd (false≢true (c.in-None.ensures.in_range.1 (word_fits h.checked.now.plan (subst P c.plan-plan.ensures c.allows_commands.ensures) c.address_in-at.result c.args.action.now.function c.value_of.result can.1.1)))

pub returns-in-NoData : goal.returns-in-NoData
returns-in-NoData g c =
    let h = c.args.self.now in
    rw c.in-NoData.is
    (control_wants h c.args.action.now.size c.args.action.now.function c.args.action.now.register c.address_in-at.result c.command.result c.address_in-at.ensures c.command.ensures
    (control_can h c.args.action.now.size c.args.action.now.function c.args.action.now.register c.address_in-at.result c.address_in-at.ensures (rw c.in-NoData.is at c.requires.fine)))

pub returns-in-Into : goal.returns-in-Into
returns-in-Into g c =
    let h = c.args.self.now in
    let at = c.address_in-at.result in
    let k = c.command-command.result in
    let b : c.bits_kept-bits.result ≡ sized c.args.action.now.size (width h.checked.now.plan (address_of k) k.f) = c.bits_kept-bits.ensures.value ∙ ap (λ p. sized c.args.action.now.size (width p (address_of k) k.f)) c.plan-plan.ensures in
    rw c.in-Into.is
    (read_wants h c.args.action.now.size c.args.action.now.function c.args.action.now.register c.in-Into.variable at k c.bits_kept-bits.result c.address_in-at.ensures c.command-command.ensures b
    (rw c.in-Into.is at c.requires.fits.1) c.bits_kept-bits.ensures.in_range
    (read_can h c.args.action.now.size c.args.action.now.function c.args.action.now.register c.in-Into.variable at c.address_in-at.ensures (rw c.in-Into.is at c.requires.fine)))

pub returns-in-Some : goal.returns-in-Some
returns-in-Some g c =
    let h = c.args.self.now in
    let at = c.address_in-at.result in
    let e = expression_of c.in-From.value in
    let w = c.in-Some.word in
    let is : value e (variables_here h) ≡ Some w = c.value_of.ensures ∙ ap (λ n. Some n) (sym c.in-Some.ensures.kept) in
    rw c.in-From.is
    (write_wants h c.args.action.now.size c.args.action.now.function c.args.action.now.register e at w c.command-in-Some.result c.address_in-at.ensures is c.command-in-Some.ensures
    (write_can h c.args.action.now.size c.args.action.now.function c.args.action.now.register e at w c.address_in-at.ensures is (rw c.in-From.is at c.requires.fine)))
