use Rattle.std.proofs.Common.{[], ap, sym, ◌∙◌, arith}
use Rattle.camac_lang.specs.View.{expression_of}
use Rattle.camac_machine.proofs.Actions.{has_value, assign_goes}
use Rattle.camac_machine.specs.MachineState.{context_in, with_value, state_of, variables_here}
use Rattle.camac_machine.specs.Rest.{rest_in}
use Rattle.camac_machine.proofs.Rooms.{advances_by}
use Rattle.camac_machine.proofs.Scopes.{opens_written, room_written, variables_written}
use Rattle.camac_machine.proofs.machine.Machine.assign.Goals as goal

pub value_of-value-requires : goal.value_of-value-requires
value_of-value-requires g c =
    (search, (c.requires.room, (c.requires.fits.1, has_value c.args.self.now (expression_of c.args.assignment.now.value) _ (c.requires.fine []))))

pub returns : goal.returns
returns g c =
    let h = c.args.self.now in
    let v = c.value_of-value.result in
    let x = c.args.assignment.now.variable in
    rw c.set_variable.ensures.same
    (advances_by (room_written h x v c.requires.room) (omega arith) (omega arith)
    (λ answers. ap (λ os. rest_in (context_in h.checked.now) os (state_of (with_value h x v) answers)) (sym (opens_written h x v c.requires.room))
    ∙ assign_goes h x (expression_of c.args.assignment.now.value) v c.value_of-value.ensures (variables_here (with_value h x v)) (variables_written h x v c.requires.fits.0 c.requires.room) answers))
