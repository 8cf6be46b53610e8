use Rattle.std.proofs.Common.{[], Some, None, set, ap, sym, ◌∙◌, arith, ◌+◌}
use Rattle.camac_lang.specs.View.{expression_of}
use Rattle.camac_branch.specs.Address.{address}
use Rattle.camac_model.specs.Value.{value}
use Rattle.camac_machine.specs.MachineState.{context_in, variables_here, state_of}
use Rattle.camac_machine.specs.Rest.{rest_in}
use Rattle.camac_machine.specs.Store.{registers_in, held_at}
use Rattle.camac_machine.proofs.Actions.{has_value, known, register_goes}
use Rattle.camac_machine.proofs.Rooms.{advances_by}
use Rattle.camac_machine.proofs.Scopes.{held_set, opens_register, room_register}
use Rattle.camac_machine.proofs.machine.Machine.set_register.Goals as goal

pub value_of-c-requires : goal.value_of-c-requires
value_of-c-requires g c =
    (search, (c.requires.room, (c.requires.fits.1, has_value c.args.self.now (expression_of c.args.setting.now.crate_no) _ (c.requires.fine []))))

pub value_of-n-requires : goal.value_of-n-requires
value_of-n-requires g c =
    let h = c.args.self.now in
    let has = has_value h (expression_of c.args.setting.now.station) _
    (known h (value (expression_of c.args.setting.now.crate_no) (variables_here h)) c.value_of-c.result _ [] c.value_of-c.ensures (c.requires.fine [])) in
    (search, (c.requires.room, (c.requires.fits.2, has)))

pub value_of-a-requires : goal.value_of-a-requires
value_of-a-requires g c =
    let h = c.args.self.now in
    let has = has_value h (expression_of c.args.setting.now.sub_address) _
    (known h (value (expression_of c.args.setting.now.station) (variables_here h)) c.value_of-n.result _ [] c.value_of-n.ensures
    (known h (value (expression_of c.args.setting.now.crate_no) (variables_here h)) c.value_of-c.result _ [] c.value_of-c.ensures (c.requires.fine []))) in
    (search, (c.requires.room, (c.requires.fits.3, has)))

pub returns : goal.returns
returns g c =
    let h = c.args.self.now in
    let r = c.args.setting.now.register in
    let at = Some (address c.value_of-c.result c.value_of-n.result c.value_of-a.result) in
    let rs = set h.registers (h.scope.registers.start + r) at in
    let few = c.requires.room.scope.more_registers in
    rw c.set_in.ensures
    (advances_by (room_register h r at c.requires.room) (omega arith) (omega arith)
    (λ answers. ap (λ os. rest_in (context_in h.checked.now) os (state_of (record h { registers = rs }) answers)) (sym (opens_register h r at c.requires.room))
    ∙ register_goes h r (expression_of c.args.setting.now.crate_no) (expression_of c.args.setting.now.station) (expression_of c.args.setting.now.sub_address) c.value_of-c.result c.value_of-n.result c.value_of-a.result c.value_of-c.ensures c.value_of-n.ensures c.value_of-a.ensures (registers_in (held_at h.scope.registers rs))
    (held_set None h.scope.registers h.registers r at c.requires.fits.0 (omega (arith, few, c.requires.room.registers))) answers))
