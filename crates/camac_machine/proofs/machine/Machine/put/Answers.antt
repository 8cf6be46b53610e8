use Rattle.std.proofs.Common.{◌<◌, [], ◌∷◌, ◌++◌, length, ap, ◌∙◌, arith, rules}
use Rattle.std.proofs.lemmas.Bool.{false≢true}
use Rattle.camac_lang.specs.View.{expression_of}
use Rattle.camac_machine.specs.MachineState.{bounds_of}
use Rattle.camac_machine.proofs.Actions.{has_value, put_fits, put_goes}
use Rattle.camac_machine.proofs.Rooms.{room_kept, advances_by}
use Rattle.camac_machine.proofs.machine.Machine.put.Goals as goal

pub value_of-requires : goal.value_of-requires
value_of-requires g c =
    (search, (c.requires.room, (c.requires.fits, has_value c.args.self.now (expression_of c.args.action.now.value) _ (c.requires.fine []))))

pub push-requires : goal.push-requires
push-requires g c =
    let fits = put_fits c.args.self.now (expression_of c.args.action.now.value) c.value_of.result c.value_of.ensures c.requires.fine in
    let few : length c.args.self.now.words < (bounds_of c.args.self.now).words = fits.0 in
    let room = c.requires.room.words in (search rules, omega (arith, few, room))

pub unreachable-requires : goal.unreachable-requires
unreachable-requires g c =
    let fits = put_fits c.args.self.now (expression_of c.args.action.now.value) c.value_of.result c.value_of.ensures c.requires.fine in
    absurd (false≢true (c.in-None.ensures.in_range.1 fits.1))

pub returns : goal.returns
returns g c =
    let h = c.args.self.now in
    advances_by (room_kept c.requires.room) (omega arith) (omega arith)
    (put_goes h (expression_of c.args.action.now.value) c.value_of.result c.value_of.ensures c.push.new.self (c.push.ensures ∙ ap (λ w. h.words ++ w ∷ []) c.in-Some.ensures.kept))
