use Rattle.std.proofs.Common.{◌+◌, ◌-◌, ◌<◌, ◌++◌, ◌∷◌, [], refl, sym, ap, subst, ◌∙◌, arith}
use Rattle.camac_lang.specs.View.{statements_of}
use Rattle.camac_machine.specs.declared.machine.Machine.{Machine}
use Rattle.camac_machine.specs.declared.machine.Owner.TheVariants.{For}
use Rattle.camac_machine.specs.MachineState.{reach, free}
use Rattle.camac_machine.specs.Within.{Opens}
use Rattle.camac_machine.proofs.Rooms.{room_kept}
use Rattle.camac_machine.proofs.Loops.{turn_fine, turn_advances}
use Rattle.camac_machine.proofs.machine.Machine.turn.Goals as goal

pub overflow_add-self : goal.overflow_add-self
overflow_add-self g c =
    let s = (turn_fine c.args.self.now c.args.variable c.args.value c.args.last c.args.turns (statements_of c.args.body.now) c.requires.fine).1 in
    let n = ap (λ (m : Machine g.row.V g.row.DEPTH g.row.CAP). m.steps) c.set_variable.ensures.same in
    let r = c.requires.room.steps in omega (arith, n, s, r)

pub overflow_sub-turns : goal.overflow_sub-turns
overflow_sub-turns g c =
    let s = (turn_fine c.args.self.now c.args.variable c.args.value c.args.last c.args.turns (statements_of c.args.body.now) c.requires.fine).0 in omega (arith, s)

pub open-requires : goal.open-requires
open-requires g c =
    let h = c.args.self.now in
    let x = c.args.variable in
    let P : Machine g.row.V g.row.DEPTH g.row.CAP → Type 0 = λ m. (x < (reach m).variables) × Opens (reach m) (free m) (statements_of c.args.body.now) in
    let k = subst P (sym c.set_variable.ensures.same) (c.requires.variable, c.requires.body) in
    (search, (room_kept c.set_variable.ensures.room, (k.1, (k, (refl, λ n. refl)))))

pub returns : goal.returns
returns g c =
    let h = c.args.self.now in
    let x = c.args.variable in
    let v = c.args.value in
    let new = c.open.new.self in
    let some = (turn_fine h x v c.args.last c.args.turns (statements_of c.args.body.now) c.requires.fine).0 in
    let same = c.open.ensures.same ∙ ap (λ (m : Machine g.row.V g.row.DEPTH g.row.CAP). record m { steps = m.steps + 1; frames = new.frames }) c.set_variable.ensures.same in
    let pushed = c.open.ensures.frames ∙ ap (λ (m : Machine g.row.V g.row.DEPTH g.row.CAP). m.frames.items ++ record { rest = c.args.body; owner = For x v c.args.last (c.args.turns - 1) c.args.body } ∷ []) c.set_variable.ensures.same in
    turn_advances h x v c.args.last c.args.turns c.args.body new c.requires.variable some c.requires.room same pushed c.open.ensures.room
