use Rattle.std.proofs.Common.{map, refl}
use Rattle.camac_lang.specs.View.{part_of, statements_of}
use Rattle.camac_machine.specs.Store.{held_at}
use Rattle.camac_machine.proofs.Leaves.{plain_leaves, room_left, owner_left, next_fine, next_leaves, last_leaves, while_fine, while_leaves, return_leaves}
use Rattle.camac_machine.proofs.machine.Machine.leave.Goals as goal

pub release-requires : goal.release-requires
release-requires g c = (search, (rw c.in-Locked.is at c.requires.room, rw c.in-Locked.is at c.requires.fine))

pub turn-requires : goal.turn-requires
turn-requires g c =
    let h = c.args.self.now in
    let r = rw c.in-For.is at c.requires.room in
    let o = owner_left h _ r in
    (search, (room_left h _ refl (λ k. refl) r, (o.0, (o.1, next_fine h c.in-For.variable c.in-For.current c.in-For.last c.in-For.turns (statements_of c.in-For.body.now) c.if-current-last.true (rw c.in-For.is at c.requires.fine)))))

pub set_variable-requires : goal.set_variable-requires
set_variable-requires g c =
    let h = c.args.self.now in
    let r = rw c.in-For.is at c.requires.room in
    let o = owner_left h _ r in
    (search, (room_left h _ refl (λ k. refl) r, o.0))

pub test_while-requires : goal.test_while-requires
test_while-requires g c =
    let h = c.args.self.now in
    let r = rw c.in-While.is at c.requires.room in
    let o = owner_left h _ r in
    (search, (room_left h _ refl (λ k. refl) r, (o.0, (o.1, while_fine h (map part_of c.in-While.test.now) c.in-While.turns (statements_of c.in-While.body.now) (rw c.in-While.is at c.requires.fine)))))

pub returns-in-Plain : goal.returns-in-Plain
returns-in-Plain g c = rw c.in-Plain.is (plain_leaves c.args.self.now (rw c.in-Plain.is at c.requires.room))

pub returns-in-Locked : goal.returns-in-Locked
returns-in-Locked g c = rw c.in-Locked.is c.release.ensures

pub returns-then-current-last : goal.returns-then-current-last
returns-then-current-last g c =
    rw c.in-For.is (next_leaves c.args.self.now c.in-For.variable c.in-For.current c.in-For.last c.in-For.turns (statements_of c.in-For.body.now) c.if-current-last.true c.turn.new.self c.turn.ensures)

pub returns-else-current-last : goal.returns-else-current-last
returns-else-current-last g c =
    let h = c.args.self.now in
    let r = rw c.in-For.is at c.requires.room in
    let o = owner_left h _ r in
    rw c.in-For.is (last_leaves h c.in-For.variable c.in-For.current c.in-For.last c.in-For.turns (statements_of c.in-For.body.now) c.if-current-last.false o.0 c.set_variable.new.self c.set_variable.ensures.same (room_left h _ refl (λ k. refl) r))

pub returns-in-While : goal.returns-in-While
returns-in-While g c =
    rw c.in-While.is (while_leaves c.args.self.now (map part_of c.in-While.test.now) c.in-While.turns (statements_of c.in-While.body.now) c.test_while.new.self c.test_while.ensures)

pub returns-in-Return : goal.returns-in-Return
returns-in-Return g c =
    let h = c.args.self.now in
    let p = c.in-Return.caller in
    rw c.in-Return.is (return_leaves h p (held_at p.variables h.variables) (held_at p.registers h.registers) refl refl (rw c.in-Return.is at c.requires.room))
