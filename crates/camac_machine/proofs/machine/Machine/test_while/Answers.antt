use Rattle.std.proofs.Common.{Some, map, ap, ◌∙◌, arith}
use Rattle.camac_lang.specs.View.{part_of, statements_of}
use Rattle.camac_machine.proofs.Loops.{while_test_has, while_test_fine, while_test_stops, while_test_advances}
use Rattle.camac_machine.proofs.machine.Machine.test_while.Goals as goal

pub holds-requires : goal.holds-requires
holds-requires g c =
    (search, (c.requires.room, (c.requires.declared, while_test_has c.args.self.now (map part_of c.args.test.now) (statements_of c.args.body.now) c.args.turns c.requires.fine)))

pub overflow_add-self : goal.overflow_add-self
overflow_add-self g c =
    let e = c.holds.ensures ∙ ap (λ b. Some b) c.if-holds.true in
    let s = (while_test_fine c.args.self.now (map part_of c.args.test.now) (statements_of c.args.body.now) c.args.turns e c.requires.fine).1 in
    let r = c.requires.room.steps in omega arith

pub overflow_sub-turns : goal.overflow_sub-turns
overflow_sub-turns g c =
    let e = c.holds.ensures ∙ ap (λ b. Some b) c.if-holds.true in
    let s = (while_test_fine c.args.self.now (map part_of c.args.test.now) (statements_of c.args.body.now) c.args.turns e c.requires.fine).0 in omega (arith, s)

pub returns-then-holds : goal.returns-then-holds
returns-then-holds g c =
    let e = c.holds.ensures ∙ ap (λ b. Some b) c.if-holds.true in
    let some = (while_test_fine c.args.self.now (map part_of c.args.test.now) (statements_of c.args.body.now) c.args.turns e c.requires.fine).0 in
    while_test_advances c.args.self.now c.args.test c.args.turns c.args.body c.open.new.self some e c.open.ensures.same c.open.ensures.frames c.open.ensures.room

pub returns-else-holds : goal.returns-else-holds
returns-else-holds g c =
    while_test_stops c.args.self.now (map part_of c.args.test.now) (statements_of c.args.body.now) c.args.turns (c.holds.ensures ∙ ap (λ b. Some b) c.if-holds.false) c.requires.room
