use Rattle.std.proofs.Common.{refl, subst, arith}
use Rattle.camac_lang.specs.View.{statements_of}
use Rattle.camac_machine.specs.MachineState.{owner_in}
use Rattle.camac_machine.specs.Rest.{owed, releases}
use Rattle.camac_run.specs.Sure.{Adds, context_of}
use Rattle.camac_run.proofs.Around.{adds_no_turn, adds_owed, adds_plain, adds_return, adds_turns_left}
use Rattle.camac_run.proofs.Making.{adds_unknown}
use Rattle.camac_run.proofs.ahead.add_after.Goals as goal

pub returns-in-Plain : goal.returns-in-Plain
returns-in-Plain g c = rw c.in-Plain.is (adds_plain (context_of c.args.inside.now) c.args.known.now c.args.coming.now.ahead.items)

pub returns-then-current-last : goal.returns-then-current-last
returns-then-current-last g c =
    let w = c.in-For in
    rw w.is
    (adds_turns_left (context_of c.args.inside.now) w.variable w.current w.last w.turns (statements_of w.body.now) c.args.known.now c.args.coming.now.ahead.items c.add_turns.new.known c.add_turns.new.coming.ahead.items c.add_turns.result c.if-current-last.true (c.add_turns.ensures w.turns))

pub returns-in-Some : goal.returns-in-Some
returns-in-Some g c =
    let x = context_of c.args.inside.now in
    let k = c.args.known.now in
    rw c.in-Locked.is
    (subst (λ n. Adds x.plan (owed x (releases n)) k c.args.coming.now.ahead.items c.release.result k c.release.new.self.ahead.items) c.in-Some.ensures.kept
    (adds_owed x c.in-Some.c k c.args.coming.now.ahead.items c.release.new.self.ahead.items c.release.result c.release.ensures))

pub returns-in-None : goal.returns-in-None
returns-in-None g c =
    adds_unknown c.args.inside.now.checked.now.plan c.args.known.now c.args.known.now (owed (context_of c.args.inside.now) (owner_in c.args.machine.now c.args.owner.now)) c.args.coming.now.ahead.items c.args.coming.now.ahead.items refl

pub returns-else-current-last : goal.returns-else-current-last
returns-else-current-last g c =
    let w = c.in-For in
    rw (w.is, c.note.ensures)
    (adds_no_turn (context_of c.args.inside.now) w.variable w.current w.last w.turns (statements_of w.body.now) c.args.known.now c.args.coming.now.ahead.items (omega (arith, c.if-current-last.false)))

pub returns-in-While : goal.returns-in-While
returns-in-While g c =
    adds_unknown c.args.inside.now.checked.now.plan c.args.known.now c.args.known.now (owed (context_of c.args.inside.now) (owner_in c.args.machine.now c.args.owner.now)) c.args.coming.now.ahead.items c.args.coming.now.ahead.items refl

pub returns-in-Return : goal.returns-in-Return
returns-in-Return g c =
    rw c.in-Return.is
    (adds_return (context_of c.args.inside.now) c.in-Return.caller c.args.machine.now.variables c.args.machine.now.registers c.args.known.now c.see.new.self c.args.coming.now.ahead.items c.see.ensures.variables c.see.ensures.registers)
