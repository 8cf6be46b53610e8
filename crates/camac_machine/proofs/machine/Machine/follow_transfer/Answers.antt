use Rattle.std.proofs.Common.{refl, sym, ap, subst, ◌∙◌}
use Rattle.camac_machine.specs.declared.machine.Pending.TheVariants.{Cycle, Read, Lock, Transfer, Pause}
use Rattle.camac_machine.specs.Course.{words_sent}
use Rattle.camac_machine.specs.MachineState.{pending_of}
use Rattle.camac_machine.specs.Rest.{address_of, transfers}
use Rattle.camac_branch.specs.Allowed.{AllowsCommands}
use Rattle.camac_branch.specs.Plan.{Layout}
use Rattle.camac_machine.proofs.Courses.{further, further_fine, moves_on, moves_over, next_at, next_data, reads_in, stays_at, cycle_alone, read_alone, lock_alone, pause_alone, alone_proceeds}
use Rattle.camac_machine.proofs.machine.Machine.follow_transfer.Goals as goal

pub move_on-requires-clause-at : goal.move_on-requires-clause-at
move_on-requires-clause-at g c =
    let w = c.in-Some-Transfer in
    let k = w.transfer in
    let P : Layout → Type 0 = λ p. AllowsCommands p in
    next_at c.args.self.now (further c.args.self.now k.command k.kept_width k.course c.take.new.self k.table k.tally c.take.ensures) (subst P c.plan.ensures c.allows_commands.ensures)
    (further_fine c.args.self.now k.command k.kept_width k.course c.take.new.self k.table k.tally c.take.ensures (rw (w.is, w.field-0-is) at c.requires.fine))

pub move_on-requires-clause-data : goal.move_on-requires-clause-data
move_on-requires-clause-data g c =
    let w = c.in-Some-Transfer in
    let k = w.transfer in
    next_data c.args.self.now (further c.args.self.now k.command k.kept_width k.course c.take.new.self k.table k.tally c.take.ensures)
    (further_fine c.args.self.now k.command k.kept_width k.course c.take.new.self k.table k.tally c.take.ensures (rw (w.is, w.field-0-is) at c.requires.fine))

pub move_on-requires-clause-stays : goal.move_on-requires-clause-stays
move_on-requires-clause-stays g c = λ yes.
    let w = c.in-Some-Transfer in
    let k = w.transfer in
    let ready = rw (w.is, w.field-0-is) at c.requires.follows in
    stays_at (address_of k.command) k.course c.take.new.self c.args.self.now.q (sym c.stays-stays.ensures ∙ yes) ready.1 c.take.ensures

pub move_on-requires-clause-reads : goal.move_on-requires-clause-reads
move_on-requires-clause-reads g c =
    let w = c.in-Some-Transfer in
    let k = w.transfer in
    let ready = rw (w.is, w.field-0-is) at c.requires.follows in
    reads_in k.course k.table k.command.mv ready.2

pub returns-then-move_on-clause-cycle : goal.returns-then-move_on-clause-cycle
returns-then-move_on-clause-cycle g c = λ yes.
    let w = c.in-Some-Transfer in
    let k = w.transfer in
    let m = c.if-move_on.ensures in
    rw (w.is, w.field-0-is) (refl, moves_on c.args.self.now k.command k.kept_width k.course c.take.new.self k.table k.tally c.take.ensures c.move_on.new.self m.same (rw (w.is, w.field-0-is) at c.requires.follows) c.requires.room (rw (w.is, w.field-0-is) at c.requires.fine) m.next (m.moves refl) m.function m.width)

pub returns-then-move_on-clause-same : goal.returns-then-move_on-clause-same
returns-then-move_on-clause-same g c = λ yes.
    let w = c.in-Some-Transfer in
    let k = w.transfer in
    let m = c.if-move_on.ensures in
    rw (w.is, w.field-0-is) (c.take.new.self, ap pending_of (ap Transfer m.same) ∙ ap (λ f. transfers c.take.new.self f (words_sent k.table) k.tally) m.function)

pub returns-else-move_on-clause-tally : goal.returns-else-move_on-clause-tally
returns-else-move_on-clause-tally g c = λ no.
    let w = c.in-Some-Transfer in
    let k = w.transfer in
    let m = c.if-move_on.ensures in
    rw (w.is, w.field-0-is) (moves_over c.args.self.now k.command k.kept_width k.course c.take.new.self k.table k.tally c.take.ensures c.move_on.new.self m.same (rw (w.is, w.field-0-is) at c.requires.follows) c.requires.room (rw (w.is, w.field-0-is) at c.requires.fine) c.tally.result c.set_variable.new.self m.next c.tally.ensures c.set_variable.ensures.same)

pub returns-in-Some-Cycle-clause-tally : goal.returns-in-Some-Cycle-clause-tally
returns-in-Some-Cycle-clause-tally g c = λ no.
    let w = c.in-Some-Cycle in
    let h = c.args.self.now in
    rw (w.is, w.field-0-is) (alone_proceeds h (Cycle w.field-0-0) (cycle_alone h w.field-0-0) c.requires.room)

pub returns-in-Some-Read-clause-tally : goal.returns-in-Some-Read-clause-tally
returns-in-Some-Read-clause-tally g c = λ no.
    let w = c.in-Some-Read in
    let h = c.args.self.now in
    rw (w.is, w.field-0-is) (alone_proceeds h (Read w.field-0-0 w.field-0-1 w.field-0-2) (read_alone h w.field-0-0 w.field-0-1 w.field-0-2) c.requires.room)

pub returns-in-Some-Lock-clause-tally : goal.returns-in-Some-Lock-clause-tally
returns-in-Some-Lock-clause-tally g c = λ no.
    let w = c.in-Some-Lock in
    let h = c.args.self.now in
    rw (w.is, w.field-0-is) (alone_proceeds h (Lock w.field-0-0 w.field-0-1) (lock_alone h w.field-0-0 w.field-0-1) c.requires.room)

pub returns-in-Some-Pause-clause-tally : goal.returns-in-Some-Pause-clause-tally
returns-in-Some-Pause-clause-tally g c = λ no.
    let w = c.in-Some-Pause in
    let h = c.args.self.now in
    rw (w.is, w.field-0-is) (alone_proceeds h Pause (pause_alone h) c.requires.room)
