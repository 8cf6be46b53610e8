use Rattle.std.proofs.Common.{ap, sym, arith}
use Rattle.camac_branch.specs.Branch.{Answer}
use Rattle.camac_machine.proofs.Courses.{transfer_cost, transfer_overruns, put_fits, step_fits, takes_transfer, width_kept}
use Rattle.camac_machine.proofs.machine.Machine.take.Goals as goal

pub take_cycle-requires : goal.take_cycle-requires
take_cycle-requires g c = (search, (c.requires.room, (rw c.in-Cycle.is at c.requires.pending, rw c.in-Cycle.is at c.requires.fine)))

pub take_read-requires : goal.take_read-requires
take_read-requires g c = (search, (c.requires.room, (rw c.in-Read.is at c.requires.pending, rw c.in-Read.is at c.requires.fine)))

pub take_lock-requires : goal.take_lock-requires
take_lock-requires g c = (search, (c.requires.room, (c.requires.quiet, (rw c.in-Lock.is at c.requires.pending, rw c.in-Lock.is at c.requires.fine))))

pub returns-in-Lock-clause-took : goal.returns-in-Lock-clause-took
returns-in-Lock-clause-took g c = rw c.in-Lock.is (c.take_lock.ensures.took c.args.answer (sym (ap (λ (a : Answer). a.wait) c.answer.view_is)))

pub returns-in-Lock-clause-overrun : goal.returns-in-Lock-clause-overrun
returns-in-Lock-clause-overrun g c = rw c.in-Lock.is (c.take_lock.ensures.overrun c.args.answer (sym (ap (λ (a : Answer). a.wait) c.answer.view_is)))

pub make-requires : goal.make-requires
make-requires g c =
    let w = c.in-Transfer in
    let p = rw w.is at c.requires.pending in
    (search, (c.requires.room, (p.0, transfer_cost c.args.self.now w.transfer.command w.transfer.kept_width w.transfer.course w.transfer.table w.transfer.tally c.args.answer p (rw w.is at c.requires.fine) c.requires.room)))

pub returns-in-Err-clause-overrun : goal.returns-in-Err-clause-overrun
returns-in-Err-clause-overrun g c =
    let w = c.in-Transfer in
    rw w.is (transfer_overruns c.args.self.now w.transfer.command w.transfer.kept_width w.transfer.course w.transfer.table w.transfer.tally c.args.answer (rw w.is at c.requires.pending) c.in-Err.overrun c.in-Err.ensures.overrun)

pub put_read-requires : goal.put_read-requires
put_read-requires g c =
    let w = c.in-Transfer in
    let p = rw w.is at c.requires.pending in
    let fine = rw w.is at c.requires.fine in (
      search,
      (
        width_kept c.args.self.now w.transfer.command w.transfer.kept_width w.transfer.course w.transfer.table w.transfer.tally c.args.answer p fine c.requires.room c.make.new.self c.in-Ok.done c.in-Ok.ensures.made,
        put_fits c.args.self.now w.transfer.command w.transfer.kept_width w.transfer.course w.transfer.table w.transfer.tally c.args.answer p fine c.requires.room c.make.new.self c.in-Ok.done c.in-Ok.ensures.made,
      ),
    )

pub overflow_add-self : goal.overflow_add-self
overflow_add-self g c =
    let w = c.in-Transfer in
    let few = step_fits c.args.self.now w.transfer.command w.transfer.kept_width w.transfer.course w.transfer.table w.transfer.tally c.args.answer (rw w.is at c.requires.pending) (rw w.is at c.requires.fine) c.requires.room c.make.new.self c.in-Ok.done c.in-Ok.ensures.made c.put_read.new.self c.put_read.ensures.same in
    omega (arith, few)

pub returns-in-Ok-clause-took : goal.returns-in-Ok-clause-took
returns-in-Ok-clause-took g c =
    let w = c.in-Transfer in
    rw w.is (takes_transfer c.args.self.now w.transfer.command w.transfer.kept_width w.transfer.course w.transfer.table w.transfer.tally c.args.answer (rw w.is at c.requires.pending) (rw w.is at c.requires.fine) c.requires.room c.make.new.self c.in-Ok.done c.in-Ok.ensures.made c.put_read.new.self c.put_read.ensures.same c.put_read.ensures.words)

pub unreachable-requires : goal.unreachable-requires
unreachable-requires g c = let p = rw c.in-Pause.is at c.requires.pending in absurd p.0
