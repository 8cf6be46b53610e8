use Rattle.camac_machine.proofs.Takes.{takes_cycle, cycle_cost, cycle_overruns}
use Rattle.camac_machine.proofs.machine.Machine.take_cycle.Goals as goal

pub make-requires : goal.make-requires
make-requires g c =
    (search, (c.requires.room, (c.requires.pending.0, cycle_cost c.args.self.now c.args.command c.args.answer c.requires.pending c.requires.fine c.requires.room.cycles)))

pub returns-in-Ok-clause-took : goal.returns-in-Ok-clause-took
returns-in-Ok-clause-took g c =
    takes_cycle c.args.self.now c.make.new.self c.args.command c.args.answer c.in-Ok.done c.requires.room c.requires.pending.0 c.in-Ok.ensures.made

pub returns-in-Err-clause-overrun : goal.returns-in-Err-clause-overrun
returns-in-Err-clause-overrun g c = cycle_overruns c.args.self.now c.args.command c.args.answer c.in-Err.overrun c.requires.pending c.in-Err.ensures.overrun
