use Rattle.camac_machine.proofs.Scopes.{room_written}
use Rattle.camac_machine.proofs.machine.Machine.set_variable.Goals as goal

pub returns-clause-room : goal.returns-clause-room
returns-clause-room g c = room_written c.args.self.now c.args.variable c.args.value c.requires.room
