use Rattle.camac_machine.proofs.Frames.{room_opened}
use Rattle.camac_machine.proofs.machine.Machine.open.Goals as goal

pub returns-clause-room : goal.returns-clause-room
returns-clause-room g c = room_opened c.args.self.now _ c.push.new.self c.push.ensures.items c.requires.room c.requires.body c.requires.owner c.requires.stays c.requires.holds_none
