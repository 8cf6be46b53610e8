use Rattle.std.proofs.Common.{map}
use Rattle.camac_lang.specs.Tree.{choose_else, on_line}
use Rattle.camac_lang.specs.View.{part_of, statements_of}
use Rattle.camac_machine.proofs.Frames.{block_enters}
use Rattle.camac_machine.proofs.machine.Machine.choose.Goals as goal

pub returns : goal.returns
returns g c =
    block_enters c.args.self.now (choose_else (on_line 0) (map part_of c.args.test.now) (statements_of c.args.then.now) (statements_of c.args.otherwise.now)) c.chosen-body.result c.open.new.self c.open.ensures.same c.open.ensures.frames c.open.ensures.room c.chosen-body.ensures.goes
