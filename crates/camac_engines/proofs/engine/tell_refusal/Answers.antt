use Rattle.camac_lines.specs.declared.refusal.Refusal.TheVariants as refusal
use Rattle.camac_word.specs.Watched.{inner_of}
use Rattle.camac_engines.specs.Report.{refused}
use Rattle.camac_engines.proofs.Told.{written}
use Rattle.camac_engines.proofs.engine.tell_refusal.Goals as goal

pub returns-in-Lines-clause-tells : goal.returns-in-Lines-clause-tells
returns-in-Lines-clause-tells g c =
    rw c.in-Lines.is (written (refused (refusal.Plan c.args.refusal.now.rule)) (g.W.Write.contents (inner_of c.args.out.now)) (g.W.Write.contents (inner_of c.refuse.new.out)) c.refuse.result c.refuse.ensures.shows)

pub returns-in-Commands-clause-tells : goal.returns-in-Commands-clause-tells
returns-in-Commands-clause-tells g c =
    rw c.in-Commands.is (written (refused (refusal.Plan c.args.refusal.now.rule)) (g.W.Write.contents (inner_of c.args.out.now)) (g.W.Write.contents (inner_of c.refuse-in-Commands.new.out)) c.refuse-in-Commands.result c.refuse-in-Commands.ensures.shows)
