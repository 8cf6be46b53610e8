use Rattle.camac_engines.specs.Ask.{TellsFound}
use Rattle.camac_engines.specs.Found.{HasRead, IsTooLong, found_of}
use Rattle.camac_word.specs.Watched.{inner_of}
use Rattle.camac_engines.proofs.Told.{answered}
use Rattle.camac_engines.proofs.engine.answer.Goals as goal

pub returns-clause-answers : goal.returns-clause-answers
returns-clause-answers g c =
    answered (HasRead g.P.TextReader.remaining c.args.plan.now c.read_texts.new.plan (g.S.TextReader.remaining c.args.script.now) (g.S.TextReader.remaining c.read_texts.new.script)) (TellsFound c.args.ask) (IsTooLong g.P.TextReader.remaining c.args.plan.now c.read_texts.new.plan (g.S.TextReader.remaining c.args.script.now) (g.S.TextReader.remaining c.read_texts.new.script)) (g.W.Write.contents (inner_of c.args.out.now)) (g.W.Write.contents (inner_of c.tell.new.out)) (found_of c.in_ok-texts.texts) c.tell.result c.in_ok-texts.ensures.reads.0 c.tell.ensures.tells
