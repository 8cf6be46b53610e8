use Rattle.camac_word.specs.Watched.{inner_of}
use Rattle.camac_engines.proofs.Explained.{plan_explained}
use Rattle.camac_engines.proofs.explaining.explain_refusal.Goals as goal

pub returns-clause-tells : goal.returns-clause-tells
returns-clause-tells g c =
    plan_explained c.args.text.now c.args.refusal.now.case c.in_ok-more.more.items c.args.refusal.now.rule (g.W.Write.contents (inner_of c.args.out.now)) (g.W.Write.contents (inner_of c.refuse_and.new.out)) c.refuse_and.result
    c.requires c.in_ok-more.ensures (rw c.deref.ensures.value at c.refuse_and.ensures.shows)
