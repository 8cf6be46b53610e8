use Rattle.std.proofs.Common.{subst}
use Rattle.camac_word.specs.Watched.{inner_of}
use Rattle.camac_engines.specs.Explain.{IsRead}
use Rattle.camac_engines.proofs.Explained.{fault_headed}
use Rattle.camac_engines.proofs.explaining.explain_headings.Goals as goal

pub returns-in-Err-clause-tells : goal.returns-in-Err-clause-tells
returns-in-Err-clause-tells g c =
    fault_headed c.args.plan.now c.args.text.now c.in-Err.fault (g.W.Write.contents (inner_of c.args.out.now)) (g.W.Write.contents (inner_of c.refuse_and.new.out)) c.refuse_and.result
    (subst (IsRead c.args.text.now) c.in-Err.is c.in_ok-script.ensures) (rw (c.refusal.ensures, c.deref.ensures.value) at c.refuse_and.ensures.shows)
