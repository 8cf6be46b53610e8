use Rattle.std.proofs.Common.{subst}
use Rattle.std.specs.Prelude.{Ok}
use Rattle.camac_word.specs.Watched.{inner_of}
use Rattle.camac_engines.specs.Accepted.{Accepts, accepted}
use Rattle.camac_engines.specs.declared.judging.Judged.{Judged}
use Rattle.camac_engines.proofs.Told.{bounds_told, refusals_told}
use Rattle.camac_engines.proofs.telling.tell_all.Goals as goal

pub returns-in-Accepted-clause-tells : goal.returns-in-Accepted-clause-tells
returns-in-Accepted-clause-tells g c =
    bounds_told c.args.plan.now c.args.text.now (g.W.Write.contents (inner_of c.args.out.now)) (g.W.Write.contents (inner_of c.tell_bounds.new.out)) c.tell_bounds.result c.in-Accepted.checked
    (subst (λ (j : Judged). Accepts (Ok j) c.args.plan.now (accepted c.args.plan.now c.args.text.now)) c.in-Accepted.is c.in_ok-judged.ensures.script)
    (rw c.in-Accepted.is at c.in_ok-judged.ensures.report) c.tell_bounds.ensures.tells

pub returns-clause-tells : goal.returns-clause-tells
returns-clause-tells g c =
    refusals_told c.args.plan.now c.args.text.now (g.W.Write.contents (inner_of c.args.out.now)) (g.W.Write.contents (inner_of c.tell_refusals.new.out)) c.tell_refusals.result c.in-Refused.field-0
    (subst (λ (j : Judged). Accepts (Ok j) c.args.plan.now (accepted c.args.plan.now c.args.text.now)) c.in-Refused.is c.in_ok-judged.ensures.script)
    c.tell_refusals.ensures.tells
