use Rattle.std.proofs.Common.{Ok, ap, subst}
use Rattle.camac_check.specs.Least.{least}
use Rattle.camac_lines.specs.Headings.{headings_text}
use Rattle.camac_word.specs.Watched.{inner_of}
use Rattle.camac_engines.specs.Accepted.{Accepts}
use Rattle.camac_engines.specs.Headings.{headed_found, headings_report_of}
use Rattle.camac_engines.specs.declared.judging.Judged.{Judged}
use Rattle.camac_engines.proofs.Explained.{none_headed, refusal_headed}
use Rattle.camac_engines.proofs.explaining.explain_least.Goals as goal

pub returns-in-Accepted-clause-tells : goal.returns-in-Accepted-clause-tells
returns-in-Accepted-clause-tells g c =
    none_headed c.args.plan.now c.args.text.now c.args.script (g.W.Write.contents (inner_of c.args.out.now)) (g.W.Write.contents (inner_of c.show_headings.new.out)) c.show_headings.result
    (headings_report_of c.in_ok-judged.judged) (headings_text c.in-Accepted.field-0.script) c.requires c.in_ok-judged.ensures.report (ap headings_report_of c.in-Accepted.is) c.show_headings.ensures.shows

pub returns-clause-tells : goal.returns-clause-tells
returns-clause-tells g c =
    refusal_headed c.args.plan.now c.args.text.now c.args.script (g.W.Write.contents (inner_of c.args.out.now)) (g.W.Write.contents (inner_of c.refuse_and.new.out)) c.refuse_and.result
    c.in-Refused.finding c.in_ok-more-in-Refused.more.items c.requires
    (subst (λ (j : Judged). Accepts (Ok j) c.args.plan.now (headed_found (least c.args.plan.now c.args.script))) c.in-Refused.is c.in_ok-judged.ensures.script)
    (rw c.in_ok-named.ensures at c.in_ok-more-in-Refused.ensures) (rw (c.refusal.ensures, c.deref.ensures.value) at c.refuse_and.ensures.shows)
