use Rattle.std.proofs.Common.{sym, ◌∙◌}
use Rattle.camac_word.specs.Watched.{inner_of}
use Rattle.camac_engines.specs.Report.{report_of}
use Rattle.camac_engines.proofs.Explained.{first_and_rest, first_explained, no_items, none_explained}
use Rattle.camac_engines.proofs.explaining.explain_judged.Goals as goal

pub returns-in_ok-judge_script-in-empty-clause-tells : goal.returns-in_ok-judge_script-in-empty-clause-tells
returns-in_ok-judge_script-in-empty-clause-tells g c =
    none_explained c.args.plan.now c.args.text.now c.args.script (g.W.Write.contents (inner_of c.args.out.now)) (g.W.Write.contents (inner_of c.show.new.out)) c.show.result
    c.first_is_link_fault.ensures c.first_is_refusal.ensures (report_of c.in_ok-judge_script-in-empty.field-0) c.requires
    (sym c.in_ok-findings.ensures ∙ sym c.as_slice.ensures.value ∙ no_items c.as_slice.result.now c.in-empty.len_below)
    c.in_ok-judge_script-in-empty.ensures.report c.show.ensures.shows

pub returns-in_ok-push_also-in-len1-up-clause-tells : goal.returns-in_ok-push_also-in-len1-up-clause-tells
returns-in_ok-push_also-in-len1-up-clause-tells g c =
    first_explained c.args.plan.now c.args.text.now c.args.script (g.W.Write.contents (inner_of c.args.out.now)) (g.W.Write.contents (inner_of c.refuse_and.new.out)) c.refuse_and.result
    c.first_is_link_fault.ensures c.first_is_refusal.ensures _ _ c.in_ok-more-in-len1-up.more.items c.push_details.new.lines.items c.push_also.new.lines.items c.requires
    (sym c.in_ok-findings.ensures ∙ sym c.as_slice.ensures.value ∙ first_and_rest c.as_slice.result.now _ c.in-len1-up.len_at_least)
    c.in_ok-more-in-len1-up.ensures c.in_ok-push_details-in-len1-up.ensures c.in_ok-push_also-in-len1-up.ensures (rw (c.refusal.ensures, c.deref.ensures.value) at c.refuse_and.ensures.shows)
