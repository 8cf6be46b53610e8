use Rattle.std.proofs.Common.{◌∙◌, ℕ, List, ap, sym}
use Rattle.camac_word.specs.Watched.{inner_of}
use Rattle.camac_engines.specs.Headings.{headings_report, headings_report_of}
use Rattle.camac_engines.specs.Known.{known_report, known_report_of}
use Rattle.camac_engines.specs.Report.{report, report_of}
use Rattle.camac_engines.proofs.Told.{costs_written, reported}
use Rattle.camac_engines.proofs.engine.tell_script.Goals as goal

pub returns-in_ok-judge-in-Check-clause-tells : goal.returns-in_ok-judge-in-Check-clause-tells
returns-in_ok-judge-in-Check-clause-tells g c =
    rw c.in-Check.is (reported (report c.args.plan.now c.args.text.now) (report_of c.in_ok-judge-in-Check.field-0) (g.W.Write.contents (inner_of c.args.out.now)) (g.W.Write.contents (inner_of c.show.new.out)) c.show.result c.in_ok-judge-in-Check.ensures.report c.show.ensures.shows)

pub returns-in_ok-found-in-ExplainAt-clause-tells : goal.returns-in_ok-found-in-ExplainAt-clause-tells
returns-in_ok-found-in-ExplainAt-clause-tells g c =
    rw c.in-ExplainAt.is (reported (known_report c.in-ExplainAt.line c.in-ExplainAt.column c.in-ExplainAt.turns c.args.plan.now c.args.text.now) (known_report_of c.in-ExplainAt.line c.in-ExplainAt.column c.in_ok-found-in-ExplainAt.found) (g.W.Write.contents (inner_of c.args.out.now)) (g.W.Write.contents (inner_of c.show_known.new.out)) c.show_known.result (ap (λ (turns : List ℕ). known_report c.in-ExplainAt.line c.in-ExplainAt.column turns c.args.plan.now c.args.text.now) (sym c.numbers.ensures) ∙ c.in_ok-found-in-ExplainAt.ensures) c.show_known.ensures.shows)

pub returns-in_ok-judge_headings-in-Bounds-clause-tells : goal.returns-in_ok-judge_headings-in-Bounds-clause-tells
returns-in_ok-judge_headings-in-Bounds-clause-tells g c =
    rw c.in-Bounds.is (reported (headings_report c.args.plan.now c.args.text.now) (headings_report_of c.in_ok-judge_headings-in-Bounds.field-0) (g.W.Write.contents (inner_of c.args.out.now)) (g.W.Write.contents (inner_of c.show_headings.new.out)) c.show_headings.result c.in_ok-judge_headings-in-Bounds.ensures.report c.show_headings.ensures.shows)

pub returns-in_ok-judge-in-Costs-clause-tells : goal.returns-in_ok-judge-in-Costs-clause-tells
returns-in_ok-judge-in-Costs-clause-tells g c =
    rw c.in-Costs.is (costs_written c.args.plan.now c.args.text.now c.in_ok-judge-in-Costs.field-0 (g.W.Write.contents (inner_of c.args.out.now)) (g.W.Write.contents (inner_of c.show_costs.new.out)) c.show_costs.result c.in_ok-judge-in-Costs.ensures.script c.show_costs.ensures.tells)
