use Rattle.camac_tool.proofs.Inputs.{apart_from, or_else, taken_by}
use Rattle.camac_tool_host.specs.Apart.{words_of}
use Rattle.camac_tool.proofs.program.Tool.open_run.Goals as goal

pub returns-clause-apart : goal.returns-clause-apart
returns-clause-apart g c =
    apart_from (g.R.Host.finds c.args.self.now.rt.now) (λ i. g.R.Host.reads c.args.self.now.rt.now i.input) (words_of c.args.words.now) c.in_ok-plan.plan c.in_ok-script.script c.in_ok-answers.answers
    c.in_ok-plan.ensures.file c.in_ok-script.ensures.file c.in_ok-answers.ensures.file c.in_ok-keep_apart.ensures.apart

pub returns-in_err-keep_apart-clause-cause : goal.returns-in_err-keep_apart-clause-cause
returns-in_err-keep_apart-clause-cause g c failed =
    or_else
    (taken_by (g.R.Host.finds c.args.self.now.rt.now) (λ i. g.R.Host.reads c.args.self.now.rt.now i.input) (words_of c.args.words.now) c.in_ok-plan.plan c.in_ok-script.script c.in_ok-answers.answers
    c.in_ok-plan.ensures.file c.in_ok-script.ensures.file c.in_ok-answers.ensures.file)
    c.in_err-keep_apart.ensures.cause
