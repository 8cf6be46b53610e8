use Rattle.std.proofs.Common.{◌∙◌, ◌+◌, ◌-◌, ◌*◌, false, ap, sym}
use Rattle.camac_response_times.specs.Response.{calls_within}
use Rattle.camac_response_times.specs.Rounds.{greatest_wait}
use Rattle.camac_response_times.proofs.Rates.{gives_none, goes_on, laid_out}
use Rattle.camac_response_times.proofs.search.most_wait.Goals as goal

pub returns-in_err-at : goal.returns-in_err-at
returns-in_err-at c =
    c.from_residual.ensures
    ∙ sym (gives_none c.args.sources.now c.args.source (greatest_wait c.args.sources.now c.args.source (calls_within c.args.source.every c.args.longest.cycles) 1 c.args.longest.rounds 0) c.most_calls-calls.result c.loop-n.n c.loop-n.left c.loop-n.start c.args.blocked c.from.result
    c.period_of-period.result c.loop-n.invariant c.from.ensures c.loop-n-test.true (c.in_err-at.ensures ∙ laid_out (c.args.blocked + (c.loop-n.n - 1) * c.from.result) c.args.source.bit false c.args.sources.now c.gather-below.result c.gather-below.ensures.same c.loop-n.left))

pub loop-n-preserved : goal.loop-n-preserved
loop-n-preserved c =
    goes_on c.args.sources.now c.args.source (greatest_wait c.args.sources.now c.args.source (calls_within c.args.source.every c.args.longest.cycles) 1 c.args.longest.rounds 0) c.most_calls-calls.result c.loop-n.n c.loop-n.left c.loop-n.start c.args.blocked c.from.result
    c.period_of-period.result c.saturating_sub.result c.max-start.result c.in_ok-at.at c.loop-n.invariant c.from.ensures c.loop-n-test.true (c.in_ok-at.ensures ∙ laid_out (c.args.blocked + (c.loop-n.n - 1) * c.from.result) c.args.source.bit false c.args.sources.now c.gather-below.result c.gather-below.ensures.same c.loop-n.left)
    (c.saturating_sub.ensures ∙ ap (λ x. x - (c.loop-n.n - 1) * c.period_of-period.result) c.from-in-loop-n.ensures) c.max-start.ensures
