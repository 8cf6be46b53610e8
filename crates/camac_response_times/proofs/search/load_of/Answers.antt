use Rattle.std.proofs.Common.{◌≡◌, ◌*◌, ◌/◌, ◌^◌, ◌≤◌, Some, true, ap, sym, ◌∙◌, rules, arith}
use Rattle.camac_response_times.specs.Response.{is_up_to}
use Rattle.camac_response_times.proofs.Words.{share_in_source}
use Rattle.camac_response_times.proofs.search.load_of.Goals as goal

pub returns-in-Some-clause-takes : goal.returns-in-Some-clause-takes
returns-in-Some-clause-takes c e =
    let up : is_up_to c.args.bit c.args.source ≡ true = search rules in
    let rate = c.from-in-Some.ensures in
    let from_one = c.get.ensures.in_range in
    let pos : 1 ≤ c.from-in-Some.result = omega (arith, rate, from_one) in
    share_in_source c.args.bit e (c.from.result * 2 ^ 32 / c.from-in-Some.result) c.args.source c.from-in-Some.result
    (c.in-Some.is ∙ ap (λ t. Some t) (sym (c.from-in-Some.ensures ∙ c.get.ensures.value))) up pos (ap (λ x. x * 2 ^ 32 / c.from-in-Some.result) c.from.ensures)
