use Rattle.std.proofs.Common.{◌≡◌, ◌+◌, ◌++◌, drop, ap, sym, ◌∙◌, arith}
use Rattle.std.specs.Option.{option_to_list}
use Rattle.std.proofs.lemmas.List.{append-nil, drop_all}
use Rattle.camac_response_times.specs.Found.{is_meant}
use Rattle.camac_response_times.specs.Response.{called_within}
use Rattle.camac_response_times.proofs.Words.{meant, next_is, not_meant, split}
use Rattle.camac_response_times.proofs.search.gather.Goals.{then-is_meant+in-Some, then-is_meant+in_default, else-is_meant}
use Rattle.camac_response_times.proofs.search.gather.Goals as goal

pub services-preserved : goal.services-preserved
services-preserved c =
    let m = is_meant c.args.bit c.args.own in
    let ts = c.split_at.result.0.now in
    let i = c.services.source-index in
    let t = c.source-item.result in
    let cs = c.services.callers.items in
    let next = next_is ts i t c.services-test.true c.source-item.is in
    elim c.if-is_meant.branch [
      | then-is_meant+in-Some w ↦
          meant m ts i c.services.once cs t c.services.invariant next (sym c.is_meant.ensures ∙ w.if-is_meant.true) (omega arith) c.if-is_meant.once c.if-is_meant.callers.items (w.once-is ∙ ap (λ n. c.services.once + n) w.from-once.ensures)
          w.caller_of.result w.caller_of.ensures.again w.caller_of.ensures.fit (ap (λ v. v.items) w.callers-is ∙ w.push.ensures.items ∙ ap (λ o. cs ++ option_to_list o) (sym w.in-Some.is))
      | then-is_meant+in_default w ↦
          meant m ts i c.services.once cs t c.services.invariant next (sym c.is_meant.ensures ∙ w.if-is_meant.true) (omega arith) c.if-is_meant.once c.if-is_meant.callers.items (w.once-is ∙ ap (λ n. c.services.once + n) w.from-once.ensures)
          w.caller_of.result w.caller_of.ensures.again w.caller_of.ensures.fit (ap (λ v. v.items) w.callers-is ∙ sym (append-nil cs) ∙ ap (λ o. cs ++ option_to_list o) (sym w.in_default.is))
      | else-is_meant w ↦
          not_meant m ts i c.services.once cs t c.services.invariant next (sym c.is_meant.ensures ∙ w.if-is_meant.false) c.if-is_meant.once c.if-is_meant.callers.items w.once-is (ap (λ v. v.items) w.callers-is)
    ]

pub returns-clause-same : goal.returns-clause-same
returns-clause-same c e =
    let m = is_meant c.args.bit c.args.own in
    let ts = c.split_at.result.0.now in
    let whole = c.services.invariant.same e in
    let none : called_within m e (drop c.services.source-index ts) ≡ 0 = ap (called_within m e) (drop_all c.services.source-index ts c.services-test.false) in
    let near = ap (called_within m e) c.split_at.ensures.front in
    let rest = ap (called_within m e) c.split_at.ensures.back in
    let both = split m e c.min.result c.args.sources.now in
    omega (arith, whole, none, near, rest, both)
