use Rattle.std.proofs.Common.{◌∙◌, suc, length, map, [], ap, arith}
use Rattle.std.proofs.lemmas.List.{length-map}
use Rattle.camac_lang.specs.Depth.{callables_after, inner_depth}
use Rattle.camac_lang.specs.Tests.{most}
use Rattle.camac_lang.specs.View.{procedure_of, service_of, callable_of}
use Rattle.camac_lang.proofs.Standing.{limits_hold}
use Rattle.camac_lang.proofs.Depths.{shallow, services_below, whole_depth}
use Rattle.camac_lang.proofs.depth.script_depth.Goals as goal

pub callables_of-callables-requires-clause-room : goal.callables_of-callables-requires-clause-room
callables_of-callables-requires-clause-room c =
    let limits = limits_hold c.args.script.now c.well_formed-2.ensures in
    let count = length-map c.procedures.result.now procedure_of in
    let same = ap length c.procedures.ensures in
    omega (arith, limits.procedures)

pub callables_of-callables-requires-clause-shallow : goal.callables_of-callables-requires-clause-shallow
callables_of-callables-requires-clause-shallow c =
    let below = shallow c.args.script.now c.well_formed-2.ensures in
    let same = ap (λ ps. most (λ q. q.depth) (callables_after [] ps)) c.procedures.ensures in
    omega arith

pub services_depth-services-requires : goal.services_depth-services-requires
services_depth-services-requires c =
    services_below c.args.script.now (map callable_of c.deref-2.result.now) (map service_of c.services.result.now) c.well_formed-2.ensures
    (ap (map callable_of) c.deref-2.ensures.0 ∙ (c.callables_of-callables.ensures ∙ ap (callables_after []) c.procedures.ensures)) c.services.ensures

pub returns : goal.returns
returns c =
    let qs = map callable_of c.callables_of-callables.result.items in
    let same = c.callables_of-callables.ensures ∙ ap (callables_after []) c.procedures.ensures in
    whole_depth c.args.script.now qs (map service_of c.services.result.now) _ _ c.max.result same c.services.ensures
    (c.deepest-procedures.ensures ∙ ap (λ l. most (λ q. q.depth) (map callable_of l)) c.deref.ensures.0)
    (c.services_depth-services.ensures ∙ ap (λ l. most (λ v. suc (inner_depth (map callable_of l) v.body)) (map service_of c.services.result.now)) c.deref-2.ensures.0)
    c.max.ensures
