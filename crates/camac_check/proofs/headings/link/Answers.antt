use Rattle.std.proofs.Common.{◌∙◌, ap, slice_get}
use Rattle.camac_check.proofs.LeastFound.{link_accepts, link_refuses}
use Rattle.camac_check.proofs.headings.link.Goals as goal

pub returns-in-Some : goal.returns-in-Some
returns-in-Some c =
    link_refuses c.args.plan.now c.args.script.now c.in_ok-faults.faults.items c.in-Some.fault.now c.from.result c.first_is_link_fault.ensures c.in_ok-faults.ensures
    (c.in-Some.ensures.value ∙ ap (λ fs. slice_get fs 0) c.deref.ensures.value) c.from.ensures

pub returns : goal.returns
returns c =
    link_accepts c.args.plan.now c.args.script.now c.in_ok-faults.faults.items c.first_is_link_fault.ensures c.in_ok-faults.ensures
    (c.in-None.ensures.value ∙ ap (λ fs. slice_get fs 0) c.deref.ensures.value)
