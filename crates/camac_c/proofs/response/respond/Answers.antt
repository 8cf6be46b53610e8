use Rattle.std.proofs.Common.{map, subst}
use Rattle.camac_c.specs.Response.{SplitsText}
use Rattle.camac_c.proofs.Answered.{of_texts}
use Rattle.camac_c.proofs.response.respond.Goals as goal

pub returns : goal.returns
returns c =
    of_texts c.args.plan.now c.args.script.now c.args.every.now c.args.within.now (map (λ w. w.now) c.in-Some.every.items) (map (λ w. w.now) c.in-Some-2.within.items)
    (subst (SplitsText c.args.every.now) c.in-Some.is c.in_ok-every.ensures) (subst (SplitsText c.args.within.now) c.in-Some-2.is c.in_ok-within.ensures) c.respond_to.result
    (rw (c.deref.ensures.value, c.deref-2.ensures.value) at c.respond_to.ensures)
