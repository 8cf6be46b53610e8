use Rattle.std.proofs.Common.{◌≡◌, get_or, None, arith}
use Rattle.std.proofs.lemmas.Option.{get_or_from_slice_get}
use Rattle.camac_machine.specs.Store.{held_at}
use Rattle.camac_run.proofs.Steps.{filled, filled_on, map_some}
use Rattle.camac_run.proofs.ahead.see_variables.Goals as goal

pub variables-preserved : goal.variables-preserved
variables-preserved c =
    let held = held_at c.args.places c.args.all.now in
    filled_on (λ j v. get_or held j 0 ≡ v) c.variables.known c.variables.i c.seen.result c.variables.invariant (map_some c.seen.result _ _ (λ v is. get_or_from_slice_get held c.variables.i v 0 is) c.seen.ensures)

pub others-preserved : goal.others-preserved
others-preserved c =
    let held = held_at c.args.places c.args.all.now in
    filled_on (λ j v. get_or held j 0 ≡ v) c.others.known c.others.i None c.others.invariant tt

pub returns : goal.returns
returns c =
    let held = held_at c.args.places c.args.all.now in
    filled (λ j v. get_or held j 0 ≡ v) c.others.known (λ j v less e. c.others.invariant j v (omega (arith, less)) e)
