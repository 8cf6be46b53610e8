use Rattle.camac_lang.specs.View.{expression_of}
use Rattle.camac_run.proofs.Steps.{crate_makes}
use Rattle.camac_run.proofs.sure.call_of_crate.Goals as goal

pub returns-clause-sure : goal.returns-clause-sure
returns-clause-sure c =
    let known = c.args.known.now in
    let e = expression_of c.args.action.now.crate_no in
    λ c' registers. crate_makes c' known registers c.crate_call.result c.args.action.now.spot c.args.action.now.call e c.in_ok-c.c c.in_ok-c.ensures.sure c.crate_call.ensures
