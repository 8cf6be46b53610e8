use Rattle.std.proofs.Common.{refl}
use Rattle.std.proofs.lemmas.Result.{err_from_is_err_and}
use Rattle.camac_engines.specs.declared.outcome.Outcome.TheVariants.{Good}
use Rattle.camac_engines.proofs.engine.list_plan.Goals as goal

pub returns-in_err-write_plan_with_commands-in-Commands-clause-tells : goal.returns-in_err-write_plan_with_commands-in-Commands-clause-tells
returns-in_err-write_plan_with_commands-in-Commands-clause-tells g c =
    let fault = err_from_is_err_and c.from_residual.result c.from_residual.ensures.1 in
    rw (c.in-Commands.is, fault.1, fault.2) (Good, _, refl, c.in_err-write_plan_with_commands-in-Commands.ensures.text)

pub returns-in_err-write_plan-in-Lines-clause-tells : goal.returns-in_err-write_plan-in-Lines-clause-tells
returns-in_err-write_plan-in-Lines-clause-tells g c =
    let fault = err_from_is_err_and c.from_residual-in_err-write_plan-in-Lines.result c.from_residual-in_err-write_plan-in-Lines.ensures.1 in
    rw (c.in-Lines.is, fault.1, fault.2) (Good, _, refl, c.in_err-write_plan-in-Lines.ensures.text)

pub returns-in_err-write_plan-in-Explain-clause-tells : goal.returns-in_err-write_plan-in-Explain-clause-tells
returns-in_err-write_plan-in-Explain-clause-tells g c =
    let fault = err_from_is_err_and c.from_residual-in_err-write_plan-in-Explain.result c.from_residual-in_err-write_plan-in-Explain.ensures.1 in
    rw (c.in-Explain.is, fault.1, fault.2) (Good, _, (refl, refl), c.in_err-write_plan-in-Explain.ensures.text)
