use Rattle.std.proofs.Common.{refl}
use Rattle.std.proofs.lemmas.Result.{err_from_is_err_and}
use Rattle.camac_engines.specs.declared.outcome.Outcome.TheVariants.{Good}
use Rattle.camac_engines.proofs.rule.engine_explain_rule.Goals as goal

pub returns-in_err-write_text-clause-tells : goal.returns-in_err-write_text-clause-tells
returns-in_err-write_text-clause-tells g c =
    let fault = err_from_is_err_and c.from_residual-in_err-write_text.result c.from_residual-in_err-write_text.ensures.1 in
    rw (fault.1, fault.2) (Good, c.in_ok-lines.lines.items, (refl, c.in_ok-lines.ensures), rw c.deref.ensures.value at c.in_err-write_text.ensures.text)
