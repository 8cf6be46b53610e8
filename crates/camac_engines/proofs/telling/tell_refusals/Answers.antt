use Rattle.std.proofs.Common.{refl}
use Rattle.std.proofs.lemmas.Result.{err_from_is_err_and}
use Rattle.camac_engines.specs.declared.outcome.Outcome.TheVariants.{Refused}
use Rattle.camac_engines.proofs.telling.tell_refusals.Goals as goal

pub returns-in_err-write_text-clause-tells : goal.returns-in_err-write_text-clause-tells
returns-in_err-write_text-clause-tells g c =
    let fault = err_from_is_err_and c.from_residual-in_err-write_text.result c.from_residual-in_err-write_text.ensures.1 in
    rw (fault.1, fault.2) (Refused, c.in_ok-lines.lines.items, (refl, c.in_ok-lines.ensures), rw c.deref.ensures.value at c.in_err-write_text.ensures.text)
