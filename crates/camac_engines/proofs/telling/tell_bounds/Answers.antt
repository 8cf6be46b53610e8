use Rattle.std.proofs.Common.{refl}
use Rattle.std.proofs.lemmas.Result.{err_from_is_err_and}
use Rattle.camac_engines.specs.declared.outcome.Outcome.TheVariants.{Good}
use Rattle.camac_engines.proofs.telling.tell_bounds.Goals as goal

pub returns-in_err-write_bounds-clause-tells : goal.returns-in_err-write_bounds-clause-tells
returns-in_err-write_bounds-clause-tells g c =
    let fault = err_from_is_err_and c.from_residual-in_err-write_bounds.result c.from_residual-in_err-write_bounds.ensures.1 in
    rw (fault.1, fault.2) (
      Good,
      _,
      (c.in_ok-sources.sources.items, c.in_ok-sources.ensures, refl),
      rw (c.deref-2.ensures.value, c.in_ok-bodies.ensures, c.deref-3.ensures.value, c.in_ok-unkept.ensures, c.deref.ensures.value) at c.in_err-write_bounds.ensures.text,
    )

pub returns-clause-tells : goal.returns-clause-tells
returns-clause-tells g c = (
  _,
  (c.in_ok-sources.sources.items, c.in_ok-sources.ensures, refl),
  rw (c.deref-2.ensures.value, c.in_ok-bodies.ensures, c.deref-3.ensures.value, c.in_ok-unkept.ensures, c.deref.ensures.value) at c.in_ok-write_bounds.ensures.text,
)
