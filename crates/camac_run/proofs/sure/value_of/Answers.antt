use Rattle.std.proofs.Common.{◌∙◌, sym, ap, subst}
use Rattle.std.specs.Prelude.{IfSome}
use Rattle.camac_lang.specs.View.{expression_of}
use Rattle.camac_run.specs.Foreseen.{known_value}
use Rattle.camac_run.specs.Sure.{HasValue}
use Rattle.camac_run.proofs.Foreseen.{value_is_so}
use Rattle.camac_run.proofs.sure.value_of.Goals as goal

pub returns-clause-sure : goal.returns-clause-sure
returns-clause-sure c =
    let known = c.args.known.now in
    let e = expression_of c.args.e.now in
    subst (λ o. IfSome o (HasValue known e)) (sym (c.value_in.ensures ∙ ap (known_value known) c.term.ensures)) (value_is_so known e)
