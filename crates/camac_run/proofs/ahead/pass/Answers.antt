use Rattle.std.proofs.Common.{◌≡◌, ◌∙◌, map, Some, ap, sym, subst, arith}
use Rattle.std.proofs.lemmas.Option.{slice_get-get_or, slice_get-map}
use Rattle.std.specs.Prelude.{IfSome, IsSomeAnd, option_map, slice_get}
use Rattle.camac_lang.specs.View.{expression_of}
use Rattle.camac_run.specs.Sure.{HasValue}
use Rattle.camac_run.proofs.Steps.{filled, filled_on, map_some}
use Rattle.camac_run.proofs.ahead.pass.Goals as goal
use Rattle.camac_run.proofs.ahead.pass.Goals.{then-i-arguments, else-i-arguments}

pub arguments-preserved : goal.arguments-preserved
arguments-preserved c =
    let es = c.args.arguments.now in
    let i = c.arguments.i in
    let its = c.if-i-arguments.known in
    let here : IfSome its (λ v. IsSomeAnd (slice_get (map expression_of es) i) (λ e. HasValue c.args.variables.now e v)) =
    elim c.if-i-arguments.branch [
      | then-i-arguments w ↦
          let e = w.index-arguments-i.result in
          let there : slice_get (map expression_of es) i ≡ Some (expression_of e) =
          slice_get-map expression_of es i ∙ ap (option_map expression_of) (slice_get-get_or es i e w.if-i-arguments.true ∙ ap Some (sym w.index-arguments-i.is)) in
          subst (λ o. IfSome o (λ v. IsSomeAnd (slice_get (map expression_of es) i) (λ e. HasValue c.args.variables.now e v))) (sym w.known-is)
          (map_some w.value_of.result _ _ (λ v h. subst (λ o. IsSomeAnd o (λ e. HasValue c.args.variables.now e v)) (sym there) h) w.value_of.ensures.sure)
      | else-i-arguments w ↦ subst (λ o. IfSome o (λ v. IsSomeAnd (slice_get (map expression_of es) i) (λ e. HasValue c.args.variables.now e v))) (sym w.known-is) tt
    ] in
    filled_on (λ j v. IsSomeAnd (slice_get (map expression_of es) j) (λ e. HasValue c.args.variables.now e v)) c.arguments.known i its c.arguments.invariant here

pub returns : goal.returns
returns c =
    filled (λ j v. IsSomeAnd (slice_get (map expression_of c.args.arguments.now) j) (λ e. HasValue c.args.variables.now e v)) c.arguments.known (λ j v less e. c.arguments.invariant j v (omega (arith, less)) e)
