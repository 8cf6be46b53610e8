use Rattle.std.proofs.Common.{◌≡◌, [], Option, sym, subst, ◌∙◌}
use Rattle.std.specs.Prelude.{IfNone}
use Rattle.camac_tokens.proofs.Steps.{all_taken}
use Rattle.camac_tokens.proofs.scanner.scan.Goals as goal

pub returns : goal.returns
returns c =
    let left = c.loop-token.left in
    let none : left.tokens ≡ [] = subst (λ (first : Option _). IfNone first (left.tokens ≡ [])) c.in_default.is c.first.ensures.none in
    all_taken c.args.text.now c.loop-token.tokens.items left.tokens c.in_ok-end.field-0 c.loop-token.invariant.before none (sym c.loop-token.invariant.end ∙ c.in_ok-end.ensures)
