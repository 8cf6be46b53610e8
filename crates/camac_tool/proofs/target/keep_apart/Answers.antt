use Rattle.std.proofs.Common.{subst, inl, inr}
use Rattle.camac_tool.proofs.Inputs.{if_err, if_ok, or_else}
use Rattle.camac_tool.proofs.target.keep_apart.Goals as goal

pub returns-in-Ok-None-clause-apart : goal.returns-in-Ok-None-clause-apart
returns-in-Ok-None-clause-apart g c = inl (subst (g.H.Host.finds c.args.host.now c.args.name.now) c.in-Ok-None.field-0-is c.in-Ok-None.ensures.found)

pub returns-in-Some-clause-apart : goal.returns-in-Some-clause-apart
returns-in-Some-clause-apart g c =
    let found = subst (g.H.Host.finds c.args.host.now c.args.name.now) c.in-Ok-Some.field-0-is c.in-Ok-Some.ensures.found in
    rw c.in-Some.is
    (if_ok c.is_not-in-Some.result (λ plan. inr (c.in-Ok-Some.file, found, c.in_ok-is_no_output.ensures.outputs, (plan, c.in_ok-is_not.ensures.input, c.in_ok-is_not-2.ensures.input))) c.is_not-in-Some.ensures.input)

pub returns-in-None-clause-apart : goal.returns-in-None-clause-apart
returns-in-None-clause-apart g c =
    let found = subst (g.H.Host.finds c.args.host.now c.args.name.now) c.in-Ok-Some.field-0-is c.in-Ok-Some.ensures.found in
    rw c.in-None.is (inr (c.in-Ok-Some.file, found, c.in_ok-is_no_output.ensures.outputs, (tt, c.in_ok-is_not.ensures.input, c.in_ok-is_not-2.ensures.input)))

pub returns-in_err-is_not-2-clause-cause : goal.returns-in_err-is_not-2-clause-cause
returns-in_err-is_not-2-clause-cause g c =
    let found = subst (g.H.Host.finds c.args.host.now c.args.name.now) c.in-Ok-Some.field-0-is c.in-Ok-Some.ensures.found in
    if_err c.from_residual-in_err-is_not-2.result (or_else (λ met. (c.in-Ok-Some.file, found, inr (inr (inr met)))) c.in_err-is_not-2.ensures.cause)
