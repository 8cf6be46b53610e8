use Rattle.std.proofs.Common.{refl, sym, ◌∙◌, arith}
use Rattle.camac_tokens.specs.declared.fault.TextCase.TheVariants as text_case
use Rattle.camac_tokens.proofs.Scans.{first_too_large}
use Rattle.camac_tokens.proofs.first.put_long_number.Goals as goal

pub returns-then-value-gt4294967295 : goal.returns-then-value-gt4294967295
returns-then-value-gt4294967295 c =
    (refl, (text_case.Number 4294967295, first_too_large c.loop-rest.value c.args.text.now c.loop-rest.rest.now c.in-len1-up.len_at_least (sym c.is_ascii_digit.ensures.value ∙ c.if-not-is_ascii_digit.false) c.loop-rest.invariant.value (omega (arith, c.from.ensures, c.if-value-gt4294967295.true))))
