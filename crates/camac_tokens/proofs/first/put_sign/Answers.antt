use Rattle.std.proofs.Common.{refl, sym}
use Rattle.camac_tokens.specs.declared.fault.TextCase.TheVariants as text_case
use Rattle.camac_tokens.proofs.first.put_sign.Goals as goal

pub returns-in-None-single_at : goal.returns-in-None-single_at
returns-in-None-single_at c = (refl, (text_case.Byte, rw (sym c.in-None.ensures, sym c.in-None-single_at.ensures) refl))
