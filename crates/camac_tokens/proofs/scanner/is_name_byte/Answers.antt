use Rattle.std.proofs.Common.{false, get_or, refl, arith}
use Rattle.std.proofs.lemmas.Bool.{agree_below_at}
use Rattle.camac_tokens.specs.Scanning.{is_name_byte}
use Rattle.camac_tokens.specs.declared.scanner.TheConstants.{IS_NAME_BYTE}
use Rattle.camac_tokens.proofs.scanner.is_name_byte.Goals as goal

pub returns : goal.returns
returns c = agree_below_at (λ b. get_or IS_NAME_BYTE b false) is_name_byte 256 c.args.b refl (omega (arith, c.ranges.b))
