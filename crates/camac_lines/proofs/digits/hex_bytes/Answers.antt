use Rattle.std.proofs.Common.{refl}
use Rattle.hex.specs.Hex.{encode_with}
use Rattle.camac_lines.proofs.digits.hex_bytes.Goals as goal

pub returns : goal.returns
unfolding encode_with
returns c = rw (c.high_digit.ensures, c.low_digit.ensures, c.high_digit-2.ensures, c.low_digit-2.ensures, c.high_digit-3.ensures, c.low_digit-3.ensures) refl
