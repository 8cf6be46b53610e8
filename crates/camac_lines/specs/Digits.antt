-- Words of 24 bits in hexadecimal, and two digits in decimal.
use Rattle.std.specs.Prelude.{ℕ, ◌+◌, ◌/◌, ◌%◌, List, [], ◌∷◌}
use Rattle.byteorder.specs.Endian.{big_bytes}
use Rattle.hex.specs.Hex.{encode_lower}

-- the six digits of a word, in lower case
unfoldable pub hex_word : ℕ → List ℕ
hex_word word = encode_lower (big_bytes 3 word)

-- the two digits of a number below 100
abbrev pub two_digits : ℕ → List ℕ
two_digits number = (48 + number / 10) ∷ (48 + number % 10) ∷ []
