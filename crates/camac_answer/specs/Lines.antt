-- The lines of an answer text, and what a line gives.
use Rattle.std.specs.Prelude.{◌≡◌, ◌⊎◌, ◌≤◌, ℕ, ◌*◌, ◌^◌, Bool, true, false, ◌==◌, ◌&&◌, not, List, [], ◌∷◌, length, take_while, slice_index, slice_range, nat_eq, codes, Option, Some, None, Result, Ok, Err, if◌then◌else◌}
use Rattle.std.specs.List.{starts_with}
use Rattle.byteorder.specs.Endian.{big_number}
use Rattle.hex.specs.Hex.{decode_sized, hex_digit_value}
use Rattle.hex.specs.declared.error.FromHexError.{FromHexError}
use Rattle.camac_branch.specs.Branch.{Answer}
use Rattle.camac_answer.specs.declared.fault.AnswerRule.{AnswerRule}
use Rattle.camac_answer.specs.declared.given.Given.{Given}
use Rattle.camac_answer.specs.declared.given.Given.TheVariants as gives
use Rattle.camac_answer.specs.declared.fault.AnswerRule.TheVariants.{LineShape, BadDigit}

-- a byte at the start of the first line
abbrev pub with_first : ℕ → List (List ℕ) → List (List ℕ)
with_first b [] = (b ∷ []) ∷ []
with_first b (line ∷ rest) = (b ∷ line) ∷ rest

-- what stands before each LF (10), and after the last one where that is not nothing
abbrev pub lines : List ℕ → List (List ℕ)
lines [] = []
lines (b ∷ text) = if b == 10 then [] ∷ lines text else with_first b (lines text)

abbrev pub is_inside : ℕ → Bool
is_inside b = not (b == 10)

-- the bytes before the first LF
abbrev pub first_line : List ℕ → List ℕ
first_line text = take_while is_inside text

-- as many bytes as the first line has, or those before an LF that ends a whole line
abbrev pub IsJudged : List ℕ → ℕ → Type 0
IsJudged bytes n = (n ≡ length (first_line bytes)) ⊎ ((n ≡ 19) × (length bytes ≡ 20) × (slice_index bytes 19 ≡ 10))

infixl 10 ◌>>=◌
abbrev pub ◌>>=◌ : {A B : Type 0} → Result A AnswerRule → (A → Result B AnswerRule) → Result B AnswerRule
(Ok x) >>= f = f x
(Err e) >>= f = Err e

-- `0` (48) or `1` (49)
abbrev pub bit_at : ℕ → Result Bool AnswerRule
bit_at b = if b == 48 then Ok false else (if b == 49 then Ok true else Err BadDigit)

abbrev pub number_in : Result (List ℕ) FromHexError → Result ℕ AnswerRule
number_in (Ok bytes) = Ok (big_number 3 bytes)
number_in (Err e) = Err BadDigit

-- six hexadecimal digits, which are three bytes
abbrev pub word_at : List ℕ → Result ℕ AnswerRule
word_at digits = number_in (decode_sized digits 3)

abbrev pub worth : (unit : ℕ) → Option ℕ → ℕ
worth unit None = 2 ^ 24
worth unit (Some v) = v * unit

-- what a digit spells that counts so much, or for another byte more than six digits do
abbrev pub digit_number : (unit : ℕ) → ℕ → ℕ
digit_number unit b = worth unit (hex_digit_value b)

abbrev pub digit_in : Option ℕ → Result ℕ AnswerRule
digit_in (Some v) = Ok v
digit_in None = Err BadDigit

-- one hexadecimal digit
abbrev pub wait_at : ℕ → Result ℕ AnswerRule
wait_at b = digit_in (hex_digit_value b)

-- nineteen bytes, with a space (32) between the fields
abbrev pub has_shape : List ℕ → Bool
has_shape line =
    length line == 19 && (slice_index line 1 == 32 && (slice_index line 3 == 32 && (slice_index line 10 == 32 && slice_index line 12 == 32)))

-- the fields after X and Q
abbrev pub fields_after : Bool → Bool → List ℕ → Result Answer AnswerRule
fields_after x q line = do
  word ← word_at (slice_range line 4 10)
  wait ← wait_at (slice_index line 11)
  gl ← word_at (slice_range line 13 19)
  Ok (record { x = x; q = q; word = word; wait = wait; gl = gl })

-- the fields of a line, from left to right
unfoldable pub fields_answer : List ℕ → Result Answer AnswerRule
fields_answer line = do
  x ← bit_at (slice_index line 0)
  q ← bit_at (slice_index line 2)
  fields_after x q line

-- what a line without its LF spells
abbrev pub line_answer : List ℕ → Result Answer AnswerRule
line_answer line = if has_shape line then fields_answer line else Err LineShape

-- the line `abandon`
abbrev pub is_abandon : List ℕ → Bool
is_abandon line = length line == 7 && starts_with nat_eq line (codes "abandon")

abbrev pub as_given : Result Answer AnswerRule → Result Given AnswerRule
as_given (Ok a) = Ok (gives.Answer a)
as_given (Err rule) = Err rule

-- what a line without its LF gives: the answer that it spells, or that the service in progress is left
abbrev pub line_given : List ℕ → Result Given AnswerRule
line_given line = if is_abandon line then Ok gives.Abandon else as_given (line_answer line)

-- no more than the eight bytes of the line `abandon` was read, where an LF ends them
abbrev pub IsNoMore : List ℕ → ℕ → Type 0
IsNoMore line n = slice_index line 7 ≡ 10 → n ≤ 8
