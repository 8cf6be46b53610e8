-- The one list of tokens of a text: at each place the longest.
use Rattle.std.specs.Prelude.{ℕ, zero, suc, ◌+◌, ◌-◌, ◌*◌, min, Bool, not, ◌||◌, ◌==◌, nat_lt, if◌then◌else◌, List, [], ◌∷◌, length, fold, count_by, take_while, Option, Some, None, Result, Ok, Err}
use Rattle.std.specs.Char.{is_ascii_digit, is_ascii_alphabetic}
use Rattle.camac_lang.specs.declared.spot.Spot.{Spot}
use Rattle.camac_tokens.specs.declared.token.Keyword.{Keyword}
use Rattle.camac_tokens.specs.declared.token.Sign.{Sign}
use Rattle.camac_tokens.specs.declared.token.Token.{Token}
use Rattle.camac_tokens.specs.declared.token.TokenKind.TheVariants as kind
use Rattle.camac_tokens.specs.Start.{Start}
use Rattle.camac_tokens.specs.Start as start
use Rattle.camac_tokens.specs.declared.fault.Limit.TheVariants.{NameBytes}
use Rattle.camac_tokens.specs.declared.fault.TextCase.{TextCase}
use Rattle.camac_tokens.specs.declared.fault.TextCase.TheVariants as text_case
use Rattle.camac_tokens.specs.Fault.{Fault}
use Rattle.camac_tokens.specs.Words.{spelled_in, keyword, pair_signs, single_signs}

-- letters, digits and `_`
abbrev pub is_name_byte : ℕ → Bool
is_name_byte b = is_ascii_alphabetic b || (is_ascii_digit b || (b == 95))

-- space, tab, CR and LF
abbrev pub is_blank : ℕ → Bool
is_blank b = (b == 32) || ((b == 9) || ((b == 13) || (b == 10)))

abbrev pub is_no_line_feed : ℕ → Bool
is_no_line_feed b = not (b == 10)

-- the number of decimal digits
abbrev pub decimal_value : List ℕ → ℕ
decimal_value digits = fold (λ n d. 10 * n + (d - 48)) 0 digits

-- a NAME, unless it is longer than 32 bytes
abbrev pub name_or_fault : List ℕ → Start
name_or_fault text = if nat_lt 32 (length text) then start.Wrong (text_case.Limit NameBytes) else start.Found (kind.Name text) (length text)

-- a keyword is no NAME
abbrev pub keyword_or : Option Keyword → List ℕ → Start
keyword_or (Some w) text = start.Found (kind.Keyword w) (length text)
keyword_or None text = name_or_fault text

-- a NUM, unless it is above 4294967295
abbrev pub number_or_fault : List ℕ → Start
number_or_fault digits =
    if nat_lt (decimal_value digits) 4294967296 then start.Found (kind.Number (decimal_value digits)) (length digits)
    else start.Wrong (text_case.Number 4294967295)

-- the sign that bytes begin with, of two bytes or of one
abbrev pub pair_at : List ℕ → Option Sign
pair_at (a ∷ b ∷ bs) = spelled_in pair_signs (a ∷ b ∷ [])
pair_at _ = None

abbrev pub single_at : List ℕ → Option Sign
single_at (a ∷ bs) = spelled_in single_signs (a ∷ [])
single_at _ = None

abbrev pub pair_or_single : Option Sign → Option Sign → Start
pair_or_single (Some s) single = start.Found (kind.Sign s) 2
pair_or_single None (Some s) = start.Found (kind.Sign s) 1
pair_or_single None None = start.Wrong text_case.Byte

-- what stands at the start of bytes that begin with b: the longest
unfoldable pub start_of : ℕ → List ℕ → Start
start_of b bytes =
    if is_blank b then start.Gap 1
    else (if b == 35 then start.Gap (length (take_while is_no_line_feed bytes))
    else (if is_ascii_alphabetic b then keyword_or (keyword (take_while is_name_byte bytes)) (take_while is_name_byte bytes)
    else (if is_ascii_digit b then number_or_fault (take_while is_ascii_digit bytes)
    else pair_or_single (pair_at bytes) (single_at bytes))))

abbrev pub wrong : Start → Option TextCase
wrong (start.Wrong case) = Some case
wrong _ = None

-- Lines are counted as far as a line number goes.
abbrev pub line_number : ℕ → ℕ
line_number line = min line 4294967295

-- where bytes stand that begin on a line, with so many left
abbrev pub spot_at : ℕ → ℕ → Spot
spot_at line left = record { line = line_number line; left = left }

abbrev pub line_after : ℕ → ℕ → ℕ
line_after line b = if b == 10 then line + 1 else line

abbrev pub with_first : Token → Result (List Token) Fault → Result (List Token) Fault
with_first t (Ok ts) = Ok (t ∷ ts)
with_first t (Err e) = Err e

-- of what stands at a spot
abbrev pub tokens_by : Start → Spot → (ℕ → Result (List Token) Fault) → Result (List Token) Fault
tokens_by (start.Gap n) spot more = more (n - 1)
tokens_by (start.Found k n) spot more = with_first (record { kind = k; spot = spot }) (more (n - 1))
tokens_by (start.Wrong case) spot more = Err (record { case = case; spot = spot })

-- The tokens after so many bytes that belong to the one before, from a line on.
unfoldable pub tokens_from : ℕ → ℕ → List ℕ → Result (List Token) Fault
tokens_from skip line [] = Ok []
tokens_from zero line (b ∷ bs) = tokens_by (start_of b (b ∷ bs)) (spot_at line (length (b ∷ bs))) (λ skip. tokens_from skip (line_after line b) bs)
tokens_from (suc skip) line (b ∷ bs) = tokens_from skip (line_after line b) bs

-- the one list of tokens of a text, or its first token fault
unfoldable pub tokens_of : List ℕ → Result (List Token) Fault
tokens_of text = tokens_from 0 1 text

-- the line of the text's end
abbrev pub last_line : List ℕ → ℕ
last_line text = line_number (count_by (λ b. b == 10) text + 1)
