-- A place in the text of a plan, and what is to be known of a text that is no TOML.
use Rattle.std.specs.Prelude.{ℕ, ◌+◌, Bool, true, false, ◌&&◌, ◌||◌, ◌==◌, not, List, [], ◌∷◌, Option, Some, None, codes, count_by, decimal, drop, length, nat_eq, nat_le, nat_lt, take, take_while, if◌then◌else◌}
use Rattle.std.specs.Char.{is_ascii_alphanumeric, is_ascii_whitespace}
use Rattle.std.specs.List.{starts_with}
use Rattle.std.specs.Str.{bytes_eq}
use Rattle.camac_sentence.specs.Filled.{filled}
use Rattle.camac_explain_plan.specs.declared.texts.TheConstants as text

abbrev pub is_line_feed : ℕ → Bool
is_line_feed b = b == 10

-- no further byte of a character
abbrev pub begins_character : ℕ → Bool
begins_character b = nat_lt b 128 || nat_le 192 b

-- how many bytes stand before the last line of a text
abbrev pub last_begin_from : (begin place : ℕ) → List ℕ → ℕ
last_begin_from begin place [] = begin
last_begin_from begin place (b ∷ bs) = last_begin_from (if is_line_feed b then place + 1 else begin) (place + 1) bs

abbrev pub last_begin : List ℕ → ℕ
last_begin text = last_begin_from 0 0 text

-- the line and the column, from 1, of what comes behind these bytes
abbrev pub line_behind : List ℕ → ℕ
line_behind before = count_by is_line_feed before + 1

abbrev pub column_behind : List ℕ → ℕ
column_behind before = count_by begins_character (drop (last_begin before) before) + 1

abbrev pub place_text : (before message : List ℕ) → List ℕ
place_text before message = filled text.PLACE.now (decimal (line_behind before) ∷ decimal (column_behind before) ∷ message ∷ [])

-- a text from its first word on, behind white space and comments, in one of which it may begin
abbrev pub from_word : (in_comment : Bool) → List ℕ → List ℕ
from_word in_comment [] = []
from_word true (b ∷ bs) = from_word (not (is_line_feed b)) bs
from_word false (b ∷ bs) = if b == 35 then from_word true bs else if is_ascii_whitespace b then from_word false bs else b ∷ bs

-- the words that begin a script
abbrev pub is_declaration : List ℕ → Bool
is_declaration word =
    bytes_eq word (codes "cdlam")
    || (bytes_eq word (codes "var") || (bytes_eq word (codes "table") || (bytes_eq word (codes "proc") || bytes_eq word (codes "service"))))

abbrev pub begins_like_a_script : List ℕ → Bool
begins_like_a_script text = is_declaration (take_while is_ascii_alphanumeric (from_word false text))

-- `[` that is no `[[`
abbrev pub is_single_bracket : List ℕ → Bool
is_single_bracket [] = false
is_single_bracket (b ∷ []) = b == 91
is_single_bracket (b ∷ c ∷ bs) = (b == 91) && not (c == 91)

-- the line at which a text stops, after so many of its bytes, is the heading of a table, and the text goes on there
abbrev pub is_table_heading : (text : List ℕ) → (at : ℕ) → Bool
is_table_heading text at = nat_lt at (length text) && is_single_bracket (drop (last_begin (take at text)) text)

-- a curly quote in UTF-8
abbrev pub begins_quote : List ℕ → Bool
begins_quote (a ∷ b ∷ c ∷ rest) = (a == 226) && (b == 128) && nat_le 152 c && nat_le c 157
begins_quote _ = false

-- two points behind one digit or two
abbrev pub begins_range : List ℕ → Bool
begins_range (a ∷ b ∷ c ∷ d ∷ rest) = (c == 46) && ((b == 46) || (d == 46))
begins_range _ = false

-- by what stands where a text stops
abbrev pub hint_at : (rest : List ℕ) → Option (List ℕ)
hint_at rest =
    if starts_with nat_eq rest (codes ":") then Some text.EQUALS_SIGN.now
    else if begins_quote rest then Some text.CURLY_QUOTES.now
    else if begins_range rest then Some text.RANGE.now
    else None

abbrev pub hint_of_text : (bytes : List ℕ) → (at : ℕ) → Option (List ℕ)
hint_of_text bytes at =
    if begins_like_a_script bytes then Some text.SCRIPT_FIRST.now
    else if is_table_heading bytes at then Some text.DOUBLE_BRACKETS.now
    else hint_at (drop at bytes)
