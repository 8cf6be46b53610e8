-- The line of a script as it is shown.
use Rattle.std.specs.Prelude.{ℕ, zero, suc, ◌+◌, ◌-◌, Bool, ◌&&◌, ◌||◌, not, List, [], ◌∷◌, ◌++◌, codes, decimal, drop, take, take_while, length, map, min, nat_eq, nat_le, nat_lt, if◌then◌else◌}
use Rattle.std.specs.List.{flat_map}
use Rattle.camac_lang.specs.declared.spot.Spot.{Spot}
use Rattle.camac_tokens.specs.Scanning.{is_no_line_feed}
use Rattle.camac_explain.specs.declared.finding.Finding.{Finding}
use Rattle.camac_explain.specs.declared.finding.Finding.TheVariants.{Plan, Text, Link, Check}
use Rattle.camac_explain.specs.declared.texts.TheConstants.{END}

-- the bytes before the first line feed, and those after it
abbrev pub line_length : List ℕ → ℕ
line_length text = length (take_while is_no_line_feed text)

abbrev pub first_line : List ℕ → List ℕ
first_line text = take (line_length text) text

abbrev pub after_line : List ℕ → List ℕ
after_line text = drop (line_length text + 1) text

-- the text after so many lines
abbrev pub after_lines : ℕ → List ℕ → List ℕ
after_lines zero text = text
after_lines (suc n) text = after_lines n (after_line text)

-- the text from the line of this number on, from 1
abbrev pub from_line : ℕ → List ℕ → List ℕ
from_line n text = after_lines (n - 1) text

-- how many bytes of its line stand before a spot of a text
abbrev pub column_of : List ℕ → Spot → ℕ
column_of text s = length (from_line s.line text) - s.left

-- control bytes other than tabs are shown as `?`
abbrev pub shown_byte : ℕ → ℕ
shown_byte b = if (nat_lt b 32 && not (nat_eq b 9)) || nat_eq b 127 then 63 else b

-- the first of the 120 bytes that are shown: 60 before the one of the column, but none too late
abbrev pub begin_of : (line : List ℕ) → (column : ℕ) → ℕ
begin_of line column = min (column - 60) (length line - 120)

-- for what is left out
abbrev pub dots : Bool → List ℕ
dots left_out = if left_out then codes ".." else []

abbrev pub shown_line : List ℕ → ℕ → List ℕ
shown_line line column =
    dots (nat_lt 0 (begin_of line column)) ++ map shown_byte (take 120 (drop (begin_of line column) line))
    ++ dots (nat_lt (begin_of line column) (length line - 120))

-- an empty line is that after the last one
abbrev pub shown_or_end : List ℕ → ℕ → List ℕ
shown_or_end [] column = END.now
shown_or_end (b ∷ bs) column = shown_line (b ∷ bs) column

-- the number in five columns, and a bar
abbrev pub number_column : ℕ → List ℕ
number_column n = drop (min (length (decimal n)) 5) (codes "     ") ++ decimal n ++ codes " | "

-- the line of this number, with a token after so many of its bytes
abbrev pub source_text : (line : List ℕ) → (number column : ℕ) → List ℕ
source_text line n column = number_column n ++ shown_or_end line column ++ codes "\n"

-- below a tab a tab, below the first byte of any other character a blank, below its others nothing
abbrev pub blank_below : ℕ → List ℕ
blank_below b = if nat_eq b 9 then 9 ∷ [] else if nat_lt b 128 || nat_le 192 b then codes " " else []

-- below what is left out
abbrev pub gap : Bool → List ℕ
gap left_out = if left_out then codes "  " else []

-- the line below a line that is shown, with a `^` below the byte of the column
abbrev pub mark_line : (line : List ℕ) → (column : ℕ) → List ℕ
mark_line line column =
    codes "      | " ++ gap (nat_lt 0 (begin_of line column))
    ++ flat_map blank_below (take (column - begin_of line column) (drop (begin_of line column) line)) ++ codes "^\n"

-- a line that is shown, with a mark below it
abbrev pub marked_line : (line : List ℕ) → (number column : ℕ) → List ℕ
marked_line line n column = source_text line n column ++ mark_line line column

-- the line of a spot, with the mark there
abbrev pub marked_text : List ℕ → Spot → List ℕ
marked_text text s = marked_line (first_line (from_line s.line text)) s.line (column_of text s)

-- of a script's text
abbrev pub source_of : List ℕ → Finding → List ℕ
source_of text (Plan rule) = []
source_of text (Text rule spot) = marked_text text spot
source_of text (Link rule spot case) = marked_text text spot
source_of text (Check rule spot case) = marked_text text spot
