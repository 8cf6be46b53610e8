-- How deep a plan's text nests. It is judged over the bytes, before they are read as TOML.
--
-- Around a byte is open: each array and each inline table; each dot of the key that stands there or whose value stands there; and each key of the
-- heading above. What stands in strings and comments opens nothing. So in `[x.y]` and `a.b = { c = [1] }` below it, the 1 is 5 deep:
-- x, y, the dot, the table and the array.
use Rattle.std.specs.Prelude.{ℕ, ◌+◌, Bool, true, false, ◌&&◌, ◌||◌, ◌==◌, nat_lt, List, [], ◌∷◌, length, reverse, Option, Some, None, if◌then◌else◌}
use Rattle.camac_plan.specs.declared.nesting.Within.{Within}
use Rattle.camac_plan.specs.declared.nesting.Within.TheVariants.{Neither, Comment, One, Two, Line, LineEscape, Lines, LinesEscape}
use Rattle.camac_plan.specs.declared.nesting.Part.{Part}
use Rattle.camac_plan.specs.declared.nesting.Part.TheVariants.{Key, Value}
use Rattle.camac_plan.specs.declared.nesting.Part.TheVariants as part
use Rattle.camac_plan.specs.declared.nesting.Open.{Open}
use Rattle.camac_plan.specs.declared.nesting.Open.TheVariants.{Dot, Array, Table}
use Rattle.camac_plan.specs.declared.nesting.Open.TheVariants as mark
use Rattle.camac_plan.specs.declared.nesting.Around.{Around}
use Rattle.camac_plan.specs.declared.nesting.Place.{Place}

-- ---- strings and comments

-- outside of both: a `#` begins a comment, and a quote a string
abbrev pub begun : ℕ → Within
begun b = if b == 35 then Comment else if b == 34 || b == 39 then One b else Neither

-- in a string of one line, which its quote ends, and its line at the latest
abbrev pub in_line : ℕ → ℕ → Within
in_line q b = if b == q || b == 10 then Neither else if b == 92 && q == 34 then LineEscape else Line q

-- in a string of several lines, after n quotes: three end it, and up to two more, which belong to it, may stand before these
abbrev pub in_lines : ℕ → ℕ → ℕ → Within
in_lines q n b =
    if b == q then Lines q (if nat_lt n 3 then n + 1 else 3)
    else if n == 3 then begun b
    else if b == 92 && q == 34 then LinesEscape
    else Lines q 0

-- what the byte after b stands in
abbrev pub next_within : Within → ℕ → Within
next_within Neither b = begun b
next_within Comment b = if b == 10 then Neither else Comment
next_within (One q) b = if b == q then Two q else in_line q b
next_within (Two q) b = if b == q then Lines q 0 else begun b
next_within (Line q) b = in_line q b
next_within LineEscape b = Line 34
next_within (Lines q n) b = in_lines q n b
next_within LinesEscape b = Lines 34 0

-- ---- what is open, innermost first

pub record Level : Type 0 where
  pub part : Part
  pub opened : List Open

abbrev pub level : Part → List Open → Level
level part opened = record { part = part; opened = opened }

-- without the dots of a key that has ended
abbrev pub without_dots : List Open → List Open
without_dots [] = []
without_dots (Dot ∷ rest) = without_dots rest
without_dots (mark.Heading ∷ rest) = mark.Heading ∷ rest
without_dots (Array ∷ rest) = Array ∷ rest
without_dots (Table ∷ rest) = Table ∷ rest

abbrev pub begins_with_dot : List Open → Bool
begins_with_dot (Dot ∷ rest) = true
begins_with_dot _ = false

abbrev pub is_in_brackets : List Open → Bool
is_in_brackets (Array ∷ rest) = true
is_in_brackets (Table ∷ rest) = true
is_in_brackets _ = false

-- in an array stand values alone
abbrev pub part_in : List Open → Part
part_in (Array ∷ rest) = Value
part_in _ = Key

abbrev pub without_bracket : List Open → List Open
without_bracket [] = []
without_bracket (Array ∷ rest) = rest
without_bracket (Table ∷ rest) = rest
without_bracket (Dot ∷ rest) = Dot ∷ rest
without_bracket (mark.Heading ∷ rest) = mark.Heading ∷ rest

-- `[` begins an array where a value stands, else a heading, whose first key it opens
abbrev pub bracket_opened : Part → List Open → Level
bracket_opened Value opened = level Value (Array ∷ opened)
bracket_opened _ opened = level part.Heading (mark.Heading ∷ [])

-- `.` goes on to the next key; in a value it stands in a number
abbrev pub dotted : Part → List Open → Level
dotted part.Heading opened = level part.Heading (mark.Heading ∷ opened)
dotted Key opened = level Key (Dot ∷ opened)
dotted Value opened = level Value opened

-- `,` ends an item of an array or a table
abbrev pub item_ended : List Open → Level
item_ended opened = level (part_in opened) opened

-- `]` or `}` ends an array or a table; a heading stands until another one begins
abbrev pub bracket_closed : Part → List Open → Level
bracket_closed part.Heading opened = level part.Heading opened
bracket_closed _ opened = level Value (without_bracket (without_dots opened))

-- a line ends a heading, or a key with its value, unless it ends in brackets
abbrev pub line_ended : Part → List Open → Level
line_ended part opened = level (if is_in_brackets opened then part else Key) opened

-- what stands around the byte after b
abbrev pub counted : ℕ → Level → Level
counted b l =
    if b == 91 then bracket_opened l.part l.opened
    else if b == 123 then level Key (Table ∷ l.opened)
    else if b == 46 then dotted l.part l.opened
    else if b == 61 then level Value l.opened
    else if b == 44 then item_ended (without_dots l.opened)
    else if b == 93 || b == 125 then bracket_closed l.part l.opened
    else if b == 10 then line_ended l.part (without_dots l.opened)
    else l

-- ---- the text

pub record Standing : Type 0 where
  pub within : Within
  pub level : Level

abbrev pub standing : Within → Level → Standing
standing within level = record { within = within; level = level }

abbrev pub followed : ℕ → Within → Level → Standing
followed b Neither l = standing Neither (counted b l)
followed b w l = standing w l

abbrev pub after : ℕ → Standing → Standing
after b s = followed b (next_within s.within b) s.level

-- how many bytes stand before the first one after which more than 16 are open, where `at` bytes stand before these
abbrev pub first_deeper : ℕ → Standing → List ℕ → Option ℕ
first_deeper at s [] = None
first_deeper at s (b ∷ bytes) = if nat_lt 16 (length (after b s).level.opened) then Some at else first_deeper (at + 1) (after b s) bytes

abbrev pub too_deep : List ℕ → Option ℕ
too_deep bytes = first_deeper 0 (standing Neither (level Key [])) bytes

-- ---- what the code has

abbrev pub level_of : Around → Level
level_of a = level a.part (reverse a.opened.items)

abbrev pub standing_of : Place → Standing
standing_of p = standing p.within (level_of p.around)
