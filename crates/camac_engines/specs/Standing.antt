-- Where the statement at a place of a text begins, by its tokens.
use Rattle.std.specs.Prelude.{ℕ, ◌+◌, ◌-◌, ◌^◌, Bool, true, false, not, ◌&&◌, ◌||◌, List, [], ◌∷◌, length, min, nat_eq, nat_le, slice_get, Option, Some, None, unwrap_or, if◌then◌else◌}
use Rattle.camac_lang.specs.declared.spot.Spot.{Spot}
use Rattle.camac_tokens.specs.declared.token.Keyword.TheVariants as word
use Rattle.camac_tokens.specs.declared.token.Sign.TheVariants.{LeftBrace, RightBrace, Equals}
use Rattle.camac_tokens.specs.declared.token.Token.{Token}
use Rattle.camac_tokens.specs.declared.token.TokenKind.{TokenKind}
use Rattle.camac_tokens.specs.declared.token.TokenKind.TheVariants.{Name, Number, Keyword as Word, Sign}
use Rattle.camac_text_cursor.specs.Choice.{begins_statement}
use Rattle.camac_engines.specs.declared.standing.Seen.{Seen}

-- ---- tokens

abbrev pub is_left_brace : TokenKind → Bool
is_left_brace (Sign LeftBrace) = true
is_left_brace k = false

abbrev pub is_right_brace : TokenKind → Bool
is_right_brace (Sign RightBrace) = true
is_right_brace k = false

abbrev pub is_equals : TokenKind → Bool
is_equals (Sign Equals) = true
is_equals k = false

abbrev pub is_else : TokenKind → Bool
is_else (Word word.Else) = true
is_else k = false

abbrev pub is_for : TokenKind → Bool
is_for (Word word.For) = true
is_for k = false

-- a name before `=` begins an assignment, but not after `for`
abbrev pub assigns : (is_counted : Bool) → (next : Option Token) → Bool
assigns is_counted None = false
assigns is_counted (Some t) = not is_counted && is_equals t.kind

abbrev pub begins : (is_counted : Bool) → TokenKind → (next : Option Token) → Bool
begins is_counted (Word w) next = begins_statement w
begins is_counted (Name x) next = assigns is_counted next
begins is_counted (Number n) next = false
begins is_counted (Sign s) next = false

-- ---- what is known of a token: open blocks, at most the greatest of 64 bits; where the statement begins that it is one of; whether it is a `for`

abbrev pub at : (depth : ℕ) → (statement : Option Spot) → (is_for : Bool) → Seen
at depth statement is_for = record { depth = depth; statement = statement; is_for = is_for }

abbrev pub at_start : Seen
at_start = at 0 None false

-- a statement goes on up to the next one, or to a brace or `else`
abbrev pub walked : Seen → Token → (next : Option Token) → Seen
walked w t next =
    if is_left_brace t.kind then at (min (w.depth + 1) (2 ^ 64 - 1)) None false
    else if is_right_brace t.kind then at (w.depth - 1) None false
    else if nat_eq w.depth 0 || is_else t.kind then at w.depth None false
    else at w.depth (if begins w.is_for t.kind next then Some t.spot else w.statement) (is_for t.kind)

-- ---- the one at a place

-- of the tokens of a line the last one with so many bytes from it on, or the first
abbrev pub chosen_after : (from left : ℕ) → Option Spot → Option (Option Spot) → Option (Option Spot)
chosen_after from left s None = Some s
chosen_after from left s (Some before) = if nat_le from left then Some s else Some before

abbrev pub chosen : (line from : ℕ) → Token → Option Spot → Option (Option Spot) → Option (Option Spot)
chosen line from t s before = if nat_eq t.spot.line line then chosen_after from t.spot.left s before else before

abbrev pub standings : (line from : ℕ) → Seen → Option (Option Spot) → List Token → Option Spot
standings line from w before [] = unwrap_or before None
standings line from w before (t ∷ ts) =
    standings line from (walked w t (slice_get ts 0)) (chosen line from t (walked w t (slice_get ts 0)).statement before) ts

-- what is after this many line feeds
abbrev pub from_line : List ℕ → ℕ → List ℕ
from_line [] feeds = []
from_line (b ∷ bs) feeds = if nat_eq feeds 0 then b ∷ bs else from_line bs (if nat_eq b 10 then feeds - 1 else feeds)

-- how many bytes there are from a place on
abbrev pub bytes_from : List ℕ → (line column : ℕ) → ℕ
bytes_from text line column = length (from_line text (line - 1)) - (column - 1)

abbrev pub standing_at : List ℕ → List Token → (line column : ℕ) → Option Spot
standing_at text ts line column = standings line (bytes_from text line column) at_start None ts
