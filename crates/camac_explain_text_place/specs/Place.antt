-- A place of a text at which a fault shows: the token there, what stands around it, and what may stand in its place.
use Rattle.std.specs.Prelude.{ℕ, ◌-◌, List, [], ◌∷◌, drop, length, option_map, slice_get, unwrap_or, take, take_while, Option, Some, None, if◌then◌else◌, ◌==◌, Bool, false, ◌&&◌, ◌||◌, nat_eq, not, codes, is_none, Result, Ok, Err}
use Rattle.std.specs.Char.{is_ascii_alphabetic, is_ascii_digit, is_ascii_whitespace}
use Rattle.camac_tokens.specs.declared.token.Sign.{Sign}
use Rattle.camac_tokens.specs.declared.token.Token.{Token}
use Rattle.camac_tokens.specs.declared.token.TokenKind.{TokenKind}
use Rattle.camac_tokens.specs.Left.{ahead_of}
use Rattle.camac_tokens.specs.Scanning.{is_name_byte, pair_at, tokens_of}
use Rattle.std.specs.List.{prefix_len, starts_with}
use Rattle.camac_tokens.specs.Fault.{Fault}
use Rattle.camac_tokens.specs.declared.fault.NameKind.{NameKind}
use Rattle.camac_tokens.specs.declared.fault.NameKind.TheVariants as named
use Rattle.camac_tokens.specs.declared.token.Keyword.TheVariants as word
use Rattle.camac_text_cursor.specs.Choice.{has as has_all, held}
use Rattle.camac_text_cursor.specs.Readers.{is_keyword, is_name}
use Rattle.camac_text_cursor.specs.declared.choice.Choice.{Choice}
use Rattle.camac_text_cursor.specs.declared.choice.Choice.TheVariants as choice
use Rattle.camac_text_cursor.specs.declared.choice.Choices.{Choices}
use Rattle.camac_explain_text_words.specs.Absent.{absent_word}
use Rattle.camac_explain_text_place.specs.Before.{Standing, declared, first_of, last_of, standing, standing_of}
use Rattle.camac_explain_text_place.specs.declared.found.Found.{Found}

-- The token at which a fault shows.

-- a text up to the place from which so many bytes are left, and from there on
abbrev pub text_before : (left : ℕ) → (text : List ℕ) → List ℕ
text_before left text = take (length text - left) text

abbrev pub rest_of : (left : ℕ) → (text : List ℕ) → List ℕ
rest_of left text = drop (length text - left) text

-- a byte that begins no token stands for itself
abbrev pub sign_length : Option Sign → ℕ
sign_length (Some s) = 2
sign_length None = 1

abbrev pub begun_length : (first : ℕ) → (text : List ℕ) → ℕ
begun_length first text =
    if is_ascii_alphabetic first then length (take_while is_name_byte text)
    else (if is_ascii_digit first then length (take_while is_ascii_digit text)
    else sign_length (pair_at text))

abbrev pub word_length : (text : List ℕ) → ℕ
word_length [] = 0
word_length (b ∷ bs) = begun_length b (b ∷ bs)

-- the word, the number, the sign or the one byte with which a text begins
abbrev pub word_at : (text : List ℕ) → List ℕ
word_at text = take (word_length text) text

-- the kind of the first token; none where no token is left, or what is no token stands there
abbrev pub kind_at : (text : List ℕ) → Option TokenKind
kind_at text = option_map (λ (t : Token). t.kind) (slice_get (ahead_of text).tokens 0)

-- A place of a text at which a fault shows: the token there, what stands around it, and what may stand in its place.

-- the token's bytes and what it is, the texts before it and from it on, what the tokens before it come to, those of its line, and what may stand there
pub record Place : Type 0 where
  pub bytes : List ℕ
  pub token : Option TokenKind
  pub text : List ℕ
  pub rest : List ℕ
  pub before : Standing
  pub line : List Token
  pub noted : Choices

abbrev pub place_of : Found → Place
place_of f =
    record {
      bytes = f.word.now;
      token = f.kind;
      text = f.text.now;
      rest = f.rest.now;
      before = standing_of f.before;
      line = f.line.items;
      noted = f.expected;
    }

-- the tokens of a text; none where it has a fault of a token
abbrev pub or_none : Result (List Token) Fault → List Token
or_none (Ok ts) = ts
or_none (Err f) = []

abbrev pub tokens_in : (text : List ℕ) → List Token
tokens_in text = or_none (tokens_of text)

-- what stands behind the last line feed of a text, or this line
abbrev pub line_from : (line text : List ℕ) → List ℕ
line_from line [] = line
line_from line (b ∷ bs) = line_from (if b == 10 then bs else line) bs

abbrev pub place_between : Choices → (text rest : List ℕ) → Place
place_between noted text rest =
    record {
      bytes = word_at rest;
      token = kind_at rest;
      text = text;
      rest = rest;
      before = standing (tokens_in text);
      line = tokens_in (line_from text text);
      noted = noted;
    }

-- the place of a text from which so many bytes are left
abbrev pub place_at : Choices → (left : ℕ) → (text : List ℕ) → Place
place_at noted left text = place_between noted (text_before left text) (rest_of left text)

-- the token before, if it belongs to the same declaration or statement
abbrev pub last : Place → Option TokenKind
last p = last_of p.before

abbrev pub has : Choices → Choice → Bool
has noted c = has_all c (held noted)

abbrev pub expects : Place → Choice → Bool
expects p c = has p.noted c

abbrev pub begins_statement_at : Place → Bool
begins_statement_at p = expects p choice.Statement

-- right after a name, a word or a number
abbrev pub adjoins_word : Place → Bool
adjoins_word p = unwrap_or (option_map is_name_byte (slice_get p.text (length p.text - 1))) false

-- only blanks stand behind the last line feed
abbrev pub ends_in_blanks : (is_blank_line : Bool) → (text : List ℕ) → Bool
ends_in_blanks is_blank_line [] = is_blank_line
ends_in_blanks is_blank_line (b ∷ bs) = ends_in_blanks ((b == 10) || (is_blank_line && is_ascii_whitespace b)) bs

abbrev pub begins_line : Place → Bool
begins_line p = ends_in_blanks false p.text

abbrev pub without_blanks : (text : List ℕ) → List ℕ
without_blanks text = drop (prefix_len is_ascii_whitespace text) text

-- these bytes stand behind the token, after blanks
abbrev pub is_before : Place → List ℕ → Bool
is_before p bytes = starts_with nat_eq (without_blanks (drop (length p.bytes) p.rest)) bytes

-- a name stands behind the token
abbrev pub is_before_name : Place → Bool
is_before_name p = is_name (kind_at (drop (length p.bytes) p.rest))

-- an `=` that sets follows
unfoldable pub is_assigned : Place → Bool
is_assigned p = is_before p (codes "=") && not (is_before p (codes "=="))

-- the line on which the script declares it
abbrev pub declared_line : Place → Option ℕ
declared_line p = option_map (λ d. d.line) (declared p.bytes p.before)

abbrev pub is_free_name : Place → Bool
is_free_name p = is_name p.token && is_none (declared p.bytes p.before)

-- the word of another language that it is, unless the script declares it
unfoldable pub absent_word_at : Place → Option (List ℕ × List ℕ)
absent_word_at p = if is_free_name p then absent_word p.bytes else None

abbrev pub wants_lam : Option TokenKind → Bool
wants_lam k = is_keyword word.Service k || (is_keyword word.Cclm k || (is_keyword word.Cclc k || is_keyword word.Ctlm k))

abbrev pub moves_data : Option TokenKind → Bool
moves_data k =
    is_keyword word.Cfsa k || (is_keyword word.Cssa k || (is_keyword word.Cfubc k || (is_keyword word.Cfubr k || is_keyword word.Cfmad k)))

-- a register stands third in a transfer, and fourth in a scan
abbrev pub wants_register : Standing → Bool
wants_register s = (moves_data (first_of s) && (length s.phrase == 2)) || (is_keyword word.Cfmad (first_of s) && (length s.phrase == 3))

-- the kind of name that the place needs
unfoldable pub needed : Place → NameKind
needed p =
    if wants_lam (last p) then named.Lam
    else (if is_keyword word.Call (last p) then named.Procedure
    else (if is_keyword word.Table (last p) then named.Table
    else (if wants_register p.before then named.Register else named.Variable)))
