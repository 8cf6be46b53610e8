-- What is to be known of a byte that begins no token.
use Rattle.std.specs.Prelude.{ℕ, Bool, ◌&&◌, ◌||◌, nat_eq, List, [], ◌∷◌, codes, drop, is_none, option_and_then, option_map, slice_get, Option, Some, None, if◌then◌else◌}
use Rattle.std.specs.List.{starts_with}
use Rattle.std.specs.Str.{bytes_eq}
use Rattle.camac_tokens.specs.Words.{or_else}
use Rattle.camac_tokens.specs.declared.token.Keyword.{Keyword}
use Rattle.camac_tokens.specs.declared.token.Keyword.TheVariants as word
use Rattle.camac_tokens.specs.declared.token.Sign.TheVariants as sign
use Rattle.camac_tokens.specs.declared.token.Token.{Token}
use Rattle.camac_tokens.specs.declared.token.TokenKind.{TokenKind}
use Rattle.camac_tokens.specs.declared.token.TokenKind.TheVariants as kind
use Rattle.camac_text_cursor.specs.Readers.{is_keyword, is_sign}
use Rattle.camac_explain_text_words.specs.Absent.{absent_sign, absent_word}
use Rattle.camac_explain_text_words.specs.Forms.{form_of}
use Rattle.camac_explain_text_place.specs.Before.{Standing, declared}
use Rattle.camac_explain_text_place.specs.Place.{word_at, Place, adjoins_word, moves_data, wants_lam}
use Rattle.camac_explain_text.specs.Hint.{absent_text}
use Rattle.camac_explain_text.specs.Mistake.{first_case}
use Rattle.camac_explain_text.specs.declared.texts.TheConstants.{BYTE_ORDER, DIGITS, FIRST_LETTER, FORM}
use Rattle.camac_sentence.specs.Filled.{with}

-- a word behind which no bracket stands
abbrev pub is_uncalled : Option TokenKind → Bool
is_uncalled k = moves_data k || (wants_lam k || (is_keyword word.Cdreg k || is_keyword word.For k))

-- a word of another language that is not declared, or one of the language that is called as there, with this token behind it
abbrev pub foreign : Standing → TokenKind → (next : Option TokenKind) → Option (List ℕ)
foreign s (kind.Name n) next = if is_none (declared n s) then option_map absent_text (absent_word n) else None
foreign s (kind.Keyword w) next =
    if is_uncalled (Some (kind.Keyword w)) && is_sign sign.LeftBracket next then option_map (with FORM.now) (form_of w) else None
foreign s k next = None

-- the first of these tokens of which that is so
abbrev pub foreign_in : Standing → List Token → Option (List ℕ)
foreign_in s [] = None
foreign_in s (t ∷ ts) = or_else (foreign s t.kind (option_map (λ (n : Token). n.kind) (slice_get ts 0))) (foreign_in s ts)

-- a word of another language behind a point, as `append` in `words.append(v)`
abbrev pub method : Place → Option (List ℕ)
method p =
    option_and_then (λ t. if bytes_eq t.0 (codes ".") then option_map absent_text (absent_word (word_at (drop 1 p.rest))) else None)
    (absent_sign p.text p.rest)

-- a number of another language, a mark that cannot be seen, the beginning of a name
unfoldable pub told_of_byte : Place → Option (List ℕ)
told_of_byte p =
    first_case (
    (adjoins_word p && (starts_with nat_eq p.rest (codes "_") || starts_with nat_eq p.rest (codes "'")), DIGITS.now)
    ∷ (starts_with nat_eq p.rest (239 ∷ 187 ∷ 191 ∷ []), BYTE_ORDER.now)
    ∷ (starts_with nat_eq p.rest (codes "_"), FIRST_LETTER.now) ∷ [])

-- what is to be known: the first of these that is so
unfoldable pub byte_hint : Place → Option (List ℕ)
byte_hint p = or_else (foreign_in p.before p.line) (or_else (method p) (told_of_byte p))
