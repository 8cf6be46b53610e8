-- What may be meant at a place, or is to be known there: which hint stands behind a sentence.
use Rattle.std.specs.Prelude.{ℕ, ◌-◌, ◌==◌, nat_lt, Bool, true, false, ◌&&◌, ◌||◌, not, List, [], ◌∷◌, codes, decimal, find, is_none, length, option_and_then, option_map, slice_get, Option, Some, None, if◌then◌else◌}
use Rattle.camac_lines.specs.Words.{is_near, quoted, shown_text}
use Rattle.camac_sentence.specs.Filled.{filled, with}
use Rattle.camac_tokens.specs.Words.{or_else}
use Rattle.camac_tokens.specs.declared.fault.NameKind.{NameKind}
use Rattle.camac_tokens.specs.declared.fault.NameKind.TheVariants as named
use Rattle.camac_tokens.specs.declared.token.Keyword.{Keyword}
use Rattle.camac_tokens.specs.declared.token.Keyword.TheVariants as word
use Rattle.camac_tokens.specs.declared.token.Sign.{Sign}
use Rattle.camac_tokens.specs.declared.token.Sign.TheVariants as sign
use Rattle.camac_tokens.specs.declared.token.TokenKind.{TokenKind}
use Rattle.camac_tokens.specs.declared.token.TokenKind.TheVariants as kind
use Rattle.camac_text_cursor.specs.Choice.{begins_declaration, begins_statement}
use Rattle.camac_text_cursor.specs.Readers.{each_word, is_keyword, is_name, is_number}
use Rattle.camac_text_cursor.specs.declared.choice.Choice.TheVariants as choice
use Rattle.camac_explain_text_words.specs.Absent.{absent_sign}
use Rattle.camac_explain_text_words.specs.Forms.{form_of}
use Rattle.camac_explain_text_words.specs.Spelled.{is_hexadecimal, is_word, keywords, sign_text, word_text}
use Rattle.camac_explain_text_words.specs.declared.forms.TheConstants.{ASSIGNMENT}
use Rattle.camac_explain_text_place.specs.Before.{Standing, called_in, declared, first_of, is_in_brackets, is_kind, near, open_line, wants_new_name, word_of}
use Rattle.camac_explain_text.specs.Hint.{absent_text, no_arrow_text, takes_text}
use Rattle.camac_explain_text.specs.Mistake.{ends_in_marked_number, first_case, is_either, told_of_kind, usual_mistake}
use Rattle.camac_explain_text.specs.declared.texts.TheConstants.{ADDRESS, BRACKETS, CALLED, CYCLES_SET, DIGITS, FORM, INSIDE, MARKED, MEANT, MEANT_BEFORE, MEANT_NAME, NO_RESULT, NO_STATEMENT, OF_LANGUAGE, OPEN, TESTED}
use Rattle.camac_explain_text_place.specs.Place.{Place, absent_word_at, adjoins_word, begins_line, begins_statement_at, expects, is_assigned, is_before, is_before_name, last}

unfoldable pub near_among : (name : List ℕ) → List Keyword → Option (List ℕ)
near_among name ws = option_map word_text (find (λ w. begins_declaration w && is_near name (word_text w)) ws)

-- the first word that begins a declaration, and is near a name
unfoldable pub near_beginning : (name : List ℕ) → Option (List ℕ)
near_beginning name = near_among name keywords

abbrev pub meant_by_name : Option TokenKind → Option (List ℕ)
meant_by_name (Some (kind.Name name)) = option_map (λ meant. filled MEANT_BEFORE.now (meant ∷ quoted name ∷ [])) (near_beginning name)
meant_by_name _ = None

-- the token that stands so many before the end of a phrase, or its first one
abbrev pub from_end : ℕ → Standing → Option TokenKind
from_end n s = slice_get s.phrase (length s.phrase - n)

abbrev pub of_two_before : Standing → Option (List ℕ)
of_two_before s = or_else (meant_by_name (from_end 1 s)) (meant_by_name (from_end 2 s))

-- one of the two words before, which a `var` takes for names, and which is near a word that begins a declaration
unfoldable pub word_before : Place → Option (List ℕ)
word_before p = if is_keyword word.Var (first_of p.before) then of_two_before p.before else None

-- a word that may stand in its place; `lock` may begin a statement, but in a procedure
abbrev pub fits : Place → Keyword → Bool
fits p w = expects p (choice.Word w) || ((begins_statement_at p && not p.before.in_procedure) && is_word w word.Lock)

unfoldable pub near_fitting : Place → List Keyword → Option (List ℕ)
near_fitting p ws = option_map word_text (find (λ w. fits p w && is_near p.bytes (word_text w)) ws)

abbrev pub near_each : Place → Option (List ℕ)
near_each p = if expects p choice.Each && is_near p.bytes each_word then Some each_word else None

abbrev pub near_named : Place → Option (List ℕ)
near_named p = or_else (near_fitting p keywords) (near_each p)

-- a near word of the language in the place of a name
unfoldable pub near_word : Place → Option (List ℕ)
near_word p = if is_name p.token then near_named p else None

abbrev pub is_spelled_out : Option TokenKind → Bool
is_spelled_out (Some (kind.Name n)) = true
is_spelled_out (Some (kind.Keyword w)) = true
is_spelled_out _ = false

-- a word right after a number, as in `0x1F`; a comment where a number may stand, as in `put #ff`
unfoldable pub decimal_digits : Place → Option (List ℕ)
decimal_digits p =
    first_case ((is_spelled_out p.token && (is_number (last p) && adjoins_word p), DIGITS.now)
    ∷ (expects p choice.Number && ends_in_marked_number p.text, MARKED.now) ∷ [])

-- what a sign is taken for
abbrev pub taken_for : Place → Sign → Option Sign
taken_for p sign.Equals = Some (if expects p choice.Comparison then sign.Same else sign.From)
taken_for p sign.Less = Some sign.From
taken_for p sign.Same = Some sign.Equals
taken_for p sign.More = Some sign.Into
taken_for p sign.Minus = Some sign.Into
taken_for p _ = None

abbrev pub if_expected : Place → Option Sign → Option (List ℕ)
if_expected p (Some s) = if expects p (choice.Mark s) then Some (sign_text s) else None
if_expected p None = None

abbrev pub meant_at_sign : Place → Option TokenKind → Option (List ℕ)
meant_at_sign p (Some (kind.Sign sign.UpTo)) = if expects p (choice.Word word.To) then Some (word_text word.To) else None
meant_at_sign p (Some (kind.Sign s)) = if_expected p (taken_for p s)
meant_at_sign p _ = None

-- the sign, or the `to`, for which a sign is taken, and which may stand there
unfoldable pub meant_by_sign : Place → Option (List ℕ)
meant_by_sign p = meant_at_sign p p.token

abbrev pub arrow_before_value : Place → (first : Keyword) → (value : List ℕ) → Option (List ℕ)
arrow_before_value p first value =
    if is_either word.Cfsa word.Cssa first && expects p (choice.Mark sign.Equals) then Some (no_arrow_text value) else None

abbrev pub arrow_before_number : Place → (first : Keyword) → Option (List ℕ)
arrow_before_number p first = if is_either word.Cfsa word.Cssa first && is_number p.token then Some (no_arrow_text p.bytes) else None

abbrev pub arrow_in : Place → List TokenKind → Option (List ℕ)
arrow_in p (kind.Keyword w ∷ kind.Number f ∷ kind.Name register ∷ kind.Name value ∷ []) = arrow_before_value p w value
arrow_in p (kind.Keyword w ∷ kind.Number f ∷ kind.Name register ∷ []) = arrow_before_number p w
arrow_in p _ = None

-- what stands where the arrow of a cycle is missing: a name that then begins an assignment, or a number
unfoldable pub missing_arrow : Place → Option (List ℕ)
missing_arrow p = arrow_in p p.before.phrase

abbrev pub takes_of : Standing → (procedure : List ℕ) → Option (List ℕ)
takes_of s procedure = option_and_then (λ d. if is_in_brackets s then Some (takes_text procedure d.parameters) else None) (declared procedure s)

abbrev pub arguments_of_call : Standing → (procedure : List ℕ) → Option (List ℕ)
arguments_of_call s procedure = if length s.phrase == 2 then Some (with BRACKETS.now (shown_text procedure)) else takes_of s procedure

-- the arguments of a call that is not complete
unfoldable pub arguments : Place → Option (List ℕ)
arguments p = option_and_then (arguments_of_call p.before) (called_in p.before.phrase)

-- the `{` that is open where the text ends
unfoldable pub open_block : Place → Option (List ℕ)
open_block p = option_and_then (λ line. if length p.bytes == 0 then Some (with OPEN.now (decimal line)) else None) (open_line p.before)

abbrev pub word_before_beginning : Place → Option (List ℕ)
word_before_beginning p = if expects p choice.Declaration || begins_statement_at p then word_before p else None

-- The form of what is in hand, unless another one may begin. A name alone has to begin an assignment: a `for` and a `table` have two words before the `=`.
unfoldable pub form_at : Place → Option (List ℕ)
form_at p =
    if expects p (choice.Mark sign.Equals) && not (length p.before.phrase == 2) then Some ASSIGNMENT.now
    else (if begins_statement_at p || expects p choice.Declaration then None else option_and_then form_of (word_of (first_of p.before)))

-- behind the list of what might stand there: the first of these that is so
unfoldable pub unexpected_hint : Place → Option (List ℕ)
unexpected_hint p =
    or_else (option_map (with MEANT.now) (meant_by_sign p))
    (or_else (decimal_digits p)
    (or_else (missing_arrow p)
    (or_else (usual_mistake p)
    (or_else (option_map (with MEANT.now) (near_word p))
    (or_else (word_before_beginning p)
    (or_else (arguments p)
    (or_else (open_block p) (option_map (with FORM.now) (form_at p)))))))))

-- behind a name that is not declared
unfoldable pub name_hint : Place → (wanted : NameKind) → Option (List ℕ)
name_hint p wanted =
    or_else (decimal_digits p)
    (or_else (option_map (with MEANT.now) (near_word p))
    (or_else (option_map (λ d. with MEANT_NAME.now (quoted d.name)) (near p.bytes wanted p.before))
    (first_case (
    (is_kind wanted named.Variable && is_before p (codes "("), with CALLED.now (shown_text p.bytes))
    ∷ (is_kind wanted named.Variable && (not (is_assigned p) && is_hexadecimal p.bytes), DIGITS.now)
    ∷ (begins_line p && (begins_statement_at p && is_before_name p), NO_STATEMENT.now)
    ∷ []))))

-- behind a name that is declared as another kind: what a procedure, a register or a LAM is for, in the place of a variable
unfoldable pub kind_hint : Place → (wanted is : NameKind) → Option (List ℕ)
kind_hint p wanted is =
    or_else
    (first_case (
    (is_kind wanted named.Variable && (is_kind is named.Procedure && begins_statement_at p), with CALLED.now (shown_text p.bytes))
    ∷ (is_kind wanted named.Variable && is_kind is named.Procedure, with NO_RESULT.now (shown_text p.bytes))
    ∷ (is_kind wanted named.Variable && is_kind is named.Register, with ADDRESS.now (shown_text p.bytes))
    ∷ (is_kind wanted named.Variable && is_kind is named.Lam, with TESTED.now (shown_text p.bytes)) ∷ []))
    (told_of_kind wanted is)

-- a sign of the language that begins as one of another, as `..` does
abbrev pub sign_of_another : Place → Option TokenKind → Option (List ℕ)
sign_of_another p (Some (kind.Sign s)) = option_and_then (λ t. if nat_lt 1 (length t.0) then Some (absent_text t) else None) (absent_sign p.text p.rest)
sign_of_another p _ = None

-- a declaration in a body; a `table` that begins its line, since others stand in statements
unfoldable pub inside : Place → Keyword → Option (List ℕ)
inside p w =
    if begins_declaration w && (not (is_word w word.Table) || begins_line p) then option_map (λ line. filled INSIDE.now (word_text w ∷ decimal line ∷ [])) (open_line p.before) else None

-- a word of the language where a new name has to stand
abbrev pub is_name_wanted : Place → Bool
is_name_wanted p = wants_new_name p.before && (not (begins_line p) && is_none (word_before p))

-- a word of the language before an `=`
abbrev pub is_set : Place → Keyword → Bool
is_set p w = is_assigned p && not (begins_statement w)

unfoldable pub kept_word : Place → Keyword → Option (List ℕ)
kept_word p w =
    first_case (
    (is_name_wanted p, with OF_LANGUAGE.now (word_text w))
    ∷ (is_set p w && is_either word.Q word.X w, CYCLES_SET.now)
    ∷ (is_set p w, with OF_LANGUAGE.now (word_text w)) ∷ [])

abbrev pub own_of_word : Place → Keyword → Option (List ℕ)
own_of_word p w = or_else (inside p w) (kept_word p w)

-- what is told in place of all that might stand there: the first of these that is so
unfoldable pub own_sentence : Place → Option (List ℕ)
own_sentence p =
    or_else (option_map absent_text (absent_word_at p))
    (or_else (sign_of_another p p.token)
    (option_and_then (own_of_word p) (word_of p.token)))
