-- Mistakes that are made often, each with its sentence.
use Rattle.std.specs.Prelude.{ℕ, Bool, false, ◌&&◌, ◌||◌, not, List, [], ◌∷◌, Option, Some, None, if◌then◌else◌, ◌==◌, drop, is_none, length, nat_lt, take_while}
use Rattle.std.specs.Char.{is_ascii_hexdigit}
use Rattle.camac_tokens.specs.Words.{or_else}
use Rattle.camac_tokens.specs.declared.fault.NameKind.{NameKind}
use Rattle.camac_tokens.specs.declared.fault.NameKind.TheVariants as named
use Rattle.camac_tokens.specs.declared.token.Keyword.{Keyword}
use Rattle.camac_tokens.specs.declared.token.Keyword.TheVariants as word
use Rattle.camac_tokens.specs.declared.token.Sign.TheVariants as sign
use Rattle.camac_tokens.specs.declared.token.TokenKind.{TokenKind}
use Rattle.camac_tokens.specs.declared.token.TokenKind.TheVariants as kind
use Rattle.camac_text_cursor.specs.Choice.{begins_statement, compares, is_sign_that, is_word_that}
use Rattle.camac_text_cursor.specs.Readers.{is_each, is_keyword, is_name, is_number, is_sign}
use Rattle.camac_text_cursor.specs.declared.choice.Choice.TheVariants as choice
use Rattle.camac_explain_text_place.specs.Before.{first_of, in_body, is_in_brackets, is_kind, word_of}
use Rattle.camac_explain_text_place.specs.Expected.{is_name as is_name_wanted, is_operator}
use Rattle.camac_explain_text_place.specs.Place.{Place, adjoins_word, begins_statement_at, expects, is_assigned, last, needed, kind_at}
use Rattle.camac_explain_text.specs.declared.texts.TheConstants.{AFTER_ELSE, AFTER_INTO, AFTER_NOT, ANSWER, BEFORE_EACH, BEGINS_AS_0, COMPARES, DIVISOR, FLAG_ALONE, JOINED, NAMES_APART, NAME_LAM, NONE_BELOW_0, NO_BRACKETS, NO_CALL, NO_DASH, NO_NUMBER, ONE_READ, ONE_VALUE, OUTSIDE, REPEATED, SET_REGISTER, TABLE_READ, TWO_SIDES, WORDS_APART}
use Rattle.camac_explain_text_words.specs.Spelled.{is_word}

-- hexadecimal digits, and no token behind them
abbrev pub is_number_alone : (text : List ℕ) → Bool
is_number_alone text =
    is_none (kind_at (drop (length (take_while is_ascii_hexdigit text)) text)) && nat_lt 0 (length (take_while is_ascii_hexdigit text))

-- a text ends so behind a `#`
abbrev pub ends_in_marked_number : (text : List ℕ) → Bool
ends_in_marked_number [] = false
ends_in_marked_number (b ∷ bs) = ((b == 35) && is_number_alone bs) || ends_in_marked_number bs

-- what is told in the first case that holds
abbrev pub first_case : List (Bool × List ℕ) → Option (List ℕ)
first_case [] = None
first_case (c ∷ cs) = if c.0 then Some c.1 else first_case cs

-- a name of one kind in the place of another
abbrev pub told_of_kind : (wanted is : NameKind) → Option (List ℕ)
told_of_kind wanted is =
    first_case (
    (is_kind wanted named.Variable && is_kind is named.Table, TABLE_READ.now)
    ∷ (is_kind wanted named.Register, SET_REGISTER.now)
    ∷ (is_kind wanted named.Lam, NAME_LAM.now) ∷ [])

abbrev pub begins_action : Place → Option TokenKind → Bool
begins_action p (Some (kind.Keyword w)) = begins_statement w
begins_action p (Some (kind.Name name)) = is_assigned p
begins_action p _ = false

-- a statement outside of services and procedures
unfoldable pub outside_of_bodies : Place → Option (List ℕ)
outside_of_bodies p =
    first_case ((begins_action p p.token && not (in_body p.before), OUTSIDE.now) ∷ [])

abbrev pub is_either : (w v : Keyword) → Keyword → Bool
is_either w v first = is_word first w || is_word first v

-- a token that ends an expression
abbrev pub ends_expression : Option TokenKind → Bool
ends_expression k = is_name k || (is_number k || is_sign sign.RightBracket k)

-- a sign that may not stand in what begins with this word
unfoldable pub mistaken_sign : Place → (first : Keyword) → TokenKind → Option (List ℕ)
mistaken_sign p first k =
    first_case (
    (is_word first word.Var && is_sign sign.Comma (Some k), NAMES_APART.now)
    ∷ (is_word first word.Var && is_sign sign.Equals (Some k), BEGINS_AS_0.now)
    ∷ (is_word first word.Table && is_sign sign.Comma (Some k), WORDS_APART.now)
    ∷ (is_word first word.Put && is_sign sign.Comma (Some k), ONE_VALUE.now)
    ∷ (is_either word.Cfsa word.Cssa first && (is_sign sign.Comma (Some k) && begins_statement_at p), ONE_READ.now) ∷ [])

-- a token that compares once more what was compared
abbrev pub joins_comparisons : Place → TokenKind → Bool
joins_comparisons p k = is_sign_that compares (Some k) && (expects p (choice.Word word.And) && ends_expression (last p))

-- a token that may not stand in a loop or a condition
unfoldable pub mistaken_condition : Place → (first : Keyword) → TokenKind → Option (List ℕ)
mistaken_condition p first k =
    first_case (
    (is_word first word.For && is_each (Some k), BEFORE_EACH.now)
    ∷ (is_either word.If word.While first && is_keyword word.In (Some k), TWO_SIDES.now)
    ∷ (is_either word.If word.While first && (is_sign sign.LeftBrace (Some k) && expects p choice.Comparison), COMPARES.now)
    ∷ (joins_comparisons p k, JOINED.now) ∷ [])

abbrev pub mistake_at : Place → (first : Keyword) → TokenKind → Option (List ℕ)
mistake_at p first k = or_else (mistaken_sign p first k) (mistaken_condition p first k)

abbrev pub is_flag : Option TokenKind → Bool
is_flag k = is_keyword word.Q k || is_keyword word.X k

abbrev pub compares_or_sets : Option TokenKind → Bool
compares_or_sets k = is_sign_that compares k || is_sign sign.Equals k

-- a token that may not stand after a name or a flag
unfoldable pub mistake_after_value : Place → (before k : TokenKind) → Option (List ℕ)
mistake_after_value p before k =
    first_case (
    (is_name (Some before) && (is_sign sign.Minus (Some k) && adjoins_word p), NO_DASH.now)
    ∷ (is_name (Some before) && (is_sign_that is_operator (Some k) && expects p (choice.Mark sign.Equals)), REPEATED.now)
    ∷ (is_flag (Some before) && compares_or_sets (Some k), FLAG_ALONE.now) ∷ [])

-- a token that may not stand after a word
unfoldable pub mistake_after_word : (before k : TokenKind) → Option (List ℕ)
mistake_after_word before k =
    first_case (
    (is_keyword word.Call (Some before) && is_word_that begins_statement (Some k), NO_CALL.now)
    ∷ (is_keyword word.Not (Some before) && is_keyword word.Not (Some k), AFTER_NOT.now)
    ∷ (is_keyword word.Else (Some before) && is_keyword word.If (Some k), AFTER_ELSE.now) ∷ [])

-- a token that may not stand after a sign, or where a number may
unfoldable pub mistake_for_value : Place → (before k : TokenKind) → Option (List ℕ)
mistake_for_value p before k =
    first_case (
    (is_sign sign.Into (Some before), AFTER_INTO.now)
    ∷ (is_sign sign.Over (Some before) || is_sign sign.Modulo (Some before), DIVISOR.now)
    ∷ (is_sign sign.Minus (Some k) && expects p choice.Number, NONE_BELOW_0.now)
    ∷ (is_flag (Some k) && (expects p choice.Number && not (is_in_brackets p.before)), NO_NUMBER.now) ∷ [])

abbrev pub mistake_after : Place → (before k : TokenKind) → Option (List ℕ)
mistake_after p before k = or_else (mistake_after_value p before k) (or_else (mistake_after_word before k) (mistake_for_value p before k))

-- a sign or a word of conditions alone
abbrev pub is_of_condition : TokenKind → Bool
is_of_condition (kind.Sign s) = compares s
is_of_condition k = is_keyword word.And (Some k) || (is_keyword word.Not (Some k) || is_flag (Some k))

-- a token that may not stand in what begins with this word, wherever in it
unfoldable pub mistake_in : Place → (first : Keyword) → TokenKind → Option (List ℕ)
mistake_in p first k =
    first_case (
    (is_either word.If word.While first && (is_of_condition k && is_in_brackets p.before), NO_BRACKETS.now)
    ∷ ((is_either word.Ctlm word.Ctci first || is_either word.Ctcd word.Ctgl first) && is_sign sign.Into (Some k), ANSWER.now)
    ∷ (is_name_wanted p.noted && is_kind (needed p) named.Register, SET_REGISTER.now)
    ∷ (is_name_wanted p.noted && is_kind (needed p) named.Lam, NAME_LAM.now) ∷ [])

abbrev pub of_both : {A B : Type 0} → (A → B → Option (List ℕ)) → Option A → Option B → Option (List ℕ)
of_both f (Some a) (Some b) = f a b
of_both f _ _ = None

-- the first that is so: outside of bodies, in what begins with its first word, after the token before, anywhere in it
unfoldable pub usual_mistake : Place → Option (List ℕ)
usual_mistake p =
    or_else (outside_of_bodies p)
    (or_else (of_both (mistake_at p) (word_of (first_of p.before)) p.token)
    (or_else (of_both (mistake_after p) (last p) p.token)
    (of_both (mistake_in p) (word_of (first_of p.before)) p.token)))
