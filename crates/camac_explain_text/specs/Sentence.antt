-- What is told of a text's fault: what its rule knew, with numbers in decimal and names in quotes, and a hint of its own, where it has one.
use Rattle.std.specs.Prelude.{ℕ, ◌==◌, Bool, ◌&&◌, ◌||◌, not, List, [], ◌∷◌, Option, Some, None, codes, decimal, is_none, length, nat_eq, option_map, string_bytes, if◌then◌else◌, ◌≡◌, true, false, unwrap_or}
use Rattle.std.specs.List.{starts_with}
use Rattle.camac_lines.specs.Words.{quoted}
use Rattle.camac_tokens.specs.Words.{or_else}
use Rattle.camac_tokens.specs.declared.fault.Found.{Found}
use Rattle.camac_tokens.specs.declared.fault.Found.TheVariants as found
use Rattle.camac_tokens.specs.declared.fault.NameKind.{NameKind}
use Rattle.camac_tokens.specs.declared.fault.NameKind.TheVariants as named
use Rattle.camac_tokens.specs.declared.fault.TextCase.{TextCase}
use Rattle.camac_tokens.specs.declared.fault.TextCase.TheVariants as text_case
use Rattle.camac_tokens.specs.declared.fault.TextFault.TheVariants as text_fault
use Rattle.camac_tokens.specs.declared.token.TokenKind.{TokenKind}
use Rattle.camac_tokens.specs.declared.token.TokenKind.TheVariants as kind
use Rattle.camac_tokens.specs.Fault.{Fault}
use Rattle.camac_tokens.specs.Scanning.{tokens_of, last_line}
use Rattle.camac_text_cursor.specs.declared.choice.Choices.{Choices}
use Rattle.camac_explain_text_words.specs.Absent.{absent_sign, is_spelled}
use Rattle.camac_explain_text_words.specs.Spelled.{character, first_byte}
use Rattle.camac_explain_text_place.specs.Before.{called_in, is_kind}
use Rattle.camac_explain_text_place.specs.Expected.{expected_of, list_text}
use Rattle.camac_text.specs.Expecting.{TellsAfter}
use Rattle.camac_explain_text.specs.Byte.{byte_hint}
use Rattle.camac_explain_text.specs.Hint.{absent_text, takes_text}
use Rattle.camac_explain_text_words.specs.Forms.{limit_text}
use Rattle.camac_explain_text.specs.Meant.{kind_hint, name_hint, own_sentence, unexpected_hint, word_before}
use Rattle.camac_explain_text.specs.Mistake.{outside_of_bodies}
use Rattle.camac_explain_text.specs.declared.sentence.TextTold.{TextTold}
use Rattle.camac_explain_text.specs.declared.texts.TheConstants.{ABOVE, ABOVE_ALL, BRANCH, BYTE, CHARACTER, COUNTER_KEPT, DIVISOR, END, EXPECTED, FOUND, HIDDEN, ITSELF, KEPT_TWICE, MEASURE_KEPT, MISSING, NO_LOCK, OTHER, OTHER_AT, TAKEN, TAKEN_AT, PLAN_FIRST}
use Rattle.camac_sentence.specs.Filled.{filled, with}
use Rattle.camac_explain_text_place.specs.Place.{Place, absent_word_at, begins_statement_at, declared_line, is_assigned, is_before, place_at, kind_at, rest_of}

abbrev pub noun : NameKind → List ℕ
noun named.Lam = codes "LAM"
noun named.Parameter = codes "parameter"
noun named.Procedure = codes "procedure"
noun named.Register = codes "register"
noun named.Table = codes "table"
noun named.Variable = codes "variable"

abbrev pub number_text : (token : List ℕ) → (most : ℕ) → List ℕ
number_text token most =
    if nat_eq most 4294967295 then with ABOVE_ALL.now (quoted token) else filled ABOVE.now (quoted token ∷ decimal most ∷ [])

abbrev pub other_text : (name : List ℕ) → (line : Option ℕ) → (wanted is : NameKind) → List ℕ
other_text name (Some line) wanted is = filled OTHER_AT.now (quoted name ∷ decimal line ∷ noun is ∷ noun wanted ∷ [])
other_text name None wanted is = filled OTHER.now (quoted name ∷ noun is ∷ noun wanted ∷ [])

-- of a name that is declared already, on a line where that is known
abbrev pub taken_text : (name : List ℕ) → Option ℕ → NameKind → List ℕ
taken_text name (Some line) by = filled TAKEN_AT.now (quoted name ∷ decimal line ∷ noun by ∷ [])
taken_text name None by = filled TAKEN.now (quoted name ∷ noun by ∷ [])

-- a sentence on a fault, and a hint: what may be meant there, or is to be known
abbrev pub Said : Type 0
Said = Option (List ℕ) × Option (List ℕ)

abbrev pub said_of : TextTold → Said
said_of t = (option_map string_bytes t.sentence, option_map string_bytes t.hint)

abbrev pub with_hint : (sentence : List ℕ) → (hint : Option (List ℕ)) → Said
with_hint sentence hint = (Some sentence, hint)

-- a hint that says all
abbrev pub alone : (hint : List ℕ) → Said
alone hint = (None, Some hint)

-- a hint that says all, or else this
abbrev pub or_said : Option (List ℕ) → Said → Said
or_said (Some hint) said = alone hint
or_said None said = said

-- of the word at a place
abbrev pub of_word : (text word : List ℕ) → Said
of_word text word = with_hint (with text (quoted word)) None

abbrev pub other_byte_text : (rest : List ℕ) → List ℕ
other_byte_text rest =
    if length (character rest) == 0 then with BYTE.now (decimal (first_byte rest)) else with CHARACTER.now (quoted (character rest))

abbrev pub found_text : (token : List ℕ) → List ℕ
found_text [] = END.now
found_text (b ∷ bs) = quoted (b ∷ bs)

abbrev pub found_said : (token : List ℕ) → (hint : Option (List ℕ)) → Said
found_said token hint = with_hint (with FOUND.now (found_text token)) hint

-- of a call with too few or too many arguments, where its procedure is known
abbrev pub arguments_said : (token : List ℕ) → (procedure : Option (List ℕ)) → (wanted : ℕ) → Said
arguments_said token procedure wanted = found_said token (option_map (λ name. takes_text name wanted) procedure)

-- of a token that may not stand where it is, with all that might
unfoldable pub expected_sentence : (token : List ℕ) → Choices → List ℕ
expected_sentence token noted = filled EXPECTED.now (found_text token ∷ list_text (expected_of noted) ∷ [])

-- of a byte that begins no token: what is to be known, or a sign that the language does not have, or the byte
abbrev pub byte_said : Place → Said
byte_said p =
    or_said (if is_none (byte_hint p) then option_map absent_text (absent_sign p.text p.rest) else None)
    (with_hint (other_byte_text p.rest) (byte_hint p))

unfoldable pub unexpected : Place → Said
unexpected p = or_said (own_sentence p) (with_hint (expected_sentence p.bytes p.noted) (unexpected_hint p))

unfoldable pub taken : Place → (by : NameKind) → Said
taken p by = with_hint (taken_text p.bytes (declared_line p) by) (or_else (outside_of_bodies p) (word_before p))

unfoldable pub other_kind : Place → (wanted is : NameKind) → Said
other_kind p wanted is = with_hint (other_text p.bytes (declared_line p) wanted is) (kind_hint p wanted is)

abbrev pub is_value : (word : List ℕ) → Bool
is_value word = is_spelled (codes "true" ∷ codes "false" ∷ codes "none" ∷ codes "null" ∷ codes "nil" ∷ []) word

-- a value of another language, or a word that is called, or begins a statement that is no assignment
abbrev pub is_of_another_language : Place → Bool
is_of_another_language p = is_value p.bytes || (is_before p (codes "(") || (begins_statement_at p && not (is_assigned p)))

abbrev pub absent_variable : Place → (wanted : NameKind) → Option (List ℕ × List ℕ)
absent_variable p wanted = if is_kind wanted named.Variable && is_of_another_language p then absent_word_at p else None

-- a word of another language in the place of a variable, or a name that is not declared
unfoldable pub not_there : Place → (wanted : NameKind) → Said
not_there p wanted = or_said (option_map absent_text (absent_variable p wanted)) (with_hint (filled MISSING.now (quoted p.bytes ∷ noun wanted ∷ [])) (name_hint p wanted))

abbrev pub undeclared : Place → NameKind → Found → Said
undeclared p wanted found.Nothing = not_there p wanted
undeclared p wanted (found.Other is) = other_kind p wanted is
undeclared p wanted found.Itself = of_word ITSELF.now p.bytes
undeclared p wanted found.Hidden = of_word HIDDEN.now p.bytes

-- what is told in this case at a place
unfoldable pub case_said : Place → TextCase → Said
case_said p text_case.Byte = byte_said p
case_said p text_case.Unexpected = unexpected p
case_said p text_case.ZeroDivisor = found_said p.bytes (Some DIVISOR.now)
case_said p text_case.LockInProcedure = alone NO_LOCK.now
case_said p (text_case.ArgumentCount wanted) = arguments_said p.bytes (called_in p.before.phrase) wanted
case_said p (text_case.Number most) = with_hint (number_text p.bytes most) None
case_said p (text_case.Taken by) = taken p by
case_said p text_case.KeptTwice = of_word KEPT_TWICE.now p.bytes
case_said p text_case.CounterKept = of_word COUNTER_KEPT.now p.bytes
case_said p text_case.MeasureKept = of_word MEASURE_KEPT.now p.bytes
case_said p (text_case.Undeclared wanted what) = undeclared p wanted what
case_said p (text_case.Limit limit) = with_hint (limit_text p.bytes limit) None
case_said p text_case.Branch = of_word BRANCH.now p.bytes

abbrev pub is_buffer : TokenKind → Bool
is_buffer (kind.Name name) = starts_with nat_eq name (codes "buffer")
is_buffer _ = false

-- as a plan, the text begins with the word `buffer` or, where its fault is the first of it, with a `[` there
abbrev pub begins_like_a_plan : (left : ℕ) → (text : List ℕ) → Bool
begins_like_a_plan left text = unwrap_or (option_map is_buffer (kind_at text)) (starts_with nat_eq (rest_of left text) (codes "["))

abbrev pub fault_said : (is_plan : Bool) → Choices → (text : List ℕ) → TextCase → (left : ℕ) → Said
fault_said true noted text case left = alone PLAN_FIRST.now
fault_said false noted text case left = case_said (place_at noted left text) case

-- Of the first fault of a text. Where a rule of the grammar is broken, what the reader looked for there was noted, if no token of the text has a fault.
abbrev pub IsTextTold : (text : List ℕ) → Fault → Said → Type 0
IsTextTold text f said =
    (noted : Choices) × TellsAfter (tokens_of text) (last_line text) (text_fault.Broken f.case f.spot) noted
    × (said ≡ fault_said (begins_like_a_plan f.spot.left text) noted text f.case f.spot.left)
