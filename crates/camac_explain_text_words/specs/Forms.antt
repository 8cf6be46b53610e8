-- The forms of declarations and statements, and the limits of the language, in words.
use Rattle.std.specs.Prelude.{ℕ, List, [], ◌∷◌, map, Option, Some, None, if◌then◌else◌, decimal}
use Rattle.std.specs.Borrow.{Bor}
use Rattle.camac_tokens.specs.declared.token.Keyword.{Keyword}
use Rattle.camac_explain_text_words.specs.Spelled.{is_word}
use Rattle.camac_explain_text_words.specs.declared.forms.TheConstants.{FORMS}
use denote.Enum.Bare.{sameb}
use Rattle.camac_lines.specs.Words.{quoted}
use Rattle.camac_sentence.specs.Filled.{filled}
use Rattle.camac_tokens.specs.contracts.fault.Limit as limit_type
use Rattle.camac_tokens.specs.declared.fault.Limit.{Limit}
use Rattle.camac_explain_text_words.specs.declared.limit.TheConstants.{LIMITS, PASSED}

-- each word, and the forms of what begins with it: the rows of src/forms.rt
unfoldable pub form_table : List (Keyword × List ℕ)
form_table = map (λ r. (r.0, r.1.now)) FORMS

-- a row, where it is read
abbrev pub row_of : Keyword × Bor (List ℕ) → Keyword × List ℕ
row_of r = (r.0, r.1.now)

-- what the first row says that has the word
abbrev pub form_in : List (Keyword × List ℕ) → Keyword → Option (List ℕ)
form_in [] w = None
form_in (r ∷ rs) w = if is_word r.0 w then Some r.1 else form_in rs w

abbrev pub form_of : Keyword → Option (List ℕ)
form_of w = form_in form_table w

-- The limits of the language, in words.

-- of each limit, by src/limit.rt: what stands before its number, the number, and what stands behind it
unfoldable pub limit_table : List (Limit × List ℕ × ℕ × List ℕ)
limit_table = map (λ r. (r.0, r.1.now, r.2, r.3.now)) LIMITS

-- a row, where it is read
abbrev pub limit_of : Limit × Bor (List ℕ) × ℕ × Bor (List ℕ) → Limit × List ℕ × ℕ × List ℕ
limit_of r = (r.0, r.1.now, r.2, r.3.now)

abbrev pub row_text : (token : List ℕ) → Limit × List ℕ × ℕ × List ℕ → List ℕ
row_text token r = filled PASSED.now (quoted token ∷ r.1 ∷ decimal r.2 ∷ r.3 ∷ [])

abbrev pub limit_in : (token : List ℕ) → Limit → List (Limit × List ℕ × ℕ × List ℕ) → List ℕ
limit_in token limit [] = []
limit_in token limit (r ∷ rs) = if sameb limit_type.the_type r.0 limit then row_text token r else limit_in token limit rs

-- of the limit that is passed at a token
abbrev pub limit_text : (token : List ℕ) → Limit → List ℕ
limit_text token limit = limit_in token limit limit_table
