-- Which tokens a set of choices admits.
use Rattle.std.specs.Prelude.{◌≡◌, Bool, true, false, ◌||◌, List, ◌++◌, Option}
use Rattle.camac_tokens.specs.declared.token.Keyword.TheVariants as word
use Rattle.camac_tokens.specs.declared.token.Token.{Token}
use Rattle.camac_tokens.specs.declared.token.TokenKind.{TokenKind}
use Rattle.camac_tokens.specs.declared.fault.TextCase.{TextCase}
use Rattle.camac_tokens.specs.declared.fault.TextCase.TheVariants as text_case
use Rattle.camac_text_cursor.specs.declared.choice.Choice.{Choice}
use Rattle.camac_text_cursor.specs.declared.choice.Choice.TheVariants as choice
use Rattle.camac_text_cursor.specs.Choice.{takes}
use Rattle.camac_text_cursor.specs.Readers.{is_keyword}

-- whether a choice takes such a token: `lock` begins a statement, too, and a procedure refuses it by a case of its own
abbrev pub suits : Choice → Option TokenKind → Bool
suits choice.Statement at = takes choice.Statement at || is_keyword word.Lock at
suits c at = takes c at

-- one of the set takes it
abbrev pub Admits : (Choice → Bool) → Option TokenKind → Type 0
Admits set at = (c : Choice) × (set c ≡ true) × (suits c at ≡ true)

-- whether a fault is in the order of tokens, and not in what a single token says
abbrev pub is_of_order : TextCase → Bool
is_of_order text_case.Unexpected = true
is_of_order (text_case.ArgumentCount wanted) = true
is_of_order _ = false

-- those left are the last of these
abbrev pub Ends : List Token → List Token → Type 0
Ends left ts = (front : List Token) × (ts ≡ front ++ left)
