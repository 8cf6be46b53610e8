-- What is told of the token that shows a fault of the grammar.
use Rattle.std.specs.Prelude.{◌≡◌, ℕ, Bool, true, List, ◌∷◌, ◌++◌, Some, Result, Ok, Err}
use Rattle.camac_lang.specs.Tree.{Script}
use Rattle.camac_tokens.specs.declared.fault.TextFault.{TextFault}
use Rattle.camac_tokens.specs.declared.fault.TextFault.TheVariants as text_fault
use Rattle.camac_tokens.specs.declared.token.Token.{Token}
use Rattle.camac_tokens.specs.declared.fault.TextCase.TheVariants as text_case
use Rattle.camac_tokens.specs.Fault.{Fault}
use Rattle.camac_tokens.specs.Scanning.{tokens_of, last_line}
use Rattle.camac_text_cursor.specs.declared.choice.Choice.{Choice}
use Rattle.camac_text_cursor.specs.declared.choice.Choices.{Choices}
use Rattle.camac_text_cursor.specs.Choice.{held}
use Rattle.camac_text_cursor.specs.Expected.{Admits, Ends, is_of_order}
use Rattle.camac_text_cursor.specs.Reading.{left_of}
use Rattle.camac_text_cursor.specs.Tried.{Told}
use Rattle.camac_text.specs.Declarations.{declarations_at}
use Rattle.camac_text.specs.Parser.{start, tree_of_tokens}

abbrev pub TellsAfter : Result (List Token) Fault → ℕ → TextFault → Choices → Type 0
TellsAfter (Ok tokens) end_line (text_fault.Broken case spot) expected =
    declarations_at (start tokens end_line) ≡ Err (record { case = case; spot = spot; tried = Told (held expected) })
TellsAfter made end_line fault expected = Unit {0}

-- Where no token of a text has a fault, a fault of the grammar is told with what the reader looked for at its token.
abbrev pub TellsExpected : {A : Type 0} → List ℕ → Result A TextFault → Choices → Type 0
TellsExpected text (Ok x) expected = Unit {0}
TellsExpected text (Err fault) expected = TellsAfter (tokens_of text) (last_line text) fault expected

-- ---- another token in that place

-- the fault is at one of these tokens, or at the text's end
abbrev pub IsBehind : List Token → Fault → Type 0
IsBehind others fault = (left : List Token) × Ends left others × (fault.spot.left ≡ left_of left)

-- The token before these is taken, or refused for what it says alone.
abbrev pub Fits : List Token → Result Script Fault → Type 0
Fits others (Ok script) = Unit {0}
Fits others (Err fault) = is_of_order fault.case ≡ true → IsBehind others fault

-- The order of tokens refuses it.
abbrev pub IsRefused : Token → Result Script Fault → Type 0
IsRefused t (Ok script) = ⊥
IsRefused t (Err fault) = (is_of_order fault.case ≡ true) × (fault.spot ≡ t.spot)

-- The tokens up to a place, and another one there, whatever follows it: it fits where the set admits it, and else it is refused.
pub record IsExact (tokens : List Token) (place : ℕ) (set : Choice → Bool) : Type 0 where
  pub taken : List Token
  pub left : List Token
  pub parts : tokens ≡ taken ++ left
  pub here : place ≡ left_of left
  pub fits : (t : Token) (others : List Token) (last : ℕ) → Admits set (Some t.kind) → Fits others (tree_of_tokens (taken ++ t ∷ others) last)
  pub refuses : (t : Token) (others : List Token) (last : ℕ) → (Admits set (Some t.kind) → ⊥) → IsRefused t (tree_of_tokens (taken ++ t ∷ others) last)

abbrev pub ExpectsAfter : Result (List Token) Fault → TextFault → Choices → Type 0
ExpectsAfter (Ok tokens) (text_fault.Broken text_case.Unexpected spot) expected = IsExact tokens spot.left (held expected)
ExpectsAfter made fault expected = Unit {0}

-- Where a token is told that the grammar does not allow there, what is told of its place is exact.
abbrev pub Expects : {A : Type 0} → List ℕ → Result A TextFault → Choices → Type 0
Expects text (Ok x) expected = Unit {0}
Expects text (Err fault) expected = ExpectsAfter (tokens_of text) fault expected
