-- Readers: from what is left of the tokens and what is declared so far, to a value or the first fault.
use Rattle.std.specs.Prelude.{ℕ, zero, suc, Bool, List, [], ◌∷◌, ◌++◌, length, Option, Some, None, Result, Ok, Err, if◌then◌else◌}
use Rattle.camac_lang.specs.Expressions.{Callable}
use Rattle.camac_lang.specs.Tree.{Text, Item, Table, Lam, Procedure, Service}
use Rattle.camac_lang.specs.declared.spot.Spot.{Spot}
use Rattle.camac_tokens.specs.declared.token.Token.{Token}
use Rattle.camac_tokens.specs.declared.token.TokenKind.{TokenKind}
use Rattle.camac_tokens.specs.declared.fault.TextCase.{TextCase}
use Rattle.camac_tokens.specs.declared.fault.TextCase.TheVariants as text_case
use Rattle.camac_tokens.specs.Fault as of_text
use Rattle.camac_text_cursor.specs.declared.choice.Choice.{Choice}
use Rattle.camac_text_cursor.specs.Tried.{Tried, noted, cleared}

pub record State : Type 0 where
  -- what is left of the tokens, and the line of the text's end
  pub rest : List Token
  pub end_line : ℕ
  -- the declarations so far: their order, and each kind
  pub order : List Item
  pub tables : List Table
  pub lams : List Lam
  pub variables : List Text
  pub procedures : List Procedure
  pub services : List Service
  -- what can be called: the number of parameters and the depth of each procedure
  pub callables : List Callable
  -- whether the body in hand is a procedure's; then the variables are its parameters, and those of the script stand outside
  pub in_procedure : Bool
  pub outside : List Text
  -- the variables of the script and the parameters of all procedures
  pub variable_count : ℕ
  -- the names of tables, LAMs, variables and procedures and, in a procedure, of its parameters
  pub declared : List Text
  -- the registers of the body in hand
  pub registers : List Text
  -- the statements of all bodies
  pub statements : ℕ
  -- what was looked for at the next token and is not there
  pub tried : Tried

-- a fault, and what was looked for at its token
pub record Fault : Type 0 where
  pub case : TextCase
  pub spot : Spot
  pub tried : Tried

abbrev pub fault_of : Fault → of_text.Fault
fault_of e = record { case = e.case; spot = e.spot }

abbrev pub Reader : Type 0 → Type 0
Reader A = State → Result (A × State) Fault

abbrev pub then_read : {A B : Type 0} → Result (A × State) Fault → (A → Reader B) → Result (B × State) Fault
then_read (Ok x) next = next x.0 x.1
then_read (Err e) next = Err e

infixl 10 ◌>>=◌
abbrev pub ◌>>=◌ : {A B : Type 0} → Reader A → (A → Reader B) → Reader B
f >>= g = λ s. then_read (f s) g

infixl 10 ◌>>◌
abbrev pub ◌>>◌ : {A B : Type 0} → Reader A → Reader B → Reader B
f >> g = f >>= λ _. g

abbrev pub give : {A : Type 0} → A → Reader A
give x = λ s. Ok (x, s)

-- what a look at the state tells
abbrev pub ask : {A : Type 0} → (State → A) → Reader A
ask look = λ s. Ok (look s, s)

-- a change of the state
abbrev pub change : (State → State) → Reader (Unit {0})
change to = λ s. Ok (tt, to s)

-- where the next token stands, or the text's end
abbrev pub spot_of : List Token → ℕ → Spot
spot_of [] end_line = record { line = end_line; left = 0 }
spot_of (t ∷ ts) end_line = t.spot

-- how many bytes of the text stand from the first byte of the next token on
abbrev pub left_of : List Token → ℕ
left_of [] = 0
left_of (t ∷ ts) = t.spot.left

abbrev pub kind_of : List Token → Option TokenKind
kind_of [] = None
kind_of (t ∷ ts) = Some t.kind

abbrev pub after_first : List Token → List Token
after_first [] = []
after_first (t ∷ ts) = ts

abbrev pub spot_here : Reader Spot
spot_here = ask (λ s. spot_of s.rest s.end_line)

abbrev pub peek : Reader (Option TokenKind)
peek = ask (λ s. kind_of s.rest)

-- the state behind the next token
abbrev pub past : State → State
past s = record s { rest = after_first s.rest; tried = cleared s.tried }

abbrev pub advance : Reader (Unit {0})
advance = change past

-- this was looked for at the next token, too
abbrev pub missed : Choice → State → State
missed c s = record s { tried = noted c s.tried }

abbrev pub miss : Choice → Reader (Unit {0})
miss c = change (missed c)

abbrev pub missing : {A : Type 0} → Choice → A → Reader A
missing c x = miss c >> give x

-- a fault at the next token
abbrev pub fail : {A : Type 0} → TextCase → Reader A
fail case = λ s. Err (record { case = case; spot = spot_of s.rest s.end_line; tried = s.tried })

-- a fault at the next token, in whose place this may stand, and what was looked for before
abbrev pub unexpected : {A : Type 0} → Choice → Reader A
unexpected c = miss c >> fail text_case.Unexpected

-- a fault at the next token, unless this holds
abbrev pub check : Bool → TextCase → Reader (Unit {0})
check holds case = if holds then give tt else fail case

-- A turn after the other while the next token is of a kind. There are fewer turns than tokens.
unfoldable pub turns : {A : Type 0} → ℕ → (Option TokenKind → Bool) → (A → Reader A) → A → Reader A
turns zero goes_on turn x = give x
turns (suc n) goes_on turn x = peek >>= λ k. if goes_on k then turn x >>= turns n goes_on turn else give x

unfoldable pub while_next : {A : Type 0} → (Option TokenKind → Bool) → (A → Reader A) → A → Reader A
while_next goes_on turn x = λ s. turns (suc (length s.rest)) goes_on turn x s

-- the same, where the token behind the last turn is none of these, any of which would go on
abbrev pub until : {A : Type 0} → Choice → (Option TokenKind → Bool) → (A → Reader A) → A → Reader A
until c goes_on turn x = while_next goes_on turn x >>= missing c

-- a list, one after the other while the next token is of a kind
abbrev pub one_more : {A : Type 0} → Reader A → List A → Reader (List A)
one_more read xs = read >>= λ x. give (xs ++ x ∷ [])

unfoldable pub many : {A : Type 0} → (Option TokenKind → Bool) → Reader A → Reader (List A)
many goes_on read = while_next goes_on (one_more read) []
