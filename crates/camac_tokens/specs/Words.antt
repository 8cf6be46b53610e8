-- The words and signs of the language.
use Rattle.std.specs.Prelude.{◌≡◌, ◌≤◌, ℕ, List, [], ◌∷◌, length, Option, Some, None, codes, if◌then◌else◌}
use Rattle.std.specs.Int.{from_le_bytes, to_le_bytes, w64}
use Rattle.std.specs.Str.{bytes_eq}
use Rattle.camac_tokens.specs.declared.token.Keyword.{Keyword}
use Rattle.camac_tokens.specs.declared.token.Keyword.TheVariants as word
use Rattle.camac_tokens.specs.declared.token.Sign.{Sign}
use Rattle.camac_tokens.specs.declared.token.Sign.TheVariants as sign

-- bytes, and the word or the sign that they spell
pub record Spelling (W : Type 0) : Type 0 where
  pub bytes : List ℕ
  pub spelled : W

abbrev pub spells : {W : Type 0} → List ℕ → W → Spelling W
spells bytes w = record { bytes = bytes; spelled = w }

-- the first of a table that has this spelling
abbrev pub spelled_in : {W : Type 0} → List (Spelling W) → List ℕ → Option W
spelled_in [] text = None
spelled_in (s ∷ ss) text = if bytes_eq text s.bytes then Some s.spelled else spelled_in ss text

-- of declarations and their headings
abbrev pub declaration_words : List (Spelling Keyword)
declaration_words =
    spells (codes "table") word.Table ∷
    spells (codes "cdlam") word.Cdlam ∷
    spells (codes "var") word.Var ∷
    spells (codes "proc") word.Proc ∷
    spells (codes "service") word.Service ∷
    spells (codes "within") word.Within ∷
    spells (codes "cycles") word.Cycles ∷
    spells (codes "event") word.Event ∷
    spells (codes "words") word.Words ∷
    spells (codes "steps") word.Steps ∷ []

-- of registers, actions and transfers
abbrev pub action_words : List (Spelling Keyword)
action_words =
    spells (codes "cdreg") word.Cdreg ∷
    spells (codes "cfsa") word.Cfsa ∷
    spells (codes "cssa") word.Cssa ∷
    spells (codes "cfmad") word.Cfmad ∷
    spells (codes "cfubc") word.Cfubc ∷
    spells (codes "cfubr") word.Cfubr ∷
    spells (codes "max") word.Max ∷
    spells (codes "limit") word.Limit ∷
    spells (codes "tally") word.Tally ∷
    spells (codes "put") word.Put ∷ []

-- of crate calls and LAM calls
abbrev pub call_words : List (Spelling Keyword)
call_words =
    spells (codes "cccz") word.Cccz ∷
    spells (codes "cccc") word.Cccc ∷
    spells (codes "ctci") word.Ctci ∷
    spells (codes "ctcd") word.Ctcd ∷
    spells (codes "ctgl") word.Ctgl ∷
    spells (codes "ccci") word.Ccci ∷
    spells (codes "cccd") word.Cccd ∷
    spells (codes "on") word.On ∷
    spells (codes "off") word.Off ∷
    spells (codes "cclm") word.Cclm ∷
    spells (codes "cclc") word.Cclc ∷
    spells (codes "ctlm") word.Ctlm ∷ []

-- of the statements that hold others, and of conditions
abbrev pub control_words : List (Spelling Keyword)
control_words =
    spells (codes "if") word.If ∷
    spells (codes "else") word.Else ∷
    spells (codes "for") word.For ∷
    spells (codes "to") word.To ∷
    spells (codes "while") word.While ∷
    spells (codes "turns") word.Turns ∷
    spells (codes "by") word.By ∷
    spells (codes "keep") word.Keep ∷
    spells (codes "in") word.In ∷
    spells (codes "lock") word.Lock ∷
    spells (codes "call") word.Call ∷
    spells (codes "and") word.And ∷
    spells (codes "not") word.Not ∷
    spells (codes "q") word.Q ∷
    spells (codes "x") word.X ∷ []

abbrev pub or_else : {W : Type 0} → Option W → Option W → Option W
or_else (Some w) other = Some w
or_else None other = other

-- the keyword that is spelled so
unfoldable pub keyword : List ℕ → Option Keyword
keyword text =
    or_else (spelled_in declaration_words text)
    (or_else (spelled_in action_words text) (or_else (spelled_in call_words text) (spelled_in control_words text)))

-- Eight bytes that only this text has, if it is of one to seven: its own, zeros, and how many they are.
abbrev pub filled : List ℕ → List ℕ
filled [] = 0 ∷ 0 ∷ 0 ∷ 0 ∷ 0 ∷ 0 ∷ 0 ∷ 0 ∷ []
filled (a ∷ []) = a ∷ 0 ∷ 0 ∷ 0 ∷ 0 ∷ 0 ∷ 0 ∷ 1 ∷ []
filled (a ∷ b ∷ []) = a ∷ b ∷ 0 ∷ 0 ∷ 0 ∷ 0 ∷ 0 ∷ 2 ∷ []
filled (a ∷ b ∷ c ∷ []) = a ∷ b ∷ c ∷ 0 ∷ 0 ∷ 0 ∷ 0 ∷ 3 ∷ []
filled (a ∷ b ∷ c ∷ d ∷ []) = a ∷ b ∷ c ∷ d ∷ 0 ∷ 0 ∷ 0 ∷ 4 ∷ []
filled (a ∷ b ∷ c ∷ d ∷ e ∷ []) = a ∷ b ∷ c ∷ d ∷ e ∷ 0 ∷ 0 ∷ 5 ∷ []
filled (a ∷ b ∷ c ∷ d ∷ e ∷ f ∷ []) = a ∷ b ∷ c ∷ d ∷ e ∷ f ∷ 0 ∷ 6 ∷ []
filled (a ∷ b ∷ c ∷ d ∷ e ∷ f ∷ g ∷ []) = a ∷ b ∷ c ∷ d ∷ e ∷ f ∷ g ∷ 7 ∷ []
filled (a ∷ b ∷ c ∷ d ∷ e ∷ f ∷ g ∷ h ∷ more) = 0 ∷ 0 ∷ 0 ∷ 0 ∷ 0 ∷ 0 ∷ 0 ∷ 0 ∷ []

-- it stands for these bytes as a number
pub record HasNumber (text : List ℕ) (number : ℕ) : Type 0 where
  pub value : number ≡ from_le_bytes w64 (filled text)
  pub only : to_le_bytes w64 number ≡ filled text

-- of one to seven bytes
abbrev pub IsShort : List ℕ → Type 0
IsShort word = (1 ≤ length word) × (length word ≤ 7)

-- signs of two bytes
abbrev pub pair_signs : List (Spelling Sign)
pair_signs =
    spells (codes "<=") sign.AtMost ∷
    spells (codes ">=") sign.AtLeast ∷
    spells (codes "==") sign.Same ∷
    spells (codes "!=") sign.Differs ∷
    spells (codes "->") sign.Into ∷
    spells (codes "<-") sign.From ∷
    spells (codes "..") sign.UpTo ∷ []

-- signs of one byte
abbrev pub single_signs : List (Spelling Sign)
single_signs =
    spells (codes "{") sign.LeftBrace ∷
    spells (codes "}") sign.RightBrace ∷
    spells (codes "(") sign.LeftBracket ∷
    spells (codes ")") sign.RightBracket ∷
    spells (codes "+") sign.Plus ∷
    spells (codes "-") sign.Minus ∷
    spells (codes "*") sign.Times ∷
    spells (codes "/") sign.Over ∷
    spells (codes "%") sign.Modulo ∷
    spells (codes "=") sign.Equals ∷
    spells (codes ",") sign.Comma ∷
    spells (codes "<") sign.Less ∷
    spells (codes ">") sign.More ∷ []
