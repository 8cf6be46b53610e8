-- At which token a case can be told.
use Rattle.std.specs.Prelude.{◌≡◌, ℕ, Option, Some}
use Rattle.camac_lang.specs.Tree.{Text}
use Rattle.camac_tokens.specs.declared.token.TokenKind.{TokenKind}
use Rattle.camac_tokens.specs.declared.token.TokenKind.TheVariants as kind
use Rattle.camac_tokens.specs.declared.fault.TextCase.{TextCase}
use Rattle.camac_tokens.specs.declared.fault.TextCase.TheVariants as text_case

abbrev pub IsNumber : Option TokenKind → Type 0
IsNumber at = (n : ℕ) × (at ≡ Some (kind.Number n))

abbrev pub IsName : Option TokenKind → Type 0
IsName at = (x : Text) × (at ≡ Some (kind.Name x))

-- S3 and S7 at a NUM, S4 and S5 at a NAME
abbrev pub CaseFits : TextCase → Option TokenKind → Type 0
CaseFits text_case.Byte at = ⊥
CaseFits (text_case.Number most) at = IsNumber at
CaseFits (text_case.Taken by) at = IsName at
CaseFits text_case.KeptTwice at = IsName at
CaseFits text_case.CounterKept at = IsName at
CaseFits text_case.MeasureKept at = IsName at
CaseFits (text_case.Undeclared wanted found) at = IsName at
CaseFits text_case.Branch at = IsNumber at
CaseFits _ at = Unit {0}
