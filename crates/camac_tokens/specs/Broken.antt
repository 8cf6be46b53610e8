-- Where a text is refused: gaps and tokens stand up to there, and nothing stands there.
use Rattle.std.specs.Prelude.{◌≡◌, ◌↔◌, ℕ, ◌+◌, ◌≤◌, ◌<◌, false, ◌==◌, List, [], ◌∷◌, ◌++◌, length, count_by, Option, None, Err}
use Rattle.std.specs.Char.{is_ascii_digit, is_ascii_alphabetic}
use Rattle.camac_tokens.specs.declared.token.TokenKind.{TokenKind}
use Rattle.camac_tokens.specs.declared.fault.Limit.TheVariants.{NameBytes}
use Rattle.camac_tokens.specs.declared.fault.TextCase.{TextCase}
use Rattle.camac_tokens.specs.declared.fault.TextCase.TheVariants as text_case
use Rattle.camac_tokens.specs.Fault.{Fault}
use Rattle.camac_tokens.specs.Words.{keyword}
use Rattle.camac_tokens.specs.Scanning.{decimal_value, spot_at, tokens_of}
use Rattle.camac_tokens.specs.Cut.{begins, IsRun, IsWord, Piece, IsPiece, joined}

-- pieces that stand before these bytes
abbrev pub StandBefore : List ℕ → List Piece → Type 0
StandBefore rest [] = Unit {0}
StandBefore rest (p ∷ ps) = IsPiece p.kind p.bytes (joined ps ++ rest) × StandBefore rest ps

-- at the start a word that would be a name, but is too long
pub record HasLongName (text : List ℕ) : Type 0 where
  pub bytes : List ℕ
  pub rest : List ℕ
  pub parts : text ≡ bytes ++ rest
  pub word : IsWord bytes rest
  pub free : keyword bytes ≡ None
  pub long : 32 < length bytes

-- at the start digits whose number is too large
pub record HasLargeNumber (text : List ℕ) : Type 0 where
  pub bytes : List ℕ
  pub rest : List ℕ
  pub parts : text ≡ bytes ++ rest
  pub digits : IsRun is_ascii_digit is_ascii_digit bytes rest
  pub large : 4294967296 ≤ decimal_value bytes

-- at the start a byte that begins neither a word nor a number
pub record HasOtherByte (text : List ℕ) : Type 0 where
  pub some : 0 < length text
  pub no_word : begins is_ascii_alphabetic text ≡ false
  pub no_number : begins is_ascii_digit text ≡ false

-- what is wrong at the start, by the rules of tokens
abbrev pub Breaks : TextCase → List ℕ → Type 0
Breaks text_case.Byte text = HasOtherByte text
Breaks (text_case.Number most) text = (most ≡ 4294967295) × HasLargeNumber text
Breaks (text_case.Limit NameBytes) text = HasLongName text
Breaks _ text = ⊥

-- The text is pieces that stand and a rest. No piece stands at the start of the rest, as the case says, the line is 1 plus the line
-- feeds before it, and the bytes that are left are those of the rest.
pub record IsBrokenAt (text : List ℕ) (f : Fault) : Type 0 where
  pub pieces : List Piece
  pub rest : List ℕ
  pub parts : text ≡ joined pieces ++ rest
  pub stand : StandBefore rest pieces
  pub nothing : (kind : Option TokenKind) (bytes after : List ℕ) → rest ≡ bytes ++ after → IsPiece kind bytes after → ⊥
  pub why : Breaks f.case rest
  pub place : f.spot ≡ spot_at (1 + count_by (λ b. b == 10) (joined pieces)) (length rest)

-- a text has this token fault exactly where it is broken so
abbrev pub TokenFaultsStand : Type 0
TokenFaultsStand = (text : List ℕ) (f : Fault) → (tokens_of text ≡ Err f) ↔ IsBrokenAt text f
