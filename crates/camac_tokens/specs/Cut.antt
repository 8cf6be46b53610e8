-- How a text is cut into gaps and tokens, in the words of the language.
use Rattle.std.specs.Prelude.{◌≡◌, ℕ, ◌+◌, ◌≤◌, ◌<◌, Bool, true, false, ◌==◌, List, [], ◌∷◌, ◌++◌, length, count_by, Option, Some, None, Result, Ok, Err, ◌⊎◌}
use Rattle.std.specs.Global.{Vec}
use Rattle.std.specs.List.{list_all}
use Rattle.std.specs.Char.{is_ascii_digit, is_ascii_alphabetic}
use Rattle.camac_lang.specs.declared.spot.Spot.{Spot}
use Rattle.camac_tokens.specs.declared.token.Keyword.{Keyword}
use Rattle.camac_tokens.specs.declared.token.Sign.{Sign}
use Rattle.camac_tokens.specs.declared.token.Token.{Token}
use Rattle.camac_tokens.specs.declared.token.TokenKind.{TokenKind}
use Rattle.camac_tokens.specs.declared.token.TokenKind.TheVariants as kind
use Rattle.camac_tokens.specs.declared.fault.TextFault.{TextFault}
use Rattle.camac_tokens.specs.declared.fault.TextFault.TheVariants as fault
use Rattle.camac_tokens.specs.Scanning.{is_name_byte, is_blank, is_no_line_feed, decimal_value, spot_at, pair_at}
use Rattle.camac_tokens.specs.Words.{spelled_in, keyword, pair_signs, single_signs}

-- the first byte passes a test
abbrev pub begins : (ℕ → Bool) → List ℕ → Bool
begins test [] = false
begins test (b ∷ bs) = test b

-- bytes of one kind, from a first one on, that no more of that kind follow
pub record IsRun (first each : ℕ → Bool) (bytes rest : List ℕ) : Type 0 where
  pub start : begins first bytes ≡ true
  pub all : list_all each bytes ≡ true
  pub longest : begins each rest ≡ false

abbrev pub IsWord : List ℕ → List ℕ → Type 0
IsWord bytes rest = IsRun is_ascii_alphabetic is_name_byte bytes rest

-- a name is a word that the language does not keep for itself
pub record IsName (name bytes rest : List ℕ) : Type 0 where
  pub word : IsWord bytes rest
  pub free : keyword bytes ≡ None
  pub same : name ≡ bytes
  pub short : length bytes ≤ 32

pub record IsKeyword (w : Keyword) (bytes rest : List ℕ) : Type 0 where
  pub word : IsWord bytes rest
  pub kept : keyword bytes ≡ Some w

pub record IsNumber (n : ℕ) (bytes rest : List ℕ) : Type 0 where
  pub digits : IsRun is_ascii_digit is_ascii_digit bytes rest
  pub value : n ≡ decimal_value bytes
  pub bounded : n < 4294967296

-- a sign of two bytes, or one of one byte that begins none of two
abbrev pub IsSign : Sign → List ℕ → List ℕ → Type 0
IsSign s bytes rest = (spelled_in pair_signs bytes ≡ Some s) ⊎ ((spelled_in single_signs bytes ≡ Some s) × (pair_at (bytes ++ rest) ≡ None))

-- a blank, or a comment to the line's end
abbrev pub IsBlank : List ℕ → Type 0
IsBlank bytes = (begins is_blank bytes ≡ true) × (length bytes ≡ 1)

abbrev pub IsGap : List ℕ → List ℕ → Type 0
IsGap bytes rest = IsBlank bytes ⊎ IsRun (λ b. b == 35) is_no_line_feed bytes rest

-- bytes that stand together, and the token that they are, if they are one
pub record Piece : Type 0 where
  pub bytes : List ℕ
  pub kind : Option TokenKind

-- what bytes are, where these others follow
abbrev pub IsPiece : Option TokenKind → List ℕ → List ℕ → Type 0
IsPiece None bytes rest = IsGap bytes rest
IsPiece (Some (kind.Name x)) bytes rest = IsName x bytes rest
IsPiece (Some (kind.Number n)) bytes rest = IsNumber n bytes rest
IsPiece (Some (kind.Keyword w)) bytes rest = IsKeyword w bytes rest
IsPiece (Some (kind.Sign s)) bytes rest = IsSign s bytes rest

-- the text of pieces
abbrev pub joined : List Piece → List ℕ
joined [] = []
joined (p ∷ ps) = p.bytes ++ joined ps

abbrev pub token_at : Option TokenKind → Spot → List Token
token_at None spot = []
token_at (Some k) spot = record { kind = k; spot = spot } ∷ []

-- the tokens of pieces that begin on a line: that of a token is 1 plus the line feeds before it, and from its first byte on stand its bytes and all behind it
abbrev pub tokens_in : ℕ → List Piece → List Token
tokens_in line [] = []
tokens_in line (p ∷ ps) = token_at p.kind (spot_at line (length (joined (p ∷ ps)))) ++ tokens_in (line + count_by (λ b. b == 10) p.bytes) ps

abbrev pub ArePieces : List Piece → Type 0
ArePieces [] = Unit {0}
ArePieces (p ∷ ps) = IsPiece p.kind p.bytes (joined ps) × ArePieces ps

-- The text is cut into gaps and tokens, each the longest, and these are the tokens.
pub record IsCut (text : List ℕ) (tokens : List Token) : Type 0 where
  pub pieces : List Piece
  pub parts : text ≡ joined pieces
  pub stand : ArePieces pieces
  pub tokens_are : tokens ≡ tokens_in 1 pieces

-- The program answered these tokens, unless memory was refused.
abbrev pub HasTokens : Result (Vec Token) TextFault → List Token → Type 0
HasTokens (Ok v) tokens = v.items ≡ tokens
HasTokens (Err fault.OutOfMemory) tokens = Unit {0}
HasTokens (Err (fault.Broken case spot)) tokens = ⊥
