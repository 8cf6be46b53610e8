-- The tokens of a spelling, and the names that stand in it.
use Rattle.std.specs.Prelude.{◌≡◌, ℕ, List, [], ◌∷◌, ◌++◌, Option, Some, None, IfSome, slice_get}
use Rattle.camac_lang.specs.Tree.{Text}
use Rattle.camac_tokens.specs.declared.token.Keyword.{Keyword}
use Rattle.camac_tokens.specs.declared.token.Sign.{Sign}
use Rattle.camac_tokens.specs.declared.token.Token.{Token}
use Rattle.camac_tokens.specs.declared.token.TokenKind.{TokenKind}
use Rattle.camac_tokens.specs.declared.token.TokenKind.TheVariants as kind
use Rattle.camac_lang.specs.declared.spot.Spot.{Spot}

-- a token of a spelling, and its spot where the tree holds it
pub record Piece : Type 0 where
  pub kind : TokenKind
  pub spot : Option Spot

abbrev pub piece : TokenKind → Piece
piece k = record { kind = k; spot = None }

-- the first token of a statement or a declaration, whose spot the tree holds
abbrev pub first_piece : Spot → TokenKind → Piece
first_piece spot k = record { kind = k; spot = Some spot }

abbrev pub first_word : Spot → Keyword → Piece
first_word spot w = first_piece spot (kind.Keyword w)

abbrev pub word : Keyword → Piece
word w = piece (kind.Keyword w)

abbrev pub sign : Sign → Piece
sign w = piece (kind.Sign w)

abbrev pub numeral : ℕ → Piece
numeral n = piece (kind.Number n)

-- a name, where it is declared and where it is used
abbrev pub name : Text → Piece
name x = piece (kind.Name x)

-- ---- lists of phrases

-- each after a separator
abbrev pub others : {A : Type 0} → Piece → (A → List Piece) → List A → List Piece
others separator spell [] = []
others separator spell (x ∷ xs) = separator ∷ (spell x ++ others separator spell xs)

-- with a separator between two
abbrev pub separated : {A : Type 0} → Piece → (A → List Piece) → List A → List Piece
separated separator spell [] = []
separated separator spell (x ∷ xs) = spell x ++ others separator spell xs

-- ---- names

-- The names that the numbers in a body stand for.
pub record Names : Type 0 where
  pub tables : List Text
  pub lams : List Text
  pub procedures : List Text
  -- of a service those of the script, of a procedure its parameters
  pub variables : List Text
  pub registers : List Text

abbrev pub text_of : Option Text → Text
text_of (Some x) = x
text_of None = []

-- the name at a place
abbrev pub text_at : List Text → ℕ → Text
text_at names place = text_of (slice_get names place)

abbrev pub name_at : List Text → ℕ → Piece
name_at names place = name (text_at names place)

-- ---- tokens

-- a token is this piece
abbrev pub Fits : Token → Piece → Type 0
Fits t p = (t.kind ≡ p.kind) × IfSome p.spot (λ spot. t.spot ≡ spot)

-- the tokens begin with these pieces, and then come the others
abbrev pub Prefix : List Token → List Piece → List Token → Type 0
Prefix ts [] rest = ts ≡ rest
Prefix [] (p ∷ ps) rest = ⊥
Prefix (t ∷ ts) (p ∷ ps) rest = Fits t p × Prefix ts ps rest
