-- The tokens of expressions, conditions, moves and kept ranges.
use Rattle.std.specs.Prelude.{ℕ, List, [], ◌∷◌, ◌++◌, Option, Some, None}
use Rattle.camac_range.specs.declared.comparison.Cmp.{Cmp}
use Rattle.camac_range.specs.declared.comparison.Cmp.TheVariants as cmp
use Rattle.camac_lang.specs.Tree.{Expression, number, variable, group, add, subtract, multiply, divide, remainder, Test, flag_q, flag_x, compare, Part, plain, negated, Condition, Move, no_data, into, from, Keep}
use Rattle.camac_tokens.specs.declared.token.Keyword.TheVariants as keyword
use Rattle.camac_tokens.specs.declared.token.Sign.{Sign}
use Rattle.camac_tokens.specs.declared.token.Sign.TheVariants as mark
use Rattle.camac_text_spelling.specs.Pieces.{Piece, word, sign, numeral, separated, Names, name_at}

abbrev pub expression : Names → Expression → List Piece
expression n (number k) = numeral k ∷ []
expression n (variable x) = name_at n.variables x ∷ []
expression n (group e) = sign mark.LeftBracket ∷ (expression n e ++ sign mark.RightBracket ∷ [])
expression n (add a b) = expression n a ++ sign mark.Plus ∷ expression n b
expression n (subtract a b) = expression n a ++ sign mark.Minus ∷ expression n b
expression n (multiply a b) = expression n a ++ sign mark.Times ∷ expression n b
expression n (divide a d) = expression n a ++ sign mark.Over ∷ numeral d ∷ []
expression n (remainder a d) = expression n a ++ sign mark.Modulo ∷ numeral d ∷ []

abbrev pub comparison : Cmp → Sign
comparison cmp.Less = mark.Less
comparison cmp.AtMost = mark.AtMost
comparison cmp.More = mark.More
comparison cmp.AtLeast = mark.AtLeast
comparison cmp.Same = mark.Same
comparison cmp.Differs = mark.Differs

abbrev pub test : Names → Test → List Piece
test n flag_q = word keyword.Q ∷ []
test n flag_x = word keyword.X ∷ []
test n (compare a how b) = expression n a ++ sign (comparison how) ∷ expression n b

abbrev pub part : Names → Part → List Piece
part n (plain t) = test n t
part n (negated t) = word keyword.Not ∷ test n t

abbrev pub condition : Names → Condition → List Piece
condition n parts = separated (word keyword.And) (part n) parts

abbrev pub move : Names → Move → List Piece
move n no_data = []
move n (into x) = sign mark.Into ∷ name_at n.variables x ∷ []
move n (from e) = sign mark.From ∷ expression n e

abbrev pub keep : Names → Keep → List Piece
keep n k = name_at n.variables k.variable ∷ word keyword.In ∷ numeral k.low ∷ sign mark.UpTo ∷ numeral k.high ∷ []

abbrev pub keeps : Names → List Keep → List Piece
keeps n [] = []
keeps n (k ∷ ks) = word keyword.Keep ∷ separated (sign mark.Comma) (keep n) (k ∷ ks)

-- the table of a block write, if there is one
abbrev pub table : Names → Option ℕ → List Piece
table n None = []
table n (Some g) = word keyword.Table ∷ name_at n.tables g ∷ []

abbrev pub most : Names → Expression → List Piece
most n e = word keyword.Max ∷ expression n e

abbrev pub tally : Names → ℕ → List Piece
tally n x = word keyword.Tally ∷ name_at n.variables x ∷ []
