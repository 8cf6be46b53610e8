-- What is read at each place of an expression.
use Rattle.std.specs.Prelude.{ℕ, zero, suc, Bool, true, false, Option, Some, nat_lt}
use Rattle.camac_lang.specs.Tree.{Expression, number, variable, group, add, subtract, multiply, divide, remainder}
use Rattle.camac_tokens.specs.declared.token.Sign.TheVariants as sign
use Rattle.camac_tokens.specs.declared.token.TokenKind.{TokenKind}
use Rattle.camac_tokens.specs.declared.token.TokenKind.TheVariants as kind
use Rattle.camac_tokens.specs.declared.fault.Limit.TheVariants as limit
use Rattle.camac_tokens.specs.declared.fault.TextCase.TheVariants as text_case
use Rattle.camac_text_cursor.specs.declared.choice.Choice.TheVariants as choice
use Rattle.camac_text_cursor.specs.Reading.{Reader, ◌>>=◌, ◌>>◌, give, peek, advance, miss, fail, unexpected, check, until}
use Rattle.camac_text_cursor.specs.Readers.{number_here, any_number, used_variable, expect_sign}

-- an expression so far, and the operators that the whole one has up to its end
pub record Counted : Type 0 where
  pub value : Expression
  pub operators : ℕ

abbrev pub counted : Expression → ℕ → Counted
counted value operators = record { value = value; operators = operators }

-- the sign of an operator, which is counted
unfoldable pub operator : ℕ → Reader ℕ
operator so_far = do
  check (nat_lt so_far 32) (text_case.Limit limit.Operators)
  advance
  give (suc so_far)

-- a divisor, which is not 0
unfoldable pub divisor : Reader ℕ
divisor = do
  n ← number_here
  check (nat_lt 0 n) text_case.ZeroDivisor
  advance
  give n

-- ---- factors, terms and sums, where this is read at a bracket

abbrev pub bracket_by : (ℕ → Reader Counted) → ℕ → Option TokenKind → Reader Counted
bracket_by bracketed so_far (Some (kind.Sign sign.LeftBracket)) = bracketed so_far
bracket_by bracketed so_far _ = unexpected (choice.Mark sign.LeftBracket)

-- brackets, which have to be next
unfoldable pub brackets_with : (ℕ → Reader Counted) → ℕ → Reader Counted
brackets_with bracketed so_far = peek >>= bracket_by bracketed so_far

-- a number, a variable, or what stands in brackets
abbrev pub factor_by : (ℕ → Reader Counted) → ℕ → Option TokenKind → Reader Counted
factor_by bracketed so_far (Some (kind.Number n)) = do
  value ← any_number
  give (counted (number value) so_far)
factor_by bracketed so_far (Some (kind.Name x)) = do
  place ← used_variable
  give (counted (variable place) so_far)
factor_by bracketed so_far k = do
  miss choice.Number
  miss choice.Name
  bracket_by bracketed so_far k

unfoldable pub factor_with : (ℕ → Reader Counted) → ℕ → Reader Counted
factor_with bracketed so_far = peek >>= factor_by bracketed so_far

abbrev pub is_product_sign : Option TokenKind → Bool
is_product_sign (Some (kind.Sign sign.Times)) = true
is_product_sign (Some (kind.Sign sign.Over)) = true
is_product_sign (Some (kind.Sign sign.Modulo)) = true
is_product_sign _ = false

-- the sign of a product and what stands after it
abbrev pub product_by : (ℕ → Reader Counted) → Counted → Option TokenKind → Reader Counted
product_by bracketed left (Some (kind.Sign sign.Over)) = do
  so_far ← operator left.operators
  d ← divisor
  give (counted (divide left.value d) so_far)
product_by bracketed left (Some (kind.Sign sign.Modulo)) = do
  so_far ← operator left.operators
  d ← divisor
  give (counted (remainder left.value d) so_far)
product_by bracketed left _ = do
  so_far ← operator left.operators
  right ← factor_with bracketed so_far
  give (counted (multiply left.value right.value) right.operators)

unfoldable pub product_turn : (ℕ → Reader Counted) → Counted → Reader Counted
product_turn bracketed left = peek >>= product_by bracketed left

unfoldable pub product_with : (ℕ → Reader Counted) → ℕ → Reader Counted
product_with bracketed so_far = factor_with bracketed so_far >>= until choice.Product is_product_sign (product_turn bracketed)

abbrev pub is_sum_sign : Option TokenKind → Bool
is_sum_sign (Some (kind.Sign sign.Plus)) = true
is_sum_sign (Some (kind.Sign sign.Minus)) = true
is_sum_sign _ = false

abbrev pub joined : Option TokenKind → Expression → Expression → Expression
joined (Some (kind.Sign sign.Minus)) left right = subtract left right
joined _ left right = add left right

unfoldable pub sum_turn : (ℕ → Reader Counted) → Counted → Reader Counted
sum_turn bracketed left = do
  next ← peek
  so_far ← operator left.operators
  right ← product_with bracketed so_far
  give (counted (joined next left.value right.value) right.operators)

unfoldable pub sum_with : (ℕ → Reader Counted) → ℕ → Reader Counted
sum_with bracketed so_far = product_with bracketed so_far >>= until choice.Sum is_sum_sign (sum_turn bracketed)

-- ---- expressions

-- what stands in brackets, where there is room for so many open ones
unfoldable pub bracketed : ℕ → ℕ → Reader Counted
bracketed zero so_far = fail (text_case.Limit limit.Depth)
bracketed (suc room) so_far = do
  advance
  inner ← sum_with (bracketed room) so_far
  expect_sign sign.RightBracket
  give (counted (group inner.value) inner.operators)

-- an expression, where there is room for so many open brackets
unfoldable pub expression_at : ℕ → Reader Expression
expression_at room = do
  whole ← sum_with (bracketed room) 0
  give whole.value
