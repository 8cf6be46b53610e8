-- Readers of expressions are local.
use Rattle.std.proofs.Common.{◌≡◌, ℕ, zero, suc, true, false, List, [], ◌∷◌, Option, Some, None, Result, Ok, refl, sym, ap, ◌∙◌}
use Rattle.std.specs.Prelude.{nat_lt}
use Rattle.camac_lang.specs.Tree.{Expression, number, variable, group, multiply, divide, remainder}
use Rattle.camac_tokens.specs.declared.fault.Limit.TheVariants as limit
use Rattle.camac_tokens.specs.declared.fault.TextCase.TheVariants as text_case
use Rattle.camac_tokens.specs.declared.token.Sign.TheVariants as sign
use Rattle.camac_tokens.specs.declared.token.TokenKind.{TokenKind}
use Rattle.camac_tokens.specs.declared.token.TokenKind.TheVariants as kind
use Rattle.camac_text_cursor.specs.declared.choice.Choice.{Choice}
use Rattle.camac_text_cursor.specs.declared.choice.Choice.TheVariants as choice
use Rattle.camac_text_cursor.specs.Reading.{State, Reader, then_read, ◌>>=◌, ◌>>◌, give, advance, check, kind_of, until, Fault}
use Rattle.camac_text_cursor.specs.Readers.{is_sign, any_number, used_variable, expect_sign}
use Rattle.camac_text_cursor.specs.Expected.{suits}
use Rattle.camac_text_phrases.specs.Expressions.{Counted, counted, operator, divisor, factor_by, factor_with, is_product_sign, product_by, product_turn, product_with, is_sum_sign, joined, sum_turn, sum_with, bracketed, expression_at}
use Rattle.camac_lang.specs.Expressions.{is_factor}
use Rattle.camac_text_cursor.proofs.Places.{missed_all, admits, admits_one, IsLocal, Begins, IsHere, local_then, begins_then, begins_peek}
use Rattle.camac_text_cursor.proofs.Primitives.{local_give, begins_fail, begins_advance, begins_check, begins_missed, here_admitted, refusal, local_wanting, local_until}
use Rattle.camac_text_cursor.proofs.Local.{begins_take, local_numbered, begins_any_number, begins_used_variable, local_expect_sign}
use Rattle.camac_text_phrases.proofs.ExpressionsRead.{Reads}
use Rattle.camac_text_phrases.proofs.BracketsRead.{product_progress, sum_progress, bracketed_ok}

begins_operator : (so_far : ℕ) (s : State) → IsHere s → Begins (operator so_far) s
unfolding operator
begins_operator so_far s here = begins_check (nat_lt so_far 32) (text_case.Limit limit.Operators) (advance >> give (suc so_far)) s refl tt (λ _. begins_take (suc so_far) s here)

local_divisor : (s : State) → IsLocal divisor s
unfolding divisor
local_divisor s = local_numbered (λ n. check (nat_lt 0 n) text_case.ZeroDivisor >> (advance >> give n)) s (λ n u at. begins_check (nat_lt 0 n) text_case.ZeroDivisor (advance >> give n) u refl tt (λ _. begins_take n u (kind.Number n, at)))

-- what begins an expression
abbrev pub values : List Choice
values = choice.Mark sign.LeftBracket ∷ choice.Name ∷ choice.Number ∷ []

product_same : (at : Option TokenKind) → is_product_sign at ≡ suits choice.Product at
product_same (Some (kind.Sign sign.Times)) = refl
product_same (Some (kind.Sign sign.Over)) = refl
product_same (Some (kind.Sign sign.Modulo)) = refl
product_same _ = refl

sum_same : (at : Option TokenKind) → is_sum_sign at ≡ suits choice.Sum at
sum_same (Some (kind.Sign sign.Plus)) = refl
sum_same (Some (kind.Sign sign.Minus)) = refl
sum_same _ = refl

module _ (room : ℕ) (inner : ℕ → Reader Counted) (inner_ok : (so_far : ℕ) (s : State) (y : Counted × State) → inner so_far s ≡ Ok y → Reads is_factor room so_far s y.0 y.1) (inner_begins : (so_far : ℕ) (s : State) → is_sign sign.LeftBracket (kind_of s.rest) ≡ true → Begins (inner so_far) s) where
  begins_factor_by : (so_far : ℕ) (k : Option TokenKind) (s : State) → kind_of s.rest ≡ k → admits values k ≡ true → Begins (factor_by inner so_far k) s
  begins_factor_by so_far (Some (kind.Number n)) s at is = begins_then any_number (λ v. give (counted (number v) so_far)) s (begins_any_number s n at) (λ v u. local_give (counted (number v) so_far) u)
  begins_factor_by so_far (Some (kind.Name x)) s at is = begins_then used_variable (λ v. give (counted (variable v) so_far)) s (begins_used_variable s x at) (λ v u. local_give (counted (variable v) so_far) u)
  begins_factor_by so_far (Some (kind.Sign sign.LeftBracket)) s at is = begins_missed (choice.Name ∷ choice.Number ∷ []) (inner so_far) s (inner_begins so_far (missed_all (choice.Name ∷ choice.Number ∷ []) s) (ap (is_sign sign.LeftBracket) at))
  begins_factor_by so_far _ s at is = absurd cc

  no_factor_by : (so_far : ℕ) (k : Option TokenKind) (s : State) → admits values k ≡ false → factor_by inner so_far k s ≡ (let f : Reader Counted = refusal values None in f s)
  no_factor_by so_far (Some (kind.Number n)) s free = absurd cc
  no_factor_by so_far (Some (kind.Name x)) s free = absurd cc
  no_factor_by so_far (Some (kind.Sign sign.LeftBracket)) s free = absurd cc
  no_factor_by so_far _ s free = refl

  begins_factor : (so_far : ℕ) (s : State) → admits values (kind_of s.rest) ≡ true → Begins (factor_with inner so_far) s
  unfolding factor_with
  begins_factor so_far s is = begins_peek (factor_by inner so_far) s (begins_factor_by so_far (kind_of s.rest) s refl is)

  no_factor : (so_far : ℕ) (s : State) → admits values (kind_of s.rest) ≡ false → factor_with inner so_far s ≡ (let f : Reader Counted = refusal values None in f s)
  unfolding factor_with
  no_factor so_far s free = no_factor_by so_far (kind_of s.rest) s free

  local_factor : (so_far : ℕ) (s : State) → IsLocal (factor_with inner so_far) s
  local_factor so_far s = local_wanting values (factor_with inner so_far) s (begins_factor so_far) (no_factor so_far)

  begins_product_by : (x : Counted) (k : Option TokenKind) (s : State) → IsHere s → Begins (product_by inner x k) s
  begins_product_by x (Some (kind.Sign sign.Over)) s here =
      begins_then (operator x.operators) (λ n. divisor >>= λ d. give (counted (divide x.value d) n)) s (begins_operator x.operators s here) (λ n u.
      local_then divisor (λ d. give (counted (divide x.value d) n)) u (local_divisor u) (λ d v. local_give (counted (divide x.value d) n) v))
  begins_product_by x (Some (kind.Sign sign.Modulo)) s here =
      begins_then (operator x.operators) (λ n. divisor >>= λ d. give (counted (remainder x.value d) n)) s (begins_operator x.operators s here) (λ n u.
      local_then divisor (λ d. give (counted (remainder x.value d) n)) u (local_divisor u) (λ d v. local_give (counted (remainder x.value d) n) v))
  begins_product_by x _ s here =
      begins_then (operator x.operators) (λ n. factor_with inner n >>= λ y. give (counted (multiply x.value y.value) y.operators)) s (begins_operator x.operators s here) (λ n u.
      local_then (factor_with inner n) (λ y. give (counted (multiply x.value y.value) y.operators)) u (local_factor n u) (λ y v. local_give (counted (multiply x.value y.value) y.operators) v))

  begins_product_turn : (x : Counted) (s : State) → is_product_sign (kind_of s.rest) ≡ true → Begins (product_turn inner x) s
  unfolding product_turn
  begins_product_turn x s is = begins_peek (product_by inner x) s (begins_product_by x (kind_of s.rest) s (here_admitted (choice.Product ∷ []) s (admits_one choice.Product (kind_of s.rest) ∙ sym (product_same (kind_of s.rest)) ∙ is)))

  local_products : (x : Counted) (s : State) → IsLocal (until choice.Product is_product_sign (product_turn inner) x) s
  local_products = local_until choice.Product is_product_sign (product_turn inner) (product_progress room inner inner_ok) product_same begins_product_turn

  local_product : (so_far : ℕ) (s : State) → IsLocal (product_with inner so_far) s
  unfolding product_with
  local_product so_far s = local_then (factor_with inner so_far) (until choice.Product is_product_sign (product_turn inner)) s (local_factor so_far s) local_products

  begins_sum_by : (x : Counted) (k : Option TokenKind) (s : State) → IsHere s → Begins (operator x.operators >>= λ n. product_with inner n >>= λ y. give (counted (joined k x.value y.value) y.operators)) s
  begins_sum_by x k s here =
      begins_then (operator x.operators) (λ n. product_with inner n >>= λ y. give (counted (joined k x.value y.value) y.operators)) s (begins_operator x.operators s here) (λ n u.
      local_then (product_with inner n) (λ y. give (counted (joined k x.value y.value) y.operators)) u (local_product n u) (λ y v. local_give (counted (joined k x.value y.value) y.operators) v))

  begins_sum_turn : (x : Counted) (s : State) → is_sum_sign (kind_of s.rest) ≡ true → Begins (sum_turn inner x) s
  unfolding sum_turn
  begins_sum_turn x s is = begins_peek (λ k. operator x.operators >>= λ n. product_with inner n >>= λ y. give (counted (joined k x.value y.value) y.operators)) s (begins_sum_by x (kind_of s.rest) s (here_admitted (choice.Sum ∷ []) s (admits_one choice.Sum (kind_of s.rest) ∙ sym (sum_same (kind_of s.rest)) ∙ is)))

  local_sums : (x : Counted) (s : State) → IsLocal (until choice.Sum is_sum_sign (sum_turn inner) x) s
  local_sums = local_until choice.Sum is_sum_sign (sum_turn inner) (sum_progress room inner inner_ok) sum_same begins_sum_turn

  local_sum : (so_far : ℕ) (s : State) → IsLocal (sum_with inner so_far) s
  unfolding sum_with
  local_sum so_far s = local_then (product_with inner so_far) (until choice.Sum is_sum_sign (sum_turn inner)) s (local_product so_far s) local_sums

  begins_sum : (so_far : ℕ) (s : State) → admits values (kind_of s.rest) ≡ true → Begins (sum_with inner so_far) s
  unfolding sum_with product_with
  begins_sum so_far s is =
      begins_then (product_with inner so_far) (until choice.Sum is_sum_sign (sum_turn inner)) s
      (begins_then (factor_with inner so_far) (until choice.Product is_product_sign (product_turn inner)) s (begins_factor so_far s is) local_products) local_sums

  no_sum : (so_far : ℕ) (s : State) → admits values (kind_of s.rest) ≡ false → sum_with inner so_far s ≡ (let f : Reader Counted = refusal values None in f s)
  unfolding sum_with product_with
  no_sum so_far s free = ap (λ (r : Result (Counted × State) Fault). then_read (then_read r (until choice.Product is_product_sign (product_turn inner))) (until choice.Sum is_sum_sign (sum_turn inner))) (no_factor so_far s free)

begins_bracketed : (room so_far : ℕ) (s : State) → is_sign sign.LeftBracket (kind_of s.rest) ≡ true → Begins (bracketed room so_far) s
unfolding bracketed
begins_bracketed zero so_far s is = begins_fail (text_case.Limit limit.Depth) s refl tt
begins_bracketed (suc room) so_far s is =
    begins_then advance (λ _. sum_with (bracketed room) so_far >>= λ x. expect_sign sign.RightBracket >> give (counted (group x.value) x.operators)) s (begins_advance s (here_admitted (choice.Mark sign.LeftBracket ∷ []) s (admits_one (choice.Mark sign.LeftBracket) (kind_of s.rest) ∙ is))) (λ _ u.
    local_then (sum_with (bracketed room) so_far) (λ x. expect_sign sign.RightBracket >> give (counted (group x.value) x.operators)) u (local_sum room (bracketed room) (bracketed_ok room) (begins_bracketed room) so_far u) (λ x u.
    local_then (expect_sign sign.RightBracket) (λ _. give (counted (group x.value) x.operators)) u (local_expect_sign sign.RightBracket u) (λ _ v. local_give (counted (group x.value) x.operators) v)))

pub local_expression : (room : ℕ) (s : State) → IsLocal (expression_at room) s
unfolding expression_at
local_expression room s = local_then (sum_with (bracketed room) 0) (λ x. give x.value) s (local_sum room (bracketed room) (bracketed_ok room) (begins_bracketed room) 0 s) (λ x u. local_give x.value u)

pub begins_expression : (room : ℕ) (s : State) → admits values (kind_of s.rest) ≡ true → Begins (expression_at room) s
unfolding expression_at
begins_expression room s is = begins_then (sum_with (bracketed room) 0) (λ x. give x.value) s (begins_sum room (bracketed room) (bracketed_ok room) (begins_bracketed room) 0 s is) (λ x u. local_give x.value u)

pub no_expression : (room : ℕ) (s : State) → admits values (kind_of s.rest) ≡ false → expression_at room s ≡ (let f : Reader Expression = refusal values None in f s)
unfolding expression_at
no_expression room s free = ap (λ (r : Result (Counted × State) Fault). then_read r (λ x. give x.value)) (no_sum room (bracketed room) (bracketed_ok room) (begins_bracketed room) 0 s free)
