-- What readers of brackets and of whole expressions leave, and that each turn of theirs takes a token.
use Rattle.std.proofs.Common.{◌≡◌, ℕ, zero, suc, ◌+◌, ◌≤◌, ◌<◌, true, length, Option, Some, None, Ok, refl, subst, arith}
use Rattle.camac_lang.specs.Depth.{expression_depth}
use Rattle.camac_lang.specs.Expressions.{operators, is_factor, expression_fits}
use Rattle.camac_lang.specs.Tree.{Expression, group, multiply, divide, remainder}
use Rattle.camac_tokens.specs.declared.token.Sign.TheVariants as sign
use Rattle.camac_tokens.specs.declared.token.TokenKind.{TokenKind}
use Rattle.camac_tokens.specs.declared.token.TokenKind.TheVariants as kind
use Rattle.camac_text_cursor.specs.Reading.{State, Reader, ◌>>=◌, ◌>>◌, give, kind_of, after_first, past}
use Rattle.camac_text_cursor.specs.Readers.{expect_sign}
use Rattle.camac_text_phrases.specs.Expressions.{Counted, counted, operator, divisor, factor_with, is_product_sign, product_by, product_turn, product_with, is_sum_sign, joined, sum_turn, sum_with, bracketed, expression_at}
use Rattle.camac_text_cursor.proofs.Steps.{then_ok, ok_is, err_no_ok, Progresses}
use Rattle.camac_text_cursor.proofs.Moves.{AllFit, Moves, after_less, moved, then_moves, one_moves, expect_sign_ok}
use Rattle.camac_text_cursor.proofs.Uses.{scope_of}
use Rattle.camac_text_cursor.proofs.Registers.{both, below_le}
use Rattle.camac_text_phrases.proofs.ExpressionsRead.{Operator, operator_ok, divisor_ok, Reads, factor_ok, product_ok, sum_ok}

-- what is read after the sign of an operator is read after the next token
after_operator : (so_far : ℕ) (s : State) (n : ℕ) (u : State) (y : Counted × State) → Operator so_far s n u → length y.1.rest ≤ length u.rest → length y.1.rest ≤ length (after_first s.rest)
after_operator so_far s n u y o h = subst (λ (w : State). length y.1.rest ≤ length w.rest) o.left h

divided : (s : State) (d : ℕ × State) (x : Counted) (y : Counted × State) → divisor s ≡ Ok d → give x d.1 ≡ Ok y → length y.1.rest ≤ length s.rest
divided s d x y took e = subst (λ (p : Counted × State). length p.1.rest ≤ length s.rest) (ok_is (x, d.1) y e) (one_moves s (kind.Number d.0) d.1 (divisor_ok s d took).one).shorter

product_sign_some : (k : Option TokenKind) → is_product_sign k ≡ true → (j : TokenKind) × (k ≡ Some j)
product_sign_some (Some j) on = (j, refl)
product_sign_some None on = absurd cc

sum_sign_some : (k : Option TokenKind) → is_sum_sign k ≡ true → (j : TokenKind) × (k ≡ Some j)
sum_sign_some (Some j) on = (j, refl)
sum_sign_some None on = absurd cc

-- ---- each turn takes a token

module _ (room : ℕ) (inner : ℕ → Reader Counted) (inner_ok : (so_far : ℕ) (s : State) (y : Counted × State) → inner so_far s ≡ Ok y → Reads is_factor room so_far s y.0 y.1) where
  product_shorter : (x : Counted) (k : Option TokenKind) (s : State) (y : Counted × State) → product_by inner x k s ≡ Ok y → length y.1.rest ≤ length (after_first s.rest)
  product_shorter x (Some (kind.Sign sign.Over)) s y e =
      let a = then_ok (operator x.operators s) (λ so_far. divisor >>= λ d. give (counted (divide x.value d) so_far)) y e in
      let b = then_ok (divisor a.0.1) (λ d. give (counted (divide x.value d) a.0.0)) y a.2 in
      after_operator x.operators s a.0.0 a.0.1 y (operator_ok x.operators s a.0 a.1) (divided a.0.1 b.0 (counted (divide x.value b.0.0) a.0.0) y b.1 b.2)
  product_shorter x (Some (kind.Sign sign.Modulo)) s y e =
      let a = then_ok (operator x.operators s) (λ so_far. divisor >>= λ d. give (counted (remainder x.value d) so_far)) y e in
      let b = then_ok (divisor a.0.1) (λ d. give (counted (remainder x.value d) a.0.0)) y a.2 in
      after_operator x.operators s a.0.0 a.0.1 y (operator_ok x.operators s a.0 a.1) (divided a.0.1 b.0 (counted (remainder x.value b.0.0) a.0.0) y b.1 b.2)
  product_shorter x _ s y e =
      let a = then_ok (operator x.operators s) (λ so_far. factor_with inner so_far >>= λ right. give (counted (multiply x.value right.value) right.operators)) y e in
      let b = then_ok (factor_with inner a.0.0 a.0.1) (λ right. give (counted (multiply x.value right.value) right.operators)) y a.2 in
      let right = factor_ok room inner inner_ok a.0.0 a.0.1 b.0 b.1 in
      after_operator x.operators s a.0.0 a.0.1 y (operator_ok x.operators s a.0 a.1)
      (subst (λ (p : Counted × State). length p.1.rest ≤ length a.0.1.rest) (ok_is (counted (multiply x.value b.0.0.value) b.0.0.operators, b.0.1) y b.2) right.moves.shorter)

  pub product_progress : Progresses is_product_sign (product_turn inner)
  unfolding product_turn
  product_progress x s y s' on took =
      let k = product_sign_some (kind_of s.rest) on in
      let shorter : length s'.rest ≤ length (after_first s.rest) = product_shorter x (kind_of s.rest) s (y, s') took in
      let less : length (after_first s.rest) < length s.rest = after_less s.rest k.0 k.1 in
      omega arith

  pub sum_progress : Progresses is_sum_sign (sum_turn inner)
  unfolding sum_turn
  sum_progress x s y s' on took =
      let k : Option TokenKind = kind_of s.rest in
      let a = then_ok (operator x.operators s) (λ so_far. product_with inner so_far >>= λ right. give (counted (joined k x.value right.value) right.operators)) (y, s') took in
      let b = then_ok (product_with inner a.0.0 a.0.1) (λ right. give (counted (joined k x.value right.value) right.operators)) (y, s') a.2 in
      let right = product_ok room inner inner_ok a.0.0 a.0.1 b.0 b.1 in
      let shorter : length s'.rest ≤ length (after_first s.rest) = after_operator x.operators s a.0.0 a.0.1 (y, s') (operator_ok x.operators s a.0 a.1)
      (subst (λ (p : Counted × State). length p.1.rest ≤ length a.0.1.rest) (ok_is (counted (joined k x.value b.0.0.value) b.0.0.operators, b.0.1) (y, s') b.2) right.moves.shorter) in
      let some = sum_sign_some (kind_of s.rest) on in
      let less : length (after_first s.rest) < length s.rest = after_less s.rest some.0 some.1 in
      omega arith

-- ---- brackets and whole expressions

pub bracketed_ok : (room so_far : ℕ) (s : State) (y : Counted × State) → bracketed room so_far s ≡ Ok y → Reads is_factor room so_far s y.0 y.1
unfolding bracketed
bracketed_ok zero so_far s y e = absurd (err_no_ok _ _ e)
bracketed_ok (suc room) so_far s y e =
    let t : State = past s in
    let a = then_ok (sum_with (bracketed room) so_far t) (λ inner. expect_sign sign.RightBracket >> give (counted (group inner.value) inner.operators)) y e in
    let inner = sum_ok room (bracketed room) (bracketed_ok room) so_far t a.0 a.1 in
    let b = then_ok (expect_sign sign.RightBracket a.0.1) (λ _. give (counted (group a.0.0.value) a.0.0.operators)) y a.2 in
    let closed = expect_sign_ok sign.RightBracket a.0.1 b.0 b.1 in
    let deep : expression_depth a.0.0.value ≤ room = inner.deep in
    subst (λ (p : Counted × State). Reads is_factor (suc room) so_far s p.0 p.1) (ok_is (counted (group a.0.0.value) a.0.0.operators, b.0.1) y b.2) (record {
      moves = then_moves s t b.0.1 (moved s) (then_moves t a.0.1 b.0.1 inner.moves closed);
      refers = λ h. inner.refers ((moved s).fit h);
      grouped = inner.grouped;
      stands = refl;
      deep = omega arith;
      counts = inner.counts;
      few = inner.few;
    })

pub record ReadsExpression (room : ℕ) (s : State) (x : Expression) (s' : State) : Type 0 where
  pub moves : Moves s s'
  pub fits : AllFit s.rest → expression_fits (scope_of s) x ≡ true
  pub deep : expression_depth x ≤ room

pub expression_ok : (room : ℕ) (s : State) (y : Expression × State) → expression_at room s ≡ Ok y → ReadsExpression room s y.0 y.1
unfolding expression_at
expression_ok room s y e =
    let m = then_ok (sum_with (bracketed room) 0 s) (λ whole. give whole.value) y e in
    let read = sum_ok room (bracketed room) (bracketed_ok room) 0 s m.0 m.1 in
    let counts : m.0.0.operators ≡ 0 + operators m.0.0.value = read.counts in
    let few : m.0.0.operators ≤ 32 = read.few (omega arith) in
    subst (λ (p : Expression × State). ReadsExpression room s p.0 p.1) (ok_is (m.0.0.value, m.0.1) y m.2) (record {
      moves = read.moves;
      fits = λ h. both _ _ (read.refers h) (both _ _ read.grouped (below_le (operators m.0.0.value) 32 (omega arith)));
      deep = read.deep;
    })
