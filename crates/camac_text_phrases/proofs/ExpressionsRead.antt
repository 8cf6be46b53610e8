-- Expressions step by step, and what their readers leave.
use Rattle.std.proofs.Common.{◌≡◌, ◌-◌, List, [], ◌∷◌, ◌++◌, length, ap, ◌∙◌, append_assoc, arith, length-append, ℕ, true, Option, Some, None, Ok, refl, suc, ◌+◌, ◌≤◌, ◌<◌, Bool, nat_lt, nat_le, sym, subst}
use Rattle.std.proofs.lemmas.Bool.{lt-ltb, ltb-true}
use Rattle.camac_lang.specs.Tree.{Expression, number, variable, add, subtract, multiply, divide, remainder}
use Rattle.camac_lang.specs.Nodes.{nodes_of, size}
use Rattle.camac_lang.specs.declared.expression.Node.{Node}
use Rattle.camac_lang.specs.Depth.{expression_depth}
use Rattle.camac_lang.specs.Expressions.{operators, refers, is_term, is_factor, is_grouped}
use Rattle.camac_lang.proofs.Terms.{length-nodes_of}
use Rattle.camac_tokens.specs.declared.token.TokenKind.{TokenKind}
use Rattle.camac_tokens.specs.declared.token.TokenKind.TheVariants as kind
use Rattle.camac_tokens.specs.declared.fault.TextFault.{TextFault}
use Rattle.camac_tokens.specs.declared.fault.Limit.TheVariants as limit
use Rattle.camac_tokens.specs.declared.fault.TextCase.TheVariants as text_case
use Rattle.camac_tokens.specs.declared.token.Sign.TheVariants as sign
use Rattle.camac_text_cursor.specs.Tried.{Tried}
use Rattle.camac_text_cursor.specs.declared.choice.Choice.TheVariants as choice
use Rattle.camac_text_cursor.specs.Reading.{State, kind_of, past, until, Reader, ◌>>=◌, ◌>>◌, give, advance, check, missed}
use Rattle.camac_text_cursor.specs.Readers.{any_number, is_name, number_here, used_variable}
use Rattle.camac_text_cursor.specs.Parser.{state, FailsWith}
use Rattle.camac_text_cursor.specs.declared.cursor.Parser.{Parser}
use Rattle.camac_text_cursor.specs.declared.choice.Choice.{Choice}
use Rattle.camac_text_cursor.proofs.Loops.{then_fails}
use Rattle.camac_text_cursor.proofs.Steps.{then_ok, ok_is, err_no_ok, until_keeps}
use Rattle.camac_text_cursor.proofs.Moves.{AllFit, Moves, TakesOne, kind_fit, moved, unmoved, then_moves, one_moves, check_ok, number_ok, any_number_ok}
use Rattle.camac_text_cursor.proofs.Uses.{used_variable_ok}
use Rattle.camac_text_cursor.proofs.Registers.{both as both_of_registers, below_le}
use Rattle.camac_text_phrases.specs.Expressions.{Counted, counted, bracketed, expression_at, factor_by, factor_with, is_product_sign, is_sum_sign, product_turn, product_with, sum_turn, sum_with, operator, divisor, bracket_by, product_by, joined}
use Rattle.camac_text_phrases.specs.Views.{Leaf}

-- The nodes of what is read behind those before it.

-- an operator behind its operand
pub one_more : (before left old new : List Node) (x : Node) → old ≡ before ++ left → new ≡ old ++ x ∷ [] → new ≡ before ++ (left ++ x ∷ [])
one_more before left old new x is put = put ∙ ap (λ ns. ns ++ x ∷ []) is ∙ append_assoc before left (x ∷ [])

-- an operand behind the other one
pub both : (before left right old new : List Node) → old ≡ before ++ left → new ≡ old ++ right → new ≡ before ++ (left ++ right)
both before left right old new is put = put ∙ ap (λ ns. ns ++ right) is ∙ append_assoc before left right

-- how many there are of the right operand
pub right_size : (e : Expression) (old new : List Node) → new ≡ old ++ nodes_of e → length new - length old ≡ size e
right_size e old new put =
    let n = ap length put ∙ length-append old (nodes_of e) in
    let m = length-nodes_of e in
    omega arith

-- An expression, step by step: its first factor, the factors behind it, and the terms behind these.

-- a number as the first factor
number_next : (n : ℕ) (s : State) → kind_of s.rest ≡ Some (kind.Number n) → any_number s ≡ Ok (n, past s)
unfolding any_number number_here
number_next n s is = rw is refl

pub number_taken : (room so_far n : ℕ) (s : State) → kind_of s.rest ≡ Some (kind.Number n) → factor_with (bracketed room) so_far s ≡ Ok (counted (number n) so_far, past s)
unfolding factor_with
number_taken room so_far n s is = rw is (rw (number_next n s is) refl)

-- a variable as the first factor
pub variable_taken : (room so_far n : ℕ) (s t : State) → is_name (kind_of s.rest) ≡ true → used_variable s ≡ Ok (n, t) → factor_with (bracketed room) so_far s ≡ Ok (counted (variable n) so_far, t)
unfolding factor_with
variable_taken room so_far n s t named taken = by (kind_of s.rest) named where
  by : (at : Option TokenKind) → is_name at ≡ true → factor_by (bracketed room) so_far at s ≡ Ok (counted (variable n) so_far, t)
  by (Some (kind.Name x)) is = rw taken refl
  by _ is = absurd cc

-- the first number or variable, or that there is none, where the parser's state stays
pub leaf_stays : (room so_far : ℕ) (before : State) (first : Option Node) (p q : Parser) → state q ≡ state p → Leaf room so_far before (Ok first) p → Leaf room so_far before (Ok first) q
leaf_stays room so_far before (Some n) p q same leaf = (leaf.0, rw same leaf.1)
leaf_stays room so_far before None p q same leaf = rw same leaf

module _ (room : ℕ) (s : State) where
  pub factor_fails : (e : TextFault) (tried : Tried) → FailsWith e tried (factor_with (bracketed room) 0 s) → FailsWith e tried (expression_at room s)
  unfolding expression_at sum_with product_with
  factor_fails e tried failed = then_fails e tried _ _ (then_fails e tried _ _ (then_fails e tried _ _ failed))

  pub products_fail : (e : TextFault) (tried : Tried) (x : Counted) (t : State) → factor_with (bracketed room) 0 s ≡ Ok (x, t) → FailsWith e tried (until choice.Product is_product_sign (product_turn (bracketed room)) x t) → FailsWith e tried (expression_at room s)
  unfolding expression_at sum_with product_with
  products_fail e tried x t first failed = rw first (then_fails e tried _ _ (then_fails e tried _ _ failed))

  module _ (x y : Counted) (t u : State) (first : factor_with (bracketed room) 0 s ≡ Ok (x, t)) (second : until choice.Product is_product_sign (product_turn (bracketed room)) x t ≡ Ok (y, u)) where
    pub sums_fail : (e : TextFault) (tried : Tried) → FailsWith e tried (until choice.Sum is_sum_sign (sum_turn (bracketed room)) y u) → FailsWith e tried (expression_at room s)
    unfolding expression_at sum_with product_with
    sums_fail e tried failed = rw first (rw second (then_fails e tried _ _ failed))

    pub is_read : (z : Counted) (v : State) → until choice.Sum is_sum_sign (sum_turn (bracketed room)) y u ≡ Ok (z, v) → expression_at room s ≡ Ok (z.value, v)
    unfolding expression_at sum_with product_with
    is_read z v third = rw first (rw second (rw third refl))

-- What readers of expressions leave.

-- the sign of an operator is taken
pub record Operator (so_far : ℕ) (s : State) (n : ℕ) (s' : State) : Type 0 where
  pub room : so_far < 32
  pub next : n ≡ suc so_far
  pub left : s' ≡ past s

pub operator_ok : (so_far : ℕ) (s : State) (y : ℕ × State) → operator so_far s ≡ Ok y → Operator so_far s y.0 y.1
unfolding operator
operator_ok so_far s y e =
    let c = check_ok (nat_lt so_far 32) (text_case.Limit limit.Operators) (advance >> give (suc so_far)) s y e in
    subst (λ (p : ℕ × State). Operator so_far s p.0 p.1) (ok_is (suc so_far, past s) y c.1)
    (record { room = ltb-true so_far 32 c.0; next = refl; left = refl })

operator_moves : (so_far : ℕ) (s : State) (n : ℕ) (s' : State) → Operator so_far s n s' → Moves s s'
operator_moves so_far s n s' o = subst (λ (u : State). Moves s u) (sym o.left) (moved s)

pub record Divides (s : State) (n : ℕ) (s' : State) : Type 0 where
  pub one : TakesOne s (kind.Number n) s'
  pub from_1 : nat_le 1 n ≡ true

pub divisor_ok : (s : State) (y : ℕ × State) → divisor s ≡ Ok y → Divides s y.0 y.1
unfolding divisor
divisor_ok s y e =
    let m = then_ok (number_here s) (λ n. check (nat_lt 0 n) text_case.ZeroDivisor >> (advance >> give n)) y e in
    let h = number_ok s m.0 m.1 in
    let c = check_ok (nat_lt 0 m.0.0) text_case.ZeroDivisor (advance >> give m.0.0) m.0.1 y m.2 in
    let above : 0 < m.0.0 = ltb-true 0 m.0.0 c.0 in
    subst (λ (p : ℕ × State). Divides s p.0 p.1) (ok_is (m.0.0, past m.0.1) y c.1)
    (record { one = record { next = h.0; left = ap past h.1 }; from_1 = below_le 1 m.0.0 (omega arith) })

-- a part of an expression is read, with so many operators before it
pub record Reads (form : Expression → Bool) (room so_far : ℕ) (s : State) (x : Counted) (s' : State) : Type 0 where
  pub moves : Moves s s'
  pub refers : AllFit s.rest → refers (length s.variables) x.value ≡ true
  pub grouped : is_grouped x.value ≡ true
  pub stands : form x.value ≡ true
  pub deep : expression_depth x.value ≤ room
  pub counts : x.operators ≡ so_far + operators x.value
  pub few : so_far ≤ 32 → x.operators ≤ 32

abbrev pub any_form : Expression → Bool
any_form e = true

factor_is_term : (e : Expression) → is_factor e ≡ true → is_term e ≡ true
factor_is_term (add a b) h = h
factor_is_term (subtract a b) h = h
factor_is_term _ h = refl

wider : (form other : Expression → Bool) (room so_far : ℕ) (s : State) (x : Counted) (s' : State) → ((e : Expression) → form e ≡ true → other e ≡ true) → Reads form room so_far s x s' → Reads other room so_far s x s'
wider form other room so_far s x s' holds r = record {
  moves = r.moves;
  refers = r.refers;
  grouped = r.grouped;
  stands = holds x.value r.stands;
  deep = r.deep;
  counts = r.counts;
  few = r.few;
}

-- and what was looked for behind it
still : (form : Expression → Bool) (room so_far : ℕ) (s : State) (c : Choice) (x : Counted) (u : State) → Reads form room so_far s x u → Reads form room so_far s x (missed c u)
still form room so_far s c x u r = record { moves = then_moves s u (missed c u) r.moves (unmoved c u); refers = r.refers; grouped = r.grouped; stands = r.stands; deep = r.deep; counts = r.counts; few = r.few }

-- the variables stay where only the tokens move on
same_variables : (s t : State) (e : Expression) → Moves s t → refers (length t.variables) e ≡ true → refers (length s.variables) e ≡ true
same_variables s t e m h = subst (λ (u : State). refers (length u.variables) e ≡ true) m.same h

joined_either : (P : Expression → Type 0) (k : Option TokenKind) (a b : Expression) → P (add a b) → P (subtract a b) → P (joined k a b)
joined_either P (Some (kind.Sign sign.Minus)) a b plus minus = minus
joined_either P _ a b plus minus = plus

module _ (room : ℕ) (inner : ℕ → Reader Counted) (inner_ok : (so_far : ℕ) (s : State) (y : Counted × State) → inner so_far s ≡ Ok y → Reads is_factor room so_far s y.0 y.1) where
  bracket_is : (so_far : ℕ) (k : Option TokenKind) (s : State) (y : Counted × State) → bracket_by inner so_far k s ≡ Ok y → Reads is_factor room so_far s y.0 y.1
  bracket_is so_far (Some (kind.Sign sign.LeftBracket)) s y e = inner_ok so_far s y e
  bracket_is so_far _ s y e = absurd (err_no_ok _ _ e)

  factor_is : (so_far : ℕ) (k : Option TokenKind) (s : State) (y : Counted × State) → factor_by inner so_far k s ≡ Ok y → Reads is_factor room so_far s y.0 y.1
  factor_is so_far (Some (kind.Number n)) s y e =
      let m = then_ok (any_number s) (λ v. give (counted (number v) so_far)) y e in
      let one = any_number_ok s m.0 m.1 in
      subst (λ (p : Counted × State). Reads is_factor room so_far s p.0 p.1) (ok_is (counted (number m.0.0) so_far, m.0.1) y m.2) (record {
        moves = one_moves s (kind.Number m.0.0) m.0.1 one;
        refers = λ h. kind_fit s.rest (kind.Number m.0.0) one.next h;
        grouped = refl;
        stands = refl;
        deep = omega arith;
        counts = omega arith;
        few = λ h. h;
      })
  factor_is so_far (Some (kind.Name x)) s y e =
      let m = then_ok (used_variable s) (λ v. give (counted (variable v) so_far)) y e in
      let used = used_variable_ok s m.0 m.1 in
      subst (λ (p : Counted × State). Reads is_factor room so_far s p.0 p.1) (ok_is (counted (variable m.0.0) so_far, m.0.1) y m.2) (record {
        moves = used.1;
        refers = λ h. lt-ltb m.0.0 (length s.variables) used.0;
        grouped = refl;
        stands = refl;
        deep = omega arith;
        counts = omega arith;
        few = λ h. h;
      })
  factor_is so_far k s y e =
      let t : State = missed choice.Name (missed choice.Number s) in
      let read = bracket_is so_far k t y e in
      record {
        moves = then_moves s t y.1 (then_moves s (missed choice.Number s) t (unmoved choice.Number s) (unmoved choice.Name (missed choice.Number s))) read.moves;
        refers = read.refers;
        grouped = read.grouped;
        stands = read.stands;
        deep = read.deep;
        counts = read.counts;
        few = read.few;
      }

  pub factor_ok : (so_far : ℕ) (s : State) (y : Counted × State) → factor_with inner so_far s ≡ Ok y → Reads is_factor room so_far s y.0 y.1
  unfolding factor_with
  factor_ok so_far s y e = factor_is so_far (kind_of s.rest) s y e

  -- ---- products

  product_is : (n : ℕ) (s0 : State) (x : Counted) (s : State) (k : Option TokenKind) (y : Counted × State) → Reads is_term room n s0 x s → product_by inner x k s ≡ Ok y → Reads is_term room n s0 y.0 y.1
  product_is n s0 x s (Some (kind.Sign sign.Over)) y left e =
      let a = then_ok (operator x.operators s) (λ so_far. divisor >>= λ d. give (counted (divide x.value d) so_far)) y e in
      let o = operator_ok x.operators s a.0 a.1 in
      let b = then_ok (divisor a.0.1) (λ d. give (counted (divide x.value d) a.0.0)) y a.2 in
      let d = divisor_ok a.0.1 b.0 b.1 in
      let to_a : Moves s0 a.0.1 = then_moves s0 s a.0.1 left.moves (operator_moves x.operators s a.0.0 a.0.1 o) in
      let counts : x.operators ≡ n + operators x.value = left.counts in
      let below : x.operators < 32 = o.room in
      let next : a.0.0 ≡ suc x.operators = o.next in
      subst (λ (p : Counted × State). Reads is_term room n s0 p.0 p.1) (ok_is (counted (divide x.value b.0.0) a.0.0, b.0.1) y b.2) (record {
        moves = then_moves s0 a.0.1 b.0.1 to_a (one_moves a.0.1 (kind.Number b.0.0) b.0.1 d.one);
        refers = λ h. both_of_registers _ _ (left.refers h) (both_of_registers _ _ (d.from_1) (kind_fit a.0.1.rest (kind.Number b.0.0) d.one.next (to_a.fit h)));
        grouped = both_of_registers _ _ left.grouped left.stands;
        stands = refl;
        deep = left.deep;
        counts = omega arith;
        few = λ h. omega arith;
      })
  product_is n s0 x s (Some (kind.Sign sign.Modulo)) y left e =
      let a = then_ok (operator x.operators s) (λ so_far. divisor >>= λ d. give (counted (remainder x.value d) so_far)) y e in
      let o = operator_ok x.operators s a.0 a.1 in
      let b = then_ok (divisor a.0.1) (λ d. give (counted (remainder x.value d) a.0.0)) y a.2 in
      let d = divisor_ok a.0.1 b.0 b.1 in
      let to_a : Moves s0 a.0.1 = then_moves s0 s a.0.1 left.moves (operator_moves x.operators s a.0.0 a.0.1 o) in
      let counts : x.operators ≡ n + operators x.value = left.counts in
      let below : x.operators < 32 = o.room in
      let next : a.0.0 ≡ suc x.operators = o.next in
      subst (λ (p : Counted × State). Reads is_term room n s0 p.0 p.1) (ok_is (counted (remainder x.value b.0.0) a.0.0, b.0.1) y b.2) (record {
        moves = then_moves s0 a.0.1 b.0.1 to_a (one_moves a.0.1 (kind.Number b.0.0) b.0.1 d.one);
        refers = λ h. both_of_registers _ _ (left.refers h) (both_of_registers _ _ (d.from_1) (kind_fit a.0.1.rest (kind.Number b.0.0) d.one.next (to_a.fit h)));
        grouped = both_of_registers _ _ left.grouped left.stands;
        stands = refl;
        deep = left.deep;
        counts = omega arith;
        few = λ h. omega arith;
      })
  product_is n s0 x s _ y left e =
      let a = then_ok (operator x.operators s) (λ so_far. factor_with inner so_far >>= λ right. give (counted (multiply x.value right.value) right.operators)) y e in
      let o = operator_ok x.operators s a.0 a.1 in
      let b = then_ok (factor_with inner a.0.0 a.0.1) (λ right. give (counted (multiply x.value right.value) right.operators)) y a.2 in
      let right = factor_ok a.0.0 a.0.1 b.0 b.1 in
      let to_a : Moves s0 a.0.1 = then_moves s0 s a.0.1 left.moves (operator_moves x.operators s a.0.0 a.0.1 o) in
      let counts : x.operators ≡ n + operators x.value = left.counts in
      let counts_z : b.0.0.operators ≡ a.0.0 + operators b.0.0.value = right.counts in
      let below : x.operators < 32 = o.room in
      let next : a.0.0 ≡ suc x.operators = o.next in
      let deep_x : expression_depth x.value ≤ room = left.deep in
      let deep_z : expression_depth b.0.0.value ≤ room = right.deep in
      subst (λ (p : Counted × State). Reads is_term room n s0 p.0 p.1) (ok_is (counted (multiply x.value b.0.0.value) b.0.0.operators, b.0.1) y b.2) (record {
        moves = then_moves s0 a.0.1 b.0.1 to_a right.moves;
        refers = λ h. both_of_registers _ _ (left.refers h) (same_variables s0 a.0.1 b.0.0.value to_a (right.refers (to_a.fit h)));
        grouped = both_of_registers _ _ left.grouped (both_of_registers _ _ left.stands (both_of_registers _ _ right.grouped right.stands));
        stands = refl;
        deep = omega arith;
        counts = omega arith;
        few = λ h. right.few (omega arith);
      })

  product_turn_ok : (n : ℕ) (s0 : State) (x : Counted) (s : State) (y : Counted × State) → Reads is_term room n s0 x s → product_turn inner x s ≡ Ok y → Reads is_term room n s0 y.0 y.1
  unfolding product_turn
  product_turn_ok n s0 x s y left e = product_is n s0 x s (kind_of s.rest) y left e

  pub product_ok : (n : ℕ) (s : State) (y : Counted × State) → product_with inner n s ≡ Ok y → Reads is_term room n s y.0 y.1
  unfolding product_with
  product_ok n s y e =
      let m = then_ok (factor_with inner n s) (until choice.Product is_product_sign (product_turn inner)) y e in
      until_keeps (λ (x : Counted) (u : State). Reads is_term room n s x u) choice.Product (still is_term room n s choice.Product) is_product_sign (product_turn inner) (λ x u z t left on took. product_turn_ok n s x u (z, t) left took) m.0.0 m.0.1 y (wider is_factor is_term room n s m.0.0 m.0.1 factor_is_term (factor_ok n s m.0 m.1)) m.2

  -- ---- sums

  add_reads : (n : ℕ) (s0 : State) (x : Counted) (s : State) (used : ℕ) (u : State) (z : Counted) (t : State) → Reads any_form room n s0 x s → Operator x.operators s used u → Reads is_term room used u z t → Reads any_form room n s0 (counted (add x.value z.value) z.operators) t
  add_reads n s0 x s used u z t left o right =
      let to_u : Moves s0 u = then_moves s0 s u left.moves (operator_moves x.operators s used u o) in
      let counts : x.operators ≡ n + operators x.value = left.counts in
      let counts_z : z.operators ≡ used + operators z.value = right.counts in
      let below : x.operators < 32 = o.room in
      let next : used ≡ suc x.operators = o.next in
      let deep_x : expression_depth x.value ≤ room = left.deep in
      let deep_z : expression_depth z.value ≤ room = right.deep in
      record {
        moves = then_moves s0 u t to_u right.moves;
        refers = λ h. both_of_registers _ _ (left.refers h) (same_variables s0 u z.value to_u (right.refers (to_u.fit h)));
        grouped = both_of_registers _ _ left.grouped (both_of_registers _ _ right.grouped right.stands);
        stands = refl;
        deep = omega arith;
        counts = omega arith;
        few = λ h. right.few (omega arith);
      }

  subtract_reads : (n : ℕ) (s0 : State) (x : Counted) (s : State) (used : ℕ) (u : State) (z : Counted) (t : State) → Reads any_form room n s0 x s → Operator x.operators s used u → Reads is_term room used u z t → Reads any_form room n s0 (counted (subtract x.value z.value) z.operators) t
  subtract_reads n s0 x s used u z t left o right =
      let to_u : Moves s0 u = then_moves s0 s u left.moves (operator_moves x.operators s used u o) in
      let counts : x.operators ≡ n + operators x.value = left.counts in
      let counts_z : z.operators ≡ used + operators z.value = right.counts in
      let below : x.operators < 32 = o.room in
      let next : used ≡ suc x.operators = o.next in
      let deep_x : expression_depth x.value ≤ room = left.deep in
      let deep_z : expression_depth z.value ≤ room = right.deep in
      record {
        moves = then_moves s0 u t to_u right.moves;
        refers = λ h. both_of_registers _ _ (left.refers h) (same_variables s0 u z.value to_u (right.refers (to_u.fit h)));
        grouped = both_of_registers _ _ left.grouped (both_of_registers _ _ right.grouped right.stands);
        stands = refl;
        deep = omega arith;
        counts = omega arith;
        few = λ h. right.few (omega arith);
      }

  sum_turn_ok : (n : ℕ) (s0 : State) (x : Counted) (s : State) (y : Counted × State) → Reads any_form room n s0 x s → sum_turn inner x s ≡ Ok y → Reads any_form room n s0 y.0 y.1
  unfolding sum_turn
  sum_turn_ok n s0 x s y left e =
      let k : Option TokenKind = kind_of s.rest in
      let a = then_ok (operator x.operators s) (λ so_far. product_with inner so_far >>= λ right. give (counted (joined k x.value right.value) right.operators)) y e in
      let o = operator_ok x.operators s a.0 a.1 in
      let b = then_ok (product_with inner a.0.0 a.0.1) (λ right. give (counted (joined k x.value right.value) right.operators)) y a.2 in
      let right = product_ok a.0.0 a.0.1 b.0 b.1 in
      subst (λ (p : Counted × State). Reads any_form room n s0 p.0 p.1) (ok_is (counted (joined k x.value b.0.0.value) b.0.0.operators, b.0.1) y b.2)
      (joined_either (λ (v : Expression). Reads any_form room n s0 (counted v b.0.0.operators) b.0.1) k x.value b.0.0.value
      (add_reads n s0 x s a.0.0 a.0.1 b.0.0 b.0.1 left o right)
      (subtract_reads n s0 x s a.0.0 a.0.1 b.0.0 b.0.1 left o right))

  pub sum_ok : (n : ℕ) (s : State) (y : Counted × State) → sum_with inner n s ≡ Ok y → Reads any_form room n s y.0 y.1
  unfolding sum_with
  sum_ok n s y e =
      let m = then_ok (product_with inner n s) (until choice.Sum is_sum_sign (sum_turn inner)) y e in
      until_keeps (λ (x : Counted) (u : State). Reads any_form room n s x u) choice.Sum (still any_form room n s choice.Sum) is_sum_sign (sum_turn inner) (λ x u z t left on took. sum_turn_ok n s x u (z, t) left took) m.0.0 m.0.1 y (wider is_term any_form room n s m.0.0 m.0.1 (λ e h. refl) (product_ok n s m.0 m.1)) m.2
