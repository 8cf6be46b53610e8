-- Which expressions and conditions may stand in a body.
use Rattle.std.specs.Prelude.{ℕ, ◌+◌, suc, List, Bool, true, false, ◌&&◌, nat_lt, nat_le, length}
use Rattle.camac_lang.specs.Tests.{each, is_number}
use Rattle.camac_lang.specs.Tree.{Expression, number, variable, group, add, subtract, multiply, divide, remainder, Test, flag_q, flag_x, compare, Part, plain, negated, Condition}

-- what can be called: the number of parameters, and the depth
pub record Callable : Type 0 where
  pub parameters : ℕ
  pub depth : ℕ

-- what a body may refer to
pub record Scope : Type 0 where
  pub variables : ℕ
  pub tables : ℕ
  pub lams : ℕ
  pub callables : List Callable
  pub is_procedure : Bool

abbrev pub operators : Expression → ℕ
operators (number n) = 0
operators (variable x) = 0
operators (group e) = operators e
operators (add a b) = suc (operators a + operators b)
operators (subtract a b) = suc (operators a + operators b)
operators (multiply a b) = suc (operators a + operators b)
operators (divide e d) = suc (operators e)
operators (remainder e d) = suc (operators e)

-- each variable is one of so many, each number is one of the language, each divisor from 1
abbrev pub refers : ℕ → Expression → Bool
refers v (number n) = is_number n
refers v (variable x) = nat_lt x v
refers v (group e) = refers v e
refers v (add a b) = refers v a && refers v b
refers v (subtract a b) = refers v a && refers v b
refers v (multiply a b) = refers v a && refers v b
refers v (divide e d) = refers v e && (nat_le 1 d && is_number d)
refers v (remainder e d) = refers v e && (nat_le 1 d && is_number d)

-- the grammar's terms, which are no sums, and its factors, which are no products either
abbrev pub is_term : Expression → Bool
is_term (add a b) = false
is_term (subtract a b) = false
is_term _ = true

abbrev pub is_factor : Expression → Bool
is_factor (multiply a b) = false
is_factor (divide e d) = false
is_factor (remainder e d) = false
is_factor e = is_term e

-- operators are grouped from the left, products before sums
abbrev pub is_grouped : Expression → Bool
is_grouped (number n) = true
is_grouped (variable x) = true
is_grouped (group e) = is_grouped e
is_grouped (add a b) = is_grouped a && (is_grouped b && is_term b)
is_grouped (subtract a b) = is_grouped a && (is_grouped b && is_term b)
is_grouped (multiply a b) = is_grouped a && (is_term a && (is_grouped b && is_factor b))
is_grouped (divide e d) = is_grouped e && is_term e
is_grouped (remainder e d) = is_grouped e && is_term e

abbrev pub expression_fits : Scope → Expression → Bool
expression_fits c e = refers c.variables e && (is_grouped e && nat_le (operators e) 32)

abbrev pub test_fits : Scope → Test → Bool
test_fits c flag_q = true
test_fits c flag_x = true
test_fits c (compare a k b) = expression_fits c a && expression_fits c b

abbrev pub part_fits : Scope → Part → Bool
part_fits c (plain t) = test_fits c t
part_fits c (negated t) = test_fits c t

-- 1 to 16 parts
abbrev pub condition_fits : Scope → Condition → Bool
condition_fits c ps = nat_le 1 (length ps) && (nat_le (length ps) 16 && each (part_fits c) ps)
