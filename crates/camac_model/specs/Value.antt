-- The value of an expression and of a condition. An expression in which some number is outside 0 to M has no value, be it a sum, a
-- product, a difference, a literal or what a variable holds (own). So where a run is never wrong, each of its numbers is from 0 to M.
use Rattle.std.specs.Prelude.{ℕ, List, [], ◌∷◌, Option, Some, None, Bool, true, false, not, option_map, option_and_then}
use Rattle.camac_range.specs.Compare.{compared}
use Rattle.camac_range.specs.Number.{sum_of, difference_of, product_of, quotient_of}
pub use Rattle.camac_range.specs.Number.{greatest, in_range, difference_of as difference, quotient_of as quotient, rest_of}
use Rattle.camac_lang.specs.Tree.{Expression, number, variable, group, add, subtract, multiply, divide, remainder, Test, flag_q, flag_x, compare, Part, plain, negated, Condition}
use Rattle.camac_model.specs.State.{Variables}

-- what two values give, where both are there
abbrev pub both : {A : Type 0} → (ℕ → ℕ → Option A) → Option ℕ → Option ℕ → Option A
both f None o = None
both f (Some v) None = None
both f (Some v) (Some w) = f v w

abbrev pub value : Expression → Variables → Option ℕ
value (number n) env = in_range n
value (variable x) env = in_range (env x)
value (group e) env = value e env
value (add a b) env = both sum_of (value a env) (value b env)
value (subtract a b) env = both difference_of (value a env) (value b env)
value (multiply a b) env = both product_of (value a env) (value b env)
value (divide e d) env = option_and_then (λ v. quotient_of v d) (value e env)
value (remainder e d) env = option_and_then (λ v. rest_of v d) (value e env)

-- under the flags q and x
abbrev pub test_value : Test → Variables → Bool → Bool → Option Bool
test_value flag_q env q x = Some q
test_value flag_x env q x = Some x
test_value (compare a c b) env q x = both (λ v w. Some (compared c v w)) (value a env) (value b env)

abbrev pub part_value : Part → Variables → Bool → Bool → Option Bool
part_value (plain t) env q x = test_value t env q x
part_value (negated t) env q x = option_map not (test_value t env q x)

-- the rest of a condition counts where its first part is true
abbrev pub and_then : Option Bool → Option Bool → Option Bool
and_then None rest = None
and_then (Some false) rest = Some false
and_then (Some true) rest = rest

-- part by part, up to the first that is false
abbrev pub truth : Condition → Variables → Bool → Bool → Option Bool
truth [] env q x = Some true
truth (p ∷ ps) env q x = and_then (part_value p env q x) (truth ps env q x)

-- a value and those after it, where all are there
abbrev pub value_and : Option ℕ → Option (List ℕ) → Option (List ℕ)
value_and None rest = None
value_and (Some v) None = None
value_and (Some v) (Some vs) = Some (v ∷ vs)

-- the values of several expressions
abbrev pub values : List Expression → Variables → Option (List ℕ)
values [] env = Some []
values (e ∷ es) env = value_and (value e env) (values es env)
