-- Which statements may stand in a body, and how many there are.
use Rattle.std.specs.Prelude.{ℕ, ◌+◌, suc, max, List, ◌∷◌, Option, Some, None, Bool, true, not, ◌&&◌, nat_eq, nat_lt, nat_le, length, map, slice_get, option_and_then}
use Rattle.camac_lang.specs.Expressions.{Scope, expression_fits, condition_fits}
use Rattle.camac_lang.specs.Tests.{each, has, unless_broken, are_distinct, is_number, is_function}
use Rattle.camac_lang.specs.Tree.{Move, no_data, into, from, Keep, Statement, assign, set_register, single, address_scan, q_stop, q_repeat, put, crate_call, lam_call, choose, choose_else, for_, for_each, while_, locked, call, Block, done, next}

-- kept variables are distinct, and not the loop's own
abbrev pub keeps_fit : Scope → ℕ → List Keep → Bool
keeps_fit c x ks =
    are_distinct (x ∷ map (λ k. k.variable) ks)
    && each (λ k. nat_lt k.variable c.variables && (is_number k.low && is_number k.high)) ks

abbrev pub table_fits : Scope → Option ℕ → Bool
table_fits c None = true
table_fits c (Some g) = nat_lt g c.tables

abbrev pub move_fits : Scope → Move → Bool
move_fits c no_data = true
move_fits c (into x) = nat_lt x c.variables
move_fits c (from e) = expression_fits c e

-- the rules of a statement on all but its blocks, where so many registers are declared before it
abbrev pub head_fits : Scope → ℕ → Statement → Bool
head_fits c seen (assign spot x e) = nat_lt x c.variables && expression_fits c e
head_fits c seen (set_register spot r k n a) =
    nat_le r seen && (expression_fits c k && (expression_fits c n && expression_fits c a))
head_fits c seen (single spot size f r m) = is_function f && (nat_lt r seen && move_fits c m)
head_fits c seen (address_scan spot f r1 r2 e x) =
    is_function f && (nat_lt r1 seen && (nat_lt r2 seen && (expression_fits c e && nat_lt x c.variables)))
head_fits c seen (q_stop spot f r g e x) =
    is_function f && (nat_lt r seen && (table_fits c g && (expression_fits c e && nat_lt x c.variables)))
head_fits c seen (q_repeat spot f r g e l x) =
    is_function f && (nat_lt r seen && (table_fits c g && (expression_fits c e && (expression_fits c l && nat_lt x c.variables))))
head_fits c seen (put spot e) = expression_fits c e
head_fits c seen (crate_call spot k e) = expression_fits c e
head_fits c seen (lam_call spot k l) = nat_lt l c.lams
head_fits c seen (choose spot t a) = condition_fits c t
head_fits c seen (choose_else spot t a b) = condition_fits c t
head_fits c seen (for_ spot x e1 e2 ks body) =
    nat_lt x c.variables && (expression_fits c e1 && (expression_fits c e2 && keeps_fit c x ks))
head_fits c seen (for_each spot x v last body) = nat_lt x c.variables && (is_number v && is_number last)
head_fits c seen (while_ spot t turns x ks body) =
    condition_fits c t && (is_number turns && (nat_lt x c.variables && keeps_fit c x ks))
head_fits c seen (locked spot e body) = not c.is_procedure && expression_fits c e
head_fits c seen (call spot p es) =
    has (slice_get c.callables p) (λ q. nat_eq q.parameters (length es)) && each (expression_fits c) es

-- the number of registers that are declared before a statement's blocks; none where a rule is broken
abbrev pub begun : Scope → ℕ → Statement → Option ℕ
begun c seen (set_register spot r k n a) = unless_broken (head_fits c seen (set_register spot r k n a)) (max seen (suc r))
begun c seen s = unless_broken (head_fits c seen s) seen

-- and after it
abbrev mutual
  pub after : Scope → ℕ → Statement → Option ℕ
  after c seen (choose spot t a) = option_and_then (λ k. after_block c k a) (begun c seen (choose spot t a))
  after c seen (choose_else spot t a b) =
      option_and_then (λ k. after_block c k b) (option_and_then (λ k. after_block c k a) (begun c seen (choose_else spot t a b)))
  after c seen (for_ spot x e1 e2 ks body) = option_and_then (λ k. after_block c k body) (begun c seen (for_ spot x e1 e2 ks body))
  after c seen (for_each spot x v last body) = option_and_then (λ k. after_block c k body) (begun c seen (for_each spot x v last body))
  after c seen (while_ spot t turns x ks body) =
      option_and_then (λ k. after_block c k body) (begun c seen (while_ spot t turns x ks body))
  after c seen (locked spot e body) = option_and_then (λ k. after_block c k body) (begun c seen (locked spot e body))
  after c seen s = begun c seen s

  pub after_block : Scope → ℕ → Block → Option ℕ
  after_block c seen done = Some seen
  after_block c seen (next s rest) = option_and_then (λ k. after_block c k rest) (after c seen s)

-- how many statements there are, those inside others counted
abbrev mutual
  pub statements_in : Statement → ℕ
  statements_in (choose spot t a) = suc (statements a)
  statements_in (choose_else spot t a b) = suc (statements a + statements b)
  statements_in (for_ spot x e1 e2 ks body) = suc (statements body)
  statements_in (for_each spot x v last body) = suc (statements body)
  statements_in (while_ spot t turns x ks body) = suc (statements body)
  statements_in (locked spot e body) = suc (statements body)
  statements_in _ = 1

  pub statements : Block → ℕ
  statements done = 0
  statements (next s rest) = statements_in s + statements rest
