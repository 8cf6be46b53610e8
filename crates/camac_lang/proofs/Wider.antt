-- What may stand in a scope may stand in a wider one.
use Rattle.std.proofs.Common.{◌≡◌, ℕ, ◌<◌, ◌≤◌, suc, max, List, [], ◌∷◌, Option, Some, None, Bool, true, refl, sym, ap, arith}
use Rattle.std.specs.Prelude.{◌&&◌, not, nat_lt, nat_le, nat_eq, length, map, slice_get, option_and_then}
use Rattle.std.proofs.lemmas.Bool.{ltb-true, lt-ltb, and_parts}
use Rattle.camac_lang.specs.Depth.{inner_depth, statement_depth, depth_of, expression_depth, part_depth}
use Rattle.camac_lang.specs.Expressions.{Callable, Scope, refers, is_grouped, operators, expression_fits, test_fits, part_fits, condition_fits}
use Rattle.camac_lang.specs.Statements.{keeps_fit, table_fits, move_fits, head_fits, begun, after, after_block}
use Rattle.camac_lang.specs.Tests.{each, has, most, is_number, is_function, are_distinct}
use Rattle.camac_lang.specs.Tree.{Expression, number, variable, group, add, subtract, multiply, divide, remainder, Test, flag_q, flag_x, compare, Part, plain, negated, Condition, Move, no_data, into, from, Keep, Statement, assign, set_register, single, address_scan, q_stop, q_repeat, put, crate_call, lam_call, choose, choose_else, for_, for_each, while_, locked, call, Block, done, next}
use Rattle.camac_lang.proofs.Options.{Implies, unless_parts, then_parts, unless_implies, then_implies, and_implies, and_keeps}

-- a scope that has all that another has
pub record IsWider (c d : Scope) : Type 0 where
  pub variables : c.variables ≤ d.variables
  pub tables : c.tables ≤ d.tables
  pub lams : c.lams ≤ d.lams
  pub callables : (p : ℕ) (q : Callable) → slice_get c.callables p ≡ Some q → slice_get d.callables p ≡ Some q
  pub kind : d.is_procedure ≡ c.is_procedure

below : (x m n : ℕ) → m ≤ n → nat_lt x m ≡ true → nat_lt x n ≡ true
below x m n h e = lt-ltb x n (let l : x < m = ltb-true x m e in omega arith)

pub refers_wider : (v w : ℕ) → v ≤ w → (e : Expression) → refers v e ≡ true → refers w e ≡ true
refers_wider v w h (number n) e = e
refers_wider v w h (variable x) e = below x v w h e
refers_wider v w h (group a) e = refers_wider v w h a e
refers_wider v w h (add a b) e = and_implies _ _ _ _ (refers_wider v w h a) (refers_wider v w h b) e
refers_wider v w h (subtract a b) e = and_implies _ _ _ _ (refers_wider v w h a) (refers_wider v w h b) e
refers_wider v w h (multiply a b) e = and_implies _ _ _ _ (refers_wider v w h a) (refers_wider v w h b) e
refers_wider v w h (divide a d) e = and_implies (refers v a) (nat_le 1 d && is_number d) (refers w a) (nat_le 1 d && is_number d) (refers_wider v w h a) (λ k. k) e
refers_wider v w h (remainder a d) e = and_implies (refers v a) (nat_le 1 d && is_number d) (refers w a) (nat_le 1 d && is_number d) (refers_wider v w h a) (λ k. k) e

each_implies : {A : Type 0} (f g : A → Bool) → ((a : A) → f a ≡ true → g a ≡ true) → (as' : List A) → each f as' ≡ true → each g as' ≡ true
each_implies f g h [] e = refl
each_implies f g h (a ∷ rest) e = and_implies (f a) (each f rest) (g a) (each g rest) (h a) (each_implies f g h rest) e

module _ (c d : Scope) (wide : IsWider c d) where
  pub expression_wider : (e : Expression) → expression_fits c e ≡ true → expression_fits d e ≡ true
  expression_wider e =
      and_implies (refers c.variables e) (is_grouped e && nat_le (operators e) 32) (refers d.variables e) (is_grouped e && nat_le (operators e) 32) (refers_wider c.variables d.variables wide.variables e) (λ k. k)

  test_wider : (t : Test) → test_fits c t ≡ true → test_fits d t ≡ true
  test_wider flag_q e = refl
  test_wider flag_x e = refl
  test_wider (compare a k b) e = and_implies _ _ _ _ (expression_wider a) (expression_wider b) e

  part_wider : (p : Part) → part_fits c p ≡ true → part_fits d p ≡ true
  part_wider (plain t) = test_wider t
  part_wider (negated t) = test_wider t

  condition_wider : (ps : Condition) → condition_fits c ps ≡ true → condition_fits d ps ≡ true
  condition_wider ps = and_keeps (nat_le 1 (length ps)) _ _ (and_keeps (nat_le (length ps) 16) _ _ (each_implies (part_fits c) (part_fits d) part_wider ps))

  variable_wider : (x : ℕ) → nat_lt x c.variables ≡ true → nat_lt x d.variables ≡ true
  variable_wider x = below x c.variables d.variables wide.variables

  keeps_wider : (x : ℕ) (ks : List Keep) → keeps_fit c x ks ≡ true → keeps_fit d x ks ≡ true
  keeps_wider x ks = and_keeps (are_distinct (x ∷ map (λ k. k.variable) ks)) _ _ (each_implies (λ k. nat_lt k.variable c.variables && (is_number k.low && is_number k.high)) (λ k. nat_lt k.variable d.variables && (is_number k.low && is_number k.high)) (λ k. and_implies (nat_lt k.variable c.variables) (is_number k.low && is_number k.high) (nat_lt k.variable d.variables) (is_number k.low && is_number k.high) (variable_wider k.variable) (λ h. h)) ks)

  table_wider : (g : Option ℕ) → table_fits c g ≡ true → table_fits d g ≡ true
  table_wider None e = refl
  table_wider (Some g) e = below g c.tables d.tables wide.tables e

  move_wider : (m : Move) → move_fits c m ≡ true → move_fits d m ≡ true
  move_wider no_data e = refl
  move_wider (into x) e = variable_wider x e
  move_wider (from a) e = expression_wider a e

  arity_wider : (p n : ℕ) → has (slice_get c.callables p) (λ q. nat_eq q.parameters n) ≡ true → has (slice_get d.callables p) (λ q. nat_eq q.parameters n) ≡ true
  arity_wider p n = go (slice_get c.callables p) refl
    where
      go : (o : Option Callable) → slice_get c.callables p ≡ o → has o (λ q. nat_eq q.parameters n) ≡ true → has (slice_get d.callables p) (λ q. nat_eq q.parameters n) ≡ true
      go None x e = absurd (cc)
      go (Some q) x e = rw (wide.callables p q x) e

  kind_wider : not c.is_procedure ≡ true → not d.is_procedure ≡ true
  kind_wider e = rw wide.kind e

  pub head_wider : (seen : ℕ) (s : Statement) → head_fits c seen s ≡ true → head_fits d seen s ≡ true
  head_wider seen (assign spot x e) = and_implies _ _ _ _ (variable_wider x) (expression_wider e)
  head_wider seen (set_register spot r k n a) =
      and_keeps (nat_le r seen) _ _ (and_implies _ _ _ _ (expression_wider k) (and_implies _ _ _ _ (expression_wider n) (expression_wider a)))
  head_wider seen (single spot size f r m) = and_keeps (is_function f) _ _ (and_keeps (nat_lt r seen) _ _ (move_wider m))
  head_wider seen (address_scan spot f r1 r2 e x) =
      and_keeps (is_function f) _ _ (and_keeps (nat_lt r1 seen) _ _ (and_keeps (nat_lt r2 seen) _ _
      (and_implies _ _ _ _ (expression_wider e) (variable_wider x))))
  head_wider seen (q_stop spot f r g e x) =
      and_keeps (is_function f) _ _ (and_keeps (nat_lt r seen) _ _ (and_implies _ _ _ _ (table_wider g)
      (and_implies _ _ _ _ (expression_wider e) (variable_wider x))))
  head_wider seen (q_repeat spot f r g e l x) =
      and_keeps (is_function f) _ _ (and_keeps (nat_lt r seen) _ _ (and_implies _ _ _ _ (table_wider g)
      (and_implies _ _ _ _ (expression_wider e) (and_implies _ _ _ _ (expression_wider l) (variable_wider x)))))
  head_wider seen (put spot e) = expression_wider e
  head_wider seen (crate_call spot k e) = expression_wider e
  head_wider seen (lam_call spot k l) = below l c.lams d.lams wide.lams
  head_wider seen (choose spot t a) = condition_wider t
  head_wider seen (choose_else spot t a b) = condition_wider t
  head_wider seen (for_ spot x e1 e2 ks body) =
      and_implies _ _ _ _ (variable_wider x) (and_implies _ _ _ _ (expression_wider e1)
      (and_implies _ _ _ _ (expression_wider e2) (keeps_wider x ks)))
  head_wider seen (for_each spot x v last body) = and_implies _ _ _ _ (variable_wider x) (λ h. h)
  head_wider seen (while_ spot t turns x ks body) =
      and_implies _ _ _ _ (condition_wider t) (and_keeps (is_number turns) _ _ (and_implies _ _ _ _ (variable_wider x) (keeps_wider x ks)))
  head_wider seen (locked spot e body) = and_implies _ _ _ _ kind_wider (expression_wider e)
  head_wider seen (call spot p es) =
      and_implies _ _ _ _ (arity_wider p (length es)) (each_implies (expression_fits c) (expression_fits d) expression_wider es)

  begun_wider : (seen : ℕ) (s : Statement) → Implies (begun c seen s) (begun d seen s)
  begun_wider seen (set_register spot r k n a) =
      unless_implies (head_fits c seen (set_register spot r k n a)) (head_fits d seen (set_register spot r k n a)) (max seen (suc r)) (head_wider seen (set_register spot r k n a))
  begun_wider seen s = unless_implies (head_fits c seen s) (head_fits d seen s) seen (head_wider seen s)

  inner_wider : (seen : ℕ) (s : Statement) (b : Block) → ((k : ℕ) → Implies (after_block c k b) (after_block d k b)) → Implies (option_and_then (λ k. after_block c k b) (begun c seen s)) (option_and_then (λ k. after_block d k b) (begun d seen s))
  inner_wider seen s b h = then_implies (λ k. after_block c k b) (λ k. after_block d k b) (begun c seen s) (begun d seen s) (begun_wider seen s) h

  mutual
    pub statement_wider : (seen : ℕ) (s : Statement) → Implies (after c seen s) (after d seen s)
    statement_wider seen (choose spot t a) = inner_wider seen (choose spot t a) a (λ k. block_wider k a)
    statement_wider seen (choose_else spot t a b) =
        then_implies (λ k. after_block c k b) (λ k. after_block d k b) (option_and_then (λ k. after_block c k a) (begun c seen (choose_else spot t a b))) (option_and_then (λ k. after_block d k a) (begun d seen (choose_else spot t a b))) (inner_wider seen (choose_else spot t a b) a (λ k. block_wider k a)) (λ k. block_wider k b)
    statement_wider seen (for_ spot x e1 e2 ks body) = inner_wider seen (for_ spot x e1 e2 ks body) body (λ k. block_wider k body)
    statement_wider seen (for_each spot x v last body) = inner_wider seen (for_each spot x v last body) body (λ k. block_wider k body)
    statement_wider seen (while_ spot t turns x ks body) = inner_wider seen (while_ spot t turns x ks body) body (λ k. block_wider k body)
    statement_wider seen (locked spot e body) = inner_wider seen (locked spot e body) body (λ k. block_wider k body)
    statement_wider seen s = begun_wider seen s

    pub block_wider : (seen : ℕ) (b : Block) → Implies (after_block c seen b) (after_block d seen b)
    block_wider seen done k e = e
    block_wider seen (next s rest) k e =
        then_implies (λ i. after_block c i rest) (λ i. after_block d i rest) (after c seen s) (after d seen s) (statement_wider seen s) (λ i. block_wider i rest) k e

  depth_wider : (p n : ℕ) → has (slice_get c.callables p) (λ q. nat_eq q.parameters n) ≡ true → depth_of (slice_get c.callables p) ≡ depth_of (slice_get d.callables p)
  depth_wider p n = go (slice_get c.callables p) refl
    where
      go : (o : Option Callable) → slice_get c.callables p ≡ o → has o (λ q. nat_eq q.parameters n) ≡ true → depth_of o ≡ depth_of (slice_get d.callables p)
      go None x e = absurd (cc)
      go (Some q) x e = ap depth_of (sym (wide.callables p q x))

  -- a block has the same depth in both scopes
  abbrev SameDepth : Block → Type 0
  SameDepth b = (seen n : ℕ) → after_block c seen b ≡ Some n → inner_depth c.callables b ≡ inner_depth d.callables b

  inner_depth_wider : (n : ℕ) (o : Option ℕ) (b : Block) → SameDepth b → option_and_then (λ k. after_block c k b) o ≡ Some n → inner_depth c.callables b ≡ inner_depth d.callables b
  inner_depth_wider n o b ih h = let p = then_parts (λ k. after_block c k b) o n h in ih p.0 n p.2

  -- calls count the same depth in the wider scope
  mutual
    pub statement_depth_wider : (seen n : ℕ) (s : Statement) → after c seen s ≡ Some n → statement_depth c.callables s ≡ statement_depth d.callables s
    statement_depth_wider seen n (choose spot t a) h =
        ap (λ k. max (most part_depth t) (suc k)) (inner_depth_wider n (begun c seen (choose spot t a)) a (λ i m. block_depth_wider i m a) h)
    statement_depth_wider seen n (choose_else spot t a b) h =
        let o : Option ℕ = option_and_then (λ k. after_block c k a) (begun c seen (choose_else spot t a b)) in
        let p = then_parts (λ k. after_block c k b) o n h in
        let e : inner_depth c.callables a ≡ inner_depth d.callables a = inner_depth_wider p.0 (begun c seen (choose_else spot t a b)) a (λ i m. block_depth_wider i m a) p.1 in
        let g : inner_depth c.callables b ≡ inner_depth d.callables b = block_depth_wider p.0 n b p.2 in
        rw (e, g) refl
    statement_depth_wider seen n (for_ spot x e1 e2 ks body) h =
        ap (λ k. max (expression_depth e1) (max (expression_depth e2) (suc k))) (inner_depth_wider n (begun c seen (for_ spot x e1 e2 ks body)) body (λ i m. block_depth_wider i m body) h)
    statement_depth_wider seen n (for_each spot x v last body) h = ap suc (inner_depth_wider n (begun c seen (for_each spot x v last body)) body (λ i m. block_depth_wider i m body) h)
    statement_depth_wider seen n (while_ spot t turns x ks body) h =
        ap (λ k. max (most part_depth t) (suc k)) (inner_depth_wider n (begun c seen (while_ spot t turns x ks body)) body (λ i m. block_depth_wider i m body) h)
    statement_depth_wider seen n (locked spot e body) h =
        ap (λ k. max (expression_depth e) (suc k)) (inner_depth_wider n (begun c seen (locked spot e body)) body (λ i m. block_depth_wider i m body) h)
    statement_depth_wider seen n (call spot p es) h =
        let t = unless_parts (head_fits c seen (call spot p es)) seen n h in
        let a = and_parts (has (slice_get c.callables p) (λ q. nat_eq q.parameters (length es))) (each (expression_fits c) es) t.0 in
        ap (max (suc (most expression_depth es))) (depth_wider p (length es) a.0)
    statement_depth_wider seen n s h = refl

    pub block_depth_wider : (seen n : ℕ) (b : Block) → after_block c seen b ≡ Some n → inner_depth c.callables b ≡ inner_depth d.callables b
    block_depth_wider seen n done h = refl
    block_depth_wider seen n (next s rest) h =
        let p = then_parts (λ k. after_block c k rest) (after c seen s) n h in
        let e : statement_depth c.callables s ≡ statement_depth d.callables s = statement_depth_wider seen p.0 s p.1 in
        let g : inner_depth c.callables rest ≡ inner_depth d.callables rest = block_depth_wider p.0 n rest p.2 in
        rw (e, g) refl
