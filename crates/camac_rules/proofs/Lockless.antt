-- Which statements take a lock; no procedure's body does.
use Rattle.std.proofs.Common.{◌≡◌, ℕ, Bool, true, false, Option, Some, None, refl, sym, ◌∙◌}
use Rattle.std.specs.Prelude.{◌||◌, not, option_and_then}
use Rattle.std.proofs.lemmas.Bool.{and_parts, not-true, false≢true}
use Rattle.camac_lang.specs.Expressions.{Scope, expression_fits}
use Rattle.camac_lang.specs.Tests.{unless_broken}
use Rattle.camac_lang.specs.Tree.{Statement, assign, set_register, single, address_scan, q_stop, q_repeat, put, crate_call, lam_call, choose, choose_else, for_, for_each, while_, locked, call, Block, done, next}
use Rattle.camac_lang.specs.Statements.{head_fits, begun, after, after_block}

abbrev mutual
  pub has_lock : Statement → Bool
  has_lock (assign spot x e) = false
  has_lock (set_register spot r e1 e2 e3) = false
  has_lock (single spot size f r m) = false
  has_lock (address_scan spot f r1 r2 e x) = false
  has_lock (q_stop spot f r t e x) = false
  has_lock (q_repeat spot f r t e1 e2 x) = false
  has_lock (put spot e) = false
  has_lock (crate_call spot which e) = false
  has_lock (lam_call spot which l) = false
  has_lock (choose spot test a) = block_has_lock a
  has_lock (choose_else spot test a b) = block_has_lock a || block_has_lock b
  has_lock (for_ spot x e1 e2 qs body) = block_has_lock body
  has_lock (for_each spot x v last body) = block_has_lock body
  has_lock (while_ spot test most m qs body) = block_has_lock body
  has_lock (locked spot e body) = true
  has_lock (call spot p es) = false

  pub block_has_lock : Block → Bool
  block_has_lock done = false
  block_has_lock (next st rest) = has_lock st || block_has_lock rest

-- what is answered of something
found : {X : Type 0} (g : X → Option ℕ) (o : Option X) (n : ℕ) → option_and_then g o ≡ Some n → (x : X) × (o ≡ Some x) × (g x ≡ Some n)
found g None n h = cc
found g (Some x) n h = (x, refl, h)

both_false : (a b : Bool) → a ≡ false → b ≡ false → (a || b) ≡ false
both_false true b e f = e
both_false false b e f = f

not_broken : (b : Bool) (v n : ℕ) → unless_broken b v ≡ Some n → b ≡ true
not_broken true v n e = refl
not_broken false v n e = cc

module _ (c : Scope) (in_procedure : c.is_procedure ≡ true) where
  mutual
    statement_lockless : (st : Statement) (seen n : ℕ) → after c seen st ≡ Some n → has_lock st ≡ false
    statement_lockless (assign spot x e) seen n h = refl
    statement_lockless (set_register spot r e1 e2 e3) seen n h = refl
    statement_lockless (single spot size f r m) seen n h = refl
    statement_lockless (address_scan spot f r1 r2 e x) seen n h = refl
    statement_lockless (q_stop spot f r t e x) seen n h = refl
    statement_lockless (q_repeat spot f r t e1 e2 x) seen n h = refl
    statement_lockless (put spot e) seen n h = refl
    statement_lockless (crate_call spot which e) seen n h = refl
    statement_lockless (lam_call spot which l) seen n h = refl
    statement_lockless (choose spot test a) seen n h =
        let p = found (λ k. after_block c k a) (begun c seen (choose spot test a)) n h in
        block_lockless a p.0 n p.2
    statement_lockless (choose_else spot test a b) seen n h =
        let p = found (λ k. after_block c k b) (option_and_then (λ k. after_block c k a) (begun c seen (choose_else spot test a b))) n h in
        let q = found (λ k. after_block c k a) (begun c seen (choose_else spot test a b)) p.0 p.1 in
        both_false (block_has_lock a) (block_has_lock b) (block_lockless a q.0 p.0 q.2) (block_lockless b p.0 n p.2)
    statement_lockless (for_ spot x e1 e2 qs body) seen n h =
        let p = found (λ k. after_block c k body) (begun c seen (for_ spot x e1 e2 qs body)) n h in
        block_lockless body p.0 n p.2
    statement_lockless (for_each spot x v last body) seen n h =
        let p = found (λ k. after_block c k body) (begun c seen (for_each spot x v last body)) n h in
        block_lockless body p.0 n p.2
    statement_lockless (while_ spot test most m qs body) seen n h =
        let p = found (λ k. after_block c k body) (begun c seen (while_ spot test most m qs body)) n h in
        block_lockless body p.0 n p.2
    statement_lockless (locked spot e body) seen n h =
        let p = found (λ k. after_block c k body) (begun c seen (locked spot e body)) n h in
        let fits = not_broken (head_fits c seen (locked spot e body)) seen p.0 p.1 in
        let none = not-true c.is_procedure (and_parts (not c.is_procedure) (expression_fits c e) fits).0 in
        absurd (false≢true (sym none ∙ in_procedure))
    statement_lockless (call spot p es) seen n h = refl

    pub block_lockless : (b : Block) (seen n : ℕ) → after_block c seen b ≡ Some n → block_has_lock b ≡ false
    block_lockless done seen n h = refl
    block_lockless (next st rest) seen n h =
        let p = found (λ k. after_block c k rest) (after c seen st) n h in
        both_false (has_lock st) (block_has_lock rest) (statement_lockless st seen p.0 p.1) (block_lockless rest p.0 n p.2)
