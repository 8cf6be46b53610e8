-- A statement of a body that is well formed fits a store that is large enough.
use Rattle.std.proofs.Common.{◌≡◌, ℕ, suc, ◌<◌, ◌≤◌, List, [], ◌∷◌, Some, true, sym, ap, subst, arith}
use Rattle.std.specs.Prelude.{◌-◌, ◌&&◌, not, max, length, slice_get, nat_eq, nat_le, nat_lt}
use Rattle.std.proofs.lemmas.Bool.{and_parts, eqb-true, ltb-true}
use Rattle.camac_lang.specs.Depth.{depth_of, statement_depth, inner_depth}
use Rattle.camac_lang.specs.Expressions.{Scope, refers, expression_fits, test_fits, part_fits, condition_fits}
use Rattle.camac_lang.specs.Statements.{table_fits, move_fits, keeps_fit, after, after_block}
use Rattle.camac_lang.specs.Tests.{each, has, is_number, is_function}
use Rattle.camac_lang.specs.Tree.{Expression, Test, flag_q, flag_x, compare, Part, plain, negated, Condition, Move, no_data, into, from, Statement, assign, set_register, single, address_scan, q_stop, q_repeat, put, crate_call, lam_call, choose, choose_else, for_, for_each, while_, locked, call, Block, done, next}
use Rattle.camac_lang.proofs.Wider.{refers_wider}
use Rattle.camac_lang.proofs.Grows.{block_grows}
use Rattle.camac_lang.proofs.Places.{has_parts}
use Rattle.camac_lang.proofs.Options.{unless_parts, then_parts}
use Rattle.camac_machine.specs.Within.{Reach, AllRefer, Refers, TestRefers, PartRefers, PartsRefer, MoveFits, StatementFits, BlockFits}

-- a body may refer to all of a scope
pub record Reaches (s : Scope) (to : Reach) : Type 0 where
  pub variables : s.variables ≤ to.variables
  pub tables : s.tables ≤ to.tables
  pub lams : s.lams ≤ to.lams
  pub procedures : s.callables ≡ to.procedures

module _ (s : Scope) (to : Reach) (all : Reaches s to) where
  abbrev v : ℕ
  v = to.variables

  refers_in : (e : Expression) → expression_fits s e ≡ true → Refers v e
  refers_in e h = refers_wider s.variables v all.variables e (and_parts (refers s.variables e) _ h).0

  move_in : (m : Move) → move_fits s m ≡ true → MoveFits v m
  move_in no_data h = tt
  move_in (into x) h = let lt : x < s.variables = ltb-true x s.variables h in let few = all.variables in omega (arith, lt, few)
  move_in (from e) h = refers_in e h

  test_in : (t : Test) → test_fits s t ≡ true → TestRefers v t
  test_in flag_q h = tt
  test_in flag_x h = tt
  test_in (compare a c b) h =
      let p = and_parts (expression_fits s a) (expression_fits s b) h in (refers_in a p.0, refers_in b p.1)

  part_in : (p : Part) → part_fits s p ≡ true → PartRefers v p
  part_in (plain t) h = test_in t h
  part_in (negated t) h = test_in t h

  parts_in : (ps : Condition) → each (part_fits s) ps ≡ true → PartsRefer v ps
  parts_in [] h = tt
  parts_in (p ∷ ps) h =
      let k = and_parts (part_fits s p) (each (part_fits s) ps) h in (part_in p k.0, parts_in ps k.1)

  condition_in : (ps : Condition) → condition_fits s ps ≡ true → PartsRefer v ps
  condition_in ps h =
      let k = and_parts (nat_le 1 (length ps)) (nat_le (length ps) 16 && each (part_fits s) ps) h in
      parts_in ps (and_parts (nat_le (length ps) 16) (each (part_fits s) ps) k.1).1

  arguments_in : (es : List Expression) → each (expression_fits s) es ≡ true → AllRefer v es
  arguments_in [] h = tt
  arguments_in (e ∷ es) h =
      let k = and_parts (expression_fits s e) (each (expression_fits s) es) h in (refers_in e k.0, arguments_in es k.1)

  mutual
    statement_fits : (t : Statement) (seen m d : ℕ) → after s seen t ≡ Some m → m ≤ to.registers → statement_depth s.callables t ≤ d → StatementFits to d t
    statement_fits (assign spot x e) seen m d b le deep =
        let h = (unless_parts _ seen m b).0 in
        let p = and_parts (nat_lt x s.variables) (expression_fits s e) h in
        let lt : x < s.variables = ltb-true x s.variables p.0 in
        let few = all.variables in (omega (arith, lt, few), refers_in e p.1)
    statement_fits (set_register spot r e1 e2 e3) seen m d b le deep =
        let h = unless_parts _ (max seen (suc r)) m b in
        let p = and_parts _ (expression_fits s e1 && (expression_fits s e2 && expression_fits s e3)) h.0 in
        let q = and_parts (expression_fits s e1) (expression_fits s e2 && expression_fits s e3) p.1 in
        let t = and_parts (expression_fits s e2) (expression_fits s e3) q.1 in
        let top = h.1 in (omega (arith, top), refers_in e1 q.0, refers_in e2 t.0, refers_in e3 t.1)
    statement_fits (single spot size f r w) seen m d b le deep =
        let h = unless_parts _ seen m b in
        let p = and_parts (is_function f) (nat_lt r seen && move_fits s w) h.0 in
        let q = and_parts (nat_lt r seen) (move_fits s w) p.1 in
        let lt : r < seen = ltb-true r seen q.0 in
        let same = h.1 in (omega (arith, same), move_in w q.1)
    statement_fits (put spot e) seen m d b le deep = refers_in e (unless_parts _ seen m b).0
    statement_fits (crate_call spot which e) seen m d b le deep = refers_in e (unless_parts _ seen m b).0
    statement_fits (lam_call spot which i) seen m d b le deep =
        let lt : i < s.lams = ltb-true i s.lams (unless_parts _ seen m b).0 in
        let few = all.lams in omega (arith, lt, few)
    statement_fits (choose spot test first) seen m d b le deep =
        let p = then_parts (λ k. after_block s k first) _ m b in
        let h = unless_parts (condition_fits s test) seen p.0 p.1 in
        (condition_in test h.0, omega (arith, deep), block_fits first p.0 m (d - 1) p.2 le (omega (arith, deep)))
    statement_fits (choose_else spot test first second) seen m d b le deep =
        let p = then_parts (λ k. after_block s k second) _ m b in
        let q = then_parts (λ k. after_block s k first) _ p.0 p.1 in
        let h = unless_parts (condition_fits s test) seen q.0 q.1 in
        let grows : p.0 ≤ m = block_grows s p.0 m second p.2 in (
          condition_in test h.0,
          omega (arith, deep),
          block_fits first q.0 p.0 (d - 1) q.2 (omega (arith, grows, le)) (omega (arith, deep)),
          block_fits second p.0 m (d - 1) p.2 le (omega (arith, deep)),
        )
    statement_fits (locked spot e body) seen m d b le deep =
        let p = then_parts (λ k. after_block s k body) _ m b in
        let h = unless_parts (not s.is_procedure && expression_fits s e) seen p.0 p.1 in (
          refers_in e (and_parts (not s.is_procedure) (expression_fits s e) h.0).1,
          omega (arith, deep),
          block_fits body p.0 m (d - 1) p.2 le (omega (arith, deep)),
        )
    statement_fits (address_scan spot f r1 r2 e x) seen m d b le deep =
        let h = unless_parts _ seen m b in
        let p = and_parts (is_function f) (nat_lt r1 seen && (nat_lt r2 seen && (expression_fits s e && nat_lt x s.variables))) h.0 in
        let q = and_parts (nat_lt r1 seen) (nat_lt r2 seen && (expression_fits s e && nat_lt x s.variables)) p.1 in
        let t = and_parts (nat_lt r2 seen) (expression_fits s e && nat_lt x s.variables) q.1 in
        let u = and_parts (expression_fits s e) (nat_lt x s.variables) t.1 in
        let first : r1 < seen = ltb-true r1 seen q.0 in
        let last : r2 < seen = ltb-true r2 seen t.0 in
        let lt : x < s.variables = ltb-true x s.variables u.1 in
        let few = all.variables in
        let same = h.1 in (omega (arith, first, same, le), omega (arith, last, same, le), refers_in e u.0, omega (arith, lt, few))
    statement_fits (q_stop spot f r g e x) seen m d b le deep =
        let h = unless_parts _ seen m b in
        let p = and_parts (is_function f) (nat_lt r seen && (table_fits s g && (expression_fits s e && nat_lt x s.variables))) h.0 in
        let q = and_parts (nat_lt r seen) (table_fits s g && (expression_fits s e && nat_lt x s.variables)) p.1 in
        let t = and_parts (table_fits s g) (expression_fits s e && nat_lt x s.variables) q.1 in
        let u = and_parts (expression_fits s e) (nat_lt x s.variables) t.1 in
        let first : r < seen = ltb-true r seen q.0 in
        let lt : x < s.variables = ltb-true x s.variables u.1 in
        let few = all.variables in
        let same = h.1 in (omega (arith, first, same, le), refers_in e u.0, omega (arith, lt, few))
    statement_fits (q_repeat spot f r g e l x) seen m d b le deep =
        let h = unless_parts _ seen m b in
        let p = and_parts (is_function f) (nat_lt r seen && (table_fits s g && (expression_fits s e && (expression_fits s l && nat_lt x s.variables)))) h.0 in
        let q = and_parts (nat_lt r seen) (table_fits s g && (expression_fits s e && (expression_fits s l && nat_lt x s.variables))) p.1 in
        let t = and_parts (table_fits s g) (expression_fits s e && (expression_fits s l && nat_lt x s.variables)) q.1 in
        let u = and_parts (expression_fits s e) (expression_fits s l && nat_lt x s.variables) t.1 in
        let w = and_parts (expression_fits s l) (nat_lt x s.variables) u.1 in
        let first : r < seen = ltb-true r seen q.0 in
        let lt : x < s.variables = ltb-true x s.variables w.1 in
        let few = all.variables in
        let same = h.1 in (omega (arith, first, same, le), refers_in e u.0, refers_in l w.0, omega (arith, lt, few))
    statement_fits (for_ spot x e1 e2 keeps body) seen m d b le deep =
        let p = then_parts (λ k. after_block s k body) _ m b in
        let h = unless_parts _ seen p.0 p.1 in
        let q = and_parts (nat_lt x s.variables) (expression_fits s e1 && (expression_fits s e2 && keeps_fit s x keeps)) h.0 in
        let t = and_parts (expression_fits s e1) (expression_fits s e2 && keeps_fit s x keeps) q.1 in
        let lt : x < s.variables = ltb-true x s.variables q.0 in
        let few = all.variables in (
          omega (arith, lt, few),
          refers_in e1 t.0,
          refers_in e2 (and_parts (expression_fits s e2) (keeps_fit s x keeps) t.1).0,
          omega (arith, deep),
          block_fits body p.0 m (d - 1) p.2 le (omega (arith, deep)),
        )
    statement_fits (for_each spot x first last body) seen m d b le deep =
        let p = then_parts (λ k. after_block s k body) _ m b in
        let h = unless_parts _ seen p.0 p.1 in
        let lt : x < s.variables = ltb-true x s.variables (and_parts (nat_lt x s.variables) (is_number first && is_number last) h.0).0 in
        let few = all.variables in
        (omega (arith, lt, few), omega (arith, deep), block_fits body p.0 m (d - 1) p.2 le (omega (arith, deep)))
    statement_fits (while_ spot test most' i keeps body) seen m d b le deep =
        let p = then_parts (λ k. after_block s k body) _ m b in
        let h = unless_parts _ seen p.0 p.1 in
        let q = and_parts (condition_fits s test) (is_number most' && (nat_lt i s.variables && keeps_fit s i keeps)) h.0 in
        (condition_in test q.0, omega (arith, deep), block_fits body p.0 m (d - 1) p.2 le (omega (arith, deep)))
    statement_fits (call spot p es) seen m d b le deep =
        let h = (unless_parts _ seen m b).0 in
        let k = and_parts (has (slice_get s.callables p) (λ q. nat_eq q.parameters (length es))) (each (expression_fits s) es) h in
        let q = has_parts (slice_get s.callables p) (λ q. nat_eq q.parameters (length es)) k.0 in
        let there : depth_of (slice_get s.callables p) ≡ q.0.depth = ap depth_of q.1 in
        record {
          callee = q.0;
          there = subst (λ qs. slice_get qs p ≡ Some q.0) all.procedures q.1;
          count = sym (eqb-true q.0.parameters (length es) q.2);
          refer = arguments_in es k.1;
          depth = omega (arith, deep, there);
        }

    pub block_fits : (b : Block) (seen n d : ℕ) → after_block s seen b ≡ Some n → n ≤ to.registers → inner_depth s.callables b ≤ d → BlockFits to d b
    block_fits done seen n d h le deep = tt
    block_fits (next t rest) seen n d h le deep =
        let p = then_parts (λ m. after_block s m rest) (after s seen t) n h in
        let grows : p.0 ≤ n = block_grows s p.0 n rest p.2 in (
          statement_fits t seen p.0 d p.1 (omega (arith, grows, le)) (omega (arith, deep)),
          block_fits rest p.0 n d p.2 le (omega (arith, deep)),
        )
