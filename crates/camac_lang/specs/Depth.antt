-- How many brackets and braces are open at once: the depth.
use Rattle.std.specs.Prelude.{ℕ, suc, max, List, [], ◌∷◌, ◌++◌, Option, Some, None, length, slice_get}
use Rattle.camac_lang.specs.Expressions.{Callable}
use Rattle.camac_lang.specs.Tests.{most}
use Rattle.camac_lang.specs.Tree.{Expression, number, variable, group, add, subtract, multiply, divide, remainder, Test, flag_q, flag_x, compare, Part, plain, negated, Move, no_data, into, from, Statement, assign, set_register, single, address_scan, q_stop, q_repeat, put, crate_call, lam_call, choose, choose_else, for_, for_each, while_, locked, call, Block, done, next, Procedure, Script}

-- the most open brackets and braces at once
abbrev pub expression_depth : Expression → ℕ
expression_depth (number n) = 0
expression_depth (variable x) = 0
expression_depth (group e) = suc (expression_depth e)
expression_depth (add a b) = max (expression_depth a) (expression_depth b)
expression_depth (subtract a b) = max (expression_depth a) (expression_depth b)
expression_depth (multiply a b) = max (expression_depth a) (expression_depth b)
expression_depth (divide e d) = expression_depth e
expression_depth (remainder e d) = expression_depth e

abbrev pub test_depth : Test → ℕ
test_depth flag_q = 0
test_depth flag_x = 0
test_depth (compare a k b) = max (expression_depth a) (expression_depth b)

abbrev pub part_depth : Part → ℕ
part_depth (plain t) = test_depth t
part_depth (negated t) = test_depth t

abbrev pub move_depth : Move → ℕ
move_depth no_data = 0
move_depth (into x) = 0
move_depth (from e) = expression_depth e

abbrev pub depth_of : Option Callable → ℕ
depth_of None = 0
depth_of (Some q) = q.depth

-- of a statement, and of a block from its brace on; a call counts the procedure called
abbrev mutual
  pub statement_depth : List Callable → Statement → ℕ
  statement_depth qs (assign spot x e) = expression_depth e
  statement_depth qs (set_register spot r k n a) = max (expression_depth k) (max (expression_depth n) (expression_depth a))
  statement_depth qs (single spot size f r m) = move_depth m
  statement_depth qs (address_scan spot f r1 r2 e x) = expression_depth e
  statement_depth qs (q_stop spot f r g e x) = expression_depth e
  statement_depth qs (q_repeat spot f r g e l x) = max (expression_depth e) (expression_depth l)
  statement_depth qs (put spot e) = expression_depth e
  statement_depth qs (crate_call spot k e) = expression_depth e
  statement_depth qs (lam_call spot k l) = 0
  statement_depth qs (choose spot t a) = max (most part_depth t) (suc (inner_depth qs a))
  statement_depth qs (choose_else spot t a b) = max (most part_depth t) (max (suc (inner_depth qs a)) (suc (inner_depth qs b)))
  statement_depth qs (for_ spot x e1 e2 ks body) =
      max (expression_depth e1) (max (expression_depth e2) (suc (inner_depth qs body)))
  statement_depth qs (for_each spot x v last body) = suc (inner_depth qs body)
  statement_depth qs (while_ spot t turns x ks body) = max (most part_depth t) (suc (inner_depth qs body))
  statement_depth qs (locked spot e body) = max (expression_depth e) (suc (inner_depth qs body))
  statement_depth qs (call spot p es) = max (suc (most expression_depth es)) (depth_of (slice_get qs p))

  pub inner_depth : List Callable → Block → ℕ
  inner_depth qs done = 0
  inner_depth qs (next s rest) = max (statement_depth qs s) (inner_depth qs rest)

-- a procedure that can be called, where these can be called before it
abbrev pub callable : List Callable → Procedure → Callable
callable qs p = record { parameters = length p.parameters; depth = suc (inner_depth qs p.body) }

-- what can be called after these procedures
abbrev pub callables_after : List Callable → List Procedure → List Callable
callables_after qs [] = qs
callables_after qs (p ∷ ps) = callables_after (qs ++ callable qs p ∷ []) ps

-- of a script: the most anywhere in it, procedures that nothing calls counted too
abbrev pub script_depth : Script → ℕ
script_depth s =
    let qs : List Callable = callables_after [] s.procedures in
    max (most (λ q. q.depth) qs) (most (λ v. suc (inner_depth qs v.body)) s.services)
