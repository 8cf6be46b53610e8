-- What a script's statements need of a fixed store.
use Rattle.std.specs.Prelude.{◌≡◌, ℕ, ◌+◌, ◌-◌, ◌<◌, ◌≤◌, List, [], ◌∷◌, true, length, take, Some, slice_get}
use Rattle.camac_lang.specs.Depth.{callables_after}
use Rattle.camac_lang.specs.Expressions.{Callable, refers}
use Rattle.camac_lang.specs.Tests.{total}
use Rattle.camac_lang.specs.Tree.{Expression, Test, flag_q, flag_x, compare, Part, plain, negated, Condition, Move, no_data, into, from, Script, Statement, assign, set_register, single, address_scan, q_stop, q_repeat, put, crate_call, lam_call, choose, choose_else, for_, for_each, while_, locked, call, Block, done, next}
use Rattle.camac_machine.specs.Rest.{Owner, nothing, releases, for_loop, while_loop, returns, Open}
use Rattle.camac_machine.specs.Store.{size}
use Rattle.camac_machine.specs.declared.scope.Scope.{Scope}

-- what the statements of a body may refer to
pub record Reach : Type 0 where
  pub variables : ℕ
  pub registers : ℕ
  pub tables : ℕ
  pub lams : ℕ
  pub procedures : List Callable

-- what a body may refer to that sees this of a script
abbrev pub reach_of : Script → Scope → Reach
reach_of s c = record {
  variables = size c.variables;
  registers = size c.registers;
  tables = length s.tables;
  lams = length s.lams;
  procedures = callables_after [] (take c.procedures s.procedures);
}

-- of v places, those of the procedures that it sees lie after its own
pub record ScopeFits (v : ℕ) (s : Script) (c : Scope) : Type 0 where
  pub variables : c.variables.start ≤ c.variables.end
  pub registers : c.registers.start ≤ c.registers.end
  pub more_variables : c.variables.end + total (λ p. length p.parameters) (take c.procedures s.procedures) ≤ v
  pub more_registers : c.registers.end + total (λ p. length p.registers) (take c.procedures s.procedures) ≤ v

-- each variable is below v
abbrev pub Refers : ℕ → Expression → Type 0
Refers v e = refers v e ≡ true

abbrev pub TestRefers : ℕ → Test → Type 0
TestRefers v flag_q = Unit {0}
TestRefers v flag_x = Unit {0}
TestRefers v (compare a c b) = Refers v a × Refers v b

abbrev pub PartRefers : ℕ → Part → Type 0
PartRefers v (plain t) = TestRefers v t
PartRefers v (negated t) = TestRefers v t

abbrev pub PartsRefer : ℕ → Condition → Type 0
PartsRefer v [] = Unit {0}
PartsRefer v (p ∷ ps) = PartRefers v p × PartsRefer v ps

abbrev pub MoveFits : ℕ → Move → Type 0
MoveFits v no_data = Unit {0}
MoveFits v (into x) = x < v
MoveFits v (from e) = Refers v e

abbrev pub AllRefer : ℕ → List Expression → Type 0
AllRefer v [] = Unit {0}
AllRefer v (e ∷ es) = Refers v e × AllRefer v es

-- one of the procedures that may be called, with an argument for each parameter, and of a depth of at most d
pub record CallFits (r : Reach) (d p : ℕ) (es : List Expression) : Type 0 where
  pub callee : Callable
  pub there : slice_get r.procedures p ≡ Some callee
  pub count : length es ≡ callee.parameters
  pub refer : AllRefer r.variables es
  pub depth : callee.depth ≤ d

abbrev mutual
  -- it refers to what it may, and inside it at most d blocks are open
  pub StatementFits : Reach → ℕ → Statement → Type 0
  StatementFits r d (assign spot x e) = (x < r.variables) × Refers r.variables e
  StatementFits r d (set_register spot i k m a) = (i < r.registers) × Refers r.variables k × Refers r.variables m × Refers r.variables a
  StatementFits r d (single spot size f i data') = (i < r.registers) × MoveFits r.variables data'
  StatementFits r d (put spot e) = Refers r.variables e
  StatementFits r d (crate_call spot k e) = Refers r.variables e
  StatementFits r d (lam_call spot k i) = i < r.lams
  StatementFits r d (address_scan spot f i1 i2 max x) = (i1 < r.registers) × (i2 < r.registers) × Refers r.variables max × (x < r.variables)
  StatementFits r d (q_stop spot f i g max x) = (i < r.registers) × Refers r.variables max × (x < r.variables)
  StatementFits r d (q_repeat spot f i g max limit x) = (i < r.registers) × Refers r.variables max × Refers r.variables limit × (x < r.variables)
  StatementFits r d (choose spot test a) = PartsRefer r.variables test × (0 < d) × BlockFits r (d - 1) a
  StatementFits r d (choose_else spot test a b) = PartsRefer r.variables test × (0 < d) × BlockFits r (d - 1) a × BlockFits r (d - 1) b
  StatementFits r d (for_ spot x e1 e2 keeps body) = (x < r.variables) × Refers r.variables e1 × Refers r.variables e2 × (0 < d) × BlockFits r (d - 1) body
  StatementFits r d (for_each spot x v last body) = (x < r.variables) × (0 < d) × BlockFits r (d - 1) body
  StatementFits r d (while_ spot test m k keeps body) = PartsRefer r.variables test × (0 < d) × BlockFits r (d - 1) body
  StatementFits r d (locked spot e body) = Refers r.variables e × (0 < d) × BlockFits r (d - 1) body
  StatementFits r d (call spot p es) = CallFits r d p es

  -- the same of each statement of a block that is open
  pub BlockFits : Reach → ℕ → Block → Type 0
  BlockFits r d done = Unit {0}
  BlockFits r d (next s rest) = StatementFits r d s × BlockFits r d rest

-- a block that is still to be opened where d more can be
abbrev pub Opens : Reach → ℕ → Block → Type 0
Opens r d b = (0 < d) × BlockFits r (d - 1) b

-- the places of a caller lie before those of the procedure
abbrev pub IsAfter : (caller procedure : Scope) → Type 0
IsAfter p c = (p.variables.end ≤ c.variables.start) × (p.registers.end ≤ c.registers.start)

-- what goes on after a block of a body that sees this of a script, where d can be open
abbrev pub OwnerFits : ℕ → Script → Scope → ℕ → Owner → Type 0
OwnerFits v s c d nothing = Unit {0}
OwnerFits v s c d (releases k) = (1 ≤ k) × (k ≤ 7)
OwnerFits v s c d (for_loop x i last n body) = (x < size c.variables) × Opens (reach_of s c) d body
OwnerFits v s c d (while_loop test n body) = PartsRefer (size c.variables) test × Opens (reach_of s c) d body
OwnerFits v s c d (returns p vs rs) = IsAfter p c × ScopeFits v s p

-- what is seen once a block is over
abbrev pub outer : Scope → Owner → Scope
outer c (returns p vs rs) = p
outer c _ = c

-- what is seen once all these blocks are over, the last of which sees c
abbrev pub outside : Scope → List Open → Scope
outside c [] = c
outside c (o ∷ os) = outer (outside c os) o.owner

-- at most d blocks are open, each of which fits what it sees
abbrev pub OpenFit : ℕ → Script → Scope → ℕ → List Open → Type 0
OpenFit v s c d [] = Unit {0}
OpenFit v s c d (o ∷ os) =
    Opens (reach_of s (outside c os)) d o.block × OwnerFits v s (outside c os) d o.owner × OpenFit v s c (d - 1) os
