-- What a statement does, where each loop makes at most n turns. No annotation is read.
-- A step is a statement begun, a cycle of a transfer, a turn begun, a lock released (own).
-- It is the meaning of well-formed scripts: in these each table, LAM and procedure that is named is there (else it is wrong), each variable
-- is declared (else it is 0), and a call has as many arguments as its procedure has parameters (else those that lack are 0).
use Rattle.std.specs.Prelude.{ℕ, zero, suc, ◌+◌, ◌-◌, List, [], ◌∷◌, ◌++◌, Option, Some, None, Bool, true, option_map, nat_eq, nat_le, map, slice_get, unwrap_or}
use Rattle.camac_lang.specs.declared.word.WordSize.{WordSize}
use Rattle.camac_lang.specs.declared.word.WordSize.TheVariants.{Full, Short}
use Rattle.camac_lang.specs.Tree.{Condition, Move, no_data, into, from, Statement, assign, set_register, single, address_scan, q_stop, q_repeat, put, crate_call, lam_call, choose, choose_else, for_, for_each, while_, locked, call, Block, done, next, Lam, Procedure, Script}
use Rattle.camac_func.specs.declared.data.DataMove.TheVariants as moved
use Rattle.camac_branch.specs.Address.{Address, address}
use Rattle.camac_branch.specs.Allowed.{width}
use Rattle.camac_branch.specs.Plan.{Layout, crate_waits}
pub use Rattle.camac_esone.specs.Calls.{crate_address, crate_function, lam_function}
use Rattle.camac_esone.specs.Transfers.{NextAddress, q_stop_next, q_repeat_next, scan_next, tally}
use Rattle.camac_model.specs.State.{State, Variables, stepped, with_variable, with_register, with_word}
use Rattle.camac_model.specs.Behaviour.{ends, stops, more, Action, then_do, given, ◌>>=◌, decide, unless_wrong}
use Rattle.camac_model.specs.Value.{value, values, truth}
use Rattle.camac_model.specs.Cycle.{cycle, sized, kept, take_lock, release}
use Rattle.camac_model.specs.Transfer.{transfer}

-- what a statement may refer to, each by its number; of a procedure the body with at most n turns per loop
pub record Context : Type 0 where
  pub plan : Layout
  pub tables : List (List ℕ)
  pub lams : List Address
  pub routines : List (ℕ → Action)

-- a short write is at most 65,535
abbrev pub fits_size : WordSize → ℕ → Bool
fits_size Full v = true
fits_size Short v = nat_le v 65535

-- one cycle of a single action
abbrev pub act : Layout → Address → (function : ℕ) → WordSize → Move → Action
act plan at f size no_data s = cycle plan at f moved.None s.answers (λ r. ends) s
act plan at f size (into x) s =
    cycle plan at f moved.In s.answers (λ r t. ends (with_variable x (kept (sized size (width plan at f)) r) t)) s
act plan at f size (from e) s =
    given (value e s.variables) (λ v. unless_wrong (fits_size size v) (λ t. cycle plan at f (moved.Out v) t.answers (λ r. ends) t)) s

-- a transfer from its first cycle on, which ends by setting its tally
abbrev pub transfer_to : Layout → (function : ℕ) → (table : Option (List ℕ)) → NextAddress → (tally_variable : ℕ) → Action
transfer_to plan f table next_address x s =
    transfer plan f table next_address (λ qs t. ends (with_variable x (tally qs) t)) [] s.answers s

-- what a transfer sends: nothing, or the words of the table that is named
abbrev pub sent : Context → Option ℕ → Option (Option (List ℕ))
sent c None = Some None
sent c (Some k) = option_map Some (slice_get c.tables k)

-- a turn of a `for` begins
abbrev pub for_state : (variable current : ℕ) → State → State
for_state x v s = stepped (with_variable x v s)

-- further turns of a `for`, of which so many are allowed: its variable has the current value in the next one, and the last one at its end
abbrev pub for_turns : (turns allowed variable current last : ℕ) → Action → Action
for_turns zero n x v last body s = ends (with_variable x last s)
for_turns (suc k) zero x v last body s = stops more s
for_turns (suc k) (suc n) x v last body s = then_do (body (for_state x v s)) (for_turns k n x (v + 1) last body)

-- a `for` of k turns; without a turn the variable stays
abbrev pub for_from : (turns allowed variable first last : ℕ) → Action → Action
for_from zero n x v last body s = ends s
for_from (suc k) n x v last body s = for_turns (suc k) n x v last body s

-- at most n turns of a `while`
abbrev pub turns : (allowed : ℕ) → Condition → Action → Action
turns zero c body s = decide (truth c s.variables s.q s.x) (stops more) ends s
turns (suc n) c body s = decide (truth c s.variables s.q s.x) (λ t. then_do (body (stepped t)) (turns n c body)) ends s

-- the variables of a procedure's body: its parameters, set to the arguments
abbrev pub arguments : List ℕ → Variables
arguments vs x = unwrap_or (slice_get vs x) 0

-- no register is set
abbrev pub entered : List ℕ → State → State
entered vs s = record s { variables = arguments vs; registers = λ _. None }

-- the caller's variables and registers are as before
abbrev pub returned : State → State → State
returned caller s = record s { variables = caller.variables; registers = caller.registers }

-- a procedure on these arguments, by what its body does
abbrev pub enter : Action → List ℕ → Action
enter body vs s = then_do (body (entered vs s)) (λ t. ends (returned s t))

-- what a statement does once it is begun, and what a block does
abbrev mutual
  pub effect : Context → ℕ → Statement → Action
  effect c n (assign spot x e) s = (do
    v ← value e s.variables
    λ t. ends (with_variable x v t)) s
  effect c n (set_register spot r e1 e2 e3) s = (do
    crate_no ← value e1 s.variables
    station ← value e2 s.variables
    sub_address ← value e3 s.variables
    λ t. ends (with_register r (address crate_no station sub_address) t)) s
  effect c n (single spot size f r data') s = (do
    at ← s.registers r
    act c.plan at f size data') s
  effect c n (address_scan spot f r1 r2 max x) s = (do
    first ← s.registers r1
    last ← s.registers r2
    m ← value max s.variables
    unless_wrong (nat_eq first.crate_no last.crate_no) (transfer_to c.plan f None (scan_next first last m) x)) s
  effect c n (q_stop spot f r g max x) s = (do
    table ← sent c g
    at ← s.registers r
    m ← value max s.variables
    transfer_to c.plan f table (q_stop_next at m) x) s
  effect c n (q_repeat spot f r g max limit x) s = (do
    table ← sent c g
    at ← s.registers r
    m ← value max s.variables
    l ← value limit s.variables
    transfer_to c.plan f table (q_repeat_next at m l) x) s
  effect c n (put spot e) s = (do
    v ← value e s.variables
    λ t. ends (with_word v t)) s
  effect c n (crate_call spot k e) s = (do
    crate_no ← value e s.variables
    act c.plan (crate_address k crate_no) (crate_function k) Full no_data) s
  effect c n (lam_call spot k l) s = (do
    at ← slice_get c.lams l
    act c.plan at (lam_function k) Full no_data) s
  effect c n (choose spot test a) s = decide (truth test s.variables s.q s.x) (block_meaning c n a) ends s
  effect c n (choose_else spot test a b) s = decide (truth test s.variables s.q s.x) (block_meaning c n a) (block_meaning c n b) s
  effect c n (for_ spot x e1 e2 keeps body) s = (do
    first ← value e1 s.variables
    last ← value e2 s.variables
    for_from (last + 1 - first) n x first last (block_meaning c n body)) s
  effect c n (for_each spot x v last body) s = for_from (last + 1 - v) n x v last (block_meaning c n body) s
  effect c n (while_ spot test m k keeps body) s = turns n test (block_meaning c n body) s
  effect c n (locked spot e body) s = (do
    crate_no ← value e s.variables
    waits ← crate_waits c.plan crate_no
    λ t. take_lock crate_no waits (t.branch crate_no).locked (λ u. then_do (block_meaning c n body u) (release crate_no)) t) s
  effect c n (call spot p es) s = (do
    routine ← slice_get c.routines p
    vs ← values es s.variables
    enter (routine n) vs) s

  pub block_meaning : Context → ℕ → Block → Action
  block_meaning c n done s = ends s
  block_meaning c n (next st rest) s = then_do (effect c n st (stepped s)) (block_meaning c n rest)

-- a statement from its beginning on
abbrev pub meaning : Context → ℕ → Statement → Action
meaning c n st s = effect c n st (stepped s)

-- a procedure's body sees the procedures before it
abbrev pub with_procedure : Context → Procedure → Context
with_procedure c p = record c { routines = c.routines ++ (λ n. block_meaning c n p.body) ∷ [] }

-- the procedures after these, each of which sees those before it
abbrev pub routines_with : Context → List Procedure → List (ℕ → Action)
routines_with c [] = c.routines
routines_with c (p ∷ ps) = routines_with (with_procedure c p) ps

abbrev pub lam_address : Lam → Address
lam_address l = address l.crate_no l.station l.sub_address

-- the tables and LAMs of a script, and no procedure
abbrev pub bare : Layout → Script → Context
bare plan script = record {
  plan = plan;
  tables = map (λ t. t.words) script.tables;
  lams = map lam_address script.lams;
  routines = [];
}

-- what the services of a script may refer to
abbrev pub context : Layout → Script → Context
context plan script =
    record (bare plan script) { routines = routines_with (bare plan script) script.procedures }
