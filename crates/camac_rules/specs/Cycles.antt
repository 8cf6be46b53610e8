-- The rules of single actions. A rule's lines stand in the order of its tests.
use Rattle.std.specs.Prelude.{ℕ, ◌-◌, ◌^◌, Bool, true, false, not, ◌&&◌, List, [], ◌∷◌, Some, Result, Ok, nat_lt}
use Rattle.camac_lang.specs.declared.word.WordSize.{WordSize}
use Rattle.camac_lang.specs.Tree.{Expression, Procedure, Move, no_data, into, from}
use Rattle.camac_range.specs.Interval.{Interval, interval}
use Rattle.camac_func.specs.declared.code.FunctionClass.{FunctionClass}
use Rattle.camac_func.specs.declared.code.FunctionClass.TheVariants.{Read, Write, Control}
use Rattle.camac_branch.specs.Address.{Address}
use Rattle.camac_branch.specs.Plan.{Layout}
use Rattle.camac_func.specs.Class.{class_of}
use Rattle.camac_model.specs.Cycle.{sized}
use Rattle.camac_model.specs.Meaning.{fits_size}
use Rattle.camac_model.specs.Fine.{Bounds}
use Rattle.camac_rules.specs.declared.case.Body.{Body}
use Rattle.camac_rules.specs.declared.case.Case.TheVariants.{Unset, Counted, Width}
use Rattle.camac_rules.specs.declared.rule.CheckRule.TheVariants.{WrongDirection, ValueTooWide, RegisterUnset, LoopVariableAssigned}
use Rattle.camac_rules.specs.Cases.{direction}
use Rattle.camac_rules.specs.Fault.{Fault}
use Rattle.camac_rules.specs.Refusal.{◌>>=◌, ◌>>◌, required, given}
use Rattle.camac_rules.specs.Known.{Facts, region_at, with_range}
use Rattle.camac_rules.specs.Expressions.{range_of}
use Rattle.camac_rules.specs.Costs.{costs, Verdict, verdict}
use Rattle.camac_rules.specs.Addresses.{is_among, command_widths, cycle_cost}
use Rattle.camac_lang.specs.declared.spot.Spot.{Spot}

-- What a statement may refer to by its number, and what becomes of each cost: by the rules it stays, in code it is cut at a greatest number.
pub record Context : Type 0 where
  pub plan : Layout
  pub tables : List (List ℕ)
  pub lams : List Address
  -- those before
  pub procedures : List Procedure
  pub limit : Bounds → Bounds

-- what stands around a statement: the body, the variables of the `for` loops, and the crates that are locked
pub record Around : Type 0 where
  pub body : Body
  pub fixed : List ℕ
  pub locked : List ℕ

abbrev pub alone_in : Body → Around
alone_in body = record { body = body; fixed = []; locked = [] }

abbrev pub with_locked : ℕ → Around → Around
with_locked c around = record { body = around.body; fixed = around.fixed; locked = c ∷ around.locked }

abbrev pub may_write : Around → ℕ → Bool
may_write around x = not (is_among x around.fixed)

abbrev pub same_class : FunctionClass → FunctionClass → Bool
same_class Read Read = true
same_class Write Write = true
same_class Control Control = true
same_class c d = false

abbrev pub one_cycle : Context → Around → Interval → Bounds
one_cycle c around crates = c.limit (costs (cycle_cost c.plan around.locked crates) 0 1)

-- a cycle without data, a read, a write
abbrev pub control_rule : Context → Around → (spot : Spot) (function register : ℕ) → Facts → Result Verdict Fault
control_rule c around spot f r k = do
  g ← given (region_at k.registers r) RegisterUnset spot (Unset around.body r)
  widths ← command_widths c.plan spot f g
  required (same_class Control (class_of f)) WrongDirection spot (direction f Control)
  Ok (verdict (Some k) (one_cycle c around g.crates))

abbrev pub read_rule : Context → Around → (spot : Spot) → WordSize → (function register variable : ℕ) → Facts → Result Verdict Fault
read_rule c around spot size f r x k = do
  required (may_write around x) LoopVariableAssigned spot (Counted around.body x)
  g ← given (region_at k.registers r) RegisterUnset spot (Unset around.body r)
  widths ← command_widths c.plan spot f g
  required (same_class Read (class_of f)) WrongDirection spot (direction f Read)
  Ok (verdict (Some (with_range x (interval 0 (2 ^ sized size widths.hi - 1)) k)) (one_cycle c around g.crates))

abbrev pub write_rule : Context → Around → (spot : Spot) → WordSize → (function register : ℕ) → Expression → Facts → Result Verdict Fault
write_rule c around spot size f r e k = do
  v ← range_of spot e k.ranges
  g ← given (region_at k.registers r) RegisterUnset spot (Unset around.body r)
  widths ← command_widths c.plan spot f g
  required (same_class Write (class_of f)) WrongDirection spot (direction f Write)
  required (nat_lt v.hi (2 ^ widths.lo) && fits_size size v.hi) ValueTooWide spot (Width v.hi (sized size widths.lo))
  Ok (verdict (Some k) (one_cycle c around g.crates))

abbrev pub single_rule : Context → Around → (spot : Spot) → WordSize → (function register : ℕ) → Move → Facts → Result Verdict Fault
single_rule c around spot size f r no_data k = control_rule c around spot f r k
single_rule c around spot size f r (into x) k = read_rule c around spot size f r x k
single_rule c around spot size f r (from e) k = write_rule c around spot size f r e k
