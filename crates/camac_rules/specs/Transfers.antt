-- The rules of the three transfers: their cycles, the words that they keep, and their tally.
use Rattle.std.specs.Prelude.{ℕ, ◌^◌, Bool, true, false, ◌&&◌, List, [], ◌∷◌, Option, Some, None, Result, Ok, nat_eq, nat_lt, nat_le, min, max, length, unwrap_or, slice_get, if◌then◌else◌}
use Rattle.camac_lang.specs.Tests.{each}
use Rattle.camac_lang.specs.Tree.{Expression}
use Rattle.camac_range.specs.Interval.{interval, only}
use Rattle.camac_branch.specs.Plan.{Layout}
use Rattle.camac_func.specs.Class.{class_of}
use Rattle.camac_func.specs.declared.code.FunctionClass.{FunctionClass}
use Rattle.camac_func.specs.declared.code.FunctionClass.TheVariants.{Read, Write}
use Rattle.camac_rules.specs.declared.case.Case.{Case}
use Rattle.camac_rules.specs.declared.case.Case.TheVariants.{NoCommand, Unset, Counted, Width, Count}
use Rattle.camac_rules.specs.declared.rule.CheckRule.TheVariants.{StationNotInstalled, CommandNotDeclared, WrongDirection, ValueTooWide, RegisterUnset, ScanCratesDiffer, CountAboveTable, LoopVariableAssigned}
use Rattle.camac_rules.specs.Cases.{crates_of, direction}
use Rattle.camac_rules.specs.Fault.{Fault}
use Rattle.camac_rules.specs.Refusal.{◌>>=◌, ◌>>◌, required, given}
use Rattle.camac_rules.specs.Known.{Region, Facts, region_at, with_range}
use Rattle.camac_rules.specs.Expressions.{range_of}
use Rattle.camac_rules.specs.Costs.{Verdict, verdict, transfer_costs}
use Rattle.camac_rules.specs.Addresses.{sub_address_end, command_widths, cycle_cost}
use Rattle.camac_rules.specs.Cycles.{Context, Around, may_write, same_class}
use Rattle.camac_rules.specs.Windows.{Window, window_of, is_installed, missing_over, is_declared, undeclared_over, scan_cycles, scan_kept}
use Rattle.camac_lang.specs.declared.spot.Spot.{Spot}

-- both registers hold addresses of one crate
abbrev pub is_one_crate : Region → Region → Bool
is_one_crate g h =
    nat_eq g.crates.lo g.crates.hi && (nat_eq h.crates.lo h.crates.hi && nat_eq g.crates.lo h.crates.lo)

abbrev pub has_sub_addresses : Region → Bool
has_sub_addresses g = nat_lt g.sub_addresses.hi sub_address_end

-- the first address of a register past the last sub-address
abbrev pub past_sub_addresses : ℕ → Region → Case
past_sub_addresses f g = NoCommand f g.crates.lo g.stations.lo (max g.sub_addresses.lo sub_address_end)

-- the first address between two registers that has not the command
abbrev pub undeclared_by : Layout → ℕ → Region → Region → Case
undeclared_by plan f g h =
    if has_sub_addresses g then (if has_sub_addresses h then undeclared_over plan f (window_of g h) else past_sub_addresses f h)
    else past_sub_addresses f g

-- what a scan of at most so many words leaves and costs
abbrev pub scan_verdict : Context → Around → Window → (most tally_variable : ℕ) → Facts → Verdict
scan_verdict c around w most x k =
    verdict (Some (with_range x (interval 0 (scan_kept w most)) k))
    (c.limit (transfer_costs (scan_cycles w most) (cycle_cost c.plan around.locked (only w.crate_no)) (scan_kept w most)))

abbrev pub scan_rule : Context → Around → (spot : Spot) (function first last : ℕ) → (most : Expression) → (tally_variable : ℕ) → Facts → Result Verdict Fault
scan_rule c around spot f r1 r2 e x k = do
  most ← range_of spot e k.ranges
  required (may_write around x) LoopVariableAssigned spot (Counted around.body x)
  g ← given (region_at k.registers r1) RegisterUnset spot (Unset around.body r1)
  h ← given (region_at k.registers r2) RegisterUnset spot (Unset around.body r2)
  required (is_one_crate g h) ScanCratesDiffer spot (crates_of g.crates h.crates)
  required (is_installed c.plan (window_of g h)) StationNotInstalled spot (missing_over c.plan (window_of g h))
  required (has_sub_addresses g && (has_sub_addresses h && is_declared c.plan f (window_of g h))) CommandNotDeclared spot (undeclared_by c.plan f g h)
  required (same_class Read (class_of f)) WrongDirection spot (direction f Read)
  Ok (scan_verdict c around (window_of g h) most.hi x k)

-- a block transfer writes where it names a table, else it reads
abbrev pub block_class : Option ℕ → FunctionClass
block_class None = Read
block_class (Some t) = Write

abbrev pub reaches_to : ℕ → Option (List ℕ) → Bool
reaches_to n None = false
reaches_to n (Some words) = nat_le n (length words)

-- it sends at most the words of its table
abbrev pub has_words : List (List ℕ) → Option ℕ → ℕ → Bool
has_words tables None n = true
has_words tables (Some t) n = reaches_to n (slice_get tables t)

abbrev pub words_fit : List (List ℕ) → Option ℕ → ℕ → Bool
words_fit tables None width = true
words_fit tables (Some t) width = each (λ v. nat_lt v (2 ^ width)) (unwrap_or (slice_get tables t) [])

-- the words of the table that a transfer sends, none of a read
abbrev pub words_sent : List (List ℕ) → Option ℕ → List ℕ
words_sent tables None = []
words_sent tables (Some t) = unwrap_or (slice_get tables t) []

abbrev pub greatest_of : List ℕ → ℕ
greatest_of [] = 0
greatest_of (v ∷ vs) = max v (greatest_of vs)

-- a read puts what it keeps into the event
abbrev pub event_words : (table : Option ℕ) → (kept : ℕ) → ℕ
event_words None kept = kept
event_words (Some t) kept = 0

-- the addresses of a block transfer of at most so many words, by whose rules it may begin once its expressions are in range
abbrev pub block_region :
    Context → Around → (spot : Spot) (function register : ℕ) → (table : Option ℕ) → (most tally_variable : ℕ) → Facts → Result Region Fault
block_region c around spot f r t most x k = do
  required (may_write around x) LoopVariableAssigned spot (Counted around.body x)
  g ← given (region_at k.registers r) RegisterUnset spot (Unset around.body r)
  widths ← command_widths c.plan spot f g
  required (same_class (block_class t) (class_of f)) WrongDirection spot (direction f (block_class t))
  required (has_words c.tables t most) CountAboveTable spot (Count most (length (words_sent c.tables t)))
  required (words_fit c.tables t widths.lo) ValueTooWide spot (Width (greatest_of (words_sent c.tables t)) widths.lo)
  Ok g

-- a block transfer of at most so many cycles, that keeps at most so many words
abbrev pub block_verdict : Context → Around → (table : Option ℕ) → (cycles kept tally_variable : ℕ) → Region → Facts → Verdict
block_verdict c around t cycles kept x g k =
    verdict (Some (with_range x (interval 0 kept) k))
    (c.limit (transfer_costs cycles (cycle_cost c.plan around.locked g.crates) (event_words t kept)))

abbrev pub q_stop_rule :
    Context → Around → (spot : Spot) (function register : ℕ) → (table : Option ℕ) → (most : Expression) → (tally_variable : ℕ) → Facts → Result Verdict Fault
q_stop_rule c around spot f r t e x k = do
  most ← range_of spot e k.ranges
  g ← block_region c around spot f r t most.hi x k
  Ok (block_verdict c around t most.hi most.hi x g k)

-- where no word is wanted there is no cycle
abbrev pub q_repeat_cycles : (most limit : ℕ) → ℕ
q_repeat_cycles most limit = if nat_eq most 0 then 0 else limit

abbrev pub q_repeat_rule :
    Context → Around → (spot : Spot) (function register : ℕ) → (table : Option ℕ) → (most limit : Expression) → (tally_variable : ℕ) → Facts → Result Verdict Fault
q_repeat_rule c around spot f r t e1 e2 x k = do
  most ← range_of spot e1 k.ranges
  limit ← range_of spot e2 k.ranges
  g ← block_region c around spot f r t most.hi x k
  Ok (block_verdict c around t (q_repeat_cycles most.hi limit.hi) (min most.hi limit.hi) x g k)
