-- Worked rows: loops and conditions.
use Rattle.std.proofs.Common.{◌≡◌, ℕ, zero, suc, List, [], ◌∷◌, Some, None, true, false, refl}
use Rattle.std.specs.Prelude.{option_map, codes}
use Rattle.camac_func.specs.declared.data.DataMove.TheVariants as moved
use Rattle.camac_range.specs.declared.comparison.Cmp.TheVariants.{More, Less, Same}
use Rattle.camac_lang.specs.declared.word.WordSize.TheVariants.{Full}
use Rattle.camac_lang.specs.declared.word.LamCall.TheVariants as lam_word
use Rattle.camac_lang.specs.Tree.{Expression, plain, negated, compare, flag_q, flag_x, add, subtract, divide, remainder, number, variable, group, no_data, into, assign, set_register, single, put, lam_call, choose, for_, while_, Script, on_line, crate_call, Text, Statement, Lam, Service, next_lam, next_variables, next_service, locked}
use Rattle.camac_lang.specs.View.{block_of}
use Rattle.camac_lang.specs.Scope.{is_well_formed}
use Rattle.camac_branch.specs.Branch.{Answer, Reply}
use Rattle.camac_model.specs.Behaviour.{stop_of, events, event_left, short, wrong, more, items, Piece, demanded, cycled, Behaviour, does, ends, stops, lock_taken, lock_released, overrun}
use Rattle.camac_model.specs.Run.{run, the_run}
use Rattle.camac_model.specs.Sample.{sample_plan, times, gap, adc, reg}
use Rattle.camac_model.proofs.SampleScripts.{v, k, i, with_r, r, register, script, answer, demand, good, busy, reply, cycle_at, event, called, doing, served, left_by, with_r_s, s}
use Rattle.camac_lang.specs.declared.word.CrateCall.TheVariants as crate_word
use Rattle.camac_branch.specs.Address.{address}
use Rattle.camac_branch.specs.Plan.{Layout}
use Rattle.camac_model.specs.State.{State}
use Rattle.camac_model.specs.Safe.{IsSafePiece}
use Rattle.camac_model.specs.Fine.{Bounds, IsWithinBounds, IsOfAnswers, IsFine}
use Rattle.camac_model.proofs.Rules.{Meets}

-- poll-loop: Q always 0, and 1 at once
abbrev poll : Script
poll =
    script 30 0 with_r (register r 6 0 ∷ assign (on_line 5) k (number 10) ∷
    while_ (on_line 6) (plain (compare (variable k) More (number 0)) ∷ negated flag_q ∷ []) 10 k []
    (block_of (single (on_line 6) Full 27 r no_data ∷ assign (on_line 6) k (subtract (variable k) (number 1)) ∷ [])) ∷ [])

poll_stands : is_well_formed poll ≡ true
unfolding is_well_formed
poll_stands = refl

poll_never : events (served poll (busy 10)) ≡ event 3 30 0 [] ∷ []
poll_never = refl

poll_steps : option_map (λ u. u.steps) (left_by poll (busy 10)) ≡ Some 33
poll_steps = refl

poll_too_few : stop_of (served poll (busy 9)) ≡ Some short
poll_too_few = refl

poll_at_once : served poll (answer true true 0 0 0 ∷ []) ≡ doing (called ∷ cycle_at 6 0 27 moved.None (reply true true 0) 0 ∷ event_left (event 3 1 0 []) ∷ [])
poll_at_once = refl

-- loop-over-stations: addresses that are computed; afterwards the variable is the last value
abbrev sweep : Script
sweep = script 6 1 with_r (for_ (on_line 4) i (number 5) (number 6) [] (block_of (set_register (on_line 4) r (number 1) (variable i) (number 0) ∷ single (on_line 4) Full 0 r (into v) ∷ [])) ∷ put (on_line 5) (variable i) ∷ [])

sweep_stands : is_well_formed sweep ≡ true
unfolding is_well_formed
sweep_stands = refl

sweep_run :
    served sweep (good 2)
    ≡ doing (called ∷ cycle_at 5 0 0 moved.In (reply true true 2) 0 ∷ cycle_at 6 0 0 moved.In (reply true true 1) 0 ∷ event_left (event 3 2 0 (6 ∷ [])) ∷ [])
sweep_run = refl

-- empty-for: no turn, and the variable stays
abbrev empty_for : Script
empty_for = script 100 100 [] (for_ (on_line 4) i (number 5) (number 4) [] (block_of []) ∷ put (on_line 5) (variable i) ∷ [])

empty_for_stands : is_well_formed empty_for ≡ true
unfolding is_well_formed
empty_for_stands = refl

empty_for_run : served empty_for [] ≡ doing (called ∷ event_left (event 3 0 0 (0 ∷ [])) ∷ [])
empty_for_run = refl

empty_for_steps : option_map (λ u. u.steps) (left_by (script 100 100 [] (for_ (on_line 4) i (number 5) (number 4) [] (block_of (assign (on_line 4) i (number 3) ∷ [])) ∷ [])) []) ≡ Some 1
empty_for_steps = refl

-- from above by more than 1; the ends are evaluated once; what a turn sets is not kept
for_down : events (served (script 100 100 [] (assign (on_line 4) i (number 9) ∷ for_ (on_line 4) i (number 5) (number 1) [] (block_of (put (on_line 4) (number 1) ∷ [])) ∷ put (on_line 5) (variable i) ∷ [])) []) ≡ event 3 0 0 (9 ∷ []) ∷ []
for_down = refl

for_once : events (served (script 100 100 [] (assign (on_line 4) k (number 3) ∷ for_ (on_line 4) i (number 1) (variable k) [] (block_of (assign (on_line 4) k (number 1) ∷ put (on_line 4) (variable i) ∷ assign (on_line 4) i (number 50) ∷ [])) ∷ put (on_line 5) (variable i) ∷ [])) []) ≡ event 3 0 0 (1 ∷ 2 ∷ 3 ∷ 3 ∷ []) ∷ []
for_once = refl

for_self : events (served (script 100 100 [] (assign (on_line 4) i (number 2) ∷ for_ (on_line 4) i (variable i) (add (variable i) (number 1)) [] (block_of (put (on_line 4) (variable i) ∷ [])) ∷ put (on_line 5) (variable i) ∷ [])) []) ≡ event 3 0 0 (2 ∷ 3 ∷ 3 ∷ []) ∷ []
for_self = refl

for_top : events (served (script 100 100 [] (for_ (on_line 4) i (number 4294967294) (number 4294967295) [] (block_of []) ∷ put (on_line 5) (variable i) ∷ [])) []) ≡ event 3 0 0 (4294967295 ∷ []) ∷ []
for_top = refl

-- exactly n turns
for_four : stop_of (run 3 sample_plan (script 100 100 [] (for_ (on_line 4) i (number 1) (number 4) [] (block_of []) ∷ [])) (demand 4 ∷ [])) ≡ Some more
for_four = refl

for_three : stop_of (run 3 sample_plan (script 100 100 [] (for_ (on_line 4) i (number 1) (number 3) [] (block_of []) ∷ [])) (demand 4 ∷ [])) ≡ None
for_three = refl

abbrev down : ℕ → Script
down n = script 100 100 [] (assign (on_line 4) k (number n) ∷ while_ (on_line 4) (plain (compare (variable k) More (number 0)) ∷ []) 9 k [] (block_of (assign (on_line 4) k (subtract (variable k) (number 1)) ∷ [])) ∷ [])

while_three : stop_of (run 3 sample_plan (down 3) (demand 4 ∷ [])) ≡ None
while_three = refl

while_four : stop_of (run 3 sample_plan (down 4) (demand 4 ∷ [])) ≡ Some more
while_four = refl

-- longest-for, and a turn too many
longest_for : option_map (λ u. u.steps) (left_by (script 100 100 [] (for_ (on_line 4) i (number 0) (number 65534) [] (block_of []) ∷ [])) []) ≡ Some 65536
longest_for = refl

one_more : stop_of (served (script 100 100 [] (for_ (on_line 4) i (number 0) (number 65535) [] (block_of []) ∷ [])) []) ≡ Some more
one_more = refl

-- missed-stays
abbrev silent : ℕ → List Answer
silent zero = []
silent (suc n) = answer false false 0 0 0 ∷ silent n

abbrev missing : Script
missing = script 196608 0 [] (for_ (on_line 4) i (number 1) (number 65535) [] (block_of (lam_call (on_line 4) lam_word.Clear 0 ∷ [])) ∷ lam_call (on_line 4) lam_word.Clear 0 ∷ [])

missing_stands : is_well_formed missing ≡ true
unfolding is_well_formed
missing_stands = refl

missed_stays : events (served missing (silent 65536)) ≡ event 3 65536 65535 [] ∷ []
missed_stays = refl

-- the rest of a condition counts where its first part is true
abbrev below : Expression
below = subtract (number 0) (number 1)

first_false : stop_of (served (script 100 100 [] (choose (on_line 4) (plain (compare (number 1) More (number 2)) ∷ plain (compare below Less (number 5)) ∷ []) (block_of []) ∷ [])) []) ≡ None
first_false = refl

first_true : stop_of (served (script 100 100 [] (choose (on_line 4) (plain (compare (number 3) More (number 2)) ∷ plain (compare below Less (number 5)) ∷ []) (block_of []) ∷ [])) []) ≡ Some wrong
first_true = refl

all_true : events (served (script 100 100 [] (choose (on_line 4) (negated flag_q ∷ negated flag_x ∷ plain (compare (group (divide (number 7) 2)) Same (number 3)) ∷ plain (compare (remainder (number 7) 4) Same (number 3)) ∷ []) (block_of (put (on_line 5) (number 8) ∷ [])) ∷ [])) []) ≡ event 3 0 0 (8 ∷ []) ∷ []
all_true = refl

-- Worked rows: controller commands and LAM calls.

-- read-gl: the bits of the crate's own stations
abbrev read_gl : Script
read_gl = script 100 100 with_r (register r 30 0 ∷ single (on_line 5) Full 0 r (into v) ∷ [])

read_gl_stands : is_well_formed read_gl ≡ true
unfolding is_well_formed
read_gl_stands = refl

read_gl_items : items (served read_gl (answer false false 1 0 5 ∷ [])) ≡ called ∷ cycle_at 30 0 0 moved.In (reply true true 4) 0 ∷ []
read_gl_items = refl

-- initialise-crate: generate Z sets inhibit and disables the demand output
abbrev initialise_crate : Script
initialise_crate = script 100 100 [] (crate_call (on_line 4) crate_word.Initialise (number 1) ∷ crate_call (on_line 5) crate_word.TestInhibit (number 1) ∷ crate_call (on_line 6) crate_word.TestDemandOutput (number 1) ∷ [])

initialise_crate_stands : is_well_formed initialise_crate ≡ true
unfolding is_well_formed
initialise_crate_stands = refl

initialise_crate_items : items (served initialise_crate (busy 3)) ≡ called ∷ cycle_at 28 8 26 moved.None (reply true false 0) 2 ∷ cycle_at 30 9 27 moved.None (reply true true 0) 2 ∷ cycle_at 30 10 27 moved.None (reply true false 0) 2 ∷ []
initialise_crate_items = refl

-- lam-calls
abbrev lam_calls : Script
lam_calls = script 12 1 [] (lam_call (on_line 4) lam_word.Disable 0 ∷ lam_call (on_line 4) lam_word.Test 0 ∷ lam_call (on_line 4) lam_word.Clear 0 ∷ lam_call (on_line 4) lam_word.Enable 0 ∷ [])

lam_calls_stand : is_well_formed lam_calls ≡ true
unfolding is_well_formed
lam_calls_stand = refl

lam_calls_run :
    served lam_calls (answer true true 7 0 0 ∷ answer false true 0 2 0 ∷ answer true true 0 0 0 ∷ answer true false 0 0 0 ∷ [])
    ≡ doing (called ∷ cycle_at 5 12 24 moved.None (reply true true 7) 0 ∷ cycle_at 5 12 8 moved.None (reply false true 0) 2 ∷ cycle_at 5 12 10 moved.None (reply true true 0) 0 ∷ cycle_at 5 12 26 moved.None (reply true false 0) 0 ∷ event_left (event 3 6 1 []) ∷ [])
lam_calls_run = refl

-- a demand is present whether or not the demand output is enabled; I is removed; the demand output is enabled again
abbrev tests : Script
tests =
    script 100 100 [] (crate_call (on_line 4) crate_word.Initialise (number 1) ∷ crate_call (on_line 4) crate_word.TestDemand (number 1) ∷ crate_call (on_line 4) crate_word.TestDemand (number 1) ∷
    crate_call (on_line 4) crate_word.Clear (number 1) ∷ crate_call (on_line 4) crate_word.TestInhibit (number 1) ∷ crate_call (on_line 4) crate_word.InhibitOff (number 1) ∷ crate_call (on_line 4) crate_word.TestInhibit (number 1) ∷
    crate_call (on_line 4) crate_word.DemandOn (number 1) ∷ crate_call (on_line 4) crate_word.TestDemandOutput (number 1) ∷ [])

tests_stands : is_well_formed tests ≡ true
unfolding is_well_formed
tests_stands = refl

tests_items : items (served tests (answer false true 9 0 4 ∷ answer false true 9 0 4 ∷ answer false true 9 0 3 ∷ times 6 (demand 0) []))
    ≡ called ∷ cycle_at 28 8 26 moved.None (reply true false 0) 0 ∷ cycle_at 30 11 27 moved.None (reply true true 0) 0 ∷ cycle_at 30 11 27 moved.None (reply true false 0) 0
    ∷ cycle_at 28 9 26 moved.None (reply true false 0) 0 ∷ cycle_at 30 9 27 moved.None (reply true true 0) 0 ∷ cycle_at 30 9 24 moved.None (reply true false 0) 0
    ∷ cycle_at 30 9 27 moved.None (reply true false 0) 0 ∷ cycle_at 30 10 26 moved.None (reply true false 0) 0 ∷ cycle_at 30 10 27 moved.None (reply true true 0) 0 ∷ []
tests_items = refl

-- C alone changes neither I nor the demand output
clear_alone : items (served (script 100 100 [] (crate_call (on_line 4) crate_word.Clear (number 1) ∷ crate_call (on_line 4) crate_word.TestInhibit (number 1) ∷ crate_call (on_line 4) crate_word.TestDemandOutput (number 1) ∷ [])) (times 3 (demand 0) []))
    ≡ called ∷ cycle_at 28 9 26 moved.None (reply true false 0) 0 ∷ cycle_at 30 9 27 moved.None (reply true false 0) 0 ∷ cycle_at 30 10 27 moved.None (reply true true 0) 0 ∷ []
clear_alone = refl

-- Worked rows: demands, the choice of the service, and what lasts over services.

-- demand-disabled: a crate with a disabled demand output adds no bits
abbrev demand_disabled : Script
demand_disabled = script 3 0 [] (crate_call (on_line 4) crate_word.DemandOff (number 1) ∷ [])

demand_disabled_stands : is_well_formed demand_disabled ≡ true
unfolding is_well_formed
demand_disabled_stands = refl

demand_disabled_run :
    the_run sample_plan demand_disabled (demand 0 ∷ demand 1 ∷ demand 4 ∷ answer true true 0 0 0 ∷ demand 4 ∷ [])
    ≡ doing (demanded 0 None ∷ demanded 0 None ∷ called ∷ cycle_at 30 10 24 moved.None (reply true false 0) 0 ∷ event_left (event 3 1 0 []) ∷ demanded 0 None ∷ [])
demand_disabled_run = refl

-- two crates: bits 3 and 24 in the first, 2 and 1 in the second
abbrev two_plan : Layout
two_plan = record {
  buffer = 4096;
  types = adc ∷ reg ∷ [];
  crates =
      Some (record { waits = 2; stations = gap 4 (Some (record { type_no = 0; gl = Some 3 }) ∷ Some (record { type_no = 1; gl = Some 24 }) ∷ gap 17 []) }) ∷
      Some (record { waits = 0; stations = gap 4 (Some (record { type_no = 0; gl = Some 2 }) ∷ Some (record { type_no = 0; gl = Some 1 }) ∷ gap 17 []) }) ∷
      gap 5 [];
}

abbrev lam_at : List ℕ → ℕ → ℕ → ℕ → Lam
lam_at name c n a = record { spot = on_line 1; name = name; crate_no = c; station = n; sub_address = a }

abbrev served_by : ℕ → List Text → List Statement → Service
served_by l registers ss = record { spot = on_line 3; lam = l; cycles = 100; words = 100; registers = registers; body = block_of ss }

-- the services of bits 24, 3 and 2; bit 1 has none
abbrev three : Script
three = record {
  order = next_lam ∷ next_lam ∷ next_lam ∷ next_variables (on_line 2) 1 ∷ next_service ∷ next_service ∷ next_service ∷ [];
  tables = [];
  lams = lam_at (codes "a") 1 5 12 ∷ lam_at (codes "b") 1 6 0 ∷ lam_at (codes "c") 2 5 12 ∷ [];
  variables = codes "v" ∷ [];
  procedures = [];
  services =
      served_by 1 with_r (put (on_line 4) (variable v) ∷ assign (on_line 4) v (number 24) ∷ set_register (on_line 4) r (number 1) (number 6) (number 0) ∷ []) ∷
      served_by 0 [] (put (on_line 4) (variable v) ∷ assign (on_line 4) v (number 3) ∷ crate_call (on_line 4) crate_word.DemandOff (number 2) ∷ crate_call (on_line 4) crate_word.InhibitOn (number 1) ∷ []) ∷
      served_by 2 [] (put (on_line 4) (variable v) ∷ assign (on_line 4) v (number 2) ∷ crate_call (on_line 4) crate_word.TestDemand (number 2) ∷ crate_call (on_line 4) crate_word.TestInhibit (number 1) ∷ []) ∷
      [];
}

three_stand : is_well_formed three ≡ true
unfolding is_well_formed
three_stand = refl

abbrev in_crate_2 : ℕ → ℕ → ℕ → Reply → Piece
in_crate_2 n a f answered = cycled (address 2 n a) f moved.None answered 0

-- the least bit that has a service, a lower one without being passed over; bits above 24 do not count; inhibit and demand outputs
-- last over services, variables do not
abbrev many : List Answer
many =
    demand 0x1800007 ∷ answer false false 5 0 0x1800007 ∷ answer false false 0 2 0 ∷
    demand 0x1800004 ∷ answer false false 0 0 0 ∷ answer false false 0 0 0 ∷
    demand 0x3 ∷ demand 0x1800003 ∷ demand 0x7 ∷ answer false false 0 0 0 ∷ []

three_items : items (the_run two_plan three many)
    ≡ demanded 0x800007 (Some 2) ∷ in_crate_2 30 11 27 (reply true true 0) ∷ cycle_at 30 9 27 moved.None (reply true false 0) 2
    ∷ demanded 0x800004 (Some 1) ∷ in_crate_2 30 10 24 (reply true false 0) ∷ cycle_at 30 9 26 moved.None (reply true false 0) 0
    ∷ demanded 0 None ∷ demanded 0x800000 (Some 0) ∷ demanded 4 (Some 1) ∷ in_crate_2 30 10 24 (reply true false 0) ∷ []
three_items = refl

three_events : events (the_run two_plan three many) ≡ event 2 4 0 (0 ∷ []) ∷ event 3 2 0 (0 ∷ []) ∷ event 24 0 0 (0 ∷ []) ∷ []
three_events = refl

three_stop : stop_of (the_run two_plan three many) ≡ Some short
three_stop = refl

-- By the rules of Rules.antt a behaviour is shown fine.

module _ {X : Type 0} (step : X → Piece → X) (plan : Layout) (k : Bounds) where
  pub is_fine : (x : X) (b : Behaviour State) → Meets step (λ y p. IsSafePiece plan p) (λ y w s. IsOfAnswers w × IsWithinBounds k s) (λ y s. IsWithinBounds k s) x b → IsFine plan k b
  is_fine x (does p b) h = (h.0, is_fine (step x p) b h.1)
  is_fine x (ends s) h = h
  is_fine x (stops w s) h = h

-- Worked rows: locks.

-- lockout: a locked crate permits no wait
abbrev read_v : Statement
read_v = single (on_line 6) Full 0 r (into v)

abbrev lock_four : Script
lock_four = script 6 100 with_r (register r 5 0 ∷ locked (on_line 5) (number 1) (block_of (read_v ∷ read_v ∷ read_v ∷ read_v ∷ [])) ∷ [])

lock_four_stands : is_well_formed lock_four ≡ true
unfolding is_well_formed
lock_four_stands = refl

abbrev not_permitted : List Answer
not_permitted = answer false false 0 2 0 ∷ answer true true 1 0 0 ∷ answer true true 1 1 0 ∷ []

lock_overrun : stop_of (served lock_four not_permitted) ≡ Some (overrun 1 1)
lock_overrun = refl

abbrev read_of : ℕ → Piece
read_of w = cycle_at 5 0 0 moved.In (reply true true w) 0

lock_overrun_items : items (served lock_four not_permitted) ≡ called ∷ lock_taken 1 2 ∷ read_of 1 ∷ []
lock_overrun_items = refl

-- lockout-complete
lock_complete :
    served lock_four (answer false false 0 2 0 ∷ good 4)
    ≡ doing (called ∷ lock_taken 1 2 ∷ read_of 4 ∷ read_of 3 ∷ read_of 2 ∷ read_of 1 ∷ lock_released 1 ∷ event_left (event 3 6 0 []) ∷ [])
lock_complete = refl

lock_steps : option_map (λ u. u.steps) (left_by lock_four (answer false false 0 2 0 ∷ good 4)) ≡ Some 7
lock_steps = refl

-- lock-empty
abbrev lock_empty : Script
lock_empty = script 2 100 [] (locked (on_line 4) (number 1) (block_of []) ∷ [])

lock_empty_stands : is_well_formed lock_empty ≡ true
unfolding is_well_formed
lock_empty_stands = refl

lock_empty_items : items (served lock_empty (demand 0 ∷ [])) ≡ called ∷ lock_taken 1 0 ∷ lock_released 1 ∷ []
lock_empty_items = refl

lock_empty_steps : option_map (λ u. u.steps) (left_by lock_empty (demand 0 ∷ [])) ≡ Some 2
lock_empty_steps = refl

lock_short : stop_of (served lock_empty []) ≡ Some short
lock_short = refl

lock_over : stop_of (served lock_empty (answer true true 0 3 0 ∷ [])) ≡ Some (overrun 1 3)
lock_over = refl

-- a crate that is not in the plan, and a crate that is locked
lock_no_crate : stop_of (served (script 100 100 [] (locked (on_line 4) (number 2) (block_of []) ∷ [])) []) ≡ Some wrong
lock_no_crate = refl

lock_twice : stop_of (served (script 100 100 [] (locked (on_line 4) (number 1) (block_of (locked (on_line 4) (number 1) (block_of []) ∷ [])) ∷ [])) (demand 0 ∷ [])) ≡ Some wrong
lock_twice = refl

-- a lock sets neither q nor x
lock_flags : events (served (script 100 100 [] (locked (on_line 4) (number 1) (block_of (choose (on_line 4) (negated flag_q ∷ negated flag_x ∷ []) (block_of (put (on_line 4) (number 2) ∷ [])) ∷ [])) ∷ [])) (answer true true 0 0 0 ∷ [])) ≡ event 3 0 0 (2 ∷ []) ∷ []
lock_flags = refl

-- one of two crates is locked: waits in the other are permitted
abbrev lock_plan : Layout
lock_plan = record sample_plan {
  crates =
      Some (record { waits = 2; stations = gap 4 (Some (record { type_no = 0; gl = Some 3 }) ∷ gap 18 []) }) ∷
      Some (record { waits = 1; stations = gap 4 (Some (record { type_no = 0; gl = None }) ∷ gap 18 []) }) ∷
      gap 5 [];
}

abbrev lock_two : List Answer → Behaviour (Unit {0})
lock_two answers =
    the_run lock_plan (script 100 100 with_r_s (register r 5 0 ∷ locked (on_line 4) (number 2) (block_of (single (on_line 5) Full 0 r no_data ∷ set_register (on_line 4) s (number 2) (number 5) (number 0) ∷ single (on_line 5) Full 0 s no_data ∷ [])) ∷ single (on_line 6) Full 0 r no_data ∷ []))
    (demand 4 ∷ answers)

two_complete : events (lock_two (answer true true 0 1 0 ∷ answer true true 0 2 0 ∷ answer true true 0 0 0 ∷ answer false true 0 1 0 ∷ [])) ≡ event 3 7 1 [] ∷ []
two_complete = refl

two_overrun : stop_of (lock_two (answer true true 0 1 0 ∷ answer true true 0 2 0 ∷ answer true true 0 1 0 ∷ [])) ≡ Some (overrun 2 1)
two_overrun = refl

two_at_once : stop_of (lock_two (answer true true 0 2 0 ∷ [])) ≡ Some (overrun 2 2)
two_at_once = refl
