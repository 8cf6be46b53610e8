-- Worked rows: straight-line services, numbers, words.
use Rattle.std.proofs.Common.{◌≡◌, [], ◌∷◌, Some, None, true, refl, false, ℕ, List, Option, ◌^◌, ◌<◌, ap, arith}
use Rattle.std.specs.Prelude.{codes, option_map, unwrap_or}
use Rattle.camac_func.specs.declared.data.DataMove.TheVariants as moved
use Rattle.camac_lang.specs.declared.word.WordSize.TheVariants.{Full, Short}
use Rattle.camac_lang.specs.Tree.{add, subtract, multiply, number, variable, group, no_data, into, from, Statement, assign, set_register, single, put, Script, on_line, plain, flag_q, choose, locked, call, Procedure, negated, flag_x, address_scan, q_stop, q_repeat, choose_else, Table}
use Rattle.camac_lang.specs.Scope.{is_well_formed}
use Rattle.camac_model.specs.Behaviour.{stop_of, items, events, event_left, short, overrun, wrong, lock_taken, lock_released, demanded}
use Rattle.camac_model.specs.Run.{the_run}
use Rattle.camac_model.specs.Sample.{sample_plan}
use Rattle.camac_model.proofs.SampleScripts.{script_of, v, with_r, r, register, script, answer, demand, reply, cycle_at, event, called, doing, served, opening, get, k, good, left_by, t, with_r_s, s, busy}
use Rattle.camac_lang.specs.View.{block_of}
use Rattle.camac_branch.specs.Branch.{Answer}
use Rattle.camac_model.specs.State.{State}
use Rattle.camac_func.specs.declared.code.FunctionClass.TheVariants.{Read, Write, Control}
use Rattle.camac_func.specs.Class.{class_of}
use Rattle.camac_branch.specs.Address.{Address, address}
use Rattle.camac_model.specs.Safe.{IsSafe}

-- straight-line
abbrev straight_line : Script
straight_line =
    script_of (codes "v" ∷ []) [] [] 3 1 with_r (register r 5 0 ∷ single (on_line 5) Full 0 r (into v) ∷ put (on_line 6) (variable v) ∷ [])

straight_line_stands : is_well_formed straight_line ≡ true
unfolding is_well_formed
straight_line_stands = refl

straight_line_run :
    the_run sample_plan straight_line (demand 4 ∷ answer true true 0x123fff 2 0 ∷ [])
    ≡ doing (called ∷ cycle_at 5 0 0 moved.In (reply true true 0x123fff) 2 ∷ event_left (event 3 3 0 (0xfff ∷ [])) ∷ [])
straight_line_run = refl

-- answers-run-out
nothing_to_do : the_run sample_plan straight_line [] ≡ doing []
nothing_to_do = refl

cut_short : stop_of (served straight_line []) ≡ Some short
cut_short = refl

cut_short_items : items (served straight_line []) ≡ called ∷ []
cut_short_items = refl

-- overrun-first-cycle
first_overrun : stop_of (served straight_line (answer true true 0x123fff 3 0 ∷ [])) ≡ Some (overrun 1 3)
first_overrun = refl

first_overrun_items : items (served straight_line (answer true true 0x123fff 3 0 ∷ [])) ≡ called ∷ []
first_overrun_items = refl

-- write-width
abbrev write_255 : Script
write_255 = script 100 100 with_r (register r 6 0 ∷ single (on_line 5) Full 16 r (from (number 255)) ∷ [])

write_255_stands : is_well_formed write_255 ≡ true
unfolding is_well_formed
write_255_stands = refl

write_255_items : items (served write_255 (answer true true 0 0 0 ∷ [])) ≡ called ∷ cycle_at 6 0 16 (moved.Out 255) (reply true true 0) 0 ∷ []
write_255_items = refl

-- a value is sent as it is asked for, also where it does not fit
full_write : items (served (script 100 100 with_r (register r 6 0 ∷ single (on_line 5) Full 16 r (from (number 16777216)) ∷ [])) (answer true true 0 0 0 ∷ [])) ≡ called ∷ cycle_at 6 0 16 (moved.Out 16777216) (reply true true 0) 0 ∷ []
full_write = refl

-- short-read
abbrev short_read : Script
short_read = script 12 1 with_r (register r 6 0 ∷ single (on_line 4) Short 0 r (into v) ∷ put (on_line 4) (variable v) ∷ [])

short_read_stands : is_well_formed short_read ≡ true
unfolding is_well_formed
short_read_stands = refl

short_read_run :
    served short_read (answer true true 0x123456 0 0 ∷ [])
    ≡ doing (called ∷ cycle_at 6 0 0 moved.In (reply true true 0x123456) 0 ∷ event_left (event 3 1 0 (0x3456 ∷ [])) ∷ [])
short_read_run = refl

-- a short read of a register of 12 bits keeps 12
short_read_12 : events (served (script 100 100 with_r (register r 5 0 ∷ single (on_line 4) Short 0 r (into v) ∷ put (on_line 4) (variable v) ∷ [])) (answer true true 0xffffff 0 0 ∷ [])) ≡ event 3 1 0 (0xfff ∷ []) ∷ []
short_read_12 = refl

-- a short write of 65,535, and of more
short_write : items (served (script 100 100 with_r (register r 6 0 ∷ single (on_line 4) Short 16 r (from (number 65535)) ∷ [])) (answer true true 0 0 0 ∷ [])) ≡ called ∷ cycle_at 6 0 16 (moved.Out 65535) (reply true true 0) 0 ∷ []
short_write = refl

short_write_bad : stop_of (served (script 100 100 with_r (register r 6 0 ∷ single (on_line 4) Short 16 r (from (number 65536)) ∷ [])) []) ≡ Some wrong
short_write_bad = refl

-- a register that is not set, and a crate that is not in the plan, are wrong before an answer is looked for
unset : stop_of (served (script 100 100 [] (single (on_line 4) Full 0 r no_data ∷ [])) []) ≡ Some wrong
unset = refl

abbrev in_crate_2 : Statement
in_crate_2 = set_register (on_line 4) r (number 2) (number 5) (number 0)

no_crate : stop_of (served (script 100 100 with_r (in_crate_2 ∷ single (on_line 4) Full 0 r no_data ∷ [])) []) ≡ Some wrong
no_crate = refl

-- numbers below 0 and above M
below_zero : stop_of (served (script 100 100 [] (assign (on_line 4) v (subtract (number 1) (number 2)) ∷ [])) []) ≡ Some wrong
below_zero = refl

above_greatest : stop_of (served (script 100 100 [] (assign (on_line 4) v (number 4294967295) ∷ assign (on_line 5) v (add (variable v) (number 1)) ∷ [])) []) ≡ Some wrong
above_greatest = refl

operand_above : stop_of (served (script 100 100 [] (assign (on_line 4) v (subtract (add (number 4294967295) (number 1)) (number 1)) ∷ [])) []) ≡ Some wrong
operand_above = refl

times_zero : stop_of (served (script 100 100 [] (assign (on_line 4) v (multiply (number 0) (group (multiply (number 65536) (number 65536)))) ∷ [])) []) ≡ Some wrong
times_zero = refl

greatest_product : stop_of (served (script 100 100 [] (assign (on_line 4) v (multiply (number 65537) (number 65535)) ∷ [])) []) ≡ None
greatest_product = refl

-- Worked rows: procedures.

-- procedure-calls: the callee's variables and registers are its own
abbrev calls : Script
calls = script_of opening [] (get ∷ []) 6 2 [] (call (on_line 9) 0 (number 0 ∷ []) ∷ call (on_line 10) 0 (number 11 ∷ []) ∷ [])

calls_stand : is_well_formed calls ≡ true
unfolding is_well_formed
calls_stand = refl

calls_run :
    served calls (good 2)
    ≡ doing (called ∷ cycle_at 5 0 0 moved.In (reply true true 2) 0 ∷ cycle_at 5 11 0 moved.In (reply true true 1) 0 ∷ event_left (event 3 2 0 (2 ∷ 1 ∷ [])) ∷ [])
calls_run = refl

calls_steps : option_map (λ u. u.steps) (left_by calls (good 2)) ≡ Some 8
calls_steps = refl

-- procedure-in-lock
in_lock : items (served (script_of opening [] (get ∷ []) 5 1 [] (locked (on_line 9) (number 1) (block_of (call (on_line 9) 0 (number 0 ∷ []) ∷ [])) ∷ [])) (answer false false 0 2 0 ∷ good 1))
    ≡ called ∷ lock_taken 1 2 ∷ cycle_at 5 0 0 moved.In (reply true true 1) 0 ∷ lock_released 1 ∷ []
in_lock = refl

-- arguments in the caller's store and in the text's order; the callee begins without registers; afterwards variables and registers are the
-- caller's, flags are as the body left them
abbrev two_parameters : Procedure
two_parameters = record {
  spot = on_line 3;
  name = codes "p";
  parameters = record { name = codes "a"; low = 0; high = 11 } ∷ record { name = codes "b"; low = 0; high = 11 } ∷ [];
  cycles = 3;
  words = 2;
  steps = 6;
  registers = with_r;
  body = block_of (set_register (on_line 4) 0 (number 1) (number 6) (number 0) ∷ single (on_line 5) Full 27 0 no_data ∷ put (on_line 6) (variable 0) ∷ put (on_line 6) (variable 1) ∷ assign (on_line 6) 0 (number 1000) ∷ assign (on_line 6) 1 (number 1000) ∷ []);
}

abbrev apart : Script
apart =
    script_of opening [] (two_parameters ∷ []) 100 100 with_r
    (assign (on_line 4) v (number 5) ∷ assign (on_line 4) k (number 6) ∷ register r 5 3 ∷ call (on_line 4) 0 (variable k ∷ variable v ∷ []) ∷ put (on_line 4) (variable v) ∷ put (on_line 4) (variable k) ∷
    choose (on_line 4) (plain flag_q ∷ []) (block_of (put (on_line 4) (number 99) ∷ [])) ∷ single (on_line 4) Full 0 r (into v) ∷ [])

apart_stands : is_well_formed apart ≡ true
unfolding is_well_formed
apart_stands = refl

apart_run :
    served apart (answer false true 0 0 0 ∷ answer true true 1 0 0 ∷ [])
    ≡ doing (called ∷ cycle_at 6 0 27 moved.None (reply false true 0) 0 ∷ cycle_at 5 3 0 moved.In (reply true true 1) 0 ∷ event_left (event 3 2 1 (6 ∷ 5 ∷ 5 ∷ 6 ∷ 99 ∷ [])) ∷ [])
apart_run = refl

-- a callee that sets no register has none
abbrev no_register : Procedure
no_register = record two_parameters { parameters = []; body = block_of (single (on_line 5) Full 27 0 no_data ∷ []) }

no_register_seen : stop_of (served (script_of opening [] (no_register ∷ []) 100 100 with_r (register r 5 3 ∷ call (on_line 5) 0 [] ∷ [])) (good 1)) ≡ Some wrong
no_register_seen = refl

-- a procedure calls one before it
abbrev outer : Procedure
outer = record {
  spot = on_line 4;
  name = codes "o";
  parameters = record { name = codes "a"; low = 0; high = 10 } ∷ [];
  cycles = 6;
  words = 3;
  steps = 10;
  registers = with_r;
  body = block_of (set_register (on_line 4) 0 (number 1) (number 5) (variable 0) ∷ call (on_line 5) 0 (add (variable 0) (number 1) ∷ number 7 ∷ []) ∷ single (on_line 5) Full 0 0 (into 0) ∷ put (on_line 6) (variable 0) ∷ []);
}

abbrev nested : Script
nested = script_of opening [] (two_parameters ∷ outer ∷ []) 100 100 [] (call (on_line 4) 1 (number 3 ∷ []) ∷ [])

nested_stands : is_well_formed nested ≡ true
unfolding is_well_formed
nested_stands = refl

nested_run :
    served nested (answer true true 1 0 0 ∷ answer true true 2 0 0 ∷ [])
    ≡ doing (called ∷ cycle_at 6 0 27 moved.None (reply true true 1) 0 ∷ cycle_at 5 3 0 moved.In (reply true true 2) 0 ∷ event_left (event 3 2 0 (4 ∷ 7 ∷ 2 ∷ [])) ∷ [])
nested_run = refl

-- it sees none after it, nor itself
later : stop_of (served (script_of opening [] (record outer { body = block_of (call (on_line 4) 1 [] ∷ []) } ∷ two_parameters ∷ []) 100 100 [] (call (on_line 4) 0 (number 3 ∷ []) ∷ [])) []) ≡ Some wrong
later = refl

itself : stop_of (served (script_of opening [] (record outer { body = block_of (call (on_line 4) 0 [] ∷ []) } ∷ []) 100 100 [] (call (on_line 4) 0 (number 3 ∷ []) ∷ [])) []) ≡ Some wrong
itself = refl

-- Worked rows: the three transfers.

-- scan-through-probes: Q always 1, and the first Q=0
abbrev scan : Script
scan = script 48 16 with_r_s (register r 5 0 ∷ register s 5 15 ∷ address_scan (on_line 6) 0 r s (number 16) t ∷ [])

scan_stands : is_well_formed scan ≡ true
unfolding is_well_formed
scan_stands = refl

scan_whole : events (served scan (good 16)) ≡ event 3 16 0 (16 ∷ 15 ∷ 14 ∷ 13 ∷ 12 ∷ 11 ∷ 10 ∷ 9 ∷ 8 ∷ 7 ∷ 6 ∷ 5 ∷ 4 ∷ 3 ∷ 2 ∷ 1 ∷ []) ∷ []
scan_whole = refl

scan_tally : option_map (λ u. u.variables t) (left_by scan (good 16)) ≡ Some 16
scan_tally = refl

scan_steps : option_map (λ u. u.steps) (left_by scan (good 16)) ≡ Some 19
scan_steps = refl

scan_stopped : served scan (answer true false 7 0 0 ∷ []) ≡ doing (called ∷ cycle_at 5 0 0 moved.In (reply true false 7) 0 ∷ event_left (event 3 1 0 []) ∷ [])
scan_stopped = refl

-- scan-by-count: 12 words, and the count ends it
abbrev scan_count : Script
scan_count = script 39 12 with_r_s (register r 5 0 ∷ register s 5 15 ∷ address_scan (on_line 6) 0 r s (number 12) t ∷ [])

scan_count_stands : is_well_formed scan_count ≡ true
unfolding is_well_formed
scan_count_stands = refl

scan_count_cycles : events (served scan_count (good 13)) ≡ event 3 12 0 (13 ∷ 12 ∷ 11 ∷ 10 ∷ 9 ∷ 8 ∷ 7 ∷ 6 ∷ 5 ∷ 4 ∷ 3 ∷ 2 ∷ []) ∷ []
scan_count_cycles = refl

-- scan-two-stations with max 1: Q 0 then 1
abbrev scan_two : Script
scan_two = script 51 17 with_r_s (register r 5 0 ∷ register s 6 0 ∷ address_scan (on_line 4) 0 r s (number 1) t ∷ [])

scan_two_stands : is_well_formed scan_two ≡ true
unfolding is_well_formed
scan_two_stands = refl

scan_two_run :
    served scan_two (answer true false 1 0 0 ∷ answer true true 0xffffff 0 0 ∷ [])
    ≡ doing (called ∷ cycle_at 5 0 0 moved.In (reply true false 1) 0 ∷ cycle_at 6 0 0 moved.In (reply true true 0xffffff) 0 ∷ event_left (event 3 2 0 (0xffffff ∷ [])) ∷ [])
scan_two_run = refl

-- from A15 with Q=1 it goes on to A0 of the next station
scan_over : items (served (script 100 100 with_r_s (register r 5 15 ∷ register s 6 0 ∷ address_scan (on_line 4) 0 r s (number 9) t ∷ [])) (answer true true 1 0 0 ∷ answer true false 2 0 0 ∷ answer true true 0 0 0 ∷ []))
    ≡ called ∷ cycle_at 5 15 0 moved.In (reply true true 1) 0 ∷ cycle_at 6 0 0 moved.In (reply true false 2) 0 ∷ demanded 0 None ∷ []
scan_over = refl

-- registers in two crates, even with max 0
scan_crates : stop_of (served (script 100 100 with_r_s (register r 5 0 ∷ set_register (on_line 4) s (number 2) (number 5) (number 0) ∷ address_scan (on_line 4) 0 r s (number 0) t ∷ [])) []) ≡ Some wrong
scan_crates = refl

-- scan-backwards: a first address past the final one gives no cycle
abbrev scan_backwards : Script
scan_backwards = script 100 100 with_r_s (register r 5 3 ∷ register s 5 1 ∷ address_scan (on_line 6) 0 r s (number 4) t ∷ [])

scan_backwards_stands : is_well_formed scan_backwards ≡ true
unfolding is_well_formed
scan_backwards_stands = refl

scan_backwards_run : served scan_backwards [] ≡ doing (called ∷ event_left (event 3 0 0 []) ∷ [])
scan_backwards_run = refl

-- repeat-until-q: three cycles and one word; with max 0 none, and the flags stay
abbrev resent : ℕ → Script
resent max = script 9 2 with_r (register r 5 0 ∷ q_repeat (on_line 5) 0 r None (number max) (number 3) t ∷ [])

resent_stands : is_well_formed (resent 2) ≡ true
unfolding is_well_formed
resent_stands = refl

resent_once : events (served (resent 2) (answer true false 9 0 0 ∷ answer true true 0x1234 0 0 ∷ answer true false 9 0 0 ∷ [])) ≡ event 3 3 0 (0x234 ∷ []) ∷ []
resent_once = refl

resent_tally : option_map (λ u. u.variables t) (left_by (resent 2) (answer true false 9 0 0 ∷ answer true true 0x1234 0 0 ∷ answer true false 9 0 0 ∷ [])) ≡ Some 1
resent_tally = refl

resent_steps : option_map (λ u. u.steps) (left_by (resent 2) (busy 3)) ≡ Some 5
resent_steps = refl

resent_none : served (resent 0) [] ≡ doing (called ∷ event_left (event 3 0 0 []) ∷ [])
resent_none = refl

-- table-write: the words 1 and 2 are sent
abbrev numbers : List ℕ → List Table
numbers words = record { spot = on_line 2; name = codes "g"; words = words } ∷ []

abbrev send : Script
send = script_of opening (numbers (1 ∷ 2 ∷ 3 ∷ [])) [] 100 100 with_r (register r 6 0 ∷ q_stop (on_line 5) 16 r (Some 0) (number 3) t ∷ [])

send_stands : is_well_formed send ≡ true
unfolding is_well_formed
send_stands = refl

send_run :
    served send (answer true true 0 0 0 ∷ answer false false 0 0 0 ∷ [])
    ≡ doing (called ∷ cycle_at 6 0 16 (moved.Out 1) (reply true true 0) 0 ∷ cycle_at 6 0 16 (moved.Out 2) (reply false false 0) 0 ∷ event_left (event 3 2 1 []) ∷ [])
send_run = refl

send_tally : option_map (λ u. u.variables t) (left_by send (answer true true 0 0 0 ∷ answer false false 0 0 0 ∷ [])) ≡ Some 1
send_tally = refl

-- Q-repeat sends the same word again after Q=0; a word that is not there is wrong
abbrev resend : ℕ → Script
resend limit = script_of opening (numbers (7 ∷ 8 ∷ [])) [] 100 100 with_r (register r 6 0 ∷ q_repeat (on_line 4) 16 r (Some 0) (number 3) (number limit) t ∷ [])

abbrev no_yes_yes : List Answer
no_yes_yes = answer true false 0 0 0 ∷ answer true true 0 0 0 ∷ answer true true 0 0 0 ∷ []

resend_items : items (served (resend 9) no_yes_yes) ≡ called ∷ cycle_at 6 0 16 (moved.Out 7) (reply true false 0) 0 ∷ cycle_at 6 0 16 (moved.Out 7) (reply true true 0) 0 ∷ cycle_at 6 0 16 (moved.Out 8) (reply true true 0) 0 ∷ []
resend_items = refl

resend_stop : stop_of (served (resend 9) no_yes_yes) ≡ Some wrong
resend_stop = refl

resend_limit : events (served (resend 3) no_yes_yes) ≡ event 3 3 0 [] ∷ []
resend_limit = refl

-- a table that is not there is wrong, as a LAM is
unknown_table : stop_of (served (script 100 100 with_r (register r 6 0 ∷ q_stop (on_line 4) 16 r (Some 9) (number 0) t ∷ [])) []) ≡ Some wrong
unknown_table = refl

-- an overrun in a transfer: what the cycles before it did stays, and the tally is not set
abbrev cut : Script
cut = script 100 100 with_r (register r 5 0 ∷ assign (on_line 4) t (number 77) ∷ q_stop (on_line 4) 0 r None (number 5) t ∷ [])

abbrev at_cut : {A : Type 0} → (State → A) → Option A
at_cut f = option_map f (left_by cut (answer false true 0x5abc 1 0 ∷ answer true true 2 2 0 ∷ answer true true 2 3 0 ∷ answer true true 9 0 0 ∷ []))

cut_steps : at_cut (λ u. u.steps) ≡ Some 5
cut_steps = refl

cut_words : at_cut (λ u. u.words) ≡ Some (0xabc ∷ 2 ∷ [])
cut_words = refl

cut_cycles : at_cut (λ u. u.cost) ≡ Some 5
cut_cycles = refl

cut_missed : at_cut (λ u. u.missed) ≡ Some 1
cut_missed = refl

cut_tally : at_cut (λ u. u.variables t) ≡ Some 77
cut_tally = refl

cut_answers : at_cut (λ u. u.answers) ≡ Some (answer true true 2 3 0 ∷ answer true true 9 0 0 ∷ [])
cut_answers = refl

-- a transfer without a cycle asks for no crate, and leaves q and x as they were
no_cycle : items (served (script 100 100 with_r (set_register (on_line 4) r (number 2) (number 5) (number 0) ∷ q_stop (on_line 4) 0 r None (number 0) t ∷ [])) []) ≡ called ∷ []
no_cycle = refl

flags_kept : events (served (script 100 100 with_r (register r 6 0 ∷ single (on_line 4) Full 27 r no_data ∷ locked (on_line 4) (number 1) (block_of (put (on_line 4) (number 1) ∷ [])) ∷ q_repeat (on_line 4) 0 r None (number 0) (number 5) t ∷ choose_else (on_line 4) (plain flag_q ∷ negated flag_x ∷ []) (block_of (put (on_line 4) (number 2) ∷ [])) (block_of (put (on_line 4) (number 3) ∷ [])) ∷ [])) (answer false true 0 0 0 ∷ answer true false 0 0 0 ∷ [])) ≡ event 3 1 1 (1 ∷ 2 ∷ []) ∷ []
flags_kept = refl

-- Worked rows: which functions read, write or move nothing, and which cycles are safe.

f_0 : class_of 0 ≡ Read
f_0 = refl

f_7 : class_of 7 ≡ Read
f_7 = refl

f_8 : class_of 8 ≡ Control
f_8 = refl

f_15 : class_of 15 ≡ Control
f_15 = refl

f_16 : class_of 16 ≡ Write
f_16 = refl

f_23 : class_of 23 ≡ Write
f_23 = refl

f_24 : class_of 24 ≡ Control
f_24 = refl

f_31 : class_of 31 ≡ Control
f_31 = refl

abbrev register_6 : Address
register_6 = address 1 6 0

-- write-width: 255 fits 8 bits, 256 does not
safe_255 : IsSafe sample_plan register_6 16 (moved.Out 255)
safe_255 = record { width = 8; is_allowed = refl; is_of_class = refl; fits_width = omega arith }

write_256 : IsSafe sample_plan register_6 16 (moved.Out 256) → ⊥
write_256 h =
    let width : 8 ≡ h.width = ap (λ o. unwrap_or o 0) h.is_allowed in
    let fits' : 256 < 2 ^ h.width = h.fits_width in
    let same : 2 ^ 8 ≡ 2 ^ h.width = ap (λ w. 2 ^ w) width in absurd (omega arith)

-- wrong-class: F16 is no read, F27 moves nothing
read_16 : IsSafe sample_plan register_6 16 moved.In → ⊥
read_16 h = let wrong : false ≡ true = h.is_of_class in absurd (cc)

read_27 : IsSafe sample_plan register_6 27 moved.In → ⊥
read_27 h = let wrong : false ≡ true = h.is_of_class in absurd (cc)

test_27 : IsSafe sample_plan register_6 27 moved.None
test_27 = record { width = 24; is_allowed = refl; is_of_class = refl; fits_width = tt }

-- what nothing declares is not safe; a controller command is; in a crate that is not in the plan it is not
undeclared : IsSafe sample_plan (address 1 7 0) 27 moved.None → ⊥
undeclared h = let none : None ≡ Some h.width = h.is_allowed in absurd (cc)

controller : IsSafe sample_plan (address 1 28 8) 26 moved.None
controller = record { width = 24; is_allowed = refl; is_of_class = refl; fits_width = tt }

unsafe_crate : IsSafe sample_plan (address 2 28 8) 26 moved.None → ⊥
unsafe_crate h = let none : None ≡ Some h.width = h.is_allowed in absurd (cc)
