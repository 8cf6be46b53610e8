-- Worked rows: registers and windows that pass the rules of addresses, and such as break one.
use Rattle.std.proofs.Common.{◌≡◌, ℕ, [], ◌∷◌, Some, None, Ok, Err, true, false, refl, List}
use Rattle.camac_lang.specs.declared.word.WordSize.TheVariants.{Short}
use Rattle.camac_model.specs.Meaning.{fits_size}
use Rattle.camac_model.specs.Sample.{sample_plan}
use Rattle.camac_range.specs.Interval.{interval, only}
use Rattle.camac_rules.specs.declared.case.Case.TheVariants.{NoCommand, NoModule}
use Rattle.camac_rules.specs.declared.rule.CheckRule.TheVariants.{StationNotInstalled, CommandNotDeclared}
use Rattle.camac_rules.specs.Addresses.{are_stations, region_widths, command_widths, cycle_cost}
use Rattle.camac_rules.specs.Fault.{broken}
use Rattle.camac_rules.specs.Known.{Region, region}
use Rattle.camac_rules.specs.Refusal.{go_on, required, given}
use Rattle.camac_rules.specs.Transfers.{words_fit}
use Rattle.camac_rules.specs.Windows.{Window, window_of, is_installed, is_declared, window_size}
use Rattle.camac_lang.specs.Tree.{on_line, number, variable, add, call, Procedure, Script}
use Rattle.std.specs.Prelude.{codes}
use Rattle.camac_func.specs.declared.data.DataMove.TheVariants as moved
use Rattle.camac_lang.specs.View.{block_of}
use Rattle.camac_lang.specs.Scope.{is_well_formed}
use Rattle.camac_branch.specs.Branch.{Answer}
use Rattle.camac_model.specs.Behaviour.{Behaviour, pieces, stop_of, event_left, wrong}
use Rattle.camac_model.proofs.SampleScripts.{script_of, opening, get, demand, good, reply, cycle_at, event, called, doing, served}
use Rattle.camac_laws.specs.Calls.{guarded_run}

-- in crate 1 stations n to m and sub-addresses up to a
abbrev over : ℕ → ℕ → ℕ → Region
over n m a = region (only 1) (interval n m) (interval 0 a)

-- E1: stations 5 and 6 have modules, station 30 is the controller's, and station 7 and crate 2 are not there
stations_there : are_stations sample_plan (over 5 6 0) ≡ true
stations_there = refl

controller_there : are_stations sample_plan (over 30 30 9) ≡ true
controller_there = refl

station_missing : are_stations sample_plan (over 5 7 0) ≡ false
station_missing = refl

crate_missing : are_stations sample_plan (region (interval 1 2) (only 5) (only 0)) ≡ false
crate_missing = refl

-- widths: 12 bits up to A11, and 24 at the probes; no sub-address 16, and no F0 at A1 of station 6
one_width : region_widths sample_plan 0 (over 5 5 11) ≡ Some (interval 12 12)
one_width = refl

two_widths : region_widths sample_plan 0 (over 5 5 15) ≡ Some (interval 12 24)
two_widths = refl

past_sub_addresses : region_widths sample_plan 0 (over 5 5 16) ≡ None
past_sub_addresses = refl

one_without : region_widths sample_plan 0 (over 5 6 1) ≡ None
one_without = refl

-- by which rule
accepted : command_widths sample_plan (on_line 4) 0 (over 5 6 0) ≡ Ok (interval 12 24)
unfolding go_on required given
accepted = refl

not_installed : command_widths sample_plan (on_line 4) 0 (over 5 7 1) ≡ Err (broken StationNotInstalled (on_line 4) (NoModule 1 7))
unfolding go_on required given
not_installed = refl

not_declared : command_widths sample_plan (on_line 4) 0 (over 5 6 1) ≡ Err (broken CommandNotDeclared (on_line 4) (NoCommand 0 1 6 1))
unfolding go_on required given
not_declared = refl

-- E5: a table's word of 12 bits and one of 13
words_of_12 : words_fit ((4095 ∷ []) ∷ []) (Some 0) 12 ≡ true
words_of_12 = refl

word_of_13 : words_fit ((4095 ∷ 4096 ∷ []) ∷ []) (Some 0) 12 ≡ false
word_of_13 = refl

short_fits : fits_size Short 65535 ≡ true
short_fits = refl

short_too_wide : fits_size Short 65536 ≡ false
short_too_wide = refl

-- crate 1 has 2 waits, none while it is locked, and crate 2 is not in the plan
cost_of_one : cycle_cost sample_plan [] (only 1) ≡ 3
cost_of_one = refl

cost_in_lock : cycle_cost sample_plan (1 ∷ []) (only 1) ≡ 1
cost_in_lock = refl

cost_of_two : cycle_cost sample_plan [] (interval 1 2) ≡ 3
cost_of_two = refl

-- the window from station n, sub-address a to station m, sub-address b of crate 1
abbrev between : ℕ → ℕ → ℕ → ℕ → Window
between n a m b = window_of (region (only 1) (only n) (only a)) (region (only 1) (only m) (only b))

-- 14 and 15 at station 5, and 0 at station 6
three_addresses : window_size (between 5 14 6 0) ≡ 3
three_addresses = refl

no_address : window_size (between 6 0 5 15) ≡ 0
no_address = refl

window_installed : is_installed sample_plan (between 5 14 6 0) ≡ true
window_installed = refl

window_missing : is_installed sample_plan (between 5 14 7 0) ≡ false
window_missing = refl

window_declared : is_declared sample_plan 0 (between 5 14 6 0) ≡ true
window_declared = refl

window_undeclared : is_declared sample_plan 0 (between 5 14 6 1) ≡ false
window_undeclared = refl

-- Worked rows: guarded calls.

-- called for sub-address 0, and then for this one
abbrev calls : ℕ → Script
calls s = script_of opening [] (get ∷ []) 6 2 [] (call (on_line 9) 0 (number 0 ∷ []) ∷ call (on_line 10) 0 (number s ∷ []) ∷ [])

abbrev guarded_served : Script → List Answer → Behaviour (Unit {0})
guarded_served script answers = guarded_run 65535 sample_plan script (demand 4 ∷ answers)

-- 11 is in its range: the guards change nothing
inside : guarded_served (calls 11) (good 2)
    ≡ doing (called ∷ cycle_at 5 0 0 moved.In (reply true true 2) 0 ∷ cycle_at 5 11 0 moved.In (reply true true 1) 0 ∷ event_left (event 3 2 0 (2 ∷ 1 ∷ [])) ∷ [])
inside = refl

-- 12 is not. Without guards the run reads it, and ends
outside_stands : is_well_formed (calls 12) ≡ true
unfolding is_well_formed
outside_stands = refl

outside_unguarded : stop_of (served (calls 12) (good 2)) ≡ None
outside_unguarded = refl

-- with them it stops as wrong at the second call
outside : stop_of (guarded_served (calls 12) (good 2)) ≡ Some wrong
outside = refl

outside_done : pieces (guarded_served (calls 12) (good 2)) ≡ called ∷ cycle_at 5 0 0 moved.In (reply true true 2) 0 ∷ []
outside_done = refl

-- a call in a body is guarded too: this one is of the sub-address after its own
abbrev get_next : Procedure
get_next = record {
  spot = on_line 7;
  name = codes "get_next";
  parameters = record { name = codes "s"; low = 0; high = 11 } ∷ [];
  cycles = 3;
  words = 1;
  steps = 5;
  registers = [];
  body = block_of (call (on_line 8) 0 (add (variable 0) (number 1) ∷ []) ∷ []);
}

abbrev calls_next : ℕ → Script
calls_next s = script_of opening [] (get ∷ get_next ∷ []) 6 2 [] (call (on_line 11) 1 (number s ∷ []) ∷ [])

next_stands : is_well_formed (calls_next 11) ≡ true
unfolding is_well_formed
next_stands = refl

next_inside : stop_of (guarded_served (calls_next 10) (good 1)) ≡ None
next_inside = refl

next_outside : stop_of (guarded_served (calls_next 11) (good 1)) ≡ Some wrong
next_outside = refl

next_unguarded : stop_of (served (calls_next 11) (good 1)) ≡ None
next_unguarded = refl
