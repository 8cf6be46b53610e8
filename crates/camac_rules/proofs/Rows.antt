-- Worked rows of straight scripts and of procedures, computed.
use Rattle.std.proofs.Common.{◌≡◌, ℕ, List, [], ◌∷◌, Ok, Err, refl}
use Rattle.std.specs.Prelude.{codes}
use Rattle.camac_lang.specs.declared.word.CrateCall.TheVariants.{Initialise, Clear, InhibitOn, TestInhibit, DemandOn, DemandOff, TestDemandOutput, TestDemand}
use Rattle.camac_lang.specs.declared.word.LamCall as lam_word
use Rattle.camac_lang.specs.declared.word.WordSize.TheVariants.{Full, Short}
use Rattle.camac_lang.specs.Tree.{Text, Expression, add, subtract, multiply, divide, remainder, group, number, variable, no_data, into, from, Statement, assign, set_register, single, put, crate_call, lam_call, Script, on_line, Procedure, for_, locked, call}
use Rattle.camac_lang.specs.View.{block_of}
use Rattle.camac_model.specs.Sample.{sample_plan}
use Rattle.camac_model.proofs.SampleScripts.{adc_lam, script, script_of, v, k, opening, register as sample_register, with_r, r as sample_r, i}
use Rattle.camac_range.specs.Interval.{interval}
use Rattle.camac_rules.specs.declared.case.Case.TheVariants.{Budget, Crate, Direction, NoCommand, NoCrate, NoModule, Unset, Width, Word, Malformed, Argument}
use Rattle.camac_rules.specs.declared.case.Operator.TheVariants.{Add, Sub, Mul}
use Rattle.camac_rules.specs.Cases.{operation}
use Rattle.camac_rules.specs.declared.rule.CheckRule.TheVariants.{StationNotInstalled, CommandNotDeclared, WrongDirection, ValueOutOfRange, ValueTooWide, RegisterUnset, TooManyWords, TooManyCycles, CrateUnfit, WordTooWide, TooManySteps, ArgumentOutOfRange}
use Rattle.camac_rules.specs.declared.case.Body.TheVariants as body_of
use Rattle.camac_rules.specs.declared.case.Body.TheVariants.{Service}
use Rattle.camac_rules.specs.Fault.{broken}
use Rattle.camac_rules.specs.Refusal.{go_on, required, given, if_reached}
use Rattle.camac_rules.specs.Costs.{costs}
use Rattle.camac_rules.specs.Accept.{accept}
use Rattle.camac_func.specs.declared.code.FunctionClass.TheVariants.{Read, Write, Control}

-- Worked rows of straight scripts: verdicts and refusals, computed.

-- registers r and s by their numbers
abbrev r : ℕ
r = 0

abbrev s : ℕ
s = 1

abbrev registers : List Text
registers = codes "r" ∷ codes "s" ∷ []

abbrev register : ℕ → ℕ → ℕ → ℕ → Statement
register line g n a = set_register (on_line line) g (number 1) (number n) (number a)

-- the standard opening with its heading
abbrev body : List Statement → Script
body ss = script 100 100 registers ss

-- straight-line, within-too-small
abbrev straight_line : ℕ → ℕ → Script
straight_line cycles words =
    script_of (codes "v" ∷ []) [] [] cycles words (codes "r" ∷ []) (register 4 r 5 0 ∷ single (on_line 5) Full 0 r (into v) ∷ put (on_line 6) (variable v) ∷ [])

straight_line_accepted : accept sample_plan (straight_line 3 1) ≡ Ok (costs 3 1 3 ∷ [])
unfolding go_on required given if_reached
straight_line_accepted = refl

-- bounds are what was found, not the heading
straight_line_within_four : accept sample_plan (straight_line 4 2) ≡ Ok (costs 3 1 3 ∷ [])
unfolding go_on required given if_reached
straight_line_within_four = refl

within_too_small : accept sample_plan (straight_line 2 1) ≡ Err (broken TooManyCycles (on_line 3) (Budget (Service 0) 3 2))
unfolding go_on required given if_reached
within_too_small = refl

-- more words than the heading's come before more cycles
event_too_small : accept sample_plan (straight_line 2 0) ≡ Err (broken TooManyWords (on_line 3) (Budget (Service 0) 1 0))
unfolding go_on required given if_reached
event_too_small = refl

-- write-width
abbrev writing : Expression → Script
writing e = body (register 4 r 6 0 ∷ single (on_line 5) Full 16 r (from e) ∷ [])

width_kept : accept sample_plan (writing (number 255)) ≡ Ok (costs 3 0 2 ∷ [])
unfolding go_on required given if_reached
width_kept = refl

width_passed : accept sample_plan (writing (number 256)) ≡ Err (broken ValueTooWide (on_line 5) (Width 256 8))
unfolding go_on required given if_reached
width_passed = refl

-- a variable that is not set is 0
variable_sent : accept sample_plan (writing (variable v)) ≡ Ok (costs 3 0 2 ∷ [])
unfolding go_on required given if_reached
variable_sent = refl

-- reserved-code
reserved_code : accept sample_plan (body (register 4 r 6 0 ∷ single (on_line 5) Full 5 r (into v) ∷ [])) ≡ Ok (costs 3 0 2 ∷ [])
unfolding go_on required given if_reached
reserved_code = refl

write_code_read : accept sample_plan (body (register 4 r 6 0 ∷ single (on_line 5) Full 16 r (into v) ∷ [])) ≡ Err (broken WrongDirection (on_line 5) (Direction 16 Write Read))
unfolding go_on required given if_reached
write_code_read = refl

-- short-read
short_read : accept sample_plan (script 12 1 registers (register 4 r 6 0 ∷ single (on_line 4) Short 0 r (into v) ∷ put (on_line 4) (variable v) ∷ [])) ≡ Ok (costs 3 1 3 ∷ [])
unfolding go_on required given if_reached
short_read = refl

-- a word of 16 bits can be written in 16 bits, one of 24 can not
abbrev moved : Script
moved = body (register 4 r 6 0 ∷ single (on_line 5) Full 0 r (into v) ∷ single (on_line 6) Short 16 r (from (variable v)) ∷ [])

short_write_too_wide : accept sample_plan moved ≡ Err (broken ValueTooWide (on_line 6) (Width 16777215 8))
unfolding go_on required given if_reached
short_write_too_wide = refl

-- E6 comes before all else of the command
register_unset : accept sample_plan (body (single (on_line 4) Full 99 r no_data ∷ [])) ≡ Err (broken RegisterUnset (on_line 4) (Unset (Service 0) 0))
unfolding go_on required given if_reached
register_unset = refl

other_register_unset : accept sample_plan (body (register 4 r 6 0 ∷ single (on_line 5) Full 27 s no_data ∷ [])) ≡ Err (broken RegisterUnset (on_line 5) (Unset (Service 0) 1))
unfolding go_on required given if_reached
other_register_unset = refl

-- E1: no crate 2, no station 7, though the controller's station 30 is there
crate_not_in_plan :
    accept sample_plan (body (set_register (on_line 4) r (number 2) (number 5) (number 0) ∷ single (on_line 5) Full 0 r (into v) ∷ []))
    ≡ Err (broken StationNotInstalled (on_line 5) (NoCrate 2))
unfolding go_on required given if_reached
crate_not_in_plan = refl

crate_past_all :
    accept sample_plan (body (set_register (on_line 4) r (number 4000000000) (number 5) (number 0) ∷ single (on_line 5) Full 0 r (into v) ∷ []))
    ≡ Err (broken StationNotInstalled (on_line 5) (NoCrate 4000000000))
unfolding go_on required given if_reached
crate_past_all = refl

station_not_installed : accept sample_plan (body (register 4 r 7 0 ∷ single (on_line 5) Full 0 r (into v) ∷ [])) ≡ Err (broken StationNotInstalled (on_line 5) (NoModule 1 7))
unfolding go_on required given if_reached
station_not_installed = refl

controller_station : accept sample_plan (body (register 4 r 30 9 ∷ single (on_line 5) Full 26 r no_data ∷ [])) ≡ Ok (costs 3 0 2 ∷ [])
unfolding go_on required given if_reached
controller_station = refl

-- E2: no F1, no sub-address 16
command_not_declared : accept sample_plan (body (register 4 r 5 0 ∷ single (on_line 5) Full 1 r (into v) ∷ [])) ≡ Err (broken CommandNotDeclared (on_line 5) (NoCommand 1 1 5 0))
unfolding go_on required given if_reached
command_not_declared = refl

sub_address_past_all : accept sample_plan (body (register 4 r 5 16 ∷ single (on_line 5) Full 0 r (into v) ∷ [])) ≡ Err (broken CommandNotDeclared (on_line 5) (NoCommand 0 1 5 16))
unfolding go_on required given if_reached
sub_address_past_all = refl

-- E3: a test of status moves no data
control_code_read : accept sample_plan (body (register 4 r 6 0 ∷ single (on_line 5) Full 27 r (into v) ∷ [])) ≡ Err (broken WrongDirection (on_line 5) (Direction 27 Control Read))
unfolding go_on required given if_reached
control_code_read = refl

-- word-too-wide, with a number
word_of_32_bits : accept sample_plan (body (put (on_line 4) (number 16777216) ∷ [])) ≡ Err (broken WordTooWide (on_line 4) (Word 16777216))
unfolding go_on required given if_reached
word_of_32_bits = refl

word_of_24_bits : accept sample_plan (body (put (on_line 4) (number 16777215) ∷ [])) ≡ Ok (costs 0 1 1 ∷ [])
unfolding go_on required given if_reached
word_of_24_bits = refl

-- each operator in its range, and E4 past it
abbrev putting : Expression → Script
putting e = body (register 4 r 5 0 ∷ single (on_line 5) Full 0 r (into v) ∷ put (on_line 6) e ∷ [])

word_computed :
    accept sample_plan (putting (divide (multiply (add (variable v) (number 1)) (group (remainder (variable v) 16))) 4))
    ≡ Ok (costs 3 1 3 ∷ [])
unfolding go_on required given if_reached
word_computed = refl

difference_below_0 : accept sample_plan (putting (subtract (variable v) (number 1))) ≡ Err (broken ValueOutOfRange (on_line 6) (operation Sub (interval 0 4095) (interval 1 1)))
unfolding go_on required given if_reached
difference_below_0 = refl

product_too_great : accept sample_plan (putting (multiply (variable v) (number 1048833))) ≡ Err (broken ValueOutOfRange (on_line 6) (operation Mul (interval 0 4095) (interval 1048833 1048833)))
unfolding go_on required given if_reached
product_too_great = refl

-- a register of a range of sub-addresses: widths 12 and, at the probes, 24
abbrev computed : ℕ → Script
computed d =
    script 6 1 registers (register 4 r 5 0 ∷ single (on_line 5) Full 0 r (into v) ∷ set_register (on_line 6) s (number 1) (number 5) (remainder (variable v) d) ∷
    single (on_line 7) Full 0 s (into v) ∷ put (on_line 8) (variable v) ∷ [])

sub_addresses_to_15 : accept sample_plan (computed 16) ≡ Ok (costs 6 1 5 ∷ [])
unfolding go_on required given if_reached
sub_addresses_to_15 = refl

sub_addresses_to_16 : accept sample_plan (computed 17) ≡ Err (broken CommandNotDeclared (on_line 7) (NoCommand 0 1 5 16))
unfolding go_on required given if_reached
sub_addresses_to_16 = refl

-- word-too-wide
word_of_32_bits_set : accept sample_plan (body (assign (on_line 4) v (number 4000000000) ∷ put (on_line 5) (variable v) ∷ [])) ≡ Err (broken WordTooWide (on_line 5) (Word 4000000000))
unfolding go_on required given if_reached
word_of_32_bits_set = refl

word_cut :
    accept sample_plan (body (assign (on_line 4) v (number 4000000000) ∷ assign (on_line 5) v (remainder (variable v) 16777216) ∷ put (on_line 6) (variable v) ∷ []))
    ≡ Ok (costs 0 1 3 ∷ [])
unfolding go_on required given if_reached
word_cut = refl

sum_too_great :
    accept sample_plan (body (assign (on_line 4) v (number 4000000000) ∷ assign (on_line 5) v (add (variable v) (variable v)) ∷ []))
    ≡ Err (broken ValueOutOfRange (on_line 5) (operation Add (interval 4000000000 4000000000) (interval 4000000000 4000000000)))
unfolding go_on required given if_reached
sum_too_great = refl

-- computed-sub-address
abbrev computed_at : ℕ → Script
computed_at d =
    script 6 0 registers (register 4 r 5 0 ∷ single (on_line 5) Full 0 r (into v) ∷ assign (on_line 6) v (remainder (variable v) d) ∷
    set_register (on_line 7) s (number 1) (number 5) (variable v) ∷ single (on_line 8) Full 0 s (into k) ∷ [])

computed_12 : accept sample_plan (computed_at 12) ≡ Ok (costs 6 0 5 ∷ [])
unfolding go_on required given if_reached
computed_12 = refl

computed_16 : accept sample_plan (computed_at 16) ≡ Ok (costs 6 0 5 ∷ [])
unfolding go_on required given if_reached
computed_16 = refl

computed_17 : accept sample_plan (computed_at 17) ≡ Err (broken CommandNotDeclared (on_line 8) (NoCommand 0 1 5 16))
unfolding go_on required given if_reached
computed_17 = refl

-- demand-disabled, initialise-crate
demand_disabled : accept sample_plan (script 3 0 registers (crate_call (on_line 3) DemandOff (number 1) ∷ [])) ≡ Ok (costs 3 0 1 ∷ [])
unfolding go_on required given if_reached
demand_disabled = refl

initialise_crate :
    accept sample_plan (body (crate_call (on_line 4) Initialise (number 1) ∷ crate_call (on_line 5) TestInhibit (number 1) ∷ crate_call (on_line 6) TestDemandOutput (number 1) ∷ []))
    ≡ Ok (costs 9 0 3 ∷ [])
unfolding go_on required given if_reached
initialise_crate = refl

-- lam-calls
abbrev calling : Text → ℕ → ℕ → ℕ → Script
calling name n a l =
    record (script 12 1 registers (lam_call (on_line 4) lam_word.TheVariants.Disable l ∷ lam_call (on_line 4) lam_word.TheVariants.Test l ∷
    lam_call (on_line 4) lam_word.TheVariants.Clear l ∷ lam_call (on_line 4) lam_word.TheVariants.Enable l ∷ []))
    { lams = adc_lam ∷ (record { spot = on_line 1; name = name; crate_no = 1; station = n; sub_address = a }) ∷ [] }

lam_calls : accept sample_plan (calling (codes "m") 5 12 0) ≡ Ok (costs 12 0 4 ∷ [])
unfolding go_on required given if_reached
lam_calls = refl

-- the second LAM, at a sub-address without these commands, and at no station
lam_without_commands : accept sample_plan (calling (codes "m") 5 11 1) ≡ Err (broken CommandNotDeclared (on_line 4) (NoCommand 24 1 5 11))
unfolding go_on required given if_reached
lam_without_commands = refl

lam_at_no_station : accept sample_plan (calling (codes "m") 7 12 1) ≡ Err (broken StationNotInstalled (on_line 4) (NoModule 1 7))
unfolding go_on required given if_reached
lam_at_no_station = refl

-- crate-not-in-plan
call_not_in_plan : accept sample_plan (script 12 1 registers (crate_call (on_line 4) InhibitOn (number 2) ∷ [])) ≡ Err (broken CrateUnfit (on_line 4) (Crate (record { low = 2; high = 2 })))
unfolding go_on required given if_reached
call_not_in_plan = refl

call_past_all : accept sample_plan (body (crate_call (on_line 4) Clear (number 4000000000) ∷ [])) ≡ Err (broken CrateUnfit (on_line 4) (Crate (record { low = 4000000000; high = 4000000000 })))
unfolding go_on required given if_reached
call_past_all = refl

-- more than one number is no crate, and a value out of range comes first
call_of_range :
    accept sample_plan (body (register 4 r 5 0 ∷ single (on_line 5) Full 0 r (into v) ∷ crate_call (on_line 6) TestDemand (add (remainder (variable v) 2) (number 1)) ∷ []))
    ≡ Err (broken CrateUnfit (on_line 6) (Crate (record { low = 1; high = 2 })))
unfolding go_on required given if_reached
call_of_range = refl

call_below_0 : accept sample_plan (body (crate_call (on_line 4) DemandOn (subtract (number 1) (number 2)) ∷ [])) ≡ Err (broken ValueOutOfRange (on_line 4) (operation Sub (interval 1 1) (interval 2 2)))
unfolding go_on required given if_reached
call_below_0 = refl

-- Worked rows of procedures, computed.

-- a procedure of one parameter with this heading: it reads the sub-address that it is given
abbrev get : ℕ → ℕ → ℕ → ℕ → ℕ → Procedure
get low high cycles words steps = record {
  spot = on_line 3;
  name = codes "get";
  parameters = record { name = codes "s"; low = low; high = high } ∷ [];
  cycles = cycles;
  words = words;
  steps = steps;
  registers = with_r;
  body = block_of (set_register (on_line 4) sample_r (number 1) (number 5) (variable 0) ∷ single (on_line 5) Full 0 sample_r (into 0) ∷ put (on_line 6) (variable 0) ∷ []);
}

abbrev with_procedure : Procedure → ℕ → ℕ → List Statement → Script
with_procedure p cycles words ss = script_of opening [] (p ∷ []) cycles words with_r ss

abbrev two_calls : Procedure → Script
two_calls p = with_procedure p 6 2 (call (on_line 9) 0 (number 0 ∷ []) ∷ call (on_line 10) 0 (number 11 ∷ []) ∷ [])

-- procedure-calls
procedure_calls : accept sample_plan (two_calls (get 0 11 3 1 3)) ≡ Ok (costs 6 2 8 ∷ [])
unfolding go_on required given if_reached
procedure_calls = refl

-- a call costs what its heading says, also where the body takes less
procedure_calls_annotated : accept sample_plan (with_procedure (get 0 11 5 3 9) 10 6 (call (on_line 9) 0 (number 0 ∷ []) ∷ call (on_line 10) 0 (number 11 ∷ []) ∷ [])) ≡ Ok (costs 10 6 20 ∷ [])
unfolding go_on required given if_reached
procedure_calls_annotated = refl

-- procedure-faults
argument_12 : accept sample_plan (with_procedure (get 0 11 3 1 3) 6 2 (call (on_line 9) 0 (number 12 ∷ []) ∷ [])) ≡ Err (broken ArgumentOutOfRange (on_line 9) (Argument 0 0 (record { low = 12; high = 12 }) (record { low = 0; high = 11 })))
unfolding go_on required given if_reached
argument_12 = refl

steps_2 : accept sample_plan (two_calls (get 0 11 3 1 2)) ≡ Err (broken TooManySteps (on_line 3) (Budget (body_of.Procedure 0) 3 2))
unfolding go_on required given if_reached
steps_2 = refl

cycles_2 : accept sample_plan (two_calls (get 0 11 2 1 3)) ≡ Err (broken TooManyCycles (on_line 3) (Budget (body_of.Procedure 0) 3 2))
unfolding go_on required given if_reached
cycles_2 = refl

words_0 : accept sample_plan (two_calls (get 0 11 3 0 3)) ≡ Err (broken TooManyWords (on_line 3) (Budget (body_of.Procedure 0) 1 0))
unfolding go_on required given if_reached
words_0 = refl

range_to_16 : accept sample_plan (two_calls (get 0 16 3 1 3)) ≡ Err (broken CommandNotDeclared (on_line 5) (NoCommand 0 1 5 16))
unfolding go_on required given if_reached
range_to_16 = refl

-- the values of all arguments come before the range of any; below the range
argument_first : accept sample_plan (with_procedure (get 0 11 3 1 3) 6 2 (call (on_line 9) 0 (subtract (number 0) (number 1) ∷ []) ∷ [])) ≡ Err (broken ValueOutOfRange (on_line 9) (operation Sub (interval 0 0) (interval 1 1)))
unfolding go_on required given if_reached
argument_first = refl

argument_below : accept sample_plan (with_procedure (get 1 11 3 1 3) 6 2 (call (on_line 9) 0 (number 0 ∷ []) ∷ [])) ≡ Err (broken ArgumentOutOfRange (on_line 9) (Argument 0 0 (record { low = 0; high = 0 }) (record { low = 1; high = 11 })))
unfolding go_on required given if_reached
argument_below = refl

-- a body that no argument can reach is not checked, and every call of it is refused
no_argument : accept sample_plan (with_procedure (get 12 11 0 0 0) 6 2 []) ≡ Ok (costs 0 0 0 ∷ [])
unfolding go_on required given if_reached
no_argument = refl

no_argument_called : accept sample_plan (with_procedure (get 12 11 0 0 0) 6 2 (call (on_line 9) 0 (number 12 ∷ []) ∷ [])) ≡ Err (broken ArgumentOutOfRange (on_line 9) (Argument 0 0 (record { low = 12; high = 12 }) (record { low = 12; high = 11 })))
unfolding go_on required given if_reached
no_argument_called = refl

-- procedure-in-lock
in_lock : accept sample_plan (with_procedure (get 0 11 3 1 3) 5 1 (locked (on_line 9) (number 1) (block_of (call (on_line 9) 0 (number 0 ∷ []) ∷ [])) ∷ [])) ≡ Ok (costs 5 1 6 ∷ [])
unfolding go_on required given if_reached
in_lock = refl

-- the caller's variables and registers stay, and a body sees none of its registers
caller_keeps :
    accept sample_plan (with_procedure (get 0 11 3 1 3) 6 2 (assign (on_line 7) v (number 7) ∷ sample_register sample_r 5 0 ∷ call (on_line 8) 0 (variable v ∷ []) ∷ single (on_line 9) Full 0 sample_r (into i) ∷ put (on_line 10) (add (variable v) (number 16777208)) ∷ []))
    ≡ Ok (costs 6 2 8 ∷ [])
unfolding go_on required given if_reached
caller_keeps = refl

caller_keeps_no_more :
    accept sample_plan (with_procedure (get 0 11 3 1 3) 6 2 (assign (on_line 7) v (number 7) ∷ call (on_line 8) 0 (variable v ∷ []) ∷ put (on_line 10) (add (variable v) (number 16777209)) ∷ []))
    ≡ Err (broken WordTooWide (on_line 10) (Word 16777216))
unfolding go_on required given if_reached
caller_keeps_no_more = refl

registers_are_its_own :
    accept sample_plan (with_procedure (record (get 0 11 3 1 3) { body = block_of (single (on_line 5) Full 0 sample_r (into 0) ∷ []) }) 6 2 (sample_register sample_r 5 0 ∷ call (on_line 9) 0 (number 0 ∷ []) ∷ []))
    ≡ Err (broken RegisterUnset (on_line 5) (Unset (body_of.Procedure 0) 0))
unfolding go_on required given if_reached
registers_are_its_own = refl

-- in a loop
calls_in_a_loop :
    accept sample_plan (with_procedure (get 0 11 3 1 3) 36 12 (for_ (on_line 7) i (number 0) (number 11) [] (block_of (call (on_line 8) 0 (variable i ∷ []) ∷ [])) ∷ []))
    ≡ Ok (costs 36 12 61 ∷ [])
unfolding go_on required given if_reached
calls_in_a_loop = refl

-- a procedure calls those before it, and not itself
abbrev twice : ℕ → Procedure
twice callee = record {
  spot = on_line 5;
  name = codes "two";
  parameters = [];
  cycles = 6;
  words = 2;
  steps = 8;
  registers = [];
  body = block_of (call (on_line 6) callee (number 1 ∷ []) ∷ call (on_line 7) callee (number 2 ∷ []) ∷ []);
}

nested_calls : accept sample_plan (script_of opening [] (get 0 11 3 1 3 ∷ twice 0 ∷ []) 6 2 [] (call (on_line 9) 1 [] ∷ [])) ≡ Ok (costs 6 2 9 ∷ [])
unfolding go_on required given if_reached
nested_calls = refl

call_of_itself : accept sample_plan (script_of opening [] (get 0 11 3 1 3 ∷ twice 1 ∷ []) 6 2 [] (call (on_line 9) 1 [] ∷ [])) ≡ Err (broken ArgumentOutOfRange (on_line 6) Malformed)
unfolding go_on required given if_reached
call_of_itself = refl
