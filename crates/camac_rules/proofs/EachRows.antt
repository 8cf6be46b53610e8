-- Worked rows of `each`, computed.
use Rattle.std.proofs.Common.{◌≡◌, ℕ, List, [], ◌∷◌, Some, None, Result, Ok, Err, refl, zero, suc}
use Rattle.camac_range.specs.declared.comparison.Cmp.TheVariants.{Less, More, AtLeast}
use Rattle.camac_range.specs.Interval.{Interval, interval, only}
use Rattle.camac_lang.specs.declared.word.WordSize.TheVariants.{Full}
use Rattle.camac_lang.specs.Tree.{Expression, add, multiply, number, variable, plain, compare, into, Statement, assign, set_register, single, put, choose, for_, on_line, for_each, Script, subtract, remainder, group, negated, flag_q, Part, no_data, crate_call, while_}
use Rattle.camac_lang.specs.View.{block_of}
use Rattle.camac_model.specs.Sample.{sample_plan}
use Rattle.camac_model.proofs.SampleScripts.{r, v, k, i, t, script, register, with_r}
use Rattle.camac_rules.specs.declared.case.Case.TheVariants.{Counted, NoModule, Turns, Unset, Word, Judged, Annotation, Budget, Kept, Measure}
use Rattle.camac_rules.specs.declared.case.Case.TheVariants as case
use Rattle.camac_rules.specs.declared.case.Operator.TheVariants.{Add, Sub}
use Rattle.camac_rules.specs.declared.case.Body.TheVariants.{Service}
use Rattle.camac_rules.specs.declared.rule.CheckRule.TheVariants.{StationNotInstalled, RegisterUnset, TooManyTurns, WordTooWide, LoopVariableAssigned, ValueOutOfRange, MeasureBroken, KeepFailsAtEntry, KeepFailsAfterTurn, TooManyWords, TooManyCycles, TooManySteps}
use Rattle.camac_rules.specs.Cases.{operation}
use Rattle.camac_rules.specs.Fault.{Fault, broken}
use Rattle.camac_rules.specs.Refusal.{go_on, required, given, if_reached}
use Rattle.camac_rules.specs.Known.{Facts, facts, region}
use Rattle.camac_rules.specs.Costs.{costs, Verdict, verdict, unreached}
use Rattle.camac_rules.specs.Cycles.{Context, Around, alone_in}
use Rattle.camac_rules.specs.Loops.{with_fixed, for_rule}
use Rattle.camac_rules.specs.Statements.{accept_block}
use Rattle.camac_rules.specs.Each.{each_rule}
use Rattle.camac_rules.specs.Accept.{accept}
use Rattle.camac_lang.specs.declared.spot.Spot.{Spot}
use Rattle.camac_lang.specs.declared.word.CrateCall.TheVariants.{TestInhibit}
use Rattle.std.specs.Prelude.{◌++◌}

abbrev checking : Context
checking = record { plan = sample_plan; tables = []; lams = []; procedures = []; limit = λ c. c }

abbrev alone : Around
alone = alone_in (Service 0)

-- `for i = a to b each` on line 4
abbrev judge : (first last : ℕ) → List Statement → Facts → Result Verdict Fault
judge a b ss q = each_rule checking alone (on_line 4) i a b (accept_block checking (with_fixed i alone) (block_of ss)) q

-- the same without the word
abbrev plainly : (first last : ℕ) → List Statement → Facts → Result Verdict Fault
plainly a b ss q = for_rule checking alone (on_line 4) i (number a) (number b) [] (block_of ss) (accept_block checking (with_fixed i alone) (block_of ss)) q

-- v a word of 12 bits, k and i 0, t this
abbrev words_and : Interval → Facts
words_and sum = facts (interval 0 4095 ∷ only 0 ∷ only 0 ∷ sum ∷ []) []

abbrev adds : List Statement
adds = assign (on_line 5) t (add (variable t) (variable v)) ∷ []

-- a sum of twelve words, without a riddle; after it i is 12
sum_of_words : judge 1 12 adds (words_and (only 0)) ≡ Ok (verdict (Some (facts (interval 0 4095 ∷ only 0 ∷ only 12 ∷ interval 0 49140 ∷ []) [])) (costs 0 0 25))
unfolding go_on required given if_reached
sum_of_words = refl

-- as it is without the word
sum_by_a_for : plainly 1 12 adds (words_and (only 0)) ≡ Err (broken ValueOutOfRange (on_line 5) (operation Add (interval 0 4294967295) (interval 0 4095)))
unfolding go_on required given if_reached
sum_by_a_for = refl

-- the turn in which it may pass M, with the numbers of that turn
sum_past_M : judge 1 12 adds (words_and (only 4294922250)) ≡ Err (broken ValueOutOfRange (on_line 5) (operation Add (interval 4294922250 4294967295) (interval 0 4095)))
unfolding go_on required given if_reached
sum_past_M = refl

sum_to_M : judge 1 11 adds (words_and (only 4294922250)) ≡ Ok (verdict (Some (facts (interval 0 4095 ∷ only 0 ∷ only 11 ∷ interval 4294922250 4294967295 ∷ []) [])) (costs 0 0 23))
unfolding go_on required given if_reached
sum_to_M = refl

-- each turn has its own station
abbrev stations : List Statement
stations = set_register (on_line 4) r (number 1) (variable i) (number 0) ∷ single (on_line 5) Full 0 r (into v) ∷ []

station_six : judge 5 6 stations (facts [] []) ≡ Ok (verdict (Some (facts (interval 0 16777215 ∷ only 0 ∷ only 6 ∷ []) (Some (region (only 1) (only 6) (only 0)) ∷ []))) (costs 6 0 7))
unfolding go_on required given if_reached
station_six = refl

station_seven : judge 5 7 stations (facts [] []) ≡ Err (broken StationNotInstalled (on_line 5) (NoModule 1 7))
unfolding go_on required given if_reached
station_seven = refl

-- a register that a turn sets is set in the next: the first turn alone would be refused
abbrev read_then_set : List Statement
read_then_set =
    choose (on_line 5) (plain (compare (number 1) Less (variable i)) ∷ []) (block_of (single (on_line 5) Full 0 r (into v) ∷ [])) ∷
    set_register (on_line 6) r (number 1) (number 5) (number 0) ∷ []

set_in_the_turn_before : judge 1 2 read_then_set (facts [] []) ≡ Ok (verdict (Some (facts (interval 0 4095 ∷ only 0 ∷ only 2 ∷ []) (Some (region (only 1) (only 5) (only 0)) ∷ []))) (costs 3 0 8))
unfolding go_on required given if_reached
set_in_the_turn_before = refl

unset_in_the_first : judge 2 3 read_then_set (facts [] []) ≡ Err (broken RegisterUnset (on_line 5) (Unset (Service 0) 0))
unfolding go_on required given if_reached
unset_in_the_first = refl

-- the sum of what the turns cost, not the greatest times their number
abbrev once_a_word : List Statement
once_a_word = choose (on_line 5) (plain (compare (variable i) Less (number 2)) ∷ []) (block_of (put (on_line 5) (number 1) ∷ put (on_line 5) (number 2) ∷ [])) ∷ []

first_turn_alone : judge 1 12 once_a_word (facts [] []) ≡ Ok (verdict (Some (facts (only 0 ∷ only 0 ∷ only 12 ∷ []) [])) (costs 0 2 27))
unfolding go_on required given if_reached
first_turn_alone = refl

every_turn_by_a_for : plainly 1 12 once_a_word (facts [] []) ≡ Ok (verdict (Some (facts (only 0 ∷ only 0 ∷ interval 0 12 ∷ []) [])) (costs 0 24 49))
unfolding go_on required given if_reached
every_turn_by_a_for = refl

-- without a turn all stays, and the block is not judged
no_turn : judge 5 4 (assign (on_line 5) i (number 3) ∷ []) (words_and (only 7)) ≡ Ok (verdict (Some (words_and (only 7))) (costs 0 0 1))
unfolding go_on required given if_reached
no_turn = refl

variable_written : judge 1 2 (assign (on_line 5) i (number 3) ∷ []) (words_and (only 7)) ≡ Err (broken LoopVariableAssigned (on_line 5) (Counted (Service 0) 2))
unfolding go_on required given if_reached
variable_written = refl

variable_of_two : each_rule checking (with_fixed i alone) (on_line 4) i 1 2 (λ q. Ok unreached) (facts [] []) ≡ Err (broken LoopVariableAssigned (on_line 4) (Counted (Service 0) 2))
unfolding go_on required given if_reached
variable_of_two = refl

-- the number of turns is tested before the first
too_many_turns : judge 0 65535 (assign (on_line 5) i (number 3) ∷ []) (facts [] []) ≡ Err (broken TooManyTurns (on_line 4) (Turns 65536 65535))
unfolding go_on required given if_reached
too_many_turns = refl

-- a literal that is none: no text gives it
no_number : judge 0 4294967296 [] (facts [] []) ≡ Err (broken ValueOutOfRange (on_line 4) case.Malformed)
unfolding go_on required given if_reached
no_number = refl

-- a state that is not reached ends it: the first turn's costs alone
none_more : each_rule checking alone (on_line 4) i 1 12 (λ q. Ok (verdict None (costs 3 1 5))) (facts [] []) ≡ Ok (verdict None (costs 3 1 7))
unfolding go_on required given if_reached
none_more = refl

-- one in another: t counts all turns, k is the last number of the inner one
abbrev counted : Facts → Result Verdict Fault
counted q = each_rule checking (with_fixed i alone) (on_line 5) k 1 3 (accept_block checking (with_fixed k (with_fixed i alone)) (block_of (assign (on_line 6) t (add (variable t) (number 1)) ∷ []))) q

nested : each_rule checking alone (on_line 4) i 1 4 counted (facts [] []) ≡ Ok (verdict (Some (facts (only 0 ∷ only 3 ∷ only 4 ∷ only 12 ∷ []) [])) (costs 0 0 33))
unfolding go_on required given if_reached
nested = refl

-- a hundred turns
a_hundred : judge 1 100 adds (words_and (only 0)) ≡ Ok (verdict (Some (facts (interval 0 4095 ∷ only 0 ∷ only 100 ∷ interval 0 409500 ∷ []) [])) (costs 0 0 201))
unfolding go_on required given if_reached
a_hundred = refl

-- Worked rows of whole scripts with `each`, computed.

abbrev each : (spot : Spot) (x first last : ℕ) → List Statement → Statement
each spot x first last ss = for_each spot x first last (block_of ss)

abbrev body : List Statement → Script
body ss = script 100 100 with_r ss

-- the sum of twelve words of 12 bits, and then their mean, which fits a word
abbrev turn : List Statement
turn = single (on_line 5) Full 0 r (into v) ∷ assign (on_line 5) t (add (variable t) (variable v)) ∷ []

abbrev sums : Statement → Script
sums loop = body (register r 5 0 ∷ loop ∷ put (on_line 6) (variable t) ∷ [])

with_each : accept sample_plan (sums (each (on_line 5) i 1 12 turn)) ≡ Ok (costs 36 1 39 ∷ [])
unfolding go_on required given if_reached
with_each = refl

without_each : accept sample_plan (sums (for_ (on_line 5) i (number 1) (number 12) [] (block_of turn))) ≡ Err (broken ValueOutOfRange (on_line 5) (operation Add (interval 0 4294967295) (interval 0 4095)))
unfolding go_on required given if_reached
without_each = refl

-- one in another: 3 * (1 + (1 + 4 * (1 + 1))) judged, t counts twelve
nested_script : accept sample_plan (body (each (on_line 5) i 1 3 (each (on_line 5) k 1 4 (assign (on_line 5) t (add (variable t) (number 1)) ∷ []) ∷ []) ∷ put (on_line 6) (add (variable t) (number 16777203)) ∷ [])) ≡ Ok (costs 0 1 32 ∷ [])
unfolding go_on required given if_reached
nested_script = refl

nested_too_wide : accept sample_plan (body (each (on_line 5) i 1 3 (each (on_line 5) k 1 4 (assign (on_line 5) t (add (variable t) (number 1)) ∷ []) ∷ []) ∷ put (on_line 6) (add (variable t) (number 16777204)) ∷ [])) ≡ Err (broken WordTooWide (on_line 6) (Word 16777216))
unfolding go_on required given if_reached
nested_too_wide = refl

-- 32,769 turns of one statement, which are not judged; two loops whose sum passes the limit: the second is told, with the sum
too_much : accept sample_plan (body (each (on_line 5) i 1 32769 (put (on_line 5) (number 16777216) ∷ []) ∷ [])) ≡ Err (broken TooManyTurns (on_line 5) (Judged (Service 0) 65538 65536))
unfolding go_on required given if_reached
too_much = refl

too_much_of_two :
    accept sample_plan (body (each (on_line 5) i 1 2 (put (on_line 5) (number 16777216) ∷ []) ∷ each (on_line 6) i 1 32767 (put (on_line 6) (number 1) ∷ []) ∷ []))
    ≡ Err (broken TooManyTurns (on_line 6) (Judged (Service 0) 65538 65536))
unfolding go_on required given if_reached
too_much_of_two = refl

-- turns of empty blocks count, too: 300 * (1 + (1 + 300 * 1))
empty_turns : accept sample_plan (body (each (on_line 5) i 1 300 (each (on_line 5) k 1 300 [] ∷ []) ∷ [])) ≡ Err (broken TooManyTurns (on_line 5) (Judged (Service 0) 90600 65536))
unfolding go_on required given if_reached
empty_turns = refl

-- Worked rows of loops, computed.

-- loop-over-stations
abbrev stations_to : ℕ → Script
stations_to n =
    body (for_ (on_line 4) i (number 5) (number n) []
    (block_of (set_register (on_line 4) r (number 1) (variable i) (number 0) ∷ single (on_line 4) Full 0 r (into v) ∷ [])) ∷ [])

loop_to_seven : accept sample_plan (stations_to 7) ≡ Err (broken StationNotInstalled (on_line 4) (NoModule 1 7))
unfolding go_on required given if_reached
loop_to_seven = refl

loop_to_six : accept sample_plan (stations_to 6) ≡ Ok (costs 6 0 7 ∷ [])
unfolding go_on required given if_reached
loop_to_six = refl

-- for-too-long, longest-for, empty-for, loop-variable-assigned
abbrev from_to : ℕ → ℕ → List Statement → Script
from_to m n ss = body (for_ (on_line 4) i (number m) (number n) [] (block_of ss) ∷ [])

for_too_long : accept sample_plan (from_to 0 65535 []) ≡ Err (broken TooManyTurns (on_line 4) (Turns 65536 65535))
unfolding go_on required given if_reached
for_too_long = refl

longest_for : accept sample_plan (from_to 0 65534 []) ≡ Ok (costs 0 0 65536 ∷ [])
unfolding go_on required given if_reached
longest_for = refl

empty_for : accept sample_plan (from_to 5 4 (assign (on_line 4) i (number 3) ∷ [])) ≡ Ok (costs 0 0 1 ∷ [])
unfolding go_on required given if_reached
empty_for = refl

loop_variable_written : accept sample_plan (from_to 1 2 (assign (on_line 4) i (number 3) ∷ [])) ≡ Err (broken LoopVariableAssigned (on_line 4) (Counted (Service 0) 2))
unfolding go_on required given if_reached
loop_variable_written = refl

loop_variable_of_two : accept sample_plan (from_to 1 2 (for_ (on_line 5) i (number 1) (number 2) [] (block_of []) ∷ [])) ≡ Err (broken LoopVariableAssigned (on_line 5) (Counted (Service 0) 2))
unfolding go_on required given if_reached
loop_variable_of_two = refl

-- after a loop its variable may be what it was, and is not fixed any more
after_a_loop :
    accept sample_plan (body (assign (on_line 4) i (number 9) ∷ for_ (on_line 5) i (number 1) (number 2) [] (block_of []) ∷ put (on_line 6) (add (variable i) (number 16777206)) ∷ []))
    ≡ Ok (costs 0 1 5 ∷ [])
unfolding go_on required given if_reached
after_a_loop = refl

after_a_loop_too_wide :
    accept sample_plan (body (assign (on_line 4) i (number 9) ∷ for_ (on_line 5) i (number 1) (number 2) [] (block_of []) ∷ put (on_line 6) (add (variable i) (number 16777207)) ∷ []))
    ≡ Err (broken WordTooWide (on_line 6) (Word 16777216))
unfolding go_on required given if_reached
after_a_loop_too_wide = refl

-- what a turn writes is any number where the next begins, and after the loop
written_in_a_turn :
    accept sample_plan (from_to 1 2 (put (on_line 5) (variable v) ∷ assign (on_line 6) v (number 1) ∷ [])) ≡ Err (broken WordTooWide (on_line 5) (Word 4294967295))
unfolding go_on required given if_reached
written_in_a_turn = refl

written_then_read :
    accept sample_plan (from_to 1 2 (assign (on_line 5) v (number 1) ∷ put (on_line 6) (variable v) ∷ [])) ≡ Ok (costs 0 2 7 ∷ [])
unfolding go_on required given if_reached
written_then_read = refl

-- a register that a turn sets is unset where the next begins, and after the loop
set_in_a_turn :
    accept sample_plan (body (register r 5 0 ∷ for_ (on_line 5) i (number 1) (number 2) [] (block_of (single (on_line 6) Full 0 r (into v) ∷ register r 5 0 ∷ [])) ∷ []))
    ≡ Err (broken RegisterUnset (on_line 6) (Unset (Service 0) 0))
unfolding go_on required given if_reached
set_in_a_turn = refl

set_in_the_loop_alone :
    accept sample_plan (body (for_ (on_line 4) i (number 1) (number 2) [] (block_of (register r 5 0 ∷ [])) ∷ single (on_line 5) Full 0 r (into v) ∷ []))
    ≡ Err (broken RegisterUnset (on_line 5) (Unset (Service 0) 0))
unfolding go_on required given if_reached
set_in_the_loop_alone = refl

-- a kept range
abbrev keeping : ℕ → ℕ → Statement → Script
keeping low high s =
    body (assign (on_line 4) v (number 3) ∷ for_ (on_line 5) i (number 1) (number 4) (record { variable = v; low = low; high = high } ∷ []) (block_of (put (on_line 6) (variable v) ∷ s ∷ [])) ∷
    put (on_line 7) (variable v) ∷ [])

kept : accept sample_plan (keeping 0 9 (assign (on_line 6) v (remainder (add (variable v) (number 7)) 10))) ≡ Ok (costs 0 5 15 ∷ [])
unfolding go_on required given if_reached
kept = refl

kept_not : accept sample_plan (keeping 0 9 (assign (on_line 6) v (remainder (add (variable v) (number 7)) 11))) ≡ Err (broken KeepFailsAfterTurn (on_line 5) (Kept (Service 0) 0 (record { low = 0; high = 10 }) (record { low = 0; high = 9 })))
unfolding go_on required given if_reached
kept_not = refl

kept_not_at_entry : accept sample_plan (keeping 4 9 (assign (on_line 6) v (number 5))) ≡ Err (broken KeepFailsAtEntry (on_line 5) (Kept (Service 0) 0 (record { low = 3; high = 3 }) (record { low = 4; high = 9 })))
unfolding go_on required given if_reached
kept_not_at_entry = refl

kept_by_no_number : accept sample_plan (keeping 3 2 (assign (on_line 6) v (number 3))) ≡ Err (broken KeepFailsAtEntry (on_line 5) (Kept (Service 0) 0 (record { low = 3; high = 3 }) (record { low = 3; high = 2 })))
unfolding go_on required given if_reached
kept_by_no_number = refl

-- without a turn the keeps are tested at entry all the same, after the number of turns
keep_without_a_turn :
    accept sample_plan (body (for_ (on_line 5) i (number 2) (number 1) (record { variable = v; low = 1; high = 9 } ∷ []) (block_of []) ∷ []))
    ≡ Err (broken KeepFailsAtEntry (on_line 5) (Kept (Service 0) 0 (record { low = 0; high = 0 }) (record { low = 1; high = 9 })))
unfolding go_on required given if_reached
keep_without_a_turn = refl

turns_before_keeps :
    accept sample_plan (body (for_ (on_line 5) i (number 0) (number 65535) (record { variable = v; low = 1; high = 9 } ∷ []) (block_of []) ∷ []))
    ≡ Err (broken TooManyTurns (on_line 5) (Turns 65536 65535))
unfolding go_on required given if_reached
turns_before_keeps = refl

-- fifteen-loops
abbrev nested_loops : ℕ → List Statement → List Statement
nested_loops zero ss = ss
nested_loops (suc n) ss = for_ (on_line 4) n (number 1) (number 65535) [] (block_of (nested_loops n ss)) ∷ []

abbrev fifteen : List Statement → Script
fifteen ss = script 4294967295 4096 [] (nested_loops 15 ss)

fifteen_empty : accept sample_plan (fifteen []) ≡ Err (broken TooManySteps (on_line 3) (Budget (Service 0) 18446744073709551615 4294967295))
unfolding go_on required given if_reached
fifteen_empty = refl

fifteen_cycles : accept sample_plan (fifteen (crate_call (on_line 4) TestInhibit (number 1) ∷ [])) ≡ Err (broken TooManyCycles (on_line 3) (Budget (Service 0) 18446744073709551615 4294967295))
unfolding go_on required given if_reached
fifteen_cycles = refl

fifteen_words : accept sample_plan (fifteen (put (on_line 4) (number 1) ∷ [])) ≡ Err (broken TooManyWords (on_line 3) (Budget (Service 0) 18446744073709551615 4096))
unfolding go_on required given if_reached
fifteen_words = refl

-- poll-loop, measure-written-twice
abbrev less_one : Statement
less_one = assign (on_line 6) k (subtract (variable k) (number 1))

abbrev above_0 : ℕ → Part
above_0 x = plain (compare (variable x) More (number 0))

abbrev poll : ℕ → List Statement → Script
poll most more =
    script 30 0 with_r (register r 6 0 ∷ assign (on_line 5) k (number 10) ∷
    while_ (on_line 6) (above_0 k ∷ negated flag_q ∷ []) most k [] (block_of (single (on_line 6) Full 27 r no_data ∷ less_one ∷ more)) ∷ [])

poll_accepted : accept sample_plan (poll 10 []) ≡ Ok (costs 30 0 33 ∷ [])
unfolding go_on required given if_reached
poll_accepted = refl

poll_nine_turns : accept sample_plan (poll 9 []) ≡ Err (broken TooManyTurns (on_line 6) (Turns 10 9))
unfolding go_on required given if_reached
poll_nine_turns = refl

poll_written_twice : accept sample_plan (poll 10 (assign (on_line 6) k (number 5) ∷ [])) ≡ Err (broken MeasureBroken (on_line 6) (Measure (Service 0) 1))
unfolding go_on required given if_reached
poll_written_twice = refl

poll_written_inside : accept sample_plan (poll 10 (choose (on_line 6) (plain flag_q ∷ []) (block_of (less_one ∷ [])) ∷ [])) ≡ Err (broken MeasureBroken (on_line 6) (Measure (Service 0) 1))
unfolding go_on required given if_reached
poll_written_inside = refl

poll_turns_past_limit : accept sample_plan (poll 65536 []) ≡ Err (broken TooManyTurns (on_line 6) (Annotation 65536 65535))
unfolding go_on required given if_reached
poll_turns_past_limit = refl

-- the measure falls by k, a literal from 1, brackets aside
abbrev falling : ℕ → Expression → Script
falling most e = body (assign (on_line 4) k (number 10) ∷ while_ (on_line 5) (plain (compare (variable k) AtLeast (number 3)) ∷ []) most k [] (block_of (assign (on_line 6) k e ∷ [])) ∷ [])

falls_by_three : accept sample_plan (falling 3 (group (subtract (group (variable k)) (group (number 3))))) ≡ Ok (costs 0 0 8 ∷ [])
unfolding go_on required given if_reached
falls_by_three = refl

falls_by_three_in_two : accept sample_plan (falling 2 (subtract (variable k) (number 3))) ≡ Err (broken TooManyTurns (on_line 5) (Turns 3 2))
unfolding go_on required given if_reached
falls_by_three_in_two = refl

falls_by_nothing : accept sample_plan (falling 3 (subtract (variable k) (number 0))) ≡ Err (broken MeasureBroken (on_line 5) (Measure (Service 0) 1))
unfolding go_on required given if_reached
falls_by_nothing = refl

falls_below_0 : accept sample_plan (falling 3 (subtract (variable k) (number 4))) ≡ Err (broken ValueOutOfRange (on_line 6) (operation Sub (interval 3 10) (interval 4 4)))
unfolding go_on required given if_reached
falls_below_0 = refl

falls_to_a_variable : accept sample_plan (falling 3 (subtract (variable k) (variable v))) ≡ Err (broken MeasureBroken (on_line 5) (Measure (Service 0) 1))
unfolding go_on required given if_reached
falls_to_a_variable = refl

-- keep-range
abbrev up : Statement
up = assign (on_line 5) i (add (variable i) (number 1))

abbrev keeping_i : List Statement → Statement → Script
keeping_i first s =
    body (first ++ (assign (on_line 4) k (number 20) ∷
    while_ (on_line 5) (above_0 k ∷ []) 20 k (record { variable = i; low = 0; high = 11 } ∷ []) (block_of (less_one ∷ s ∷ [])) ∷ []))

keep_passed : accept sample_plan (keeping_i [] up) ≡ Err (broken KeepFailsAfterTurn (on_line 5) (Kept (Service 0) 2 (record { low = 1; high = 12 }) (record { low = 0; high = 11 })))
unfolding go_on required given if_reached
keep_passed = refl

keep_range : accept sample_plan (keeping_i [] (choose (on_line 5) (plain (compare (variable i) Less (number 11)) ∷ []) (block_of (up ∷ [])))) ≡ Ok (costs 0 0 82 ∷ [])
unfolding go_on required given if_reached
keep_range = refl

keep_at_entry : accept sample_plan (keeping_i (assign (on_line 4) i (number 12) ∷ []) up) ≡ Err (broken KeepFailsAtEntry (on_line 5) (Kept (Service 0) 2 (record { low = 12; high = 12 }) (record { low = 0; high = 11 })))
unfolding go_on required given if_reached
keep_at_entry = refl

-- while-condition-overflow: the condition is tested in the head
while_condition_overflow :
    accept sample_plan (body (assign (on_line 4) k (number 2) ∷
    while_ (on_line 5) (above_0 k ∷ plain (compare (add (variable v) (number 1)) More (number 0)) ∷ []) 2 k [] (block_of (less_one ∷ assign (on_line 5) v (number 4294967295) ∷ [])) ∷ []))
    ≡ Err (broken ValueOutOfRange (on_line 5) (operation Add (interval 0 4294967295) (interval 1 1)))
unfolding go_on required given if_reached
while_condition_overflow = refl

-- a condition that never holds: no turn, whatever is annotated
never_a_turn : accept sample_plan (body (while_ (on_line 5) (above_0 k ∷ []) 7 k [] (block_of (less_one ∷ put (on_line 6) (number 16777216) ∷ [])) ∷ [])) ≡ Ok (costs 0 0 1 ∷ [])
unfolding go_on required given if_reached
never_a_turn = refl

-- after a loop its condition does not hold
after_while :
    accept sample_plan (body (assign (on_line 4) k (number 20000000) ∷ while_ (on_line 5) (above_0 k ∷ []) 3 k [] (block_of (assign (on_line 6) k (subtract (variable k) (number 16777215)) ∷ [])) ∷ []))
    ≡ Err (broken ValueOutOfRange (on_line 6) (operation Sub (interval 1 20000000) (interval 16777215 16777215)))
unfolding go_on required given if_reached
after_while = refl

put_after_while :
    accept sample_plan (body (assign (on_line 4) k (number 20000000) ∷
    while_ (on_line 5) (plain (compare (variable k) AtLeast (number 16777215)) ∷ []) 2 k [] (block_of (assign (on_line 6) k (subtract (variable k) (number 16777215)) ∷ [])) ∷ put (on_line 7) (variable k) ∷ []))
    ≡ Ok (costs 0 1 7 ∷ [])
unfolding go_on required given if_reached
put_after_while = refl

-- the measure of a `while` can't be the variable of a `for` around it
measure_of_a_for :
    accept sample_plan (body (for_ (on_line 4) k (number 1) (number 2) [] (block_of (while_ (on_line 5) (above_0 k ∷ []) 2 k [] (block_of (less_one ∷ [])) ∷ [])) ∷ []))
    ≡ Err (broken LoopVariableAssigned (on_line 6) (Counted (Service 0) 1))
unfolding go_on required given if_reached
measure_of_a_for = refl
