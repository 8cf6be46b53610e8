-- Worked rows of transfers, computed on their rules.
use Rattle.std.proofs.Common.{◌≡◌, ℕ, List, [], ◌∷◌, Option, Some, None, Result, Ok, Err, refl}
use Rattle.camac_range.specs.Interval.{interval, only, Interval}
use Rattle.camac_range.specs.declared.comparison.Cmp.TheVariants.{More, Less, AtMost, Differs}
use Rattle.camac_lang.specs.Tree.{Expression, number, variable, subtract, plain, compare, assign, address_scan, q_stop, for_, while_, Script, on_line, group, no_data, into, from, negated, flag_q, Condition, Statement, single, put, choose, choose_else, locked}
use Rattle.camac_lang.specs.View.{block_of}
use Rattle.std.specs.Prelude.{codes}
use Rattle.camac_model.specs.Fine.{Bounds}
use Rattle.camac_model.specs.Sample.{sample_plan}
use Rattle.camac_model.proofs.SampleScripts.{script, script_of, opening, register, with_r, with_r_s, r, s, k, i, t, v}
use Rattle.camac_rules.specs.declared.case.Case.TheVariants.{Budget, Count, Counted, Crates, Direction, Measure, NoCommand, NoCrate, NoModule, Unset, Width, Crate, Locked}
use Rattle.camac_rules.specs.declared.case.Operator.TheVariants.{Sub}
use Rattle.camac_rules.specs.Cases.{operation}
use Rattle.camac_rules.specs.declared.rule.CheckRule.TheVariants.{StationNotInstalled, CommandNotDeclared, WrongDirection, ValueTooWide, RegisterUnset, ScanCratesDiffer, CountAboveTable, TooManyCycles, TooManyWords, ValueOutOfRange, MeasureBroken, LoopVariableAssigned, CrateUnfit}
use Rattle.camac_rules.specs.declared.case.Body.TheVariants as body
use Rattle.camac_func.specs.declared.code.FunctionClass.TheVariants.{Read, Write}
use Rattle.camac_rules.specs.Fault.{Fault, broken}
use Rattle.camac_rules.specs.Refusal.{go_on, required, given, if_reached}
use Rattle.camac_rules.specs.Known.{Region, region, facts, Facts}
use Rattle.camac_rules.specs.Costs.{costs, Verdict, verdict}
use Rattle.camac_rules.specs.Cycles.{Context, alone_in}
use Rattle.camac_rules.specs.Transfers.{scan_rule, q_stop_rule, q_repeat_rule}
use Rattle.camac_rules.specs.Accept.{accept}
use Rattle.camac_lang.specs.declared.word.WordSize.TheVariants.{Full}
use Rattle.camac_rules.specs.Conditions.{branches, split}

-- two tables, of three words and of one
abbrev tables : List (List ℕ)
tables = (1 ∷ 2 ∷ 255 ∷ []) ∷ (256 ∷ []) ∷ []

abbrev checking : Context
checking = record { plan = sample_plan; tables = tables; lams = []; procedures = []; limit = λ c. c }

abbrev at : ℕ → ℕ → ℕ → Option Region
at c n a = Some (region (only c) (only n) (only a))

-- a read of function 0 from one address to another, with its tally in variable 0
abbrev scan_from : Option Region → Option Region → ℕ → Result Verdict Fault
scan_from g h most = scan_rule checking (alone_in (body.Service 0)) (on_line 6) 0 0 1 (number most) 0 (facts [] (g ∷ h ∷ []))

abbrev scan : ℕ → ℕ → ℕ → ℕ → ℕ → Result Verdict Fault
scan n1 a1 n2 a2 most = scan_from (at 1 n1 a1) (at 1 n2 a2) most

abbrev scanned : ℕ → ℕ → ℕ → ℕ → ℕ → Bounds → Result Verdict Fault
scanned n1 a1 n2 a2 tally c = Ok (verdict (Some (facts (interval 0 tally ∷ []) (at 1 n1 a1 ∷ at 1 n2 a2 ∷ []))) c)

scan_by_count : scan 5 0 5 15 12 ≡ scanned 5 0 5 15 12 (costs 39 12 14)
unfolding go_on required given
scan_by_count = refl

scan_through_probes : scan 5 0 5 15 16 ≡ scanned 5 0 5 15 16 (costs 48 16 17)
unfolding go_on required given
scan_through_probes = refl

scan_past_declared : scan 5 0 6 15 16 ≡ Err (broken CommandNotDeclared (on_line 6) (NoCommand 0 1 6 1))
unfolding go_on required given
scan_past_declared = refl

scan_two_stations : scan 5 0 6 0 17 ≡ scanned 5 0 6 0 17 (costs 51 17 18)
unfolding go_on required given
scan_two_stations = refl

scan_two_stations_for_one : scan 5 0 6 0 1 ≡ scanned 5 0 6 0 1 (costs 9 1 4)
unfolding go_on required given
scan_two_stations_for_one = refl

scan_backwards : scan 5 3 5 1 4 ≡ scanned 5 3 5 1 0 (costs 0 0 1)
unfolding go_on required given
scan_backwards = refl

-- an empty window is not tested for stations; a sub-address above 15 is refused all the same
scan_nowhere : scan 40 3 40 1 4 ≡ scanned 40 3 40 1 0 (costs 0 0 1)
unfolding go_on required given
scan_nowhere = refl

scan_past_16 : scan 7 20 7 25 4 ≡ Err (broken CommandNotDeclared (on_line 6) (NoCommand 0 1 7 20))
unfolding go_on required given
scan_past_16 = refl

scan_past_stations : scan 6 0 4000000000 0 4 ≡ Err (broken StationNotInstalled (on_line 6) (NoModule 1 7))
unfolding go_on required given
scan_past_stations = refl

-- a station that is not installed comes before commands that are not declared
scan_past_installed : scan 6 0 7 0 4 ≡ Err (broken StationNotInstalled (on_line 6) (NoModule 1 7))
unfolding go_on required given if_reached
scan_past_installed = refl

scan_of_controller_outside : scan_from (at 2 28 0) (at 2 28 0) 4 ≡ Err (broken StationNotInstalled (on_line 6) (NoCrate 2))
unfolding go_on required given
scan_of_controller_outside = refl

scan_for_nothing : scan 5 0 5 15 0 ≡ scanned 5 0 5 15 0 (costs 0 0 1)
unfolding go_on required given
scan_for_nothing = refl

scan_two_crates : scan_from (at 1 5 0) (at 2 5 0) 4 ≡ Err (broken ScanCratesDiffer (on_line 6) (Crates (record { low = 1; high = 1 }) (record { low = 2; high = 2 })))
unfolding go_on required given
scan_two_crates = refl

scan_final_unset : scan_from (at 1 5 0) None 4 ≡ Err (broken RegisterUnset (on_line 6) (Unset (body.Service 0) 1))
unfolding go_on required given
scan_final_unset = refl

-- block transfers at station n; their tally in variable 0
abbrev stop : ℕ → ℕ → Option ℕ → ℕ → Result Verdict Fault
stop f n table most = q_stop_rule checking (alone_in (body.Service 0)) (on_line 5) f 0 table (number most) 0 (facts [] (at 1 n 0 ∷ []))

abbrev q_repeating : ℕ → ℕ → Option ℕ → ℕ → ℕ → Result Verdict Fault
q_repeating f n table most limit =
    q_repeat_rule checking (alone_in (body.Service 0)) (on_line 5) f 0 table (number most) (number limit) 0 (facts [] (at 1 n 0 ∷ []))

abbrev moved : ℕ → ℕ → Bounds → Result Verdict Fault
moved n tally c = Ok (verdict (Some (facts (interval 0 tally ∷ []) (at 1 n 0 ∷ []))) c)

stop_read : stop 0 5 None 4 ≡ moved 5 4 (costs 12 4 5)
unfolding go_on required given
stop_read = refl

table_write : stop 16 6 (Some 0) 3 ≡ moved 6 3 (costs 9 0 4)
unfolding go_on required given
table_write = refl

table_too_short : stop 16 6 (Some 0) 4 ≡ Err (broken CountAboveTable (on_line 5) (Count 4 3))
unfolding go_on required given
table_too_short = refl

-- every word of a table is looked at, also of one of which nothing is sent
table_too_wide : stop 16 6 (Some 1) 0 ≡ Err (broken ValueTooWide (on_line 5) (Width 256 8))
unfolding go_on required given
table_too_wide = refl

no_such_table : stop 16 6 (Some 2) 0 ≡ Err (broken CountAboveTable (on_line 5) (Count 0 0))
unfolding go_on required given
no_such_table = refl

write_code_read : stop 16 6 None 1 ≡ Err (broken WrongDirection (on_line 5) (Direction 16 Write Read))
unfolding go_on required given
write_code_read = refl

read_code_written : stop 0 6 (Some 0) 1 ≡ Err (broken WrongDirection (on_line 5) (Direction 0 Read Write))
unfolding go_on required given
read_code_written = refl

q_repeat_until_q : q_repeating 0 5 None 2 3 ≡ moved 5 2 (costs 9 2 4)
unfolding go_on required given
q_repeat_until_q = refl

q_repeat_at_most : q_repeating 0 5 None 4 3 ≡ moved 5 3 (costs 9 3 4)
unfolding go_on required given
q_repeat_at_most = refl

q_repeat_not : q_repeating 0 5 None 0 3 ≡ moved 5 0 (costs 0 0 1)
unfolding go_on required given
q_repeat_not = refl

-- scan-by-count as a script, one below its heading, and the tally after it
abbrev scanning : ℕ → ℕ → ℕ → Expression → Script
scanning cycles words most after =
    script cycles words with_r_s (register r 5 0 ∷ register s 5 15 ∷ address_scan (on_line 6) 0 r s (number most) t ∷ assign (on_line 7) t after ∷ [])

scanned_script : accept sample_plan (scanning 39 12 12 (subtract (number 12) (variable t))) ≡ Ok (costs 39 12 17 ∷ [])
unfolding go_on required given if_reached
scanned_script = refl

scanned_cycles : accept sample_plan (scanning 38 12 12 (number 0)) ≡ Err (broken TooManyCycles (on_line 3) (Budget (body.Service 0) 39 38))
unfolding go_on required given if_reached
scanned_cycles = refl

scanned_words : accept sample_plan (scanning 39 11 12 (number 0)) ≡ Err (broken TooManyWords (on_line 3) (Budget (body.Service 0) 12 11))
unfolding go_on required given if_reached
scanned_words = refl

tally_not_below : accept sample_plan (scanning 39 12 12 (subtract (number 11) (variable t))) ≡ Err (broken ValueOutOfRange (on_line 7) (operation Sub (interval 11 11) (interval 0 12)))
unfolding go_on required given if_reached
tally_not_below = refl

-- a tally is no measure, and can't be the variable of a `for` around
poll_tally :
    accept sample_plan (script 100 100 with_r (register r 6 0 ∷ assign (on_line 5) k (number 10) ∷
    while_ (on_line 6) (plain (compare (variable k) More (number 0)) ∷ []) 10 k []
    (block_of (assign (on_line 6) k (subtract (variable k) (number 1)) ∷ q_stop (on_line 6) 0 r None (number 1) k ∷ [])) ∷ []))
    ≡ Err (broken MeasureBroken (on_line 6) (Measure (body.Service 0) 1))
unfolding go_on required given if_reached
poll_tally = refl

for_tally :
    accept sample_plan (script 100 100 with_r (register r 5 0 ∷ for_ (on_line 4) i (number 1) (number 2) [] (block_of (q_stop (on_line 5) 0 r None (number 1) i ∷ [])) ∷ []))
    ≡ Err (broken LoopVariableAssigned (on_line 5) (Counted (body.Service 0) 2))
unfolding go_on required given if_reached
for_tally = refl

-- table-write as a script
abbrev writing : ℕ → Script
writing most =
    script_of opening (record { spot = on_line 2; name = codes "g"; words = 1 ∷ 2 ∷ 3 ∷ [] } ∷ []) [] 100 0 with_r
    (register r 6 0 ∷ q_stop (on_line 5) 16 r (Some 0) (number most) t ∷ [])

table_script : accept sample_plan (writing 3) ≡ Ok (costs 9 0 5 ∷ [])
unfolding go_on required given if_reached
table_script = refl

table_script_short : accept sample_plan (writing 4) ≡ Err (broken CountAboveTable (on_line 5) (Count 4 3))
unfolding go_on required given if_reached
table_script_short = refl

-- Worked rows of statements with blocks, computed: conditions, arms, locks.

-- register-maybe-unset
register_maybe_unset :
    accept sample_plan (script 100 100 with_r (choose (on_line 4) (plain flag_q ∷ []) (block_of (register r 6 0 ∷ [])) ∷ single (on_line 5) Full 27 r no_data ∷ []))
    ≡ Err (broken RegisterUnset (on_line 5) (Unset (body.Service 0) 0))
unfolding go_on required given if_reached
register_maybe_unset = refl

register_set_in_both :
    accept sample_plan (script 100 100 with_r (
    choose_else (on_line 4) (plain flag_q ∷ []) (block_of (register r 6 0 ∷ [])) (block_of (register r 5 0 ∷ [])) ∷ single (on_line 5) Full 0 r (into v) ∷ []))
    ≡ Ok (costs 3 0 3 ∷ [])
unfolding go_on required given if_reached
register_set_in_both = refl

-- guarded-write
abbrev guarded : ℕ → Condition → Script
guarded cycles test =
    script cycles 0 with_r_s (register r 5 0 ∷ single (on_line 5) Full 0 r (into v) ∷ register s 6 0 ∷
    choose (on_line 7) test (block_of (single (on_line 8) Full 16 s (from (variable v)) ∷ [])) ∷ [])

guarded_below_256 : accept sample_plan (guarded 6 (plain (compare (variable v) Less (number 256)) ∷ [])) ≡ Ok (costs 6 0 5 ∷ [])
unfolding go_on required given if_reached
guarded_below_256 = refl

guarded_to_256 : accept sample_plan (guarded 6 (plain (compare (variable v) AtMost (number 256)) ∷ [])) ≡ Err (broken ValueTooWide (on_line 8) (Width 256 8))
unfolding go_on required given if_reached
guarded_to_256 = refl

guarded_by_not : accept sample_plan (guarded 6 (negated (compare (number 256) AtMost (group (variable v))) ∷ [])) ≡ Ok (costs 6 0 5 ∷ [])
unfolding go_on required given if_reached
guarded_by_not = refl

guarded_cycles : accept sample_plan (guarded 5 (plain (compare (variable v) Less (number 256)) ∷ [])) ≡ Err (broken TooManyCycles (on_line 3) (Budget (body.Service 0) 6 5))
unfolding go_on required given if_reached
guarded_cycles = refl

-- unreachable-arm
unreachable_arm :
    accept sample_plan (script 100 100 with_r (register r 6 0 ∷
    choose (on_line 5) (plain (compare (number 1) More (number 2)) ∷ []) (block_of (single (on_line 5) Full 16 r (into v) ∷ [])) ∷ []))
    ≡ Ok (costs 0 0 2 ∷ [])
unfolding go_on required given if_reached
unreachable_arm = refl

-- the greater arm counts, each of its costs by itself
greater_arm :
    accept sample_plan (script 100 100 with_r (register r 6 0 ∷
    choose_else (on_line 5) (plain flag_q ∷ []) (block_of (single (on_line 6) Full 27 r no_data ∷ [])) (block_of (put (on_line 7) (number 1) ∷ put (on_line 8) (number 2) ∷ [])) ∷ []))
    ≡ Ok (costs 3 2 4 ∷ [])
unfolding go_on required given if_reached
greater_arm = refl

-- a value out of range in a part that stands where an earlier one holds
later_part_refused :
    accept sample_plan (script 100 100 [] (choose (on_line 4) (plain flag_q ∷ plain (compare (subtract (variable v) (number 1)) More (number 0)) ∷ []) (block_of []) ∷ []))
    ≡ Err (broken ValueOutOfRange (on_line 4) (operation Sub (interval 0 0) (interval 1 1)))
unfolding go_on required given if_reached
later_part_refused = refl

later_part_guarded :
    accept sample_plan (script 100 100 with_r (register r 5 0 ∷ single (on_line 5) Full 0 r (into v) ∷
    choose (on_line 6) (plain (compare (variable v) More (number 0)) ∷ plain (compare (subtract (variable v) (number 1)) More (number 0)) ∷ []) (block_of []) ∷ []))
    ≡ Ok (costs 3 0 3 ∷ [])
unfolding go_on required given if_reached
later_part_guarded = refl

-- v and k
abbrev both : Interval → Interval → Facts
both a b = facts (a ∷ b ∷ []) []

abbrev low_both : Condition
low_both = plain (compare (variable v) Less (number 4)) ∷ plain (compare (variable k) Less (number 2)) ∷ []

both_parts :
    split (on_line 1) low_both (both (interval 0 10) (interval 0 5))
    ≡ Ok (branches (Some (both (interval 0 3) (interval 0 1))) (Some (both (interval 0 10) (interval 0 5))))
unfolding go_on required given if_reached
both_parts = refl

one_part_decided :
    split (on_line 1) low_both (both (interval 0 3) (interval 0 5))
    ≡ Ok (branches (Some (both (interval 0 3) (interval 0 1))) (Some (both (interval 0 3) (interval 2 5))))
unfolding go_on required given if_reached
one_part_decided = refl

never_below_itself :
    split (on_line 1) (plain (compare (variable v) Less (group (variable v))) ∷ []) (both (interval 4 5) (only 0))
    ≡ Ok (branches None (Some (both (interval 4 5) (only 0))))
unfolding go_on required given if_reached
never_below_itself = refl

later_part_unreached :
    split (on_line 1) (plain (compare (number 1) More (number 2)) ∷ plain (compare (subtract (number 0) (number 1)) More (number 0)) ∷ []) (both (only 0) (only 0))
    ≡ Ok (branches None (Some (both (only 0) (only 0))))
unfolding go_on required given if_reached
later_part_unreached = refl

other_than_an_end :
    split (on_line 1) (plain (compare (variable v) Differs (number 0)) ∷ []) (both (interval 0 9) (only 0))
    ≡ Ok (branches (Some (both (interval 1 9) (only 0))) (Some (both (only 0) (only 0))))
unfolding go_on required given if_reached
other_than_an_end = refl

-- lockout: inside the lock a cycle costs 1
abbrev read : ℕ → Statement
read line = single (on_line line) Full 0 r (into v)

abbrev lockout : ℕ → List Statement → Script
lockout cycles inside = script cycles 100 with_r (register r 5 0 ∷ locked (on_line 5) (number 1) (block_of inside) ∷ [])

locked_reads : accept sample_plan (lockout 6 (read 6 ∷ read 7 ∷ read 8 ∷ read 9 ∷ [])) ≡ Ok (costs 6 0 7 ∷ [])
unfolding go_on required given if_reached
locked_reads = refl

locked_cycles : accept sample_plan (lockout 5 (read 6 ∷ read 7 ∷ read 8 ∷ read 9 ∷ [])) ≡ Err (broken TooManyCycles (on_line 3) (Budget (body.Service 0) 6 5))
unfolding go_on required given if_reached
locked_cycles = refl

lock_inside : accept sample_plan (lockout 100 (locked (on_line 6) (number 1) (block_of []) ∷ [])) ≡ Err (broken CrateUnfit (on_line 6) (Locked 1))
unfolding go_on required given if_reached
lock_inside = refl

lock_again : accept sample_plan (script 100 100 [] (locked (on_line 4) (number 1) (block_of []) ∷ locked (on_line 5) (number 1) (block_of []) ∷ [])) ≡ Ok (costs 4 0 4 ∷ [])
unfolding go_on required given if_reached
lock_again = refl

-- lock-empty
lock_empty : accept sample_plan (script 2 0 [] (locked (on_line 4) (number 1) (block_of []) ∷ [])) ≡ Ok (costs 2 0 2 ∷ [])
unfolding go_on required given if_reached
lock_empty = refl

lock_not_in_plan : accept sample_plan (script 100 100 [] (locked (on_line 4) (number 2) (block_of []) ∷ [])) ≡ Err (broken CrateUnfit (on_line 4) (Crate (record { low = 2; high = 2 })))
unfolding go_on required given if_reached
lock_not_in_plan = refl
