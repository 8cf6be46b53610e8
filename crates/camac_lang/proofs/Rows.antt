-- Scripts that are well formed, and scripts that break one rule, by computation.
use Rattle.std.proofs.Common.{◌≡◌, ℕ, zero, suc, List, [], ◌∷◌, Some, refl, Bool, true, false}
use Rattle.std.specs.Prelude.{codes, replicate, IsTrue}
use Rattle.camac_lang.specs.Depth.{script_depth}
use Rattle.camac_lang.specs.Example.{adc, adc_service, straight_line}
use Rattle.camac_lang.specs.declared.word.WordSize.TheVariants.{Full}
use Rattle.camac_lang.specs.declared.word.LamCall.TheVariants.{Clear}
use Rattle.camac_lang.specs.Scope.{is_well_formed}
use Rattle.camac_lang.specs.Tree.{Text, Expression, number, variable, group, add, subtract, multiply, divide, plain, flag_q, into, Statement, done, assign, set_register, single, q_stop, put, lam_call, choose, for_, while_, locked, call, Table, Lam, Procedure, Service, Item, next_table, next_lam, next_variables, next_procedure, next_service, Script, on_line}
use Rattle.camac_lang.specs.View.{block_of}

abbrev served : List Text → List Statement → Service
served registers ss = record adc_service { registers = registers; body = block_of ss }

-- a script of the opening of the standard example, with one more variable
abbrev script : List Text → List Procedure → List Item → List Statement → Script
script registers procedures items ss = record {
  order = next_lam ∷ next_variables (on_line 2) 2 ∷ items;
  tables = [];
  lams = adc ∷ [];
  variables = codes "v" ∷ codes "k" ∷ [];
  procedures = procedures;
  services = served registers ss ∷ [];
}

abbrev fits : List Text → List Statement → Bool
fits registers ss = is_well_formed (script registers [] (next_service ∷ []) ss)

abbrev read : Statement
read = single (on_line 5) Full 0 0 (into 0)

abbrev set : ℕ → Statement
set r = set_register (on_line 4) r (number 1) (number 5) (number 0)

-- the standard example
pub example_stands : IsTrue (is_well_formed straight_line)
unfolding is_well_formed
example_stands = refl

-- a register before its first `cdreg`, one too many and one too few; one named like a variable, one twice
not_set : fits (codes "r" ∷ []) (read ∷ set 0 ∷ []) ≡ false
unfolding is_well_formed
not_set = refl

one_too_many : fits (codes "r" ∷ codes "s" ∷ []) (set 0 ∷ []) ≡ false
unfolding is_well_formed
one_too_many = refl

one_too_few : fits (codes "r" ∷ []) (set 0 ∷ set 1 ∷ []) ≡ false
unfolding is_well_formed
one_too_few = refl

like_a_variable : fits (codes "k" ∷ []) (set 0 ∷ []) ≡ false
unfolding is_well_formed
like_a_variable = refl

register_twice : fits (codes "r" ∷ codes "r" ∷ []) (set 0 ∷ set 1 ∷ []) ≡ false
unfolding is_well_formed
register_twice = refl

-- a variable and a LAM that are not there; a divisor 0; a kept loop variable
no_variable : fits [] (put (on_line 4) (variable 2) ∷ []) ≡ false
unfolding is_well_formed
no_variable = refl

no_lam : fits [] (lam_call (on_line 4) Clear 1 ∷ []) ≡ false
unfolding is_well_formed
no_lam = refl

no_table : fits (codes "r" ∷ []) (set 0 ∷ q_stop (on_line 5) 16 0 (Some 0) (number 1) 0 ∷ []) ≡ false
unfolding is_well_formed
no_table = refl

by_zero : fits [] (put (on_line 4) (divide (number 1) 0) ∷ []) ≡ false
unfolding is_well_formed
by_zero = refl

abbrev for_row : ℕ → ℕ → ℕ → Statement
for_row x low high =
    for_ (on_line 4) 0 (number 0) (number 3) (record { variable = x; low = low; high = high } ∷ []) done

kept : fits [] (for_row 1 0 4294967295 ∷ []) ≡ true
unfolding is_well_formed
kept = refl

kept_itself : fits [] (for_row 0 0 3 ∷ []) ≡ false
unfolding is_well_formed
kept_itself = refl

kept_too_large : fits [] (for_row 1 0 4294967296 ∷ []) ≡ false
unfolding is_well_formed
kept_too_large = refl

-- the largest number, and one more; the last function, and one more; the turns of a `while`
largest : fits [] (put (on_line 4) (number 4294967295) ∷ []) ≡ true
unfolding is_well_formed
largest = refl

too_large : fits [] (put (on_line 4) (number 4294967296) ∷ []) ≡ false
unfolding is_well_formed
too_large = refl

divisor_too_large : fits [] (put (on_line 4) (divide (number 1) 4294967296) ∷ []) ≡ false
unfolding is_well_formed
divisor_too_large = refl

function_31 : fits (codes "r" ∷ []) (set 0 ∷ single (on_line 5) Full 31 0 (into 0) ∷ []) ≡ true
unfolding is_well_formed
function_31 = refl

function_32 : fits (codes "r" ∷ []) (set 0 ∷ single (on_line 5) Full 32 0 (into 0) ∷ []) ≡ false
unfolding is_well_formed
function_32 = refl

turns_too_large : fits [] (while_ (on_line 4) (plain flag_q ∷ []) 4294967296 0 [] done ∷ []) ≡ false
unfolding is_well_formed
turns_too_large = refl

-- `5 - 2 - 1` is grouped from the left, and a sum in a product stands in brackets
from_the_left : fits [] (put (on_line 4) (subtract (subtract (number 5) (number 2)) (number 1)) ∷ []) ≡ true
unfolding is_well_formed
from_the_left = refl

from_the_right : fits [] (put (on_line 4) (subtract (number 5) (subtract (number 2) (number 1))) ∷ []) ≡ false
unfolding is_well_formed
from_the_right = refl

in_brackets : fits [] (put (on_line 4) (subtract (number 5) (group (subtract (number 2) (number 1)))) ∷ []) ≡ true
unfolding is_well_formed
in_brackets = refl

product_of_sum : fits [] (put (on_line 4) (multiply (add (number 1) (number 1)) (number 1)) ∷ []) ≡ false
unfolding is_well_formed
product_of_sum = refl

product_of_product : fits [] (put (on_line 4) (multiply (number 1) (multiply (number 1) (number 1))) ∷ []) ≡ false
unfolding is_well_formed
product_of_product = refl

quotient_of_sum : fits [] (put (on_line 4) (divide (add (number 1) (number 1)) 2) ∷ []) ≡ false
unfolding is_well_formed
quotient_of_sum = refl

sum_of_products : fits [] (put (on_line 4) (add (divide (number 8) 2) (multiply (multiply (number 1) (number 2)) (number 3))) ∷ []) ≡ true
unfolding is_well_formed
sum_of_products = refl

-- 32 and 33 operators
abbrev sum_of : ℕ → Expression
sum_of zero = number 1
sum_of (suc n) = add (sum_of n) (number 1)

operators_32 : fits [] (put (on_line 4) (sum_of 32) ∷ []) ≡ true
unfolding is_well_formed
operators_32 = refl

operators_33 : fits [] (put (on_line 4) (sum_of 33) ∷ []) ≡ false
unfolding is_well_formed
operators_33 = refl

-- conditions of no part, of 16 and of 17
abbrev asking : ℕ → Statement
asking n = choose (on_line 4) (replicate n (plain flag_q)) done

no_part : fits [] (asking 0 ∷ []) ≡ false
unfolding is_well_formed
no_part = refl

parts_16 : fits [] (asking 16 ∷ []) ≡ true
unfolding is_well_formed
parts_16 = refl

parts_17 : fits [] (asking 17 ∷ []) ≡ false
unfolding is_well_formed
parts_17 = refl

-- depth 16 and 17: fifteen and sixteen pairs of brackets in the block
abbrev brackets : ℕ → Expression
brackets zero = number 1
brackets (suc n) = group (brackets n)

deep : fits [] (assign (on_line 4) 0 (brackets 15) ∷ []) ≡ true
unfolding is_well_formed
deep = refl

too_deep : fits [] (assign (on_line 4) 0 (brackets 16) ∷ []) ≡ false
unfolding is_well_formed
too_deep = refl

-- a procedure, and calls of it
abbrev get : ℕ → List Statement → Procedure
get high ss = record {
  spot = on_line 3;
  name = codes "get";
  parameters = record { name = codes "s"; low = 0; high = high } ∷ [];
  cycles = 3;
  words = 1;
  steps = 3;
  registers = codes "r" ∷ [];
  body = block_of ss;
}

abbrev calls : List Statement → List Item → List Statement → Bool
calls body items ss = is_well_formed (script [] (get 11 body ∷ []) items ss)

called : calls (set 0 ∷ read ∷ []) (next_procedure ∷ next_service ∷ []) (call (on_line 9) 0 (number 0 ∷ []) ∷ []) ≡ true
unfolding is_well_formed
called = refl

called_before : calls (set 0 ∷ read ∷ []) (next_service ∷ next_procedure ∷ []) (call (on_line 9) 0 (number 0 ∷ []) ∷ []) ≡ false
unfolding is_well_formed
called_before = refl

called_without : calls (set 0 ∷ read ∷ []) (next_procedure ∷ next_service ∷ []) (call (on_line 9) 0 [] ∷ []) ≡ false
unfolding is_well_formed
called_without = refl

called_by_itself : calls (set 0 ∷ call (on_line 4) 0 (number 0 ∷ []) ∷ []) (next_procedure ∷ next_service ∷ []) [] ≡ false
unfolding is_well_formed
called_by_itself = refl

locks_inside : calls (set 0 ∷ locked (on_line 4) (number 1) done ∷ []) (next_procedure ∷ next_service ∷ []) [] ≡ false
unfolding is_well_formed
locks_inside = refl

range_too_large : is_well_formed (script [] (get 4294967296 (set 0 ∷ []) ∷ []) (next_procedure ∷ next_service ∷ []) []) ≡ false
unfolding is_well_formed
range_too_large = refl

-- one brace is open at the call, and the procedure is of depth 15 and 16
deep_call : calls (set 0 ∷ assign (on_line 4) 0 (brackets 14) ∷ []) (next_procedure ∷ next_service ∷ []) (call (on_line 9) 0 (number 0 ∷ []) ∷ []) ≡ true
unfolding is_well_formed
deep_call = refl

too_deep_call : calls (set 0 ∷ assign (on_line 4) 0 (brackets 15) ∷ []) (next_procedure ∷ next_service ∷ []) (call (on_line 9) 0 (number 0 ∷ []) ∷ []) ≡ false
unfolding is_well_formed
too_deep_call = refl

-- declarations alone: tables, a LAM, variables and a service's heading
abbrev declares : List Table → Lam → List Text → Service → Bool
declares tables lam variables service = is_well_formed (record {
  order = next_lam ∷ next_variables (on_line 2) 2 ∷ next_table ∷ next_service ∷ [];
  tables = tables;
  lams = lam ∷ [];
  variables = variables;
  procedures = [];
  services = service ∷ [];
})

abbrev table : List ℕ → Table
table words = record { spot = on_line 2; name = codes "t"; words = words }

abbrev two : List Text
two = codes "v" ∷ codes "k" ∷ []

declared : declares (table (16777215 ∷ []) ∷ []) (record adc { sub_address = 15 }) two (served [] []) ≡ true
unfolding is_well_formed
declared = refl

word_too_wide : declares (table (16777216 ∷ []) ∷ []) adc two (served [] []) ≡ false
unfolding is_well_formed
word_too_wide = refl

no_word : declares (table [] ∷ []) adc two (served [] []) ≡ false
unfolding is_well_formed
no_word = refl

words_1025 : declares (table (replicate 1025 0) ∷ []) adc two (served [] []) ≡ false
unfolding is_well_formed
words_1025 = refl

sub_address_16 : declares (table (1 ∷ []) ∷ []) (record adc { sub_address = 16 }) two (served [] []) ≡ false
unfolding is_well_formed
sub_address_16 = refl

variable_twice : declares (table (1 ∷ []) ∷ []) adc (codes "v" ∷ codes "v" ∷ []) (served [] []) ≡ false
unfolding is_well_formed
variable_twice = refl

like_a_lam : declares (table (1 ∷ []) ∷ []) adc (codes "v" ∷ codes "adc" ∷ []) (served [] []) ≡ false
unfolding is_well_formed
like_a_lam = refl

name_of_32 : declares (table (1 ∷ []) ∷ []) adc (codes "v" ∷ replicate 32 97 ∷ []) (served [] []) ≡ true
unfolding is_well_formed
name_of_32 = refl

name_of_33 : declares (table (1 ∷ []) ∷ []) adc (codes "v" ∷ replicate 33 97 ∷ []) (served [] []) ≡ false
unfolding is_well_formed
name_of_33 = refl

no_name : declares (table (1 ∷ []) ∷ []) adc (codes "v" ∷ [] ∷ []) (served [] []) ≡ false
unfolding is_well_formed
no_name = refl

-- a table that nothing in the text's order declares
too_many_tables : declares (table (1 ∷ []) ∷ table (1 ∷ []) ∷ []) adc two (served [] []) ≡ false
unfolding is_well_formed
too_many_tables = refl

other_lam : declares (table (1 ∷ []) ∷ []) adc two (record (served [] []) { lam = 1 }) ≡ false
unfolding is_well_formed
other_lam = refl

heading_too_large : declares (table (1 ∷ []) ∷ []) adc two (record (served [] []) { cycles = 4294967296 }) ≡ false
unfolding is_well_formed
heading_too_large = refl

-- the braces of the example; two pairs of brackets in them
depth_1 : script_depth straight_line ≡ 1
depth_1 = refl

depth_3 : script_depth (script [] [] (next_service ∷ []) (assign (on_line 4) 0 (brackets 2) ∷ [])) ≡ 3
depth_3 = refl
