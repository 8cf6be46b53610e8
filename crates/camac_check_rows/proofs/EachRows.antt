-- Worked rows of the statements in an `each`, computed.
use Rattle.std.proofs.Common.{◌≡◌, ℕ, List, [], ◌∷◌, Some, None, refl}
use Rattle.camac_range.specs.declared.comparison.Cmp.TheVariants.{Less}
use Rattle.camac_range.specs.Interval.{interval, only}
use Rattle.camac_lang.specs.declared.word.WordSize.TheVariants.{Full}
use Rattle.camac_lang.specs.Tree.{number, variable, plain, compare, into, Statement, set_register, single, put, choose, for_each, on_line}
use Rattle.camac_lang.specs.View.{block_of}
use Rattle.camac_model.specs.Fine.{Bounds}
use Rattle.camac_model.specs.Sample.{sample_plan}
use Rattle.camac_model.proofs.SampleScripts.{r, v, k, i}
use Rattle.camac_rules.specs.declared.case.Body.TheVariants.{Service}
use Rattle.camac_rules.specs.Refusal.{go_on, required, given, if_reached}
use Rattle.camac_rules.specs.Known.{Known, facts, region}
use Rattle.camac_rules.specs.Capped.{capped}
use Rattle.camac_rules.specs.Costs.{costs, no_costs}
use Rattle.camac_rules.specs.Cycles.{Context, Around, alone_in}
use Rattle.camac_check_rows.specs.declared.row.Kind.{Kind}
use Rattle.camac_check_rows.specs.declared.row.Kind.TheVariants as kind
use Rattle.camac_check_rows.specs.declared.row.Detail.{Detail}
use Rattle.camac_check_rows.specs.declared.row.Detail.TheVariants as detail
use Rattle.camac_check_rows.specs.declared.row.Row.{Row}
use Rattle.camac_check_rows.specs.Rows.{statement_rows}

abbrev checking : Context
checking = record { plan = sample_plan; tables = []; lams = []; procedures = []; limit = capped }

abbrev alone : Around
alone = alone_in (Service 0)

-- of `for i = a to b each` on line 4
abbrev rows_of : (first last : ℕ) → List Statement → Known → List Row
rows_of a b ss q = statement_rows checking alone (for_each (on_line 4) i a b (block_of ss)) q

abbrev at_start : Known
at_start = Some (facts [] [])

abbrev row : (line depth : ℕ) → Kind → (times : ℕ) → (each share : Bounds) → Detail → Row
row line depth word times each share told = record { spot = on_line line; depth = depth; kind = word; times = times; each = each; share = share; detail = told }

-- each turn has its own station: the row has all of them
abbrev stations : List Statement
stations = set_register (on_line 5) r (number 1) (variable i) (number 0) ∷ single (on_line 6) Full 0 r (into v) ∷ []

two_stations : rows_of 5 6 stations at_start
    ≡ row 4 1 kind.For 1 (costs 6 0 7) (costs 0 0 3) (detail.Turns 2)
    ∷ row 5 2 kind.Cdreg 2 (costs 0 0 1) (costs 0 0 2) detail.Nothing
    ∷ row 6 2 kind.Cfsa 2 (costs 3 0 1) (costs 6 0 2) (detail.At (region (only 1) (interval 5 6) (only 0)))
    ∷ []
unfolding go_on required given if_reached
two_stations = refl

-- what only one turn makes is made once
abbrev once_a_word : List Statement
once_a_word = choose (on_line 5) (plain (compare (variable i) Less (number 2)) ∷ []) (block_of (put (on_line 6) (number 1) ∷ put (on_line 7) (number 2) ∷ [])) ∷ []

first_turn_alone : rows_of 1 12 once_a_word at_start
    ≡ row 4 1 kind.For 1 (costs 0 2 27) (costs 0 0 13) (detail.Turns 12)
    ∷ row 5 2 kind.If 12 (costs 0 2 3) (costs 0 0 12) detail.Nothing
    ∷ row 6 3 kind.Put 1 (costs 0 1 1) (costs 0 1 1) detail.Nothing
    ∷ row 7 3 kind.Put 1 (costs 0 1 1) (costs 0 1 1) detail.Nothing
    ∷ []
unfolding go_on required given if_reached
first_turn_alone = refl

-- without a turn, and where it can't be reached, its statements are not made
no_turn : rows_of 5 4 stations at_start
    ≡ row 4 1 kind.For 1 (costs 0 0 1) (costs 0 0 1) (detail.Turns 0)
    ∷ row 5 2 kind.Cdreg 0 no_costs no_costs detail.Nothing
    ∷ row 6 2 kind.Cfsa 0 no_costs no_costs detail.Nothing
    ∷ []
unfolding go_on required given if_reached
no_turn = refl

not_reached : rows_of 5 6 stations None
    ≡ row 4 1 kind.For 0 no_costs no_costs detail.Nothing
    ∷ row 5 2 kind.Cdreg 0 no_costs no_costs detail.Nothing
    ∷ row 6 2 kind.Cfsa 0 no_costs no_costs detail.Nothing
    ∷ []
unfolding go_on required given if_reached
not_reached = refl

-- one in another, with as many turns in each
nested : rows_of 1 4 (for_each (on_line 5) k 1 3 (block_of (put (on_line 6) (variable k) ∷ [])) ∷ []) at_start
    ≡ row 4 1 kind.For 1 (costs 0 12 33) (costs 0 0 5) (detail.Turns 4)
    ∷ row 5 2 kind.For 4 (costs 0 3 7) (costs 0 0 16) (detail.Turns 3)
    ∷ row 6 3 kind.Put 12 (costs 0 1 1) (costs 0 12 12) detail.Nothing
    ∷ []
unfolding go_on required given if_reached
nested = refl
