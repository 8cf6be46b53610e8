-- The sentence of a refused plan: what its rule knew, over the text and the table that it says as TOML.
use Rattle.std.specs.Prelude.{◌≡◌, ℕ, List, ◌++◌, Option, Some, None, codes, option_and_then, option_map, take, if◌then◌else◌}
use Rattle.std.specs.Str.{is_utf8}
use Rattle.toml.specs.Data.{Data, Members}
use Rattle.toml.specs.Parse.{parse_document}
use Rattle.camac_plan.specs.declared.fault.PlanCase.{PlanCase}
use Rattle.camac_plan.specs.declared.fault.PlanCase.TheVariants as case
use Rattle.camac_plan.specs.declared.fault.PlanTable.{PlanTable}
use Rattle.camac_plan.specs.declared.key.PlanKey.{PlanKey}
use Rattle.camac_plan.specs.declared.key.PlanKey.TheVariants as key
use Rattle.camac_explain_plan.specs.Path.{way_to, value_in}
use Rattle.camac_explain_plan.specs.Place.{place_text}
use Rattle.camac_explain_plan.specs.Told.{case_text, unknown_sentence}
use Rattle.camac_explain_plan.specs.declared.texts.TheConstants.{DEEP}

-- the table that a text says as TOML
abbrev pub document : List ℕ → Option Members
document text = if is_utf8 text then parse_document text else None

-- the table where a rule is broken, and the key, if it is one of those that a plan has
abbrev pub spot_in : PlanCase → Option (PlanTable × Option PlanKey)
spot_in (case.Missing table key kind) = Some (table, Some key)
spot_in (case.Kind table key kind) = Some (table, Some key)
spot_in (case.Range table key found low high) = Some (table, Some key)
spot_in (case.Name table key) = Some (table, Some key)
spot_in (case.Probe table width) = Some (table, Some key.Width)
spot_in (case.ClearingProbe table) = Some (table, Some key.Clears)
spot_in (case.Full table) = Some (table, None)
spot_in (case.Twice table key first) = Some (table, Some key)
spot_in (case.NoType table key) = Some (table, Some key)
spot_in (case.Command table f a first) = Some (table, None)
spot_in _ = None

abbrev pub value_at_key : (top : Members) → PlanTable → Option PlanKey → Option Data
value_at_key top table key = option_and_then (value_in top table) key

-- the way to the place, and what is told of it
abbrev pub at_table : (top : Members) → PlanTable → Option PlanKey → PlanCase → List ℕ
at_table top table key c = way_to top table key ++ (codes ": " ++ case_text top (value_at_key top table key) c)

-- the key that its table has not, by its number
abbrev pub unknown_in : PlanCase → Option (PlanTable × ℕ)
unknown_in (case.Unknown table entry) = Some (table, entry)
unknown_in _ = None

abbrev pub unknown_or : (top : Members) → PlanCase → Option (PlanTable × ℕ) → Option (List ℕ)
unknown_or top c (Some (table, entry)) = unknown_sentence top table entry
unknown_or top c None = option_map (λ spot. at_table top spot.0 spot.1 c) (spot_in c)

-- of a text that says this table
abbrev pub in_table : (top : Members) → PlanCase → Option (List ℕ)
in_table top c = unknown_or top c (unknown_in c)

-- of a text that says none: how the TOML library calls the fault
abbrev pub no_table : (message text : List ℕ) → PlanCase → Option (List ℕ)
no_table message text (case.Text at) = Some (place_text (take at text) message)
no_table message text _ = None

abbrev pub by_table : (message text : List ℕ) → PlanCase → Option Members → Option (List ℕ)
by_table message text c (Some top) = in_table top c
by_table message text c None = no_table message text c

-- how deep it is: P11
abbrev pub nested_at : PlanCase → Option ℕ
nested_at (case.Nested at) = Some at
nested_at _ = None

abbrev pub nested_text : (text : List ℕ) → (at : ℕ) → List ℕ
nested_text text at = place_text (take at text) DEEP.now

abbrev pub nested_or : (text : List ℕ) → Option ℕ → (otherwise : Option (List ℕ)) → Option (List ℕ)
nested_or text (Some at) otherwise = Some (nested_text text at)
nested_or text None otherwise = otherwise

-- of a text that is nested too deep no table is read
abbrev pub plan_sentence_of : (message text : List ℕ) → PlanCase → Option (List ℕ)
plan_sentence_of message text c = nested_or text (nested_at c) (by_table message text c (document text))

-- with some message of the TOML library
abbrev pub IsReadSentence : (text : List ℕ) → PlanCase → Option (List ℕ) → Type 0
IsReadSentence text c sentence = (message : List ℕ) × (sentence ≡ by_table message text c (document text))

abbrev pub IsPlanSentence : (text : List ℕ) → PlanCase → Option (List ℕ) → Type 0
IsPlanSentence text c sentence = (message : List ℕ) × (sentence ≡ plan_sentence_of message text c)
