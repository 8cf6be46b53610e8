-- What is told of a value, and of a key that its table has not.
use Rattle.std.specs.Prelude.{ℕ, ◌+◌, List, [], ◌∷◌, Option, Some, None, codes, decimal, zero, suc, Bool, ◌++◌, find, length, option_map, option_and_then}
use Rattle.std.specs.Fmt.{signed_decimal}
use Rattle.toml.specs.Data.{Data, string, integer, table, array, Items, no_items, item, Members, type_name, no_members, member}
use Rattle.camac_lines.specs.Words.{quoted, before_item, is_near}
use Rattle.camac_plan.specs.declared.fault.PlanCase.{PlanCase}
use Rattle.camac_plan.specs.declared.fault.PlanCase.TheVariants as case
use Rattle.camac_plan.specs.declared.fault.PlanTable.{PlanTable}
use Rattle.camac_plan.specs.declared.fault.PlanTable.TheVariants.{Command, Top, ModuleType, Crate, Station}
use Rattle.camac_plan.specs.declared.fault.ValueKind.{ValueKind}
use Rattle.camac_plan.specs.declared.fault.ValueKind.TheVariants.{Number, Flag, Text, Tables}
use Rattle.camac_plan.specs.declared.key.PlanKey.{PlanKey}
use Rattle.camac_plan.specs.declared.key.PlanKey.TheVariants as key
use Rattle.camac_explain_plan.specs.Path.{nth, way_to_first, comma, way_to, kind_of, table_at}
use Rattle.camac_explain_plan.specs.Place.{hint_of_text}
use Rattle.camac_explain_plan.specs.declared.texts.TheConstants as text
use Rattle.camac_sentence.specs.Filled.{filled, with}
use Rattle.std.specs.List.{concat, list_any}
use Rattle.camac_plan.specs.Field.{is_text}
use Rattle.camac_plan.specs.Key.{key_text, keys_of}
use Rattle.camac_explain_plan.specs.declared.texts.TheConstants.{HOME, MEANT, UNKNOWN}
use Rattle.camac_explain_plan.specs.declared.unknown.Meant.{Meant}
use Rattle.camac_explain_plan.specs.declared.unknown.Meant.TheVariants.{Near, Home, Nothing}

abbrev pub needed : ValueKind → List ℕ
needed (Number low high) = filled text.WHOLE_NUMBER.now (decimal low ∷ decimal high ∷ [])
needed Flag = text.FLAG.now
needed Text = text.TEXT.now
needed Tables = text.TABLES.now

abbrev pub shown : Option Data → List ℕ
shown (Some (integer number)) = signed_decimal number
shown (Some (string word)) = quoted word
shown _ = codes "`?`"

abbrev pub kind_name : Option Data → List ℕ
kind_name (Some d) = type_name d
kind_name None = codes "?"

abbrev pub kind_text : (value : Option Data) → (wanted : ValueKind) → List ℕ
kind_text value wanted = filled text.KIND.now (kind_name value ∷ needed wanted ∷ [])

-- how to write what belongs at a key
abbrev pub key_hint : PlanKey → Option (List ℕ)
key_hint key.A = Some text.RANGE.now
key_hint key.Crates = Some text.DOUBLE_BRACKETS.now
key_hint key.Stations = Some text.DOUBLE_BRACKETS.now
key_hint key.Types = Some text.DOUBLE_BRACKETS.now
key_hint _ = None

-- where to write a key that is missing
abbrev pub missing_hint : PlanKey → Option (List ℕ)
missing_hint key.Number = Some text.ABOVE_STATIONS.now
missing_hint _ = None

-- how to write it right, if the case knows
abbrev pub plan_hint : (bytes : List ℕ) → PlanCase → Option (List ℕ)
plan_hint bytes (case.Text at) = hint_of_text bytes at
plan_hint bytes (case.Kind there key wanted) = key_hint key
plan_hint bytes (case.Missing there key wanted) = missing_hint key
plan_hint bytes _ = None

abbrev pub missing_told : (wanted : ValueKind) → List ℕ
missing_told wanted = with text.MISSING.now (needed wanted)

-- the place and the kind of the first entry that is no table, where the first of all has the place n
abbrev pub first_other : (n : ℕ) → Items → Option (ℕ × List ℕ)
first_other n no_items = None
first_other n (item (table t) rest) = first_other (n + 1) rest
first_other n (item d rest) = Some (n, type_name d)

abbrev pub other_in : (wanted : ValueKind) → (value : Option Data) → Option (ℕ × List ℕ)
other_in Tables (Some (array items)) = first_other 0 items
other_in wanted value = None

abbrev pub entry_or : Option (ℕ × List ℕ) → (otherwise : List ℕ) → List ℕ
entry_or None otherwise = otherwise
entry_or (Some (place, kind)) otherwise = filled text.NO_TABLE.now (nth place (codes "entry") ∷ kind ∷ [])

-- a value of another kind, or an array with an entry of another kind
abbrev pub kind_told : (value : Option Data) → (wanted : ValueKind) → List ℕ
kind_told value wanted = entry_or (other_in wanted value) (kind_text value wanted)

abbrev pub command_place : PlanTable → ℕ
command_place (Command home place) = place
command_place _ = 0

-- a value that the first table of it has
abbrev pub twice_told : (top : Members) → (value : Option Data) → PlanKey → (first : PlanTable) → List ℕ
twice_told top value key first = filled text.USED.now (shown value ∷ way_to_first top key first ∷ [])

-- what a rule knew of the value at its key, if there is one
abbrev pub case_text : (top : Members) → (value : Option Data) → PlanCase → List ℕ
case_text top value (case.Missing there key wanted) = missing_told wanted
case_text top value (case.Kind there key wanted) = kind_told value wanted
case_text top value (case.Range there key found low high) = filled text.OUT_OF_RANGE.now (signed_decimal found ∷ decimal low ∷ decimal high ∷ [])
case_text top value (case.Name there key) = with text.NO_NAME.now (shown value)
case_text top value (case.Probe there width) = with text.PROBE.now (decimal width)
case_text top value (case.ClearingProbe there) = text.CLEARING_PROBE.now
case_text top value (case.Full there) = text.FULL.now
case_text top value (case.Twice there key first) = twice_told top value key first
case_text top value (case.Command there f a first) =
    filled text.DECLARED.now (decimal f ∷ decimal a ∷ nth (command_place first) (codes "command") ∷ [])
case_text top value _ = with text.VALUE.now (shown value)

-- What is told of a key that its table has not: what it may be, and the keys of the table.

-- the key of this number, in the order of their bytes, from 0
abbrev pub nth_key : ℕ → Members → Option (List ℕ)
nth_key n no_members = None
nth_key zero (member k d rest) = Some k
nth_key (suc n) (member k d rest) = nth_key n rest

-- a table of each kind
abbrev pub homes : List PlanTable
homes = Top ∷ ModuleType 0 ∷ Command 0 0 ∷ Crate 0 ∷ Station 0 0 ∷ []

abbrev pub has_key : List ℕ → PlanTable → Bool
has_key k home = list_any (is_text k) (keys_of home)

-- the first key of a list that is near, and the first table that has a key
abbrev pub near_key : List ℕ → List PlanKey → Option PlanKey
near_key k known = find (λ (it : PlanKey). is_near k (key_text it)) known

abbrev pub home_of : List ℕ → List PlanTable → Option PlanTable
home_of k tables = find (has_key k) tables

abbrev pub hint_by : (near : Option PlanKey) → (home : Option PlanTable) → Meant
hint_by (Some near) home = Near near
hint_by None (Some home) = Home home
hint_by None None = Nothing

-- a near key of the table, or a table that has the key
abbrev pub hint : List ℕ → PlanTable → Meant
hint k home = hint_by (near_key k (keys_of home)) (home_of k homes)

abbrev pub hint_text : Meant → List ℕ
hint_text (Near near) = with MEANT.now (key_text near)
hint_text (Home home) = with HOME.now (kind_of home)
hint_text Nothing = []

abbrev pub key_item : (before : List ℕ) → PlanKey → List ℕ
key_item before key = concat (before ∷ codes "`" ∷ key_text key ∷ codes "`" ∷ [])

-- keys in quotes, the first of which has this number in a list of so many
abbrev pub keys_from : (number count : ℕ) → List PlanKey → List ℕ
keys_from number count [] = []
keys_from number count (key ∷ keys) =
    key_item (before_item number count (codes " and ")) key ++ keys_from (number + 1) count keys

abbrev pub keys_text : PlanTable → List ℕ
keys_text home = keys_from 0 (length (keys_of home)) (keys_of home)

abbrev pub unknown_text : (top : Members) → PlanTable → (key : List ℕ) → List ℕ
unknown_text top home key =
    filled UNKNOWN.now (way_to top home None ∷ comma home ∷ quoted key ∷ hint_text (hint key home) ∷ kind_of home ∷ keys_text home ∷ [])

abbrev pub key_in : (top : Members) → PlanTable → (entry : ℕ) → Option (List ℕ)
key_in top home entry = option_and_then (nth_key entry) (table_at top home)

abbrev pub unknown_sentence : (top : Members) → PlanTable → (entry : ℕ) → Option (List ℕ)
unknown_sentence top home entry = option_map (unknown_text top home) (key_in top home entry)
