-- The bytes of a plan as TOML.
use Rattle.std.proofs.Common.{◌≡◌, ℕ, List, Bool, true, false, Option, Some, None, Ok, Err, if◌then◌else◌, IfErr, refl, sym, ap, ◌∙◌, ◌&&◌, zero, suc, nat_le}
use Rattle.std.specs.Prelude.{Result, IsUtf8, IsSome, IsNone, ◌↔◌, pos, negsuc, ◌+◌, unwrap_or}
use Rattle.std.specs.Str.{is_utf8}
use Rattle.std.proofs.lemmas.Str.{IsUtf8-from_is_utf8, is_utf8-from_IsUtf8}
use Rattle.toml.specs.Data.{Members, Data, string, integer, float, boolean, datetime, table, array, Items, no_items, item}
use Rattle.toml.specs.Parse.{parse_document}
use Rattle.camac_branch.specs.Plan.{Layout, type_named, with_crate}
use Rattle.camac_plan.specs.declared.fault.BrokenRule.{BrokenRule}
use Rattle.camac_plan.specs.declared.fault.PlanCase.TheVariants.{Text, Range}
use Rattle.camac_plan.specs.declared.fault.PlanFault.{PlanFault}
use Rattle.camac_plan.specs.declared.fault.PlanFault.TheVariants as fault
use Rattle.camac_plan.specs.declared.fault.PlanRule.TheVariants.{NotToml, TooDeep}
use Rattle.camac_plan.specs.declared.fault.PlanRule.{PlanRule}
use Rattle.camac_plan.specs.Broken.{broken, next}
use Rattle.camac_plan.specs.Nesting.{too_deep}
use Rattle.camac_plan.specs.Reading.{parsed, document_of, plan_of, shallow, reading_at, reading, by_rule, TellsBroken, GivesOrTells, ReadsOrTells, stops_in, stops_at, StopsWithin, TellsCase, TellsNoToml, TellsTooDeep, empty_plan}
use Rattle.std.proofs.lemmas.Bool.{false≢true}
use Rattle.camac_module.specs.Commands.{Commands, none_declared}
use Rattle.camac_plan.specs.declared.command.CommandLine.{CommandLine}
use Rattle.camac_plan.specs.declared.key.PlanKey.{PlanKey}
use Rattle.camac_plan.specs.declared.key.PlanKey.TheVariants as key
use Rattle.camac_plan.specs.declared.fault.PlanTable.{PlanTable}
use Rattle.camac_plan.specs.declared.fault.PlanTable.TheVariants.{Top, ModuleType, Command, Crate, Station}
use Rattle.camac_plan.specs.declared.fault.ValueKind.{ValueKind}
use Rattle.camac_plan.specs.declared.fault.ValueKind.TheVariants as kind
use Rattle.camac_plan.specs.declared.fault.PlanCase.{PlanCase}
use Rattle.camac_plan.specs.declared.fault.PlanRule.TheVariants as rule
use Rattle.camac_plan.specs.Key.{keys_of}
use Rattle.camac_plan.specs.Field.{first_unknown, none_unknown, has_only, value_at, required, optional, some, number_in, number_at, required_number_at, flag_in, text_in, text_at, are_tables, no_tables, tables_in, tables_or_none}
use Rattle.camac_plan.specs.Commands.{TypeCommands, command_of, with_new, command_at, with_places, with_commands}
use Rattle.camac_plan.specs.Types.{TypeLine, next_type, type_of, with_type_line, with_type_table, with_types}
use Rattle.camac_plan.specs.Crates.{StationLine, station_of, with_type_found, with_station, with_stations, CrateLine, crate_of, with_crate_line, with_crates}

-- No rule of a table is that of the bytes.

-- the rule is of a table
abbrev pub of_table : PlanRule → Bool
of_table rule.NotToml = false
of_table rule.TooDeep = false
of_table _ = true

-- the result breaks no rule but those of a table
pub tabular : {A : Type 0} → Result A BrokenRule → Bool
tabular (Ok x) = true
tabular (Err e) = of_table e.rule

ok-tabular : {A : Type 0} (x : A) → tabular (Ok x) ≡ true
unfolding tabular
ok-tabular x = refl

err-tabular : (A : Type 0) (rule : PlanRule) (case : PlanCase) → of_table rule ≡ true → tabular {A = A} (Err (broken rule case)) ≡ true
unfolding tabular
err-tabular A rule case h = h

next-tabular : {A B : Type 0} (r : Result A BrokenRule) (f : A → Result B BrokenRule) → tabular r ≡ true → ((x : A) → tabular (f x) ≡ true) → tabular (next r f) ≡ true
unfolding tabular
next-tabular (Ok x) f h k = k x
next-tabular (Err e) f h k = h

if-tabular : {A : Type 0} (b : Bool) (r s : Result A BrokenRule) → tabular r ≡ true → tabular s ≡ true → tabular (if b then r else s) ≡ true
if-tabular true r s h k = h
if-tabular false r s h k = k

has_only-tabular : (at : PlanTable) (ms : Members) → tabular (has_only at ms) ≡ true
has_only-tabular at ms = go (first_unknown (keys_of at) 0 ms)
  where
    go : (o : Option ℕ) → tabular (none_unknown at o) ≡ true
    go None = ok-tabular {A = Unit {0}} tt
    go (Some n) = err-tabular _ rule.UnknownKey _ refl

required-tabular : {A : Type 0} (at : PlanTable) (key : PlanKey) (kind : ValueKind) (o : Option A) → tabular (required at key kind o) ≡ true
required-tabular at key kind None = err-tabular _ rule.MissingOrWrongKind _ refl
required-tabular at key kind (Some x) = ok-tabular x

optional-tabular : {A : Type 0} (read : Data → Result A BrokenRule) (o : Option Data) → ((d : Data) → tabular (read d) ≡ true) → tabular (optional read o) ≡ true
optional-tabular read None h = ok-tabular None
optional-tabular read (Some d) h = next-tabular (read d) some (h d) (λ x. ok-tabular _)

number_in-tabular : (at : PlanTable) (key : PlanKey) (low high : ℕ) (d : Data) → tabular (number_in at key low high d) ≡ true
number_in-tabular at key low high (integer (pos n)) = if-tabular (nat_le low n && nat_le n high) (Ok n) (Err (broken rule.OutOfRange (Range at key (pos n) low high))) (ok-tabular n) (err-tabular _ rule.OutOfRange _ refl)
number_in-tabular at key low high (integer (negsuc n)) = err-tabular _ rule.OutOfRange _ refl
number_in-tabular at key low high (string s) = err-tabular _ rule.MissingOrWrongKind _ refl
number_in-tabular at key low high (float x) = err-tabular _ rule.MissingOrWrongKind _ refl
number_in-tabular at key low high (boolean b) = err-tabular _ rule.MissingOrWrongKind _ refl
number_in-tabular at key low high (datetime t) = err-tabular _ rule.MissingOrWrongKind _ refl
number_in-tabular at key low high (array ds) = err-tabular _ rule.MissingOrWrongKind _ refl
number_in-tabular at key low high (table ms) = err-tabular _ rule.MissingOrWrongKind _ refl

number_at-tabular : (at : PlanTable) (key : PlanKey) (low high : ℕ) (ms : Members) → tabular (number_at at key low high ms) ≡ true
number_at-tabular at key low high ms = optional-tabular (number_in at key low high) (value_at key ms) (number_in-tabular at key low high)

needed-tabular : (at : PlanTable) (key : PlanKey) (low high : ℕ) (ms : Members) → tabular (required_number_at at key low high ms) ≡ true
needed-tabular at key low high ms =
    next-tabular (number_at at key low high ms) (required at key (kind.Number low high)) (number_at-tabular at key low high ms) (required-tabular at key (kind.Number low high))

flag_in-tabular : (at : PlanTable) (key : PlanKey) (d : Data) → tabular (flag_in at key d) ≡ true
flag_in-tabular at key (integer n) = err-tabular _ rule.MissingOrWrongKind _ refl
flag_in-tabular at key (string s) = err-tabular _ rule.MissingOrWrongKind _ refl
flag_in-tabular at key (float x) = err-tabular _ rule.MissingOrWrongKind _ refl
flag_in-tabular at key (boolean b) = ok-tabular b
flag_in-tabular at key (datetime t) = err-tabular _ rule.MissingOrWrongKind _ refl
flag_in-tabular at key (array ds) = err-tabular _ rule.MissingOrWrongKind _ refl
flag_in-tabular at key (table ms) = err-tabular _ rule.MissingOrWrongKind _ refl

text_in-tabular : (at : PlanTable) (key : PlanKey) (d : Data) → tabular (text_in at key d) ≡ true
text_in-tabular at key (integer n) = err-tabular _ rule.MissingOrWrongKind _ refl
text_in-tabular at key (string s) = ok-tabular s
text_in-tabular at key (float x) = err-tabular _ rule.MissingOrWrongKind _ refl
text_in-tabular at key (boolean b) = err-tabular _ rule.MissingOrWrongKind _ refl
text_in-tabular at key (datetime t) = err-tabular _ rule.MissingOrWrongKind _ refl
text_in-tabular at key (array ds) = err-tabular _ rule.MissingOrWrongKind _ refl
text_in-tabular at key (table ms) = err-tabular _ rule.MissingOrWrongKind _ refl

text_at-tabular : (at : PlanTable) (key : PlanKey) (ms : Members) → tabular (text_at at key ms) ≡ true
text_at-tabular at key ms =
    next-tabular (required at key kind.Text (value_at key ms)) (text_in at key) (required-tabular at key kind.Text (value_at key ms)) (text_in-tabular at key)

tables_in-tabular : (at : PlanTable) (key : PlanKey) (d : Data) → tabular (tables_in at key d) ≡ true
tables_in-tabular at key (integer n) = err-tabular _ rule.MissingOrWrongKind _ refl
tables_in-tabular at key (string s) = err-tabular _ rule.MissingOrWrongKind _ refl
tables_in-tabular at key (float x) = err-tabular _ rule.MissingOrWrongKind _ refl
tables_in-tabular at key (boolean b) = err-tabular _ rule.MissingOrWrongKind _ refl
tables_in-tabular at key (datetime t) = err-tabular _ rule.MissingOrWrongKind _ refl
tables_in-tabular at key (array ds) = if-tabular (are_tables ds) (Ok ds) (Err (no_tables at key)) (ok-tabular ds) (err-tabular _ rule.MissingOrWrongKind _ refl)
tables_in-tabular at key (table ms) = err-tabular _ rule.MissingOrWrongKind _ refl

tables_or_none-tabular : (at : PlanTable) (key : PlanKey) (o : Option Data) → tabular (tables_or_none at key o) ≡ true
tables_or_none-tabular at key None = ok-tabular no_items
tables_or_none-tabular at key (Some d) = tables_in-tabular at key d

command_of-tabular : (at : PlanTable) (ms : Members) → tabular (command_of at ms) ≡ true
command_of-tabular at ms =
    next-tabular _ _ (has_only-tabular at ms) (λ u.
    next-tabular _ _ (needed-tabular at key.F 0 31 ms) (λ f.
    next-tabular _ _ (needed-tabular at key.A 0 15 ms) (λ a.
    next-tabular _ _ (number_at-tabular at key.To a 15 ms) (λ to.
    next-tabular _ _ (optional-tabular (flag_in at key.Probe) (value_at key.Probe ms) (flag_in-tabular at key.Probe)) (λ probe.
    next-tabular _ _ (next-tabular _ _ (number_at-tabular at key.Width 1 24 ms) (λ width. if-tabular _ _ _ (err-tabular _ rule.OutOfRange _ refl) (ok-tabular _))) (λ width.
    next-tabular _ _ (next-tabular _ _ (optional-tabular (flag_in at key.Clears) (value_at key.Clears ms) (flag_in-tabular at key.Clears)) (λ clears. if-tabular _ _ _ (err-tabular _ rule.OutOfRange _ refl) (ok-tabular _))) (λ kind. ok-tabular _)))))))

with_places-tabular : (all : TypeCommands) (n : ℕ) (line : CommandLine) (commands : Commands) (a k : ℕ) → tabular (with_places all n line commands a k) ≡ true
with_places-tabular all n line commands a zero = ok-tabular commands
with_places-tabular all n line commands a (suc k) =
    next-tabular (with_new all n commands (command_at line a)) _ (if-tabular _ _ _ (err-tabular _ rule.DeclaredTwice _ refl) (ok-tabular _)) (λ more. with_places-tabular all n line more (a + 1) k)

with_commands-tabular : (all : TypeCommands) (n : ℕ) (commands : Commands) (items : Items) → tabular (with_commands all n commands items) ≡ true
with_commands-tabular all n commands no_items = ok-tabular _
with_commands-tabular all n commands (item (table t) rest) =
    next-tabular _ _ (next-tabular _ _ (command_of-tabular (Command all.type_place n) t) (λ line. with_places-tabular all n line commands _ _)) (λ more. with_commands-tabular all (n + 1) more rest)
with_commands-tabular all n commands (item (integer z) rest) = err-tabular _ rule.MissingOrWrongKind _ refl
with_commands-tabular all n commands (item (string text) rest) = err-tabular _ rule.MissingOrWrongKind _ refl
with_commands-tabular all n commands (item (float x) rest) = err-tabular _ rule.MissingOrWrongKind _ refl
with_commands-tabular all n commands (item (boolean b) rest) = err-tabular _ rule.MissingOrWrongKind _ refl
with_commands-tabular all n commands (item (datetime t) rest) = err-tabular _ rule.MissingOrWrongKind _ refl
with_commands-tabular all n commands (item (array ds) rest) = err-tabular _ rule.MissingOrWrongKind _ refl

type_of-tabular : (at : PlanTable) (ms : Members) → tabular (type_of at ms) ≡ true
type_of-tabular at ms =
    next-tabular _ _ (has_only-tabular at ms) (λ u.
    next-tabular _ _ (next-tabular _ _ (text_at-tabular at key.Name ms) (λ name. if-tabular _ _ _ (ok-tabular name) (err-tabular _ rule.OutOfRange _ refl))) (λ name.
    next-tabular _ _ (next-tabular _ (tables_in at key.Commands) (required-tabular at key.Commands kind.Tables (value_at key.Commands ms)) (tables_in-tabular at key.Commands)) (λ commands. ok-tabular _)))

with_type_line-tabular : (plan : Layout) (line : TypeLine) → tabular (with_type_line plan line) ≡ true
with_type_line-tabular plan line =
    if-tabular _ _ _ (err-tabular _ rule.DeclaredTwice _ refl) (next-tabular _ _ (with_commands-tabular (record { type_place = next_type plan; items = line.commands }) 0 (none_declared 16) line.commands) (λ commands. ok-tabular _))

with_type_table-tabular : (plan : Layout) (t : Members) → tabular (with_type_table plan t) ≡ true
with_type_table-tabular plan t =
    if-tabular _ _ _ (next-tabular (type_of (ModuleType (next_type plan)) t) (with_type_line plan) (type_of-tabular (ModuleType (next_type plan)) t) (with_type_line-tabular plan)) (err-tabular _ rule.OutOfRange _ refl)

with_types-tabular : (plan : Layout) (items : Items) → tabular (with_types plan items) ≡ true
with_types-tabular plan no_items = ok-tabular _
with_types-tabular plan (item (table t) rest) =
    next-tabular (with_type_table plan t) _ (with_type_table-tabular plan t) (λ p. with_types-tabular p rest)
with_types-tabular plan (item (integer z) rest) = err-tabular _ rule.MissingOrWrongKind _ refl
with_types-tabular plan (item (string text) rest) = err-tabular _ rule.MissingOrWrongKind _ refl
with_types-tabular plan (item (float x) rest) = err-tabular _ rule.MissingOrWrongKind _ refl
with_types-tabular plan (item (boolean b) rest) = err-tabular _ rule.MissingOrWrongKind _ refl
with_types-tabular plan (item (datetime t) rest) = err-tabular _ rule.MissingOrWrongKind _ refl
with_types-tabular plan (item (array ds) rest) = err-tabular _ rule.MissingOrWrongKind _ refl

station_of-tabular : (at : PlanTable) (ms : Members) → tabular (station_of at ms) ≡ true
station_of-tabular at ms =
    next-tabular _ _ (has_only-tabular at ms) (λ u.
    next-tabular _ _ (needed-tabular at key.N 1 23 ms) (λ n.
    next-tabular _ _ (text_at-tabular at key.TypeName ms) (λ type_name.
    next-tabular _ _ (number_at-tabular at key.Gl 1 24 ms) (λ gl. ok-tabular _))))

with_type_found-tabular : (crates : Items) (k : CrateLine) (n : ℕ) (plan : Layout) (s : StationLine) (o : Option ℕ) → tabular (with_type_found crates k n plan s o) ≡ true
with_type_found-tabular crates k n plan s None = err-tabular _ rule.UnknownType _ refl
with_type_found-tabular crates k n plan s (Some t) = if-tabular _ _ _ (err-tabular _ rule.BitTwice _ refl) (ok-tabular _)

with_station-tabular : (crates : Items) (k : CrateLine) (n : ℕ) (plan : Layout) (s : StationLine) → tabular (with_station crates k n plan s) ≡ true
with_station-tabular crates k n plan s = if-tabular _ _ _ (err-tabular _ rule.StationTwice _ refl) (with_type_found-tabular crates k n plan s (type_named plan s.type_name))

with_stations-tabular : (crates : Items) (k : CrateLine) (n : ℕ) (plan : Layout) (items : Items) → tabular (with_stations crates k n plan items) ≡ true
with_stations-tabular crates k n plan no_items = ok-tabular _
with_stations-tabular crates k n plan (item (table t) rest) =
    next-tabular _ _ (next-tabular (station_of (Station k.place n) t) (with_station crates k n plan) (station_of-tabular (Station k.place n) t) (with_station-tabular crates k n plan)) (λ p. with_stations-tabular crates k (n + 1) p rest)
with_stations-tabular crates k n plan (item (integer z) rest) = err-tabular _ rule.MissingOrWrongKind _ refl
with_stations-tabular crates k n plan (item (string text) rest) = err-tabular _ rule.MissingOrWrongKind _ refl
with_stations-tabular crates k n plan (item (float x) rest) = err-tabular _ rule.MissingOrWrongKind _ refl
with_stations-tabular crates k n plan (item (boolean b) rest) = err-tabular _ rule.MissingOrWrongKind _ refl
with_stations-tabular crates k n plan (item (datetime t) rest) = err-tabular _ rule.MissingOrWrongKind _ refl
with_stations-tabular crates k n plan (item (array ds) rest) = err-tabular _ rule.MissingOrWrongKind _ refl

crate_of-tabular : (place : ℕ) (ms : Members) → tabular (crate_of place ms) ≡ true
crate_of-tabular place ms =
    next-tabular _ _ (has_only-tabular (Crate place) ms) (λ u.
    next-tabular _ _ (needed-tabular (Crate place) key.Number 1 7 ms) (λ number.
    next-tabular _ _ (number_at-tabular (Crate place) key.Waits 0 15 ms) (λ waits.
    next-tabular _ _ (tables_or_none-tabular (Crate place) key.Stations (value_at key.Stations ms)) (λ stations. ok-tabular _))))

with_crate_line-tabular : (crates : Items) (plan : Layout) (k : CrateLine) → tabular (with_crate_line crates plan k) ≡ true
with_crate_line-tabular crates plan k =
    if-tabular _ _ _ (err-tabular _ rule.CrateTwice _ refl) (with_stations-tabular crates k 0 (with_crate plan k.number k.waits) k.stations)

with_crates-tabular : (crates : Items) (c : ℕ) (plan : Layout) (items : Items) → tabular (with_crates crates c plan items) ≡ true
with_crates-tabular crates c plan no_items = ok-tabular _
with_crates-tabular crates c plan (item (table t) rest) =
    next-tabular _ _ (next-tabular (crate_of c t) (with_crate_line crates plan) (crate_of-tabular c t) (with_crate_line-tabular crates plan)) (λ p. with_crates-tabular crates (c + 1) p rest)
with_crates-tabular crates c plan (item (integer z) rest) = err-tabular _ rule.MissingOrWrongKind _ refl
with_crates-tabular crates c plan (item (string text) rest) = err-tabular _ rule.MissingOrWrongKind _ refl
with_crates-tabular crates c plan (item (float x) rest) = err-tabular _ rule.MissingOrWrongKind _ refl
with_crates-tabular crates c plan (item (boolean b) rest) = err-tabular _ rule.MissingOrWrongKind _ refl
with_crates-tabular crates c plan (item (datetime t) rest) = err-tabular _ rule.MissingOrWrongKind _ refl
with_crates-tabular crates c plan (item (array ds) rest) = err-tabular _ rule.MissingOrWrongKind _ refl

pub plan_of-tabular : (ms : Members) → tabular (plan_of ms) ≡ true
plan_of-tabular ms =
    next-tabular _ _ (has_only-tabular Top ms) (λ u.
    next-tabular _ _ (number_at-tabular Top key.Buffer 1 4096 ms) (λ buffer.
    next-tabular _ _ (tables_or_none-tabular Top key.Types (value_at key.Types ms)) (λ types.
    next-tabular _ _ (tables_or_none-tabular Top key.Crates (value_at key.Crates ms)) (λ crates.
    next-tabular _ _ (with_types-tabular (empty_plan (unwrap_or buffer 4096)) types) (λ plan. with_crates-tabular crates 0 plan crates)))))

pub tabular-rule : {A : Type 0} (r : Result A BrokenRule) (other : PlanRule) → of_table other ≡ false → tabular r ≡ true → by_rule r ≡ Err other → ⊥
unfolding tabular
tabular-rule (Ok x) other o h e = absurd (cc)
tabular-rule (Err b) other o h e =
    let is : b.rule ≡ other = cc in
    false≢true (sym o ∙ ap of_table (sym is) ∙ h)

pub document_of-parsed : (bytes : List ℕ) (ms : Members) → IsUtf8 bytes × (parse_document bytes ≡ Some ms) → (at : ℕ) → document_of at bytes ≡ Ok ms
document_of-parsed bytes ms h at = rw (is_utf8-from_IsUtf8 bytes h.0) (rw h.1 refl)

refused_if : (at : ℕ) (b : Bool) (r : Result Members BrokenRule) → (b ≡ true → r ≡ Err (broken NotToml (Text at))) → (if b then r else Err (broken NotToml (Text at))) ≡ Err (broken NotToml (Text at))
refused_if at true r h = h refl
refused_if at false r h = refl

pub document_of-refused : (at : ℕ) (bytes : List ℕ) → (IsUtf8 bytes → parse_document bytes ≡ None) → document_of at bytes ≡ Err (broken NotToml (Text at))
document_of-refused at bytes h =
    refused_if at (is_utf8 bytes) (parsed at (parse_document bytes)) (λ e. rw (h (IsUtf8-from_is_utf8 bytes e)) refl)

-- The rule is the same, whatever the place of P1.
same_if : (at : ℕ) (b : Bool) (o : Option Members)
    → by_rule (next (if b then parsed at o else Err (broken NotToml (Text at))) plan_of) ≡ by_rule (next (if b then parsed 0 o else Err (broken NotToml (Text 0))) plan_of)
same_if at true None = refl
same_if at true (Some ms) = refl
same_if at false o = refl

same_behind : (at : ℕ) (deep : Option ℕ) (bytes : List ℕ)
    → by_rule (next (shallow deep) (λ _. next (document_of at bytes) plan_of)) ≡ by_rule (next (shallow deep) (λ _. next (document_of 0 bytes) plan_of))
same_behind at None bytes = same_if at (is_utf8 bytes) (parse_document bytes)
same_behind at (Some n) bytes = refl

pub same_rule : (at : ℕ) (bytes : List ℕ) → by_rule (reading_at at bytes) ≡ reading bytes
same_rule at bytes = same_behind at (too_deep bytes) bytes

-- what a text that is read at all comes to, if not to P1
read_if : (other : PlanRule) → (other ≡ NotToml → ⊥) → of_table other ≡ false → (b : Bool) (o : Option Members)
    → by_rule (next (if b then parsed 0 o else Err (broken NotToml (Text 0))) plan_of) ≡ Err other → ⊥
read_if other differs is true None h = differs (cc)
read_if other differs is true (Some ms) h = tabular-rule (plan_of ms) other is (plan_of-tabular ms) h
read_if other differs is false o h = differs (cc)

-- P1 is the answer to no TOML, and to nothing else
no_toml_in : (b : Bool) (o : Option Members) → by_rule (next (if b then parsed 0 o else Err (broken NotToml (Text 0))) plan_of) ≡ Err NotToml → b ≡ true → o ≡ None
no_toml_in true None h e = refl
no_toml_in true (Some ms) h e = absurd (tabular-rule (plan_of ms) NotToml refl (plan_of-tabular ms) h)
no_toml_in false o h e = absurd (false≢true e)

no_toml_behind : (deep : Option ℕ) (bytes : List ℕ)
    → (by_rule (next (shallow deep) (λ _. next (document_of 0 bytes) plan_of)) ≡ Err NotToml) ↔ (IsNone deep × (IsUtf8 bytes → parse_document bytes ≡ None))
no_toml_behind None bytes =
    ((λ h. (refl, λ u. no_toml_in (is_utf8 bytes) (parse_document bytes) h (is_utf8-from_IsUtf8 bytes u))), (λ h. rw (document_of-refused 0 bytes h.1) refl))
no_toml_behind (Some n) bytes = ((λ h. absurd (cc)), (λ h. absurd (cc)))

pub tells_no_toml : (bytes : List ℕ) → TellsNoToml bytes
tells_no_toml bytes = no_toml_behind (too_deep bytes) bytes

-- P11 is the answer to what nests too deep, and to nothing else
too_deep_behind : (deep : Option ℕ) (bytes : List ℕ) → (by_rule (next (shallow deep) (λ _. next (document_of 0 bytes) plan_of)) ≡ Err TooDeep) ↔ IsSome deep
too_deep_behind None bytes = ((λ h. absurd (read_if TooDeep (λ e. cc) refl (is_utf8 bytes) (parse_document bytes) h)), (λ h. absurd (cc)))
too_deep_behind (Some n) bytes = ((λ h. refl), (λ h. refl))

pub tells_too_deep : (bytes : List ℕ) → TellsTooDeep bytes
tells_too_deep bytes = too_deep_behind (too_deep bytes) bytes

-- ---- answers

next_plan : {A : Type 0} (r s : Result A BrokenRule) (f : A → Result Layout BrokenRule) → r ≡ s → next r f ≡ next s f
next_plan r s f e = ap (λ d. next d f) e

by_rules : (r s : Result Layout BrokenRule) → r ≡ s → by_rule r ≡ by_rule s
by_rules r s e = ap by_rule e

module _ (bytes : List ℕ) (unit : Unit {0}) (flat : Ok unit ≡ shallow (too_deep bytes)) where
  behind : (at : ℕ) → reading_at at bytes ≡ next (document_of at bytes) plan_of
  behind at = ap (λ (r : Result (Unit {0}) BrokenRule). next r (λ _. next (document_of at bytes) plan_of)) (sym flat)

  -- a text that is no TOML
  pub untold : (r : Result Layout PlanFault) (e : PlanFault) → r ≡ Err e → TellsBroken e (document_of (stops_at e) bytes) → ReadsOrTells r (reading bytes)
  untold r fault.OutOfMemory is h = rw is tt
  untold r (fault.Broken rule case) is h =
      rw is (sym (same_rule (stops_in case) bytes) ∙ by_rules _ _ (behind (stops_in case) ∙ next_plan _ _ plan_of h))

  pub untold_case : (r : Result Layout PlanFault) (e : PlanFault) → r ≡ Err e → TellsBroken e (document_of (stops_at e) bytes) → StopsWithin bytes e → IfErr r (TellsCase bytes)
  untold_case r fault.OutOfMemory is h within = rw is (tt, within)
  untold_case r (fault.Broken rule case) is h within = rw is (behind (stops_in case) ∙ next_plan _ _ plan_of h, within)

  -- a text with a top table
  module _ (ms : Members) (is : (at : ℕ) → document_of at bytes ≡ Ok ms) where
    plan_is : (at : ℕ) (r : Result Layout BrokenRule) → plan_of ms ≡ r → reading_at at bytes ≡ r
    plan_is at r h = behind at ∙ next_plan _ _ plan_of (is at) ∙ h

    pub told : (r : Result Layout PlanFault) → GivesOrTells r (plan_of ms) → ReadsOrTells r (reading bytes)
    told (Ok p) h = by_rules _ _ (plan_is 0 _ h)
    told (Err fault.OutOfMemory) h = tt
    told (Err (fault.Broken rule case)) h = by_rules _ _ (plan_is 0 _ h)

    pub told_case : (r : Result Layout PlanFault) → GivesOrTells r (plan_of ms) → IfErr r (TellsCase bytes)
    told_case (Ok p) h = tt
    told_case (Err fault.OutOfMemory) h = (tt, tt)
    told_case (Err (fault.Broken rule case)) h =
        (plan_is (stops_in case) _ h, λ e. absurd (tabular-rule (plan_of ms) NotToml refl (plan_of-tabular ms) (by_rules _ _ h ∙ ap (λ r. Err r) e)))
