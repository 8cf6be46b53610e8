-- What a table of a plan holds at its keys, or the rule that it breaks there.
use Rattle.std.specs.Prelude.{◌≡◌, ℕ, ◌+◌, pos, negsuc, Bool, true, false, ◌&&◌, nat_eq, nat_le, List, Option, Some, None, Result, Ok, Err, Vec, if◌then◌else◌}
use Rattle.std.specs.List.{list_any}
use Rattle.std.specs.Borrow.{Bor}
use Rattle.std.specs.declared.alloc.Global.{Global}
use Rattle.toml.specs.declared.value.Value.{Value}
use Rattle.toml.specs.Data.{Data, string, integer, boolean, table, array, Items, no_items, item, Members, no_members, member, get_member}
use Rattle.toml.specs.View.{array_view}
use Rattle.camac_branch.specs.Name.{same_text}
use Rattle.camac_plan.specs.declared.key.PlanKey.{PlanKey}
use Rattle.camac_plan.specs.declared.fault.PlanTable.{PlanTable}
use Rattle.camac_plan.specs.declared.fault.ValueKind.{ValueKind}
use Rattle.camac_plan.specs.declared.fault.ValueKind.TheVariants.{Number, Flag, Text, Tables}
use Rattle.camac_plan.specs.declared.fault.PlanCase.TheVariants.{Unknown, Missing, Kind, Range}
use Rattle.camac_plan.specs.declared.fault.BrokenRule.{BrokenRule}
use Rattle.camac_plan.specs.declared.fault.PlanRule.TheVariants.{UnknownKey, MissingOrWrongKind, OutOfRange}
use Rattle.camac_plan.specs.Key.{key_text, keys_of}
use Rattle.camac_plan.specs.Broken.{broken, next}

-- the code's result stands for this one
abbrev pub Reads : {A B : Type 0} → (A → B) → Result A BrokenRule → Result B BrokenRule → Type 0
Reads view (Ok x) r = r ≡ Ok (view x)
Reads view (Err e) r = r ≡ Err e

-- the code's value was changed to that of the reading, or the code has its broken rule
abbrev pub Changes : {A B : Type 0} → Result A BrokenRule → B → Result B BrokenRule → Type 0
Changes (Ok _) new r = r ≡ Ok new
Changes (Err e) new r = r ≡ Err e

abbrev pub is_text : List ℕ → PlanKey → Bool
is_text k key = same_text k (key_text key)

-- the number of the first key that is none of these, where the first of the table has the number n
abbrev pub first_unknown : List PlanKey → ℕ → Members → Option ℕ
first_unknown keys n no_members = None
first_unknown keys n (member k d rest) = if list_any (is_text k) keys then first_unknown keys (n + 1) rest else Some n

abbrev pub none_unknown : PlanTable → Option ℕ → Result (Unit {0}) BrokenRule
none_unknown at None = Ok tt
none_unknown at (Some n) = Err (broken UnknownKey (Unknown at n))

-- each key is one that the table may have
abbrev pub has_only : PlanTable → Members → Result (Unit {0}) BrokenRule
has_only at ms = none_unknown at (first_unknown (keys_of at) 0 ms)

-- the value at a key
abbrev pub value_at : PlanKey → Members → Option Data
value_at key ms = get_member (key_text key) ms

abbrev pub some : {A : Type 0} → A → Result (Option A) BrokenRule
some x = Ok (Some x)

-- a value that may be there
abbrev pub optional : {A : Type 0} → (Data → Result A BrokenRule) → Option Data → Result (Option A) BrokenRule
optional read None = Ok None
optional read (Some d) = next (read d) some

-- a value that has to be there
abbrev pub required : {A : Type 0} → PlanTable → PlanKey → ValueKind → Option A → Result A BrokenRule
required at key kind None = Err (broken MissingOrWrongKind (Missing at key kind))
required at key kind (Some x) = Ok x

-- a number in a range
abbrev pub number_in : PlanTable → PlanKey → ℕ → ℕ → Data → Result ℕ BrokenRule
number_in at key low high (integer (pos n)) = if nat_le low n && nat_le n high then Ok n else Err (broken OutOfRange (Range at key (pos n) low high))
number_in at key low high (integer (negsuc n)) = Err (broken OutOfRange (Range at key (negsuc n) low high))
number_in at key low high _ = Err (broken MissingOrWrongKind (Kind at key (Number low high)))

abbrev pub number_at : PlanTable → PlanKey → ℕ → ℕ → Members → Result (Option ℕ) BrokenRule
number_at at key low high ms = optional (number_in at key low high) (value_at key ms)

-- the number at a key that has to be there
abbrev pub required_number_at : PlanTable → PlanKey → ℕ → ℕ → Members → Result ℕ BrokenRule
required_number_at at key low high ms = next (number_at at key low high ms) (required at key (Number low high))

abbrev pub flag_in : PlanTable → PlanKey → Data → Result Bool BrokenRule
flag_in at key (boolean b) = Ok b
flag_in at key _ = Err (broken MissingOrWrongKind (Kind at key Flag))

abbrev pub flag_at : PlanTable → PlanKey → Members → Result (Option Bool) BrokenRule
flag_at at key ms = optional (flag_in at key) (value_at key ms)

abbrev pub text_in : PlanTable → PlanKey → Data → Result (List ℕ) BrokenRule
text_in at key (string s) = Ok s
text_in at key _ = Err (broken MissingOrWrongKind (Kind at key Text))

-- the text at a key that has to be there
abbrev pub text_at : PlanTable → PlanKey → Members → Result (List ℕ) BrokenRule
text_at at key ms = next (required at key Text (value_at key ms)) (text_in at key)

-- each item is a table
abbrev pub are_tables : Items → Bool
are_tables no_items = true
are_tables (item (table t) rest) = are_tables rest
are_tables (item _ rest) = false

-- no array of tables stands at a key
abbrev pub no_tables : PlanTable → PlanKey → BrokenRule
no_tables at key = broken MissingOrWrongKind (Kind at key Tables)

abbrev pub tables_in : PlanTable → PlanKey → Data → Result Items BrokenRule
tables_in at key (array items) = if are_tables items then Ok items else Err (no_tables at key)
tables_in at key _ = Err (no_tables at key)

abbrev pub tables_or_none : PlanTable → PlanKey → Option Data → Result Items BrokenRule
tables_or_none at key None = Ok no_items
tables_or_none at key (Some d) = tables_in at key d

-- the array of tables at a key, which is empty where the key is not there
abbrev pub tables_at : PlanTable → PlanKey → Members → Result Items BrokenRule
tables_at at key ms = tables_or_none at key (value_at key ms)

-- the array of tables at a key that has to be there
abbrev pub required_tables_at : PlanTable → PlanKey → Members → Result Items BrokenRule
required_tables_at at key ms = next (required at key Tables (value_at key ms)) (tables_in at key)

-- a table has this number at the key
abbrev pub is_number : ℕ → Option Data → Bool
is_number b (Some (integer (pos n))) = nat_eq n b
is_number b _ = false

abbrev pub has_number : PlanKey → ℕ → Data → Bool
has_number key b (table ms) = is_number b (value_at key ms)
has_number key b _ = false

-- the place of the first table that has this number at the key, where the first table of the array has the place n
abbrev pub first_with : PlanKey → ℕ → ℕ → Items → Option ℕ
first_with key b n no_items = None
first_with key b n (item d rest) = if has_number key b d then Some n else first_with key b (n + 1) rest

abbrev pub text_view : Bor (List ℕ) → List ℕ
text_view text = text.now

abbrev pub items_of : Bor (Vec Value Global) → Items
items_of v = array_view v.now

abbrev pub items_or_none : Option (Bor (Vec Value Global)) → Items
items_or_none None = no_items
items_or_none (Some v) = array_view v.now
