-- What the case of a refused plan shows, where a value stands twice: the first table that has it.
use Rattle.std.specs.Prelude.{◌≡◌, ◌⊎◌, ℕ, ◌<◌, Bool, true, false, List, Option, Some, Err}
use Rattle.toml.specs.Data.{Data, string, table, Items, get_item, Members}
use Rattle.camac_branch.specs.Name.{same_text}
use Rattle.camac_plan.specs.declared.key.PlanKey.{PlanKey}
use Rattle.camac_plan.specs.declared.key.PlanKey.TheVariants as key
use Rattle.camac_plan.specs.declared.fault.PlanTable.{PlanTable}
use Rattle.camac_plan.specs.declared.fault.PlanTable.TheVariants.{ModuleType, Crate, Station}
use Rattle.camac_plan.specs.declared.fault.PlanCase.TheVariants.{Twice}
use Rattle.camac_plan.specs.declared.fault.PlanRule.{PlanRule}
use Rattle.camac_plan.specs.Broken.{broken}
use Rattle.camac_plan.specs.Crates.{array_in, stations_in}
use Rattle.camac_plan.specs.Field.{value_at, has_number}
use Rattle.camac_plan.specs.Reading.{plan_of}

-- the array of tables at a key of the top table
abbrev pub items_at : PlanKey → Members → Items
items_at at_key ms = array_in (value_at at_key ms)

-- a table has this name
abbrev pub is_name : List ℕ → Option Data → Bool
is_name name (Some (string s)) = same_text s name
is_name name _ = false

abbrev pub has_name : List ℕ → Data → Bool
has_name name (table ms) = is_name name (value_at key.Name ms)
has_name name _ = false

-- the table of this place passes a test
abbrev pub HasAt : (Data → Bool) → Items → ℕ → Type 0
HasAt test items i = (d : Data) × (get_item i items ≡ Some d) × (test d ≡ true)

-- j passes, and i is the first that does, which stands before it
pub record IsFirstOf (test : Data → Bool) (items : Items) (i j : ℕ) : Type 0 where
  pub own : HasAt test items j
  pub first : HasAt test items i
  pub before : i < j
  pub earlier : (h : ℕ) → h < i → HasAt test items h → ⊥

-- the station of the place n in the crate of the place c passes a test
abbrev pub HasStation : (Data → Bool) → Items → (c n : ℕ) → Type 0
HasStation test crates c n = (d : Data) × (get_item c crates ≡ Some d) × HasAt test (stations_in d) n

-- in an earlier crate, or earlier in the same
abbrev pub IsEarlier : (d m c n : ℕ) → Type 0
IsEarlier d m c n = (d < c) ⊎ ((d ≡ c) × (m < n))

-- station n of crate c passes, and station m of crate d is the first that does, which stands before it
pub record IsFirstStation (test : Data → Bool) (crates : Items) (d m c n : ℕ) : Type 0 where
  pub own : HasStation test crates c n
  pub first : HasStation test crates d m
  pub before : IsEarlier d m c n
  pub earlier : (e i : ℕ) → IsEarlier e i d m → HasStation test crates e i → ⊥

-- The value at the key of the table is that of the first table that has it, and that stands before: of types, of crates, of the stations of one
-- crate, and of the bits of all stations.
abbrev pub TwiceShown : (types crates : Items) → PlanTable → PlanKey → PlanTable → Type 0
TwiceShown types crates (ModuleType j) key.Name (ModuleType i) = (name : List ℕ) × IsFirstOf (has_name name) types i j
TwiceShown types crates (Crate j) key.Number (Crate i) = (number : ℕ) × IsFirstOf (has_number key.Number number) crates i j
TwiceShown types crates (Station c j) key.N (Station d i) =
    (d ≡ c) × (k : Data) × (get_item c crates ≡ Some k) × (number : ℕ) × IsFirstOf (has_number key.N number) (stations_in k) i j
TwiceShown types crates (Station c j) key.Gl (Station d i) = (bit : ℕ) × IsFirstStation (has_number key.Gl bit) crates d i c j
TwiceShown types crates at in_key first = ⊥

abbrev pub TwiceAreShown : Type 0
TwiceAreShown =
    (ms : Members) (rule : PlanRule) (at first : PlanTable) (in_key : PlanKey) → plan_of ms ≡ Err (broken rule (Twice at in_key first))
    → TwiceShown (items_at key.Types ms) (items_at key.Crates ms) at in_key first
