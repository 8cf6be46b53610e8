-- What the rules of the values that are sent and read come to.
use Rattle.std.specs.Prelude.{◌≡◌, ◌≢◌, ◌↔◌, ℕ, ◌^◌, ◌<◌, ◌≤◌, List, Option, Some, Result, Ok, Err, Contains}
use Rattle.camac_lang.specs.declared.word.WordSize.{WordSize}
use Rattle.camac_lang.specs.declared.word.WordSize.TheVariants.{Full}
use Rattle.camac_lang.specs.Tree.{Expression}
use Rattle.camac_range.specs.Interval.{Interval, IsWithin}
use Rattle.camac_branch.specs.Address.{address}
use Rattle.camac_branch.specs.Allowed.{allowed}
use Rattle.camac_branch.specs.Plan.{Layout, IsPlan}
use Rattle.camac_model.specs.Cycle.{sized}
use Rattle.camac_rules.specs.declared.case.Case.{Case}
use Rattle.camac_rules.specs.declared.case.Case.TheVariants.{Width}
use Rattle.camac_rules.specs.declared.rule.CheckRule.TheVariants.{ValueTooWide}
use Rattle.camac_rules.specs.Costs.{Verdict}
use Rattle.camac_rules.specs.Cycles.{Context, Around, read_rule, write_rule}
use Rattle.camac_rules.specs.Expressions.{range_of}
use Rattle.camac_rules.specs.Fault.{Fault, broken}
use Rattle.camac_rules.specs.Known.{Region, Facts, range_at, region_at}
use Rattle.camac_rules.specs.Transfers.{words_sent, block_region}
use Rattle.camac_laws.specs.ShownAddresses.{HasAddresses}
use Rattle.camac_laws.specs.Regions.{IsIn}
use Rattle.camac_lang.specs.declared.spot.Spot.{Spot}

-- a value fits at each address: it has no more bits than are sent there, in 16 bits no more than 16
abbrev pub FitsAll : Layout → ℕ → Region → WordSize → ℕ → Type 0
FitsAll plan f g size value = (c n a k : ℕ) → IsIn g c n a → allowed plan (address c n a) f ≡ Some k → value < 2 ^ sized size k

-- a value does not fit at one address; the case shows it, and the bits that are sent there
pub record IsTooWide (plan : Layout) (f : ℕ) (g : Region) (size : WordSize) (value : ℕ) (case : Case) : Type 0 where
  pub crate_no : ℕ
  pub station : ℕ
  pub sub_address : ℕ
  pub inside : IsIn g crate_no station sub_address
  pub width : ℕ
  pub is_width : allowed plan (address crate_no station sub_address) f ≡ Some width
  pub wide : 2 ^ sized size width ≤ value
  pub shown : case ≡ Width value (sized size width)

-- A single write is accepted only where the greatest value of its expression fits at each address. E5 refuses it only where at some it does not.
pub record IsWriteFit (plan : Layout) (f : ℕ) (g : Region) (size : WordSize) (greatest : ℕ) (answer : Result Verdict Fault) : Type 0 where
  pub accepted : (v : Verdict) → answer ≡ Ok v → FitsAll plan f g size greatest
  pub refused : (at : Spot) (case : Case) → answer ≡ Err (broken ValueTooWide at case) → IsTooWide plan f g size greatest case

unfoldable pub WritesAreFit : Type 0
WritesAreFit =
    (c : Context) → IsPlan c.plan → (around : Around) (spot : Spot) (size : WordSize) (f r : ℕ) (e : Expression) (k : Facts) (g : Region) (v : Interval)
    → range_of spot e k.ranges ≡ Ok v → region_at k.registers r ≡ Some g → HasAddresses g
    → IsWriteFit c.plan f g size v.hi (write_rule c around spot size f r e k)

-- the greatest of some words
pub record IsGreatestWord (words : List ℕ) (word : ℕ) : Type 0 where
  pub one : Contains words word
  pub most : (other : ℕ) → Contains words other → other ≤ word

-- A block transfer is accepted only where each word that it sends fits at each address. E5 refuses it only where the greatest does not at some.
pub record AreWordsFit (plan : Layout) (f : ℕ) (g : Region) (words : List ℕ) (answer : Result Region Fault) : Type 0 where
  pub accepted : (h : Region) → answer ≡ Ok h → (word : ℕ) → Contains words word → FitsAll plan f g Full word
  pub refused : (at : Spot) (case : Case) → answer ≡ Err (broken ValueTooWide at case)
      → (word : ℕ) × IsGreatestWord words word × IsTooWide plan f g Full word case

unfoldable pub BlocksAreFit : Type 0
BlocksAreFit =
    (c : Context) → IsPlan c.plan → (around : Around) (spot : Spot) (f r : ℕ) (t : Option ℕ) (most x : ℕ) (k : Facts) (g : Region)
    → region_at k.registers r ≡ Some g → HasAddresses g
    → AreWordsFit c.plan f g (words_sent c.tables t) (block_region c around spot f r t most x k)

-- After a read its variable may be each word that has no more bits than come from some address, and no other. All else is known as before.
pub record IsReadInto (plan : Layout) (f : ℕ) (g : Region) (size : WordSize) (x : ℕ) (before after : Facts) : Type 0 where
  pub words : (word : ℕ) → IsWithin (range_at after.ranges x) word
      ↔ ((c n a k : ℕ) × IsIn g c n a × (allowed plan (address c n a) f ≡ Some k) × (word < 2 ^ sized size k))
  pub others : (y : ℕ) → y ≢ x → range_at after.ranges y ≡ range_at before.ranges y
  pub registers : after.registers ≡ before.registers

abbrev pub ReadsAreAll : Type 0
ReadsAreAll =
    (c : Context) → IsPlan c.plan → (around : Around) (spot : Spot) (size : WordSize) (f r x : ℕ) (k : Facts) (g : Region) (v : Verdict)
    → region_at k.registers r ≡ Some g → HasAddresses g → read_rule c around spot size f r x k ≡ Ok v
    → (after : Facts) × (v.after ≡ Some after) × IsReadInto c.plan f g size x k after
