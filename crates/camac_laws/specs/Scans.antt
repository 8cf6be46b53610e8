-- By which rule a scan is refused at its window.
use Rattle.std.specs.Prelude.{◌≡◌, ◌↔◌, ◌⊎◌, ℕ, ◌≤◌, true, Some, Result, Ok, Err, ◌<◌, None, false}
use Rattle.camac_lang.specs.Tree.{Expression}
use Rattle.camac_range.specs.Interval.{Interval, IsWithin}
use Rattle.camac_branch.specs.Plan.{Layout, IsPlan}
use Rattle.camac_rules.specs.declared.case.Case.{Case}
use Rattle.camac_rules.specs.declared.rule.CheckRule.TheVariants.{StationNotInstalled, CommandNotDeclared}
use Rattle.camac_rules.specs.Addresses.{sub_address_end, crate_end, station_end, in_plan, is_station, has_command}
use Rattle.camac_rules.specs.Costs.{Verdict}
use Rattle.camac_rules.specs.Cycles.{Context, Around, may_write}
use Rattle.camac_rules.specs.Expressions.{range_of}
use Rattle.camac_rules.specs.Fault.{Fault, broken}
use Rattle.camac_rules.specs.Known.{Region, Facts, region_at}
use Rattle.camac_rules.specs.Transfers.{is_one_crate, scan_rule}
use Rattle.camac_rules.specs.Windows.{window_of, Window, is_installed, is_declared, window_size, stations_of}
use Rattle.camac_lang.specs.declared.spot.Spot.{Spot}
use Rattle.camac_branch.specs.Address.{address}
use Rattle.camac_branch.specs.Allowed.{allowed}
use Rattle.camac_laws.specs.Regions.{IsInstalled}
use Rattle.camac_rules.specs.declared.case.Case.TheVariants.{NoCrate, NoModule, NoCommand}
use Rattle.camac_laws.specs.ShownAddresses.{IsFirst, HasAddresses}

-- What the case of a refusal shows of the window of a scan.

-- station m with sub-address b comes before station n with sub-address a; or is it
abbrev pub IsBefore : (m b n a : ℕ) → Type 0
IsBefore m b n a = (m < n) ⊎ ((m ≡ n) × (b < a))

abbrev pub IsUpTo : (m b n a : ℕ) → Type 0
IsUpTo m b n a = (m < n) ⊎ ((m ≡ n) × (b ≤ a))

-- an address of a window, from its first one to its last one
pub record IsInWindow (w : Window) (n a : ℕ) : Type 0 where
  pub from_first : IsUpTo w.first_station w.first_sub_address n a
  pub to_last : IsUpTo n a w.last_station w.last_sub_address
  pub sub_address : a < sub_address_end

-- n is the first station of the window that is not installed; a number that no station has is not installed
pub record IsFirstMissing (plan : Layout) (w : Window) (n : ℕ) : Type 0 where
  pub inside : IsWithin (stations_of w) n
  pub address : n < station_end → (a : ℕ) × IsInWindow w n a
  pub missing : n < station_end → is_station plan w.crate_no n ≡ false
  pub earlier : (m b : ℕ) → IsInWindow w m b → m < n → (m < station_end) × (is_station plan w.crate_no m ≡ true)

-- the crate is not in the plan; or it is, and a station of the window is the first that is not installed
abbrev pub MissingOverShown : Layout → Window → Case → Type 0
MissingOverShown plan w (NoCrate c) = (c ≡ w.crate_no) × (c < crate_end → in_plan plan c ≡ false)
MissingOverShown plan w (NoModule c n) =
    (c ≡ w.crate_no) × ((c < crate_end) × ((in_plan plan c ≡ true) × IsFirstMissing plan w n))
MissingOverShown plan w case = ⊥

abbrev pub MissingOverAreShown : Type 0
MissingOverAreShown =
    (c : Context) (around : Around) (spot : Spot) (f r1 r2 : ℕ) (max : Expression) (x : ℕ) (k : Facts) (g h : Region)
    → region_at k.registers r1 ≡ Some g → region_at k.registers r2 ≡ Some h
    → (at : Spot) (case : Case) → scan_rule c around spot f r1 r2 max x k ≡ Err (broken StationNotInstalled at case)
    → MissingOverShown c.plan (window_of g h) case

-- the first address of the window at which the command is not declared
pub record IsFirstUndeclared (plan : Layout) (f : ℕ) (w : Window) (n a : ℕ) : Type 0 where
  pub inside : IsInWindow w n a
  pub undeclared : has_command plan f w.crate_no n a ≡ false
  pub earlier : (m b : ℕ) → IsInWindow w m b → IsBefore m b n a → has_command plan f w.crate_no m b ≡ true

-- the first sub-address of a register past the last one that there is
pub record IsPast (g : Region) (c n a : ℕ) : Type 0 where
  pub crate_no : c ≡ g.crates.lo
  pub station : n ≡ g.stations.lo
  pub sub_address : IsFirst sub_address_end g.sub_addresses (λ b. true) a

-- a register has addresses past the last sub-address; or none has, and an address of the window is the first without the command
abbrev pub UndeclaredOverShown : Layout → ℕ → Region → Region → Case → Type 0
UndeclaredOverShown plan f g h (NoCommand function c n a) =
    (function ≡ f)
    × (IsPast g c n a ⊎ (IsPast h c n a ⊎ ((c ≡ (window_of g h).crate_no) × IsFirstUndeclared plan f (window_of g h) n a)))
UndeclaredOverShown plan f g h case = ⊥

abbrev pub UndeclaredOverAreShown : Type 0
UndeclaredOverAreShown =
    (c : Context) (around : Around) (spot : Spot) (f r1 r2 : ℕ) (max : Expression) (x : ℕ) (k : Facts) (g h : Region)
    → region_at k.registers r1 ≡ Some g → region_at k.registers r2 ≡ Some h → HasAddresses g → HasAddresses h
    → (at : Spot) (case : Case) → scan_rule c around spot f r1 r2 max x k ≡ Err (broken CommandNotDeclared at case)
    → UndeclaredOverShown c.plan f g h case

-- What the rules of a scan come to, at the addresses of its window: from its first to its last, in the order of stations and then of
-- sub-addresses (IsInWindow).

-- the station of each address of a window is installed; or that of some is not
abbrev pub AreInstalledOver : Layout → Window → Type 0
AreInstalledOver plan w = (n a : ℕ) → IsInWindow w n a → IsInstalled plan w.crate_no n

abbrev pub HasMissingOver : Layout → Window → Type 0
HasMissingOver plan w = (n a : ℕ) × IsInWindow w n a × (IsInstalled plan w.crate_no n → ⊥)

-- each address of a window allows the function; or some does not
abbrev pub AreDeclaredOver : Layout → ℕ → Window → Type 0
AreDeclaredOver plan f w = (n a : ℕ) → IsInWindow w n a → (k : ℕ) × (allowed plan (address w.crate_no n a) f ≡ Some k)

abbrev pub HasUndeclaredOver : Layout → ℕ → Window → Type 0
HasUndeclaredOver plan f w = (n a : ℕ) × IsInWindow w n a × (allowed plan (address w.crate_no n a) f ≡ None)

-- The test of E1 holds exactly where the station of each address is installed.
unfoldable pub WindowsAreInstalled : Type 0
WindowsAreInstalled =
    (plan : Layout) → IsPlan plan → (w : Window) → w.last_sub_address < sub_address_end
    → (is_installed plan w ≡ true) ↔ AreInstalledOver plan w

-- The test of E2 holds exactly where each address allows the function.
unfoldable pub WindowsAreDeclared : Type 0
WindowsAreDeclared =
    (plan : Layout) → IsPlan plan → (f : ℕ) (w : Window) → w.last_sub_address < sub_address_end
    → (is_declared plan f w ≡ true) ↔ AreDeclaredOver plan f w

-- its addresses are numbered from 0 up to below a size: each has a number of its own, and no number is left over
pub record AreNumbered (w : Window) (number : ℕ → ℕ → ℕ) (size : ℕ) : Type 0 where
  pub each : (n a : ℕ) → IsInWindow w n a → number n a < size
  pub own : (n a m b : ℕ) → IsInWindow w n a → IsInWindow w m b → number n a ≡ number m b → (n ≡ m) × (a ≡ b)
  pub all : (i : ℕ) → i < size → (n a : ℕ) × IsInWindow w n a × (number n a ≡ i)

-- The size of a window is how many addresses it has. (Where a register's sub-addresses go past 15, the scan is refused.)
unfoldable pub WindowsAreCounted : Type 0
WindowsAreCounted =
    (w : Window) → w.first_sub_address < sub_address_end → w.last_sub_address < sub_address_end
    → (number : ℕ → ℕ → ℕ) × AreNumbered w number (window_size w)

-- a scan comes to its window: its expression has a range, its variable may be written, its registers hold addresses of g and of h, and all
-- of these are in one crate
pub record ComesToWindow (c : Context) (around : Around) (spot : Spot) (r1 r2 : ℕ) (max : Expression) (x : ℕ) (k : Facts) (g h : Region) : Type 0 where
  pub most : Interval
  pub range : range_of spot max k.ranges ≡ Ok most
  pub writes : may_write around x ≡ true
  pub first : region_at k.registers r1 ≡ Some g
  pub last : region_at k.registers r2 ≡ Some h
  pub one_crate : is_one_crate g h ≡ true

-- the range of a register's sub-addresses goes past 15
abbrev pub IsPastLast : Region → Type 0
IsPastLast g = sub_address_end ≤ g.sub_addresses.hi

-- A scan that comes to its window is refused by E1 exactly where the station of some address is not installed. It is refused by E2 exactly
-- where all are, and a register's sub-addresses go past 15, or some address does not allow the function.
pub record IsScanJudged (plan : Layout) (spot : Spot) (f : ℕ) (g h : Region) (answer : Result Verdict Fault) : Type 0 where
  pub not_installed :
      ((case : Case) × (answer ≡ Err (broken StationNotInstalled spot case))) ↔ HasMissingOver plan (window_of g h)
  pub not_declared :
      ((case : Case) × (answer ≡ Err (broken CommandNotDeclared spot case)))
      ↔ (AreInstalledOver plan (window_of g h) × (IsPastLast g ⊎ (IsPastLast h ⊎ HasUndeclaredOver plan f (window_of g h))))

unfoldable pub ScansAreJudged : Type 0
ScansAreJudged =
    (c : Context) → IsPlan c.plan → (around : Around) (spot : Spot) (f r1 r2 : ℕ) (max : Expression) (x : ℕ) (k : Facts) (g h : Region)
    → ComesToWindow c around spot r1 r2 max x k g h → IsScanJudged c.plan spot f g h (scan_rule c around spot f r1 r2 max x k)
