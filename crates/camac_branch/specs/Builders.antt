-- What the builders of a plan change, and what they leave as it was.
use Rattle.std.specs.Prelude.{◌≡◌, ◌≢◌, ◌≤◌, ℕ, List, Some, None, IsSome, length, slice_get}
use Rattle.camac_module.specs.Commands.{Commands}
use Rattle.camac_branch.specs.declared.plan.Installed.{Installed}
use Rattle.camac_branch.specs.Plan.{Layout, IsPlan, crate_at, crate_waits, installed, type_named, with_crate, with_installed, with_type}

-- the crate is in the plan with its waits and nothing installed
pub record AddsCrate (old new : Layout) (c waits : ℕ) : Type 0 where
  pub here : crate_waits new c ≡ Some waits
  pub nothing : (n : ℕ) → installed new c n ≡ None
  pub other_crates : (d : ℕ) → d ≢ c → crate_at new d ≡ crate_at old d
  pub types : new.types ≡ old.types
  pub buffer : new.buffer ≡ old.buffer

-- this is installed at the station
pub record AddsStation (old new : Layout) (c n : ℕ) (s : Installed) : Type 0 where
  pub here : installed new c n ≡ Some s
  pub other_stations : (d m : ℕ) → ((d ≡ c) × (m ≡ n) → ⊥) → installed new d m ≡ installed old d m
  pub waits : (d : ℕ) → crate_waits new d ≡ crate_waits old d
  pub types : new.types ≡ old.types
  pub buffer : new.buffer ≡ old.buffer

-- the next number and the name are those of the type
pub record AddsType (old new : Layout) (name : List ℕ) (commands : Commands) : Type 0 where
  pub here : slice_get new.types (length old.types) ≡ Some (record { name = name; commands = commands })
  pub named : type_named new name ≡ Some (length old.types)
  pub other_types : (t : ℕ) → t ≢ length old.types → slice_get new.types t ≡ slice_get old.types t
  pub other_names : (other : List ℕ) → other ≢ name → type_named new other ≡ type_named old other
  pub crates : new.crates ≡ old.crates
  pub buffer : new.buffer ≡ old.buffer

-- each builder changes its own entry alone
unfoldable pub CratesAreAdded : Type 0
CratesAreAdded = (plan : Layout) → IsPlan plan → (c waits : ℕ) → 1 ≤ c → c ≤ 7 → AddsCrate plan (with_crate plan c waits) c waits

unfoldable pub StationsAreAdded : Type 0
StationsAreAdded =
    (plan : Layout) → IsPlan plan → (c n : ℕ) (s : Installed) → IsSome (crate_at plan c) → 1 ≤ n → n ≤ 23
    → AddsStation plan (with_installed plan c n s) c n s

unfoldable pub TypesAreAdded : Type 0
TypesAreAdded =
    (plan : Layout) (name : List ℕ) (commands : Commands) → type_named plan name ≡ None
    → AddsType plan (with_type plan name commands) name commands
