-- Transfers in progress: what is left of one, and the cycles at which it stands.
use Rattle.std.specs.Prelude.{◌≡◌, ℕ, ◌+◌, List, [], ◌∷◌, ◌++◌, ◌⊎◌, Option, Some, None, Bool}
use Rattle.camac_branch.specs.Address.{Address}
use Rattle.camac_esone.specs.Transfers.{NextAddress, tally}
use Rattle.camac_esone.specs.Lists.{Cycle, replies, IsCut}
use Rattle.camac_esone.specs.Laws.{IsDriven}

-- where each further cycle goes, from all Q from here on, and the tally so far
pub record Left : Type 0 where
  pub next_address : NextAddress
  pub tally : ℕ

-- A cycle with this Q leads from one to the other.
pub record Continues (old : Left) (q : Bool) (new : Left) : Type 0 where
  pub next_address : (qs : List Bool) → new.next_address qs ≡ old.next_address (q ∷ qs)
  pub tally : new.tally ≡ old.tally + tally (q ∷ [])

-- Each of these cycles was wanted after those before it, and what is left is what is wanted after them all.
pub record StandsAt (next_address : NextAddress) (left : Left) (cycles : List Cycle) : Type 0 where
  pub driven : IsDriven next_address cycles
  pub onward : (qs : List Bool) → left.next_address qs ≡ next_address (replies cycles ++ qs)
  pub tally : left.tally ≡ tally (replies cycles)

abbrev pub with_cycle : List Cycle → Address → Bool → List Cycle
with_cycle cycles at q = cycles ++ record { at = at; q = q } ∷ []

-- What stood at some cycles stands at them and the one that was wanted, with this Q.
abbrev pub AddsCycle : Left → Bool → Left → Type 0
AddsCycle old q new =
    (next_address : NextAddress) (cycles : List Cycle) (at : Address) → old.next_address [] ≡ Some at → StandsAt next_address old cycles
    → StandsAt next_address new (with_cycle cycles at q)

-- These cycles are such a list, where no further one is wanted; else with the next one they are a list or a prefix of one.
abbrev pub LeadsOn : (List Cycle → Type 0) → List Cycle → Option Address → Type 0
LeadsOn IsList cycles None = IsList cycles
LeadsOn IsList cycles (Some at) = (q : Bool) → IsList (with_cycle cycles at q) ⊎ IsCut IsList (with_cycle cycles at q)

-- a number is the tally of all cycles at which this stands
abbrev pub IsTally : Left → ℕ → Type 0
IsTally left n = (next_address : NextAddress) (cycles : List Cycle) → StandsAt next_address left cycles → n ≡ tally (replies cycles)
