-- Which service a demand calls, in the words of the bits.
use Rattle.std.specs.Prelude.{◌≡◌, ◌↔◌, ◌≤◌, ℕ, List, Some, None, slice_get}
use Rattle.camac_lang.specs.Tree.{Service, Script}
use Rattle.camac_branch.specs.Branch.{IsSet}
use Rattle.camac_branch.specs.Plan.{Layout, IsPlan}
use Rattle.camac_model.specs.Meaning.{Context, context}
use Rattle.camac_model.specs.Run.{Chosen, service_bit, service_for}

-- one of these services, its number and its bit, which is in the pattern
pub record IsAsked (c : Context) (vs : List Service) (pattern : ℕ) (v : Chosen) : Type 0 where
  pub numbered : slice_get vs v.number ≡ Some v.service
  pub bit : service_bit c v.service ≡ Some v.bit
  pub in_pattern : IsSet pattern v.bit

-- the service that the pattern calls
pub record IsCalled (c : Context) (vs : List Service) (pattern : ℕ) (v : Chosen) : Type 0 where
  pub asked : IsAsked c vs pattern v
  -- no lower bit of the pattern has a service
  pub least : (w : Chosen) → IsAsked c vs pattern w → v.bit ≤ w.bit
  -- of services of one bit it is the first; in a linked script each has a bit of its own
  pub first : (w : Chosen) → IsAsked c vs pattern w → w.bit ≡ v.bit → v.number ≤ w.number

-- the service of a demand is the one that the pattern calls; there is none exactly where no bit of the pattern has a service
pub record CallsAsAsked (c : Context) (vs : List Service) (pattern : ℕ) : Type 0 where
  pub called : (v : Chosen) → (service_for c pattern vs ≡ Some v) ↔ IsCalled c vs pattern v
  pub none : (service_for c pattern vs ≡ None) ↔ ((v : Chosen) → IsAsked c vs pattern v → ⊥)

abbrev pub DemandsCallServices : Type 0
DemandsCallServices =
    (plan : Layout) → IsPlan plan → (script : Script) (pattern : ℕ) → CallsAsAsked (context plan script) script.services pattern
