-- The graded-L bits of the services of a linked script.
use Rattle.std.specs.Prelude.{◌≡◌, ℕ, ◌<◌, length, Some, IsSome}
use Rattle.camac_branch.specs.Plan.{IsPlan}
use Rattle.camac_names.specs.Linked.{LinkedScript, IsLinked, bit_of_service}

-- each service has a bit, and no two have the same
pub record HasOwnBits (l : LinkedScript) : Type 0 where
  pub has : (i : ℕ) → i < length l.script.services → IsSome (bit_of_service l i)
  pub own : (i j b : ℕ) → bit_of_service l i ≡ Some b → bit_of_service l j ≡ Some b → i ≡ j

abbrev pub LinkedHaveOwnBits : Type 0
LinkedHaveOwnBits = (l : LinkedScript) → IsPlan l.plan → IsLinked l → HasOwnBits l
