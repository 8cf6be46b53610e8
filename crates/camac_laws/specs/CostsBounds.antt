-- The bounds at the heads of the costs of an accepted script are those of the check.
use Rattle.std.specs.Prelude.{◌≡◌, List, [], ◌∷◌, ◌++◌, IsTrue, Ok, ◌<◌, ◌-◌, ◌^◌}
use Rattle.camac_lang.specs.Scope.{is_well_formed}
use Rattle.camac_lang.specs.Tree.{Script}
use Rattle.camac_branch.specs.Plan.{Layout}
use Rattle.camac_model.specs.Fine.{Bounds}
use Rattle.camac_rules.specs.Accept.{Section, of_procedure, of_service, accept, accept_procedure, accept_service, with_procedure, bare}
use Rattle.camac_rules.specs.Capped.{capped}
use Rattle.camac_rules.specs.Cycles.{Context}
use Rattle.camac_check_costs.specs.declared.bodies.Owner.{Owner}
use Rattle.camac_check_costs.specs.declared.bodies.Owner.TheVariants as owner
use Rattle.camac_check_costs.specs.Body.{BodyRows}
use Rattle.camac_check_costs.specs.Bodies.{costs_with, sections_of}
use Rattle.camac_rules.specs.Costs.{no_costs, plus}
use Rattle.camac_check_rows.specs.declared.row.Row.{Row}

-- The shares of the rows of a body, added up.

abbrev pub total : List Row → Bounds
total [] = no_costs
total (r ∷ rs) = plus r.share (total rs)

-- each number is below the greatest of 64 bits, at which costs stay
abbrev pub IsBelow : Bounds → Type 0
IsBelow b = (b.cycles < 2 ^ 64 - 1) × (b.words < 2 ^ 64 - 1) × (b.steps < 2 ^ 64 - 1)

abbrev pub AddUp : List BodyRows → Type 0
AddUp [] = Unit {0}
AddUp (b ∷ bs) = (IsBelow b.costs → total b.rows ≡ b.costs) × AddUp bs

-- The shares of the rows of each procedure and service add up to its bound.
abbrev pub SharesAddUp : Type 0
SharesAddUp = (plan : Layout) (script : Script) → AddUp (costs_with capped plan script)

abbrev pub bound_of_service : Owner → Bounds → List Bounds
bound_of_service (owner.Procedure i) k = []
bound_of_service (owner.Service i) k = k ∷ []

-- the bounds of the services, in the order of the rows
abbrev pub service_bounds : List BodyRows → List Bounds
service_bounds [] = []
service_bounds (b ∷ bs) = bound_of_service b.owner b.costs ++ service_bounds bs

-- each bound is what the rules find of its procedure or service, in numbers of any size, and the shares of its rows add up to it
abbrev pub AreBounds : Context → List Section → List BodyRows → Type 0
AreBounds c [] [] = Unit {0}
AreBounds c [] (b ∷ bs) = ⊥
AreBounds c (section ∷ rest) [] = ⊥
AreBounds c (of_procedure p ∷ rest) (b ∷ bs) = (accept_procedure c p ≡ Ok b.costs) × (total b.rows ≡ b.costs) × AreBounds (with_procedure p c) rest bs
AreBounds c (of_service v ∷ rest) (b ∷ bs) = (accept_service c v ≡ Ok b.costs) × (total b.rows ≡ b.costs) × AreBounds c rest bs

-- In an accepted script the bounds of the services are those of the check, those of the procedures what the rules find, and shares add up.
abbrev pub CostsAreBounds : Type 0
CostsAreBounds = (plan : Layout) (script : Script) (ks : List Bounds) → IsTrue (is_well_formed script) → accept plan script ≡ Ok ks
    → (service_bounds (costs_with capped plan script) ≡ ks) × AreBounds (bare (λ c. c) plan script) (sections_of script) (costs_with capped plan script)
