-- What C is told of a place in a script.
use Rattle.std.specs.Prelude.{◌≡◌, ℕ, List, [], ◌∷◌, Option, None, Some, IfSome, is_some}
use Rattle.camac_machine.specs.Rest.{is_asking}
use Rattle.camac_run.specs.Place.{IsPlace}
use Rattle.camac_run.specs.Runner.{RunnerState}
use Rattle.camac_run.specs.declared.place.Place.{Place}
use Rattle.camac_c.specs.Told.{service_in}

-- the service, from 1 in text order, and the line; zeros where no service is in progress, or it pauses
abbrev pub numbers_of_place : Option Place → List ℕ
numbers_of_place None = 0 ∷ 0 ∷ []
numbers_of_place (Some p) = service_in (Some p.service) ∷ p.line ∷ []

-- where a run stands
pub record IsAt (h : RunnerState) (place : Option Place) : Type 0 where
  pub is_place : IfSome place (IsPlace h)
  pub in_service : is_some place ≡ is_asking h.pending
