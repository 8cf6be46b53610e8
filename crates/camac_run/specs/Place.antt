-- Where a run stands in its script.
use Rattle.std.specs.Prelude.{◌≡◌, IfSome, IsSomeAnd}
use Rattle.camac_lang.specs.Tree.{spot_of}
use Rattle.camac_machine.specs.MachineState.{context_in, IsOperationOf}
use Rattle.camac_run.specs.Runner.{RunnerState}
use Rattle.camac_run.specs.declared.place.Place.{Place}

-- the service in progress, and the line of the statement that was begun last in it, which wants what the service waits for
pub record IsPlace (h : RunnerState) (place : Place) : Type 0 where
  pub service : place.service ≡ h.service
  pub line : IsSomeAnd h.begun (λ st. (place.line ≡ (spot_of st).line) × IfSome h.pending (λ w. IsOperationOf (context_in h.checked) w st))
