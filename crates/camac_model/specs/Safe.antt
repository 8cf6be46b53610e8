-- When a cycle is safe: the command is allowed, moves data as its function's class says (EUR 4100, IEEE 583), and a value that is sent
-- fits the width.
use Rattle.std.specs.Prelude.{◌≡◌, ℕ, ◌^◌, ◌<◌, Some, IsSome, true}
use Rattle.camac_func.specs.Class.{class_of, fits}
use Rattle.camac_func.specs.declared.data.DataMove.{DataMove}
use Rattle.camac_func.specs.declared.data.DataMove.TheVariants as moved
use Rattle.camac_branch.specs.Address.{Address}
use Rattle.camac_branch.specs.Allowed.{allowed}
use Rattle.camac_branch.specs.Plan.{Layout, crate_waits}
use Rattle.camac_model.specs.Behaviour.{Piece, demanded, cycled, lock_taken, lock_released, event_left}

-- a value that is sent fits the width
abbrev pub FitsWidth : DataMove → ℕ → Type 0
FitsWidth moved.In w = Unit {0}
FitsWidth (moved.Out v) w = v < 2 ^ w
FitsWidth moved.None w = Unit {0}

pub record IsSafe (plan : Layout) (at : Address) (f : ℕ) (d : DataMove) : Type 0 where
  pub width : ℕ
  pub is_allowed : allowed plan at f ≡ Some width
  pub is_of_class : fits (class_of f) d ≡ true
  pub fits_width : FitsWidth d width

-- a safe cycle, or a lock of a crate of the plan
abbrev pub IsSafePiece : Layout → Piece → Type 0
IsSafePiece plan (demanded p v) = Unit {0}
IsSafePiece plan (cycled at f d r w) = IsSafe plan at f d
IsSafePiece plan (lock_taken c w) = IsSome (crate_waits plan c)
IsSafePiece plan (lock_released c) = Unit {0}
IsSafePiece plan (event_left e) = Unit {0}
