-- What C is told of what is left of a transfer.
use Rattle.std.specs.Prelude.{◌≡◌, ℕ, List, [], ◌∷◌, false, true, Option, IfSome, is_some}
use Rattle.camac_run.specs.Runner.{RunnerState}
use Rattle.camac_run.specs.Transfer.{IsLeft, is_transfer, next_in}
use Rattle.camac_run.specs.declared.transfer.TransferLeft.{TransferLeft}
use Rattle.camac_run.specs.declared.transfer.TransferMode.{TransferMode}
use Rattle.camac_run.specs.declared.transfer.TransferMode.TheVariants.{QStop, QRepeat, Scan}
use Rattle.camac_c.specs.Told.{flag_in}

abbrev pub mode_in : TransferMode → ℕ
mode_in QStop = 1
mode_in QRepeat = 2
mode_in Scan = 4

-- its mode, the final station and sub-address, the most cycles and words, and whether it goes on after Q=0 and after Q=1
abbrev pub numbers_in : TransferLeft → List ℕ
numbers_in t =
    mode_in t.mode ∷ t.last.station ∷ t.last.sub_address ∷ t.cycles ∷ t.words ∷ flag_in (is_some (next_in t (false ∷ []))) ∷ flag_in (is_some (next_in t (true ∷ []))) ∷ []

-- what is left of it, none where the service in progress waits for no transfer
pub record IsOfTransfer (h : RunnerState) (left : Option TransferLeft) : Type 0 where
  pub is_left : IfSome left (IsLeft h)
  pub some : is_some left ≡ is_transfer h.pending
