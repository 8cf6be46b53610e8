-- How far a transfer is, and what its next cycle moves.
use Rattle.std.specs.Prelude.{ℕ, Bool, true, false, List, [], ◌∷◌, ◌++◌, Option, Some, None, option_map, drop, if◌then◌else◌}
use Rattle.std.specs.Borrow.{Bor}
use Rattle.camac_func.specs.declared.data.DataMove.{DataMove}
use Rattle.camac_branch.specs.Branch.{Reply}
use Rattle.camac_esone.specs.InProgress.{q_stop_left, q_repeat_left, scan_left}
use Rattle.camac_esone.specs.Progress.{Left}
use Rattle.camac_model.specs.Cycle.{kept}
use Rattle.camac_model.specs.Transfer.{transfer_data}
use Rattle.camac_machine.specs.declared.transfer.Course.{Course}
use Rattle.camac_machine.specs.declared.transfer.Course.TheVariants.{Stop, Repeat, Scan}

-- where its further cycles go, and its tally so far
abbrev pub left_at : Course → Left
left_at (Stop h) = q_stop_left h
left_at (Repeat h) = q_repeat_left h
left_at (Scan h) = scan_left h

-- whether all its cycles go to one address
abbrev pub stays : Course → Bool
stays (Scan h) = false
stays _ = true

-- the words of a table from one on, where there is a table
abbrev pub words_from : ℕ → Option (List ℕ) → Option (List ℕ)
words_from n table = option_map (drop n) table

-- the words of the table that is sent
abbrev pub words_sent : Option (Bor (List ℕ)) → Option (List ℕ)
words_sent table = option_map (λ (words : Bor (List ℕ)). words.now) table

-- a read, or the word of the table whose index is the tally so far
abbrev pub data_of : Course → Option (List ℕ) → Option DataMove
data_of t table = transfer_data (words_from (left_at t).tally table) []

-- whether an event keeps the word of a cycle: that of a read with Q=1
abbrev pub keeps : Option (List ℕ) → Bool → Bool
keeps None q = q
keeps (Some table) q = false

-- the words of the event after a cycle, where it keeps so many bits of a word
abbrev pub words_after : Option (List ℕ) → ℕ → Reply → List ℕ → List ℕ
words_after table bits r words = if keeps table r.q then words ++ kept bits r ∷ [] else words
