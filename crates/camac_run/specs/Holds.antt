-- What a runner holds after answers, and the operation that is wanted then.
use Rattle.std.specs.Prelude.{◌≡◌, ℕ, List, [], ◌∷◌, ◌++◌, map, Option, Some, None}
use Rattle.camac_lang.specs.Tree.{Script}
use Rattle.camac_branch.specs.Branch.{Answer}
use Rattle.camac_branch.specs.Plan.{Layout}
use Rattle.camac_model.specs.Behaviour.{Behaviour, does, Piece, lock_released, event_left, pieces}
use Rattle.camac_model.specs.Run.{the_run}
use Rattle.camac_machine.specs.MachineState.{Left, piece_of}
use Rattle.camac_machine.specs.declared.item.Item.{Item}
use Rattle.camac_run.specs.Operation.{IsWaiting, Wants, wanted_after}
use Rattle.camac_run.specs.Runner.{RunnerState, rest, last_words_in, GoesOn, Resumes}
use Rattle.camac_run.specs.declared.progress.Wanted.{Wanted}

-- pieces, and then the rest
abbrev pub after : {A : Type 0} → List Piece → Behaviour A → Behaviour A
after [] b = b
after (p ∷ ps) b = does p (after ps b)

-- What was told of these answers are pieces of the run, and the runner holds the rest: on all answers that may follow, the run begins with
-- these pieces and goes on as what the runner holds.
pub record HoldsAfter (plan : Layout) (script : Script) (answers : List Answer) (told : List Piece) (h : RunnerState) : Type 0 where
  pub goes : (more : List Answer) → the_run plan script (answers ++ more) ≡ after told (rest h more)

abbrev pub event_pieces : Option Left → List ℕ → List Piece
event_pieces None words = []
event_pieces (Some e) words = event_left (record { bit = e.1; cycles = e.2.cycles; missed = e.2.missed; words = words }) ∷ []

-- what is told of a pause: the locks that are released, and the event
abbrev pub told_after : List ℕ → Option Left → (words : List ℕ) → List Piece
told_after unlocks event words = map lock_released unlocks ++ event_pieces event words

-- what is told of an answer: its item, and the same
abbrev pub told_of : Item → List ℕ → Option Left → (words : List ℕ) → List Piece
told_of item unlocks event words = piece_of item ∷ told_after unlocks event words

-- with what is told of an answer that is used the runner holds what is left after it
abbrev pub GoingOnHolds : Type 0
GoingOnHolds =
    (plan : Layout) (script : Script) (answers : List Answer) (a : Answer) (told : List Piece) (old new : RunnerState) (item : Item) (unlocks : List ℕ) (event : Option Left)
    → HoldsAfter plan script answers told old → GoesOn old a item unlocks event new
    → HoldsAfter plan script (answers ++ a ∷ []) (told ++ told_of item unlocks event (last_words_in new)) new

-- so it does after a pause: a run that pauses tells the same pieces as one that does not
abbrev pub ResumingHolds : Type 0
ResumingHolds =
    (plan : Layout) (script : Script) (answers : List Answer) (told : List Piece) (old new : RunnerState) (unlocks : List ℕ) (event : Option Left)
    → HoldsAfter plan script answers told old → Resumes old unlocks event new
    → HoldsAfter plan script answers (told ++ told_after unlocks event (last_words_in new)) new

-- as long as the runner waits for an answer, what was told are the pieces of the run on the answers so far
abbrev pub AllIsTold : Type 0
AllIsTold =
    (plan : Layout) (script : Script) (answers : List Answer) (told : List Piece) (h : RunnerState)
    → HoldsAfter plan script answers told h → IsWaiting h → pieces (the_run plan script answers) ≡ told

-- what the runner wants is the operation that the run wants after these answers
abbrev pub WantsAreWanted : Type 0
WantsAreWanted =
    (plan : Layout) (script : Script) (answers : List Answer) (told : List Piece) (h : RunnerState) (o : Wanted)
    → HoldsAfter plan script answers told h → Wants h (Some o) → wanted_after plan script answers ≡ Some o
