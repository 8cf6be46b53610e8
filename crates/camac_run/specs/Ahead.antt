-- The operations that come next, whatever is answered.
use Rattle.std.specs.Prelude.{◌≡◌, ◌<◌, ◌≤◌, true, false, List, [], ◌∷◌, ◌++◌, length, take, Bool, Option, Some, None, ℕ, IfNone, IfSome}
use Rattle.camac_branch.specs.Branch.{Answer}
use Rattle.camac_branch.specs.declared.answer.Command.{Command}
use Rattle.camac_rules.specs.Checked.{CheckedScript}
use Rattle.camac_model.specs.Behaviour.{Behaviour, does, ends, stops, Piece, lock_released}
use Rattle.camac_machine.specs.MachineState.{Left}
use Rattle.camac_machine.specs.Rest.{is_paused}
use Rattle.camac_machine.specs.declared.item.Item.{Item}
use Rattle.camac_machine.specs.declared.item.Item.TheVariants.{Demand}
use Rattle.camac_run.specs.Holds.{told_of}
use Rattle.camac_run.specs.Operation.{Begins, IsWaiting, Waits, Wants, operation_of, past_first}
use Rattle.camac_run.specs.Runner.{RunnerState, rest, last_words_in, GoesOn}
use Rattle.camac_run.specs.Size.{FirstHasSize, size_in}
use Rattle.camac_run.specs.Transfer.{IsBlock, MakesThen, cycle_after, left_by, q_of}
use Rattle.camac_run.specs.declared.member.Member.{Member}
use Rattle.camac_run.specs.declared.member.Member.TheVariants.{Makes, Block, Release}
use Rattle.camac_run.specs.declared.progress.Wanted.TheVariants.{Cycle}

-- its first piece is done
abbrev pub Does : {A : Type 0} → Behaviour A → Type 0
Does (does p b) = Unit {0}
Does (ends x) = ⊥
Does (stops w s) = ⊥

-- it begins with the release of a crate's lockout
abbrev pub Releases : {A : Type 0} → (crate_no : ℕ) → Behaviour A → Type 0
Releases c (does p b) = p ≡ lock_released c
Releases c (ends x) = ⊥
Releases c (stops w s) = ⊥

-- By the answers that it gets, a run has these members of a list ahead.
-- An operation: without an answer the run waits. Whatever the next answer is, and those after it, it is used for the operation; and if that is made,
-- what comes after it has the others ahead. A block: the run makes its cycles, by the Q of each, and what comes after the last has the others ahead.
-- A release: it takes no answer, and what comes after it has the others ahead.
abbrev pub AreAhead : {A : Type 0} → List Member → (List Answer → Behaviour A) → Type 0
AreAhead [] run = Unit {0}
AreAhead (Makes o size ∷ os) run =
    Waits (run [])
    × ((a : Answer) (answers : List Answer)
    → Begins o a (run (a ∷ answers)) × (Does (run (a ∷ answers)) → AreAhead os (λ later. past_first (run (a ∷ later)))))
AreAhead (Block b ∷ os) run = IsBlock (left_by b) × ((used : List Answer) → MakesThen (AreAhead os) (cycle_after (left_by b)) [] used run)
AreAhead (Release c ∷ os) run = ((answers : List Answer) → Releases c (run answers)) × AreAhead os (λ answers. past_first (run answers))

abbrev pub releases_first : List Member → Bool
releases_first [] = false
releases_first (Makes o size ∷ os) = false
releases_first (Block b ∷ os) = false
releases_first (Release c ∷ os) = true

-- These a runner has ahead: one at least, unless it pauses or a wait was not permitted. The words of the first have the size of those where it stands.
pub record IsAhead (h : RunnerState) (os : List Member) : Type 0 where
  pub ahead : AreAhead os (rest h)
  pub some : IfNone h.overrun (is_paused h.pending ≡ false → 1 ≤ length os)
  pub none : IfSome h.overrun (λ o. os ≡ [])
  pub first : FirstHasSize (size_in h) os

-- any beginning of what is ahead is ahead
abbrev pub BeginningsAreAhead : Type 0
BeginningsAreAhead = (h : RunnerState) (n : ℕ) (os : List Member) → AreAhead os (rest h) → AreAhead (take n os) (rest h)

-- A runner that has this ahead first wants its operation, or the first cycle of its block; it begins with the release.
abbrev pub BeginsBy : Member → RunnerState → Type 0
BeginsBy (Makes o size) h = Wants h (Some o)
BeginsBy (Block b) h = Wants h (Some (Cycle b.first))
BeginsBy (Release c) h = (answers : List Answer) → Releases c (rest h answers)

abbrev pub FirstIsWanted : Type 0
FirstIsWanted = (h : RunnerState) (o : Member) (os : List Member) → h.overrun ≡ None → AreAhead (o ∷ os) (rest h) → BeginsBy o h

-- the next piece is told, and is so, and then the others; or it is not told yet
abbrev pub Next : (Piece → Type 0) → (List Piece → Type 0) → Type 0 → List Piece → Type 0
Next IsSo Others none [] = none
Next IsSo Others none (p ∷ ps) = IsSo p × Others ps

-- the cycles of a block that come after these Q
abbrev pub NextOf : (others : List Piece → Type 0) → (left : List Bool → Type 0) → (List Bool → Option Command) → (qs : List Bool) → List Piece → Type 0
NextOf Others Left cycle qs [] = Left qs
NextOf Others Left cycle qs (p ∷ ps) =
    IfNone (cycle qs) (Others (p ∷ ps))
    × IfSome (cycle qs) (λ k. (operation_of p ≡ Some (Cycle k)) × ((q : Bool) → q_of p ≡ Some q → NextOf Others Left cycle (qs ++ q ∷ []) ps))

-- Pieces are told as a list says, one after the other, and no others before its end; and what is left of the list is ahead of this runner.
abbrev pub Follow : List Member → List Piece → RunnerState → Type 0
Follow [] told h = Unit {0}
Follow (Makes o size ∷ os) told h = Next (λ p. operation_of p ≡ Some o) (λ ps. Follow os ps h) (AreAhead (Makes o size ∷ os) (rest h)) told
Follow (Block b ∷ os) told h =
    NextOf (λ ps. Follow os ps h) (λ qs. (used : List Answer) → MakesThen (AreAhead os) (cycle_after (left_by b)) qs used (rest h)) (cycle_after (left_by b)) [] told
Follow (Release c ∷ os) told h = Next (λ p. p ≡ lock_released c) (λ ps. Follow os ps h) (AreAhead (Release c ∷ os) (rest h)) told

-- the answers are used one after the other, each where one is waited for, and these pieces are told of them
abbrev pub Plays : RunnerState → List Answer → List Piece → RunnerState → Type 0
Plays old [] told new = (told ≡ []) × (new ≡ old)
Plays old (a ∷ answers) told new =
    IsWaiting old
    × (item : Item) × (unlocks : List ℕ) × (event : Option Left) × (next : RunnerState) × (others : List Piece) × GoesOn old a item unlocks event next
    × (told ≡ told_of item unlocks event (last_words_in next) ++ others)
    × Plays next answers others new

-- The run does what was ahead: the pieces that it tells of its answers are those of the list, in its order, and no others until its end; as long as
-- some of it is left, that is ahead.
abbrev pub AheadIsMade : Type 0
AheadIsMade =
    (old new : RunnerState) (os : List Member) (answers : List Answer) (told : List Piece)
    → old.overrun ≡ None → AreAhead os (rest old) → Plays old answers told new → (new.overrun ≡ None) × Follow os told new

-- These a service surely does first: after a demand that calls it, whatever was answered before, a runner has them ahead. As long as there are any,
-- nothing but the demand was told.
abbrev pub BeginsWith : CheckedScript → (service : ℕ) → List Member → Type 0
BeginsWith c service os =
    (old new : RunnerState) (a : Answer) (pattern : ℕ) (unlocks : List ℕ) (event : Option Left)
    → old.checked ≡ c → old.pending ≡ None → GoesOn old a (Demand pattern (Some service)) unlocks event new
    → AreAhead os (rest new) × (0 < length os → (unlocks ≡ []) × (event ≡ None))
