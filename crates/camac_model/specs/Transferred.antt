-- What a transfer makes: the cycles of Q-stop, Q-repeat or Scan as conditions on whole lists, and the words of these cycles.
use Rattle.std.specs.Prelude.{◌≡◌, ℕ, ◌+◌, List, [], ◌∷◌, ◌++◌, length, Option, Some, None, if◌then◌else◌}
use Rattle.camac_branch.specs.Address.{Address}
use Rattle.camac_branch.specs.Allowed.{width}
use Rattle.camac_branch.specs.Plan.{Layout}
use Rattle.camac_esone.specs.Transfers.{tally, q_stop_next, q_repeat_next, scan_next}
use Rattle.camac_esone.specs.Lists.{Cycle, replies, IsQStopList, IsQRepeatList, IsScanList, IsCut}
use Rattle.camac_model.specs.State.{State}
use Rattle.camac_model.specs.Behaviour.{Piece, cycled, Behaviour, Stop, pieces, reached, stop_of}
use Rattle.camac_model.specs.Cycle.{kept}
use Rattle.camac_model.specs.Transfer.{transfer_data}
use Rattle.camac_model.specs.Meaning.{transfer_to}
use Rattle.camac_model.specs.Moments.{Meets, Any, AnyStop}

-- the cycle of a piece, if it is one: where it goes, and the Q of its reply
abbrev pub cycle_in : Piece → List Cycle
cycle_in (cycled at f d r w) = record { at = at; q = r.q } ∷ []
cycle_in _ = []

abbrev pub cycles_in : List Piece → List Cycle
cycles_in [] = []
cycles_in (p ∷ ps) = cycle_in p ++ cycles_in ps

-- the word that a read keeps of a cycle: one with Q=1, cut to the width of its address
abbrev pub word_in : Layout → Piece → List ℕ
word_in plan (cycled at f d r w) = if r.q then kept (width plan at f) r ∷ [] else []
word_in plan _ = []

abbrev pub words_in : Layout → List Piece → List ℕ
words_in plan [] = []
words_in plan (p ∷ ps) = word_in plan p ++ words_in plan ps

-- a write keeps none
abbrev pub words_kept : Layout → Option (List ℕ) → List Piece → List ℕ
words_kept plan None ps = words_in plan ps
words_kept plan (Some table) ps = []

-- from the state before to the one after by these pieces: the words kept, and a step a cycle
pub record HasMade (plan : Layout) (table : Option (List ℕ)) (before : State) (ps : List Piece) (after : State) : Type 0 where
  pub words : after.words ≡ before.words ++ words_kept plan table ps
  pub steps : after.steps ≡ before.steps + length (cycles_in ps)

-- a transfer that ends has made a whole list, and sets its tally, the number of Q=1, in variable x
pub record Ended (plan : Layout) (table : Option (List ℕ)) (x : ℕ) (IsList : List Cycle → Type 0) (before : State) (ps : List Piece) (after : State) : Type 0 where
  pub is_list : IsList (cycles_in ps)
  pub has_made : HasMade plan table before ps after
  pub tally : after.variables x ≡ tally (replies (cycles_in ps))

-- a transfer that stops has made a prefix of one
pub record CutShort (plan : Layout) (table : Option (List ℕ)) (IsList : List Cycle → Type 0) (before : State) (ps : List Piece) (after : State) : Type 0 where
  pub is_cut : IsCut IsList (cycles_in ps)
  pub has_made : HasMade plan table before ps after

-- the pieces so far
abbrev pub with_piece : List Piece → Piece → List Piece
with_piece ps p = ps ++ p ∷ []

-- a cycle reads, or sends the word of the table whose index is the number of Q=1 before it
abbrev pub MovesNext : Option (List ℕ) → List Piece → Piece → Type 0
MovesNext table ps (cycled at f d r w) = transfer_data table (replies (cycles_in ps)) ≡ Some d
MovesNext table ps _ = ⊥

pub record IsTransfer (plan : Layout) (table : Option (List ℕ)) (x : ℕ) (IsList : List Cycle → Type 0) (before : State) (b : Behaviour State) : Type 0 where
  pub ended : stop_of b ≡ None → Ended plan table x IsList before (pieces b) (reached b)
  pub stopped : (w : Stop) → stop_of b ≡ Some w → CutShort plan table IsList before (pieces b) (reached b)
  pub moves : Meets with_piece (MovesNext table) AnyStop Any [] b

-- of each of the three transfers
unfoldable pub StopsAreQStop : Type 0
StopsAreQStop =
    (plan : Layout) (f : ℕ) (table : Option (List ℕ)) (x : ℕ) (s : State) (at : Address) (max : ℕ)
    → IsTransfer plan table x (IsQStopList at max) s (transfer_to plan f table (q_stop_next at max) x s)

unfoldable pub RepeatsAreQRepeat : Type 0
RepeatsAreQRepeat =
    (plan : Layout) (f : ℕ) (table : Option (List ℕ)) (x : ℕ) (s : State) (at : Address) (max limit : ℕ)
    → IsTransfer plan table x (IsQRepeatList at max limit) s (transfer_to plan f table (q_repeat_next at max limit) x s)

unfoldable pub ScansAreScan : Type 0
ScansAreScan =
    (plan : Layout) (f : ℕ) (table : Option (List ℕ)) (x : ℕ) (s : State) (first last : Address) (max : ℕ)
    → IsTransfer plan table x (IsScanList first last max) s (transfer_to plan f table (scan_next first last max) x s)
