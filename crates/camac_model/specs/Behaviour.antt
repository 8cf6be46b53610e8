-- What is done, piece by piece, and how it comes out.
use Rattle.std.specs.Prelude.{ℕ, ◌+◌, List, [], ◌∷◌, ◌++◌, Option, Some, None, Bool, true, false}
use Rattle.camac_func.specs.declared.data.DataMove.{DataMove}
use Rattle.camac_branch.specs.Address.{Address}
use Rattle.camac_branch.specs.Branch.{Reply}
use Rattle.camac_model.specs.State.{State}

-- what a service that ended leaves: its graded-L bit, its usage and its words
pub record Event : Type 0 where
  pub bit : ℕ
  pub cycles : ℕ
  pub missed : ℕ
  pub words : List ℕ

pub data Piece : Type 0 where
  -- a graded-L operation, and the number of the service that it calls
  demanded : (pattern : ℕ) → (service : Option ℕ) → Piece
  -- address, function, what it moves as the script asks for it, reply, auxiliary cycles before it
  cycled : Address → ℕ → DataMove → Reply → (wait : ℕ) → Piece
  lock_taken : (crate_no : ℕ) → (wait : ℕ) → Piece
  lock_released : (crate_no : ℕ) → Piece
  event_left : Event → Piece

-- why a behaviour stops before its end
pub data Stop : Type 0 where
  -- an answer was wanted and none was left
  short : Stop
  -- a wait was not permitted
  overrun : (crate_no : ℕ) → (wait : ℕ) → Stop
  wrong : Stop
  -- a loop wanted a turn beyond those allowed
  more : Stop

-- a piece and then the rest; or an end; or a stop, and the state where it stopped
pub data Behaviour (A : Type 0) : Type 0 where
  does : Piece → Behaviour A → Behaviour A
  ends : A → Behaviour A
  stops : Stop → State → Behaviour A

abbrev pub Action : Type 0
Action = State → Behaviour State

-- goes on where a behaviour ends
abbrev pub then_do : {A B : Type 0} → Behaviour A → (A → Behaviour B) → Behaviour B
then_do (does p b) go = does p (then_do b go)
then_do (ends a) go = go a
then_do (stops w s) go = stops w s

-- goes on with a value, or is wrong where there is none
abbrev pub given : {A : Type 0} → Option A → (A → Action) → Action
given None go s = stops wrong s
given (Some v) go s = go v s

-- the same in a `do` block
infixl 10 ◌>>=◌
abbrev pub ◌>>=◌ : {A : Type 0} → Option A → (A → Action) → Action
o >>= go = given o go

-- goes on by a test, or is wrong where it has no value
abbrev pub decide : Option Bool → Action → Action → Action
decide None first second s = stops wrong s
decide (Some true) first second s = first s
decide (Some false) first second s = second s

-- goes on where a test holds, or is wrong
abbrev pub unless_wrong : Bool → Action → Action
unless_wrong true go s = go s
unless_wrong false go s = stops wrong s

-- its pieces
abbrev pub pieces : {A : Type 0} → Behaviour A → List Piece
pieces (does p b) = p ∷ pieces b
pieces (ends a) = []
pieces (stops w s) = []

-- the state where a statement's behaviour ends or stops
abbrev pub reached : Behaviour State → State
reached (does p b) = reached b
reached (ends s) = s
reached (stops w s) = s

-- why it stops, if it does
abbrev pub stop_of : {A : Type 0} → Behaviour A → Option Stop
stop_of (does p b) = stop_of b
stop_of (ends a) = None
stop_of (stops w s) = Some w

-- what a listing tells: all pieces but the events
abbrev pub item_of : Piece → List Piece
item_of (demanded p v) = demanded p v ∷ []
item_of (cycled at f d r w) = cycled at f d r w ∷ []
item_of (lock_taken c w) = lock_taken c w ∷ []
item_of (lock_released c) = lock_released c ∷ []
item_of (event_left e) = []

abbrev pub items_in : List Piece → List Piece
items_in [] = []
items_in (p ∷ ps) = item_of p ++ items_in ps

-- what an event file tells
abbrev pub event_in : Piece → List Event
event_in (demanded p v) = []
event_in (cycled at f d r w) = []
event_in (lock_taken c w) = []
event_in (lock_released c) = []
event_in (event_left e) = e ∷ []

abbrev pub events_in : List Piece → List Event
events_in [] = []
events_in (p ∷ ps) = event_in p ++ events_in ps

abbrev pub items : {A : Type 0} → Behaviour A → List Piece
items b = items_in (pieces b)

abbrev pub events : {A : Type 0} → Behaviour A → List Event
events b = events_in (pieces b)

-- a cycle costs 1 and its wait, taking a lock its wait, all else nothing (own)
abbrev pub piece_cost : Piece → ℕ
piece_cost (demanded p v) = 0
piece_cost (cycled at f d r w) = 1 + w
piece_cost (lock_taken c w) = w
piece_cost (lock_released c) = 0
piece_cost (event_left e) = 0

abbrev pub cost : List Piece → ℕ
cost [] = 0
cost (p ∷ ps) = piece_cost p + cost ps

-- how many cycles had X=0
abbrev pub without_x : Bool → ℕ
without_x true = 0
without_x false = 1

abbrev pub piece_misses : Piece → ℕ
piece_misses (demanded p v) = 0
piece_misses (cycled at f d r w) = without_x r.x
piece_misses (lock_taken c w) = 0
piece_misses (lock_released c) = 0
piece_misses (event_left e) = 0

abbrev pub misses : List Piece → ℕ
misses [] = 0
misses (p ∷ ps) = piece_misses p + misses ps

-- how many answers a piece used
abbrev pub piece_uses : Piece → ℕ
piece_uses (demanded p v) = 1
piece_uses (cycled at f d r w) = 1
piece_uses (lock_taken c w) = 1
piece_uses (lock_released c) = 0
piece_uses (event_left e) = 0

abbrev pub uses : List Piece → ℕ
uses [] = 0
uses (p ∷ ps) = piece_uses p + uses ps
