-- Laws of the meaning, on which every later proof stands.
use Rattle.std.specs.Prelude.{◌≡◌, ◌≢◌, ℕ, ◌+◌, ◌^◌, ◌<◌, ◌≤◌, length, List, [], ◌∷◌, ◌++◌, Option, Some, None, Bool, true, false, min, drop, ◌↔◌, ℤ, pos, ◌+ℤ◌, ◌-ℤ◌, ◌*ℤ◌}
use Rattle.camac_lang.specs.Tree.{Expression, number, variable, group, add, subtract, multiply, divide, remainder, Block, done, next, Service, Script}
use Rattle.camac_lang.specs.declared.word.WordSize.{WordSize}
use Rattle.camac_branch.specs.Address.{Address}
use Rattle.camac_branch.specs.Allowed.{width}
use Rattle.camac_branch.specs.Branch.{Branch, Answer, Reply}
use Rattle.camac_branch.specs.Plan.{Layout, IsPlan}
use Rattle.camac_model.specs.State.{State, Variables}
use Rattle.camac_model.specs.Value.{greatest, value}
use Rattle.camac_model.specs.Behaviour.{Behaviour, does, ends, stops, Stop, short, more, Action, then_do, Piece, demanded, cycled, lock_taken, lock_released, event_left, pieces, items, events, Event, reached, stop_of, cost, without_x, misses, uses}
use Rattle.camac_model.specs.Meaning.{Context, context, block_meaning}
use Rattle.camac_model.specs.Run.{service_meaning, rounds, run}
use Rattle.camac_model.specs.Cycle.{sized, kept}
use Rattle.std.specs.Int.{int_div_euclid, int_rem_euclid}

-- a value from 0 to M
abbrev pub InRange : Option ℕ → Type 0
InRange None = ⊥
InRange (Some v) = v ≤ greatest

-- an expression and each operand in it has a value from 0 to M
abbrev pub NumbersInRange : Expression → Variables → Type 0
NumbersInRange (number n) env = InRange (value (number n) env)
NumbersInRange (variable x) env = InRange (value (variable x) env)
NumbersInRange (group e) env = InRange (value (group e) env) × NumbersInRange e env
NumbersInRange (add a b) env = InRange (value (add a b) env) × NumbersInRange a env × NumbersInRange b env
NumbersInRange (subtract a b) env = InRange (value (subtract a b) env) × NumbersInRange a env × NumbersInRange b env
NumbersInRange (multiply a b) env = InRange (value (multiply a b) env) × NumbersInRange a env × NumbersInRange b env
NumbersInRange (divide e d) env = InRange (value (divide e d) env) × NumbersInRange e env
NumbersInRange (remainder e d) env = InRange (value (remainder e d) env) × NumbersInRange e env

-- where an expression has a value, each number in it is from 0 to M
abbrev pub ValuesInRange : Type 0
ValuesInRange = (e : Expression) (env : Variables) (v : ℕ) → value e env ≡ Some v → NumbersInRange e env

-- one block after another
abbrev pub append_block : Block → Block → Block
append_block done b = b
append_block (next s rest) b = next s (append_block rest b)

-- what follows a behaviour may be put together first
abbrev pub ThenDoAssociates : Type 0
ThenDoAssociates =
    (b : Behaviour State) (f g : Action) → then_do (then_do b f) g ≡ then_do b (λ s. then_do (f s) g)

-- a block does what its parts do in turn
abbrev pub BlocksCompose : Type 0
BlocksCompose =
    (c : Context) (n : ℕ) (a b : Block) (s : State)
    → block_meaning c n (append_block a b) s ≡ then_do (block_meaning c n a s) (block_meaning c n b)

-- the same state with more answers after those that are left
abbrev pub longer : List Answer → State → State
longer bs s = record s { answers = s.answers ++ bs }

-- how b goes on from a: the same pieces up to where a ends or stops. Where a ends, b is as AtEnd says; where a stops, b does the same
-- with more answers, unless that stop is open: then b may be anything
abbrev pub Extends :
    {A : Type 0} → (A → Behaviour A → Type 0) → (Stop → Bool) → List Answer → Behaviour A → Behaviour A → Type 0
Extends {A} AtEnd open' bs (does p a) b = (rest : Behaviour A) × (b ≡ does p rest) × Extends AtEnd open' bs a rest
Extends {A} AtEnd open' bs (ends v) b = AtEnd v b
Extends {A} AtEnd open' bs (stops w s) b = open' w ≡ false → b ≡ stops w (longer bs s)

-- a statement that ends does so with more answers
abbrev pub SameEnd : List Answer → State → Behaviour State → Type 0
SameEnd bs s b = b ≡ ends (longer bs s)

-- a run that ends may go on with more answers
abbrev pub RunEnd : List Answer → Unit {0} → Behaviour (Unit {0}) → Type 0
RunEnd bs u b = bs ≡ [] → b ≡ ends tt

abbrev pub is_short : Stop → Bool
is_short short = true
is_short _ = false

-- with more turns a behaviour that wanted no further one is the same
abbrev pub TurnsSuffice : Type 0
TurnsSuffice =
    (plan : Layout) (script : Script) (n m : ℕ) → n ≤ m → (b : Block) (s : State)
    → stop_of (block_meaning (context plan script) n b s) ≢ Some more
    → block_meaning (context plan script) m b s ≡ block_meaning (context plan script) n b s

-- the same of a run
abbrev pub RunTurnsSuffice : Type 0
RunTurnsSuffice =
    (plan : Layout) (script : Script) (n m : ℕ) → n ≤ m → (answers : List Answer)
    → stop_of (run n plan script answers) ≢ Some more
    → run m plan script answers ≡ run n plan script answers

-- with more answers a behaviour does the same, up to where it was short of them
abbrev pub AnswersExtend : Type 0
AnswersExtend =
    (plan : Layout) (script : Script) (n : ℕ) (bs : List Answer) (b : Block) (s : State)
    → Extends (SameEnd bs) is_short bs
    (block_meaning (context plan script) n b s) (block_meaning (context plan script) n b (longer bs s))

-- the same of a run
abbrev pub RunAnswersExtend : Type 0
RunAnswersExtend =
    (plan : Layout) (script : Script) (n : ℕ) (answers bs : List Answer)
    → Extends (RunEnd bs) is_short bs (run n plan script answers) (run n plan script (answers ++ bs))

-- the items and the events of a run begin with those of the run on fewer answers
pub record BeginsWith (a b : Behaviour (Unit {0})) : Type 0 where
  pub more_items : (ps : List Piece) × (items b ≡ items a ++ ps)
  pub more_events : (es : List Event) × (events b ≡ events a ++ es)

unfoldable pub RunsGoOn : Type 0
RunsGoOn =
    (plan : Layout) (script : Script) (n : ℕ) (answers bs : List Answer)
    → BeginsWith (run n plan script answers) (run n plan script (answers ++ bs))

-- what a service has counted, wherever it ends or stops, is what its pieces tell
pub record CountsPieces (answers : List Answer) (o : Behaviour State) : Type 0 where
  pub cycles : (reached o).cost ≡ cost (pieces o)
  pub missed : (reached o).missed ≡ min 65535 (misses (pieces o))
  -- answers are used in order, one for each cycle and each lock taken, and no more of them than there are
  pub answers_left : (reached o).answers ≡ drop (uses (pieces o)) answers
  pub no_more : uses (pieces o) ≤ length answers

abbrev pub ServicesCount : Type 0
ServicesCount =
    (plan : Layout) (script : Script) (n : ℕ) (v : Service) (b : Branch) (answers : List Answer)
    → CountsPieces answers (service_meaning (context plan script) n v b answers)

-- what the pieces since the last graded-L operation cost, and how many of their cycles had X=0
pub record Usage : Type 0 where
  pub cycles : ℕ
  pub missed : ℕ

abbrev pub none_used : Usage
none_used = record { cycles = 0; missed = 0 }

abbrev pub used_with : Usage → Piece → Usage
used_with u (demanded p v) = none_used
used_with u (cycled at f d r w) = record { cycles = u.cycles + (1 + w); missed = u.missed + without_x r.x }
used_with u (lock_taken c w) = record u { cycles = u.cycles + w }
used_with u (lock_released c) = u
used_with u (event_left e) = u

abbrev pub TellsUsage : Usage → Piece → Type 0
TellsUsage u (event_left e) = (e.cycles ≡ u.cycles) × (e.missed ≡ min 65535 u.missed)
TellsUsage u _ = Unit {0}

abbrev pub EventsTell : Usage → List Piece → Type 0
EventsTell u [] = Unit {0}
EventsTell u (p ∷ ps) = TellsUsage u p × EventsTell (used_with u p) ps

-- the usage of each event of a run is that of its service's pieces
abbrev pub RunEventsTell : Type 0
RunEventsTell =
    (plan : Layout) (script : Script) (n : ℕ) (answers : List Answer)
    → EventsTell none_used (pieces (run n plan script answers))

-- at its end, a behaviour is as Q says
abbrev pub EndsWith : (State → Type 0) → Behaviour State → Type 0
EndsWith Q (does p b) = EndsWith Q b
EndsWith Q (ends s) = Q s
EndsWith Q (stops w s) = Unit {0}

-- where it is short, no answer is left, and it began with fewer than it has made steps
abbrev pub ShortOnlyOf : List Answer → Behaviour State → Type 0
ShortOnlyOf answers (does p b) = ShortOnlyOf answers b
ShortOnlyOf answers (stops short s) = (length answers < s.steps) × (s.answers ≡ [])
ShortOnlyOf answers _ = Unit {0}

-- a service is short only where there were fewer answers than its steps, and none is left
abbrev pub ServicesShort : Type 0
ServicesShort =
    (plan : Layout) (script : Script) (n : ℕ) (v : Service) (b : Branch) (answers : List Answer)
    → ShortOnlyOf answers (service_meaning (context plan script) n v b answers)

abbrev pub NoneLocked : State → Type 0
NoneLocked s = (c : ℕ) → (s.branch c).locked ≡ false

-- no crate is locked where a service ends
abbrev pub ServicesUnlock : Type 0
ServicesUnlock =
    (plan : Layout) (script : Script) (n : ℕ) (v : Service) (b : Branch) (answers : List Answer)
    → EndsWith NoneLocked (service_meaning (context plan script) n v b answers)

-- the later state has counted at least what the earlier one has: steps, cycles, and words after those that were there
pub record HasGrown (before after : State) : Type 0 where
  pub steps : before.steps ≤ after.steps
  pub cost : before.cost ≤ after.cost
  pub words : (ws : List ℕ) × (after.words ≡ before.words ++ ws)

-- the counts of a service only grow along a block, wherever it ends or stops: so each moment of it has counted at most what the run
-- has where it is short on fewer answers
abbrev pub CountsGrow : Type 0
CountsGrow =
    (plan : Layout) (script : Script) (n : ℕ) (b : Block) (s : State)
    → HasGrown s (reached (block_meaning (context plan script) n b s))

-- a run uses no more answers than there are, and where it ends it has used all of them
pub record UsesAnswers (answers : List Answer) (b : Behaviour (Unit {0})) : Type 0 where
  pub no_more : uses (pieces b) ≤ length answers
  pub all_at_end : stop_of b ≡ None → uses (pieces b) ≡ length answers

abbrev pub RunsUseAnswers : Type 0
RunsUseAnswers =
    (plan : Layout) (script : Script) (n : ℕ) (answers : List Answer) → UsesAnswers answers (run n plan script answers)

-- graded-L operations beyond the number of answers change nothing
abbrev pub RoundsSuffice : Type 0
RoundsSuffice =
    (plan : Layout) (script : Script) (n k : ℕ) (b : Branch) (answers : List Answer) → length answers ≤ k
    → rounds k (context plan script) n script.services b answers
    ≡ rounds (length answers) (context plan script) n script.services b answers

-- what a read keeps under a plan is a dataway word, of 24 bits at most, and of the bits that it keeps
abbrev pub ReadsKeepWords : Type 0
ReadsKeepWords =
    (plan : Layout) → IsPlan plan → (at : Address) (f : ℕ) (size : WordSize) (r : Reply)
    → (kept (sized size (width plan at f)) r < 2 ^ width plan at f) × (kept (sized size (width plan at f)) r < 2 ^ 24)

-- The value of an expression over whole numbers of any size and sign, and where the value of the meaning is that.

-- a quotient is rounded down; a divisor is a number of the script
abbrev pub whole : Expression → Variables → ℤ
whole (number n) env = pos n
whole (variable x) env = pos (env x)
whole (group e) env = whole e env
whole (add a b) env = whole a env +ℤ whole b env
whole (subtract a b) env = whole a env -ℤ whole b env
whole (multiply a b) env = whole a env *ℤ whole b env
whole (divide e d) env = int_div_euclid (whole e env) (pos d)
whole (remainder e d) env = int_rem_euclid (whole e env) (pos d)

-- from 0 to M
abbrev pub IsNumber : ℤ → Type 0
IsNumber z = (n : ℕ) × (z ≡ pos n) × (n ≤ greatest)

-- an expression and each operand in it is from 0 to M, and no divisor is 0
abbrev pub AreNumbers : Expression → Variables → Type 0
AreNumbers (number n) env = n ≤ greatest
AreNumbers (variable x) env = env x ≤ greatest
AreNumbers (group e) env = AreNumbers e env
AreNumbers (add a b) env = IsNumber (whole a env +ℤ whole b env) × AreNumbers a env × AreNumbers b env
AreNumbers (subtract a b) env = IsNumber (whole a env -ℤ whole b env) × AreNumbers a env × AreNumbers b env
AreNumbers (multiply a b) env = IsNumber (whole a env *ℤ whole b env) × AreNumbers a env × AreNumbers b env
AreNumbers (divide e d) env = (d ≢ 0) × AreNumbers e env
AreNumbers (remainder e d) env = (d ≢ 0) × AreNumbers e env

-- the value is that over whole numbers, and it is there exactly where all of them are numbers
unfoldable pub ValuesAreWhole : Type 0
ValuesAreWhole =
    (e : Expression) (env : Variables) (v : ℕ) → (value e env ≡ Some v) ↔ ((whole e env ≡ pos v) × AreNumbers e env)
