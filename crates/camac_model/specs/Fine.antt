-- What is promised of each service by itself: the checker gives it, and the runner takes it.
use Rattle.std.specs.Prelude.{◌≡◌, ℕ, ◌^◌, ◌<◌, ◌≤◌, Bool, List, [], ◌∷◌, length, Some, slice_get}
use Rattle.camac_lang.specs.Tree.{Parameter, Procedure, Service, Script}
use Rattle.camac_branch.specs.Branch.{Branch, Answer}
use Rattle.camac_branch.specs.Plan.{Layout}
use Rattle.camac_model.specs.State.{State, fresh}
use Rattle.camac_model.specs.Behaviour.{Behaviour, does, ends, stops, Stop, short, overrun, wrong, more, Action}
use Rattle.camac_model.specs.Safe.{IsSafePiece}
use Rattle.camac_model.specs.Meaning.{entered, context}
use Rattle.camac_model.specs.Run.{service_meaning}

-- the most turns that a loop of an accepted script makes (own)
unfoldable pub most_turns : ℕ
most_turns = 65535

-- the most that a service costs in dataway cycles, the most words of its event, and the most steps that it takes
pub record Bounds : Type 0 where
  pub cycles : ℕ
  pub words : ℕ
  pub steps : ℕ

-- words of a dataway: 24 bits
abbrev pub AreWords : List ℕ → Type 0
AreWords [] = Unit {0}
AreWords (w ∷ ws) = (w < 2 ^ 24) × AreWords ws

-- a service in this state is within its bounds
pub record IsWithinBounds (k : Bounds) (s : State) : Type 0 where
  pub cycles : s.cost ≤ k.cycles
  pub words : length s.words ≤ k.words
  pub steps : s.steps ≤ k.steps
  pub are_words : AreWords s.words

-- a stop that the answers cause, and not the script
abbrev pub IsOfAnswers : Stop → Type 0
IsOfAnswers short = Unit {0}
IsOfAnswers (overrun c w) = Unit {0}
IsOfAnswers wrong = ⊥
IsOfAnswers more = ⊥

-- every cycle is safe, and it is within its bounds where it ends or stops
abbrev pub IsFine : Layout → Bounds → Behaviour State → Type 0
IsFine plan k (does p b) = IsSafePiece plan p × IsFine plan k b
IsFine plan k (ends s) = IsWithinBounds k s
IsFine plan k (stops w s) = IsOfAnswers w × IsWithinBounds k s

-- a service is fine whatever the branch is like and answers. Said of every list of answers this is 'at every moment': each moment is where
-- the service is short on fewer answers, and its counts only grow (`CountsGrow`)
abbrev pub IsFineService : Layout → Script → Bounds → Service → Type 0
IsFineService plan script k v =
    (n : ℕ) → most_turns ≤ n → (b : Branch) (answers : List Answer) → IsFine plan k (service_meaning (context plan script) n v b answers)

-- each of these services by the bounds in its place
abbrev pub AreFine : Layout → Script → List Bounds → List Service → Type 0
AreFine plan script [] [] = Unit {0}
AreFine plan script [] (v ∷ vs) = ⊥
AreFine plan script (k ∷ ks) [] = ⊥
AreFine plan script (k ∷ ks) (v ∷ vs) = IsFineService plan script k v × AreFine plan script ks vs

abbrev pub AreFineServices : Layout → Script → List Bounds → Type 0
AreFineServices plan script ks = AreFine plan script ks script.services

-- these arguments are in the ranges of the parameters, one each
abbrev pub AreInRanges : List ℕ → List Parameter → Type 0
AreInRanges [] [] = Unit {0}
AreInRanges [] (p ∷ ps) = ⊥
AreInRanges (v ∷ vs) [] = ⊥
AreInRanges (v ∷ vs) (p ∷ ps) = (p.low ≤ v) × (v ≤ p.high) × AreInRanges vs ps

-- the bounds that a procedure's heading gives
abbrev pub annotated : Procedure → Bounds
annotated p = record { cycles = p.cycles; words = p.words; steps = p.steps }

-- a procedure's body is fine by itself: on all arguments in range, whatever the branch is like, its locks too, and answers, and whatever the
-- flags of the last cycle before the call are
abbrev pub IsFineProcedure : Layout → Procedure → (ℕ → Action) → Type 0
IsFineProcedure plan p body =
    (n : ℕ) → most_turns ≤ n → (vs : List ℕ) → AreInRanges vs p.parameters → (b : Branch) (q x : Bool) (answers : List Answer)
    → IsFine plan (annotated p) (body n (entered vs (record (fresh b answers) { branch = b; q = q; x = x })))

-- each procedure of a script, where its body sees those before it
abbrev pub AreFineProcedures : Layout → Script → Type 0
AreFineProcedures plan script =
    (j : ℕ) (p : Procedure) (body : ℕ → Action) → slice_get script.procedures j ≡ Some p
    → slice_get (context plan script).routines j ≡ Some body → IsFineProcedure plan p body
