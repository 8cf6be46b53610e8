-- The headline: what holds of every run of a script whose services are fine, at each of its moments.
use Rattle.std.specs.Prelude.{◌≡◌, ℕ, ◌+◌, ◌-◌, ◌<◌, ◌≤◌, List, [], ◌∷◌, length, Option, Some, None, Bool, true, false, nat_eq, option_map, slice_get, if◌then◌else◌}
use Rattle.camac_lang.specs.Tree.{Service, Script}
use Rattle.camac_branch.specs.Branch.{Answer}
use Rattle.camac_branch.specs.Plan.{Layout}
use Rattle.camac_model.specs.State.{State}
use Rattle.camac_model.specs.Behaviour.{Event, Piece, demanded, cycled, lock_taken, lock_released, event_left, piece_uses, Stop, short, overrun, wrong, more, pieces}
use Rattle.camac_model.specs.Value.{greatest}
use Rattle.camac_model.specs.Run.{run, the_run}
use Rattle.camac_model.specs.Safe.{IsSafePiece}
use Rattle.camac_model.specs.Moments.{Watch, Holds, Any, AnyStop}
use Rattle.camac_model.specs.Fine.{most_turns, Bounds, AreWords, IsOfAnswers, AreFineServices}

-- the service in progress: its number, what it has cost so far, and how many answers followed its demand
pub record Progress : Type 0 where
  pub service : ℕ
  pub cost : ℕ
  pub answers : ℕ

-- how many answers are left, and the service in progress
pub record Moment : Type 0 where
  pub left : ℕ
  pub progress : Option Progress

abbrev pub first_moment : List Answer → Moment
first_moment answers = record { left = length answers; progress = None }

abbrev pub begun : ℕ → ℕ → Progress
begun left i = record { service = i; cost = 0; answers = left }

abbrev pub spent : ℕ → Progress → Progress
spent cost g = record g { cost = g.cost + cost }

-- the service in progress after a piece that leaves so many answers
abbrev pub progress_after : ℕ → Option Progress → Piece → Option Progress
progress_after left o (demanded p v) = option_map (begun left) v
progress_after left o (cycled at f d r w) = option_map (spent (1 + w)) o
progress_after left o (lock_taken c w) = option_map (spent w) o
progress_after left o (lock_released c) = o
progress_after left o (event_left e) = None

abbrev pub moment_after : Moment → Piece → Moment
moment_after m p =
    record { left = m.left - piece_uses p; progress = progress_after (m.left - piece_uses p) m.progress p }

-- a service is in progress, and so much holds of it and of its bounds
pub record InService (ks : List Bounds) (m : Moment) (T : Bounds → Progress → Type 0) : Type 0 where
  pub progress : Progress
  pub bounds : Bounds
  pub is_in_progress : m.progress ≡ Some progress
  pub are_its : slice_get ks progress.service ≡ Some bounds
  pub holds : T bounds progress

-- at most so many words, each of 24 bits
pub record WordsFit (words : List ℕ) (k : Bounds) (g : Progress) : Type 0 where
  pub most : length words ≤ k.words
  pub are_words : AreWords words

abbrev pub CostFits : Bounds → Progress → Type 0
CostFits k g = g.cost ≤ k.cycles

-- the cycles that an event tells are what its service has cost
pub record EventCost (e : Event) (k : Bounds) (g : Progress) : Type 0 where
  pub counted : e.cycles ≡ g.cost
  pub most : g.cost ≤ k.cycles

-- where it stopped, a service counts what it has cost, and its steps fit
pub record StepsFit (s : State) (k : Bounds) (g : Progress) : Type 0 where
  pub counted : s.cost ≡ g.cost
  pub most : g.cost ≤ k.cycles
  pub steps : s.steps ≤ k.steps

abbrev pub FewAnswers : Bounds → Progress → Type 0
FewAnswers k g = g.answers < k.steps

-- words within bounds: those of an event, and at a stop those of the service in progress
abbrev pub EventFits : List Bounds → Moment → Piece → Type 0
EventFits ks m (demanded p v) = Unit {0}
EventFits ks m (cycled at f d r w) = Unit {0}
EventFits ks m (lock_taken c w) = Unit {0}
EventFits ks m (lock_released c) = Unit {0}
EventFits ks m (event_left e) = InService ks m (WordsFit e.words)

-- cost within bounds: after each piece of a service, and in its event; cost and steps at a stop
abbrev pub CostStays : List Bounds → Moment → Piece → Type 0
CostStays ks m (demanded p v) = Unit {0}
CostStays ks m (cycled at f d r w) = InService ks (moment_after m (cycled at f d r w)) CostFits
CostStays ks m (lock_taken c w) = InService ks (moment_after m (lock_taken c w)) CostFits
CostStays ks m (lock_released c) = InService ks (moment_after m (lock_released c)) CostFits
CostStays ks m (event_left e) = InService ks m (EventCost e)

-- short only of answers: fewer of them followed the demand of the service than the steps that bound it, and none is left
abbrev pub IsShortOfAnswers : List Bounds → Moment → Stop → State → Type 0
IsShortOfAnswers ks m short s = (m.left ≡ 0) × InService ks m FewAnswers
IsShortOfAnswers ks m (overrun c w) s = Unit {0}
IsShortOfAnswers ks m wrong s = Unit {0}
IsShortOfAnswers ks m more s = Unit {0}

-- which crates are locked, as the pieces tell it
abbrev pub Locked : Type 0
Locked = ℕ → Bool

abbrev pub locked_after : Locked → Piece → Locked
locked_after l (demanded p v) = l
locked_after l (cycled at f d r w) = l
locked_after l (lock_taken c w) = λ d. if nat_eq d c then true else l d
locked_after l (lock_released c) = λ d. if nat_eq d c then false else l d
locked_after l (event_left e) = l

-- no crate is locked where a service ends, nor the one whose lock is taken before that
abbrev pub NoneHeld : Locked → Piece → Type 0
NoneHeld l (demanded p v) = Unit {0}
NoneHeld l (cycled at f d r w) = Unit {0}
NoneHeld l (lock_taken c w) = l c ≡ false
NoneHeld l (lock_released c) = Unit {0}
NoneHeld l (event_left e) = (c : ℕ) → l c ≡ false

-- every cycle is safe
abbrev pub AreSafe : Layout → List Piece → Type 0
AreSafe plan [] = Unit {0}
AreSafe plan (p ∷ ps) = IsSafePiece plan p × AreSafe plan ps

-- nothing is counted
abbrev pub no_count : Unit {0} → Piece → Unit {0}
no_count u p = u

abbrev pub nothing : Unit {0}
nothing = tt

-- a run that ended was out of answers, with no service in progress
pub record IsOver (m : Moment) (u : Unit {0}) : Type 0 where
  pub none_left : m.left ≡ 0
  pub none_in_progress : m.progress ≡ None

-- right values and loops end: neither Wrong nor More
abbrev pub right_watch : Watch (Unit {0}) (Unit {0})
right_watch = record { step = no_count; at_piece = Any; at_stop = λ u w s. IsOfAnswers w; at_end = Any }

-- words within bounds
abbrev pub words_watch : List Bounds → Watch Moment (Unit {0})
words_watch ks = record { step = moment_after; at_piece = EventFits ks; at_stop = λ m w s. InService ks m (WordsFit s.words); at_end = Any }

-- cost within bounds
abbrev pub cost_watch : List Bounds → Watch Moment (Unit {0})
cost_watch ks = record { step = moment_after; at_piece = CostStays ks; at_stop = λ m w s. InService ks m (StepsFit s); at_end = Any }

-- short only when answers run out
abbrev pub short_watch : List Bounds → Watch Moment (Unit {0})
short_watch ks = record { step = moment_after; at_piece = Any; at_stop = IsShortOfAnswers ks; at_end = IsOver }

-- locks released, with this where the run ends
abbrev pub locks_watch : (Locked → Unit {0} → Type 0) → Watch Locked (Unit {0})
locks_watch at_end = record { step = locked_after; at_piece = NoneHeld; at_stop = AnyStop; at_end = at_end }

abbrev pub no_lock : Locked
no_lock c = false

-- each part of the headline, of every list of answers
pub record RunsSafely (plan : Layout) (script : Script) (ks : List Bounds) : Type 0 where
  pub right_and_ending : (answers : List Answer) → Holds right_watch nothing (the_run plan script answers)
  -- more turns change nothing
  pub same_turns : (n : ℕ) → most_turns ≤ n → (answers : List Answer) → run n plan script answers ≡ the_run plan script answers
  -- safe cycles
  pub safe_cycles : (answers : List Answer) → AreSafe plan (pieces (the_run plan script answers))
  pub words_within : (answers : List Answer) → Holds (words_watch ks) (first_moment answers) (the_run plan script answers)
  pub cost_within : (answers : List Answer) → Holds (cost_watch ks) (first_moment answers) (the_run plan script answers)
  pub short_of_answers : (answers : List Answer) → Holds (short_watch ks) (first_moment answers) (the_run plan script answers)
  pub locks_released : (answers : List Answer) → Holds (locks_watch Any) no_lock (the_run plan script answers)

-- the bounds of a service keep to its heading, its event to the plan's buffer and its steps to M
pub record IsWithinHeading (plan : Layout) (k : Bounds) (v : Service) : Type 0 where
  pub cycles : k.cycles ≤ v.cycles
  pub words : k.words ≤ v.words
  pub buffer : v.words ≤ plan.buffer
  pub steps : k.steps ≤ greatest

abbrev pub AreWithinHeadings : Layout → List Bounds → List Service → Type 0
AreWithinHeadings plan [] [] = Unit {0}
AreWithinHeadings plan [] (v ∷ vs) = ⊥
AreWithinHeadings plan (k ∷ ks) [] = ⊥
AreWithinHeadings plan (k ∷ ks) (v ∷ vs) = IsWithinHeading plan k v × AreWithinHeadings plan ks vs

abbrev pub WithinHeadings : Layout → Script → List Bounds → Type 0
WithinHeadings plan script ks = AreWithinHeadings plan ks script.services

-- the law: where each service is fine by its bounds, every run is safe
abbrev pub FineServicesRun : Type 0
FineServicesRun =
    (plan : Layout) (script : Script) (ks : List Bounds) → AreFineServices plan script ks → RunsSafely plan script ks
