-- What holds at each moment of a behaviour.
use Rattle.camac_model.specs.State.{State}
use Rattle.camac_model.specs.Behaviour.{Piece, Behaviour, does, ends, stops, Stop}

-- S at each piece, P where it stops, Q where it ends, each given what `step` makes of the pieces before
module _ {X : Type 0} (step : X → Piece → X) (S : X → Piece → Type 0) (P : X → Stop → State → Type 0) where
  abbrev pub Meets : {A : Type 0} → (X → A → Type 0) → X → Behaviour A → Type 0
  Meets Q x (does p b) = S x p × Meets Q (step x p) b
  Meets Q x (ends a) = Q x a
  Meets Q x (stops w s) = P x w s

-- What is watched along a behaviour: how what is known goes on with a piece, and what has to hold at a piece, at a stop and at an end
pub record Watch (X A : Type 0) : Type 1 where
  pub step : X → Piece → X
  pub at_piece : X → Piece → Type 0
  pub at_stop : X → Stop → State → Type 0
  pub at_end : X → A → Type 0

-- it holds along a behaviour, from what is known at its start
abbrev pub Holds : {X A : Type 0} → Watch X A → X → Behaviour A → Type 0
Holds w x b = Meets w.step w.at_piece w.at_stop w.at_end x b

-- nothing is said at this place
abbrev pub Any : {X A : Type 0} → X → A → Type 0
Any x a = Unit {0}

abbrev pub AnyStop : {X : Type 0} → X → Stop → State → Type 0
AnyStop x w s = Unit {0}
