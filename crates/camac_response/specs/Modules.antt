-- Look-at-mes as modules raise them, and how long they wait.
use Rattle.std.specs.Prelude.{◌≡◌, ℕ, zero, suc, ◌+◌, ◌-◌, ◌<◌, ◌≤◌, true, List, Option, Some, None, slice_get}
use Rattle.camac_model.specs.Behaviour.{Piece, demanded, cycled, lock_taken}
use Rattle.camac_model.specs.Moments.{Watch}
use Rattle.camac_response_times.specs.declared.source.Source.{Source}
use Rattle.camac_response_times.specs.Response.{is_up_to}
use Rattle.camac_response.specs.Stretch.{Stretch, no_stretch, one_more, stretch_after, IsServing}

-- when the module of each service raises its look-at-me for the k-th time, k from 0: cycles from the start of the run, with those of its pauses
abbrev pub Raises : Type 0
Raises = (service k : ℕ) → ℕ

-- modules with a rate raise it again no sooner than so many cycles after they raised it: those of services up to the bit
abbrev pub IsApart : Option ℕ → (ℕ → ℕ) → Type 0
IsApart None raised = Unit {0}
IsApart (Some t) raised = (1 ≤ t) × ((k : ℕ) → raised k + t ≤ raised (k + 1))

abbrev pub AreApart : List Source → (bit : ℕ) → Raises → Type 0
AreApart ts g raises = (i : ℕ) (t : Source) → slice_get ts i ≡ Some t → is_up_to g t ≡ true → IsApart t.every (raises i)

-- how long the branch is left alone before the k-th operation, k from 0: so many cycles in which none is made, 0 where there is no pause
abbrev pub Pauses : Type 0
Pauses = (k : ℕ) → ℕ

-- the cycles since the start of the run with those of its pauses, the operations, the calls of each service, and the stretch
pub record Clock : Type 0 where
  pub time : ℕ
  pub operations : ℕ
  pub calls : ℕ → ℕ
  pub stretch : Stretch

abbrev pub at_start : Clock
at_start = record { time = 0; operations = 0; calls = λ i. 0; stretch = no_stretch None }

-- a pause ends a stretch, as an operation does that calls no service
abbrev pub stretch_at : (pause : ℕ) → Stretch → Stretch
stretch_at zero x = x
stretch_at (suc d) x = no_stretch None

-- after a pause
abbrev pub paused : ℕ → Clock → Clock
paused d y = record y { time = y.time + d; stretch = stretch_at d y.stretch }

-- at a piece: after the pause before it, if it is an operation
abbrev pub clock_at : Pauses → Clock → Piece → Clock
clock_at pauses y (demanded p v) = paused (pauses y.operations) y
clock_at pauses y _ = y

-- the time after a piece that begins at this one
abbrev pub time_after : ℕ → Piece → ℕ
time_after n (cycled at f d r w) = n + (1 + w)
time_after n (lock_taken c w) = n + w
time_after n _ = n

-- the operations, and the calls of each service
abbrev pub operations_after : ℕ → Piece → ℕ
operations_after n (demanded p v) = n + 1
operations_after n _ = n

abbrev pub calls_after : (ℕ → ℕ) → Piece → ℕ → ℕ
calls_after calls (demanded p (Some i)) = one_more i calls
calls_after calls _ = calls

-- a piece that begins at this clock
abbrev pub ticked : List Source → (bit : ℕ) → Clock → Piece → Clock
ticked ts g y p = record {
  time = time_after y.time p;
  operations = operations_after y.operations p;
  calls = calls_after y.calls p;
  stretch = stretch_after ts g y.stretch p;
}

abbrev pub clock_after : List Source → Pauses → (bit : ℕ) → Clock → Piece → Clock
clock_after ts pauses g y p = ticked ts g (clock_at pauses y p) p

-- A service with no rate is called once at most in a stretch of the bit.
abbrev pub IsOnce : List Source → (bit : ℕ) → Stretch → Option ℕ → Type 0
IsOnce ts g x None = Unit {0}
IsOnce ts g x (Some i) = (t : Source) → slice_get ts i ≡ Some t → is_up_to g t ≡ true → t.every ≡ None → x.calls i ≡ 0

-- a piece that begins at this clock: service s is called at most `start` cycles after its look-at-me, and has ended at most `end` cycles after it
abbrev pub WaitsBy : Raises → ℕ → Source → (start : ℕ) → Clock → Piece → Type 0
WaitsBy raises s source start y (demanded p v) = v ≡ Some s → y.time ≤ raises s (y.calls s) + start
WaitsBy raises s source start y piece = IsServing s y.stretch → time_after y.time piece ≤ raises s (y.calls s - 1) + (start + source.cycles)

-- A look-at-me of service s that was raised and is not answered yet has waited `start` cycles at most. Of a service with no rate that is said of its
-- first look-at-me in a stretch.
abbrev pub HasWaited : Raises → ℕ → Source → (start : ℕ) → Clock → Type 0
HasWaited raises s source start y = (source.every ≡ None → y.stretch.calls s ≡ 0) → raises s (y.calls s) < y.time → y.time ≤ raises s (y.calls s) + start

-- Service s is called, and has ended, in time; and at each moment no look-at-me of it has waited longer.
-- Auxiliary controllers keep their waits, and answers last. Else the run stops, and all this holds up to there.
abbrev pub waits_watch : List Source → Raises → Pauses → ℕ → Source → (start : ℕ) → Watch Clock (Unit {0})
waits_watch ts raises pauses s source start = record {
  step = clock_after ts pauses source.bit;
  at_piece = λ y p. HasWaited raises s source start y × WaitsBy raises s source start (clock_at pauses y p) p;
  at_stop = λ y w t. HasWaited raises s source start y;
  at_end = λ y u. HasWaited raises s source start y;
}
