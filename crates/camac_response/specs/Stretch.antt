-- A stretch of a bit along a run: graded-L operations one after the other that each call a service up to the bit.
use Rattle.std.specs.Prelude.{◌≡◌, ℕ, ◌+◌, ◌-◌, ◌*◌, ◌≤◌, Bool, true, ◌&&◌, List, Option, Some, None, IsTrue, nat_eq, nat_le, slice_get, if◌then◌else◌}
use Rattle.camac_model.specs.Behaviour.{Piece, demanded, cycled, lock_taken, lock_released, event_left}
use Rattle.camac_model.specs.Moments.{Watch, Any, AnyStop}
use Rattle.camac_response_times.specs.declared.source.Source.{Source}
use Rattle.camac_response_times.specs.Response.{calls_within, period, is_up_to}

-- outside of a stretch no calls are counted, and the cycles are those since the last operation, which the stretch that comes next begins with
pub record Stretch : Type 0 where
  -- the cycles since the operation before the stretch
  pub elapsed : ℕ
  -- the calls of each service in it, by the services' numbers
  pub calls : ℕ → ℕ
  -- each call in it came at the rate of its service
  pub kept : Bool
  -- the service in progress
  pub serving : Option ℕ

-- after an operation that calls no service up to the bit
abbrev pub no_stretch : Option ℕ → Stretch
no_stretch serving = record { elapsed = 0; calls = λ i. 0; kept = true; serving = serving }

abbrev pub one_more : ℕ → (ℕ → ℕ) → ℕ → ℕ
one_more i calls j = if nat_eq j i then calls j + 1 else calls j

-- after an operation that calls service i, a service up to the bit
abbrev pub called : ℕ → Source → Stretch → Stretch
called i t x =
    record { elapsed = x.elapsed; calls = one_more i x.calls; kept = x.kept && nat_le (x.calls i + 1) (calls_within t.every x.elapsed); serving = Some i }

abbrev pub calling : (bit : ℕ) → ℕ → Option Source → Stretch → Stretch
calling g i None x = no_stretch (Some i)
calling g i (Some t) x = if is_up_to g t then called i t x else no_stretch (Some i)

abbrev pub longer : ℕ → Stretch → Stretch
longer cycles x = record x { elapsed = x.elapsed + cycles }

abbrev pub stretch_after : List Source → (bit : ℕ) → Stretch → Piece → Stretch
stretch_after ts g x (demanded p None) = no_stretch None
stretch_after ts g x (demanded p (Some i)) = calling g i (slice_get ts i) x
stretch_after ts g x (cycled at f d r w) = longer (1 + w) x
stretch_after ts g x (lock_taken c w) = longer w x
stretch_after ts g x (lock_released c) = x
stretch_after ts g x (event_left e) = record x { serving = None }

-- while the rates are kept, no more than these cycles have elapsed
pub record IsNoLonger (most : ℕ) (x : Stretch) : Type 0 where
  pub within : IsTrue x.kept → x.elapsed ≤ most

-- at each piece of a run a stretch of the bit is within these cycles
abbrev pub stretch_watch : List Source → (bit most : ℕ) → Watch Stretch (Unit {0})
stretch_watch ts g most =
    record { step = stretch_after ts g; at_piece = λ x p. IsNoLonger most (stretch_after ts g x p); at_stop = AnyStop; at_end = Any }

-- service s is in progress, and its n-th call in the stretch
abbrev pub IsServing : ℕ → Stretch → Type 0
IsServing s x = x.serving ≡ Some s

-- the n-th call, or the n-th service, is in time: so many cycles after n - 1 periods
abbrev pub InTime : ℕ → Source → ℕ → Stretch → Type 0
InTime s source cycles x = IsNoLonger ((x.calls s - 1) * period source.every + cycles) x

-- at each call of service s, at each piece of it and at its event: it is in time
abbrev pub AnswersBy : List Source → ℕ → Source → (start : ℕ) → Stretch → Piece → Type 0
AnswersBy ts s source start x (demanded p v) = v ≡ Some s → InTime s source start (stretch_after ts source.bit x (demanded p v))
AnswersBy ts s source start x piece = IsServing s x → InTime s source (start + source.cycles) (stretch_after ts source.bit x piece)

abbrev pub answers_watch : List Source → ℕ → Source → (start : ℕ) → Watch Stretch (Unit {0})
answers_watch ts s source start =
    record { step = stretch_after ts source.bit; at_piece = AnswersBy ts s source start; at_stop = AnyStop; at_end = Any }
