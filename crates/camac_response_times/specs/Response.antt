-- How long a look-at-me waits for its service at told rates: the response time analysis of tasks with fixed priorities that are not
-- interrupted (Davis, Burns, Bril, Lukkien 2007). That it is used here is own.
use Rattle.std.specs.Prelude.{ℕ, ◌+◌, ◌-◌, ◌*◌, ◌/◌, ◌≤◌, max, List, [], ◌∷◌, Option, Some, None, Bool, nat_le, nat_lt, if◌then◌else◌}
use Rattle.camac_response_times.specs.declared.source.Source.{Source}

-- the most calls within e cycles
abbrev pub calls_within : Option ℕ → ℕ → ℕ
calls_within None e = 1
calls_within (Some t) e = e / t + 1

-- the cycles from one call to the next
abbrev pub period : Option ℕ → ℕ
period None = 0
period (Some t) = t

-- services up to a bit, and those of a lower bit
abbrev pub is_up_to : (bit : ℕ) → Source → Bool
is_up_to g t = nat_le t.bit g

abbrev pub is_below : (bit : ℕ) → Source → Bool
is_below g t = nat_lt t.bit g

-- of the services of a greater bit one may be in progress: the most cycles of one
abbrev pub before : (bit : ℕ) → List Source → ℕ
before g [] = 0
before g (t ∷ ts) = max (if is_up_to g t then 0 else t.cycles) (before g ts)

-- the cycles of all calls within e cycles of the services that are meant
abbrev pub called_within : (is_meant : Source → Bool) → ℕ → List Source → ℕ
called_within is_meant e [] = 0
called_within is_meant e (t ∷ ts) = (if is_meant t then calls_within t.every e * t.cycles else 0) + called_within is_meant e ts

-- the cycles that a stretch of a bit wants within e cycles
abbrev pub stretch_wants : List Source → (bit : ℕ) → ℕ → ℕ
stretch_wants ts g e = before g ts + called_within (is_up_to g) e ts

-- the cycles that are wanted within e cycles before the n-th call of a service
abbrev pub start_wants : List Source → Source → (n : ℕ) → ℕ → ℕ
start_wants ts s n e = before s.bit ts + (n - 1) * s.cycles + called_within (is_below s.bit) e ts

-- e cycles are enough for all that is wanted within them
abbrev pub IsEnough : (wants : ℕ → ℕ) → ℕ → Type 0
IsEnough wants e = wants e ≤ e

-- the n-th call comes within so many cycles
pub record StartsWithin (ts : List Source) (s : Source) (n most : ℕ) : Type 0 where
  pub first : ℕ
  pub enough : IsEnough (start_wants ts s n) first
  pub within : first ≤ most

-- where each call of a service in a stretch comes at most `start` cycles after its look-at-me
pub record StartsBy (ts : List Source) (s : Source) (start : ℕ) : Type 0 where
  pub longest : ℕ
  pub enough : IsEnough (stretch_wants ts s.bit) longest
  pub starts : (n : ℕ) → 1 ≤ n → n ≤ calls_within s.every longest → StartsWithin ts s n ((n - 1) * period s.every + start)
