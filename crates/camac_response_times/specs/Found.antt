-- What the search computes, in one form for a stretch and for a call.
use Rattle.std.specs.Prelude.{◌≡◌, ℕ, ◌+◌, ◌*◌, ◌/◌, ◌^◌, ◌<◌, ◌≤◌, Bool, true, List, [], ◌∷◌, Option, Some, None, IfSome, length, nat_le, option_and_then, option_map, slice_get, slice_index_or, if◌then◌else◌}
use Rattle.std.specs.List.{All}
use Rattle.camac_response_times.specs.declared.source.Source.{Source}
use Rattle.camac_response_times.specs.declared.search.Caller.{Caller}
use Rattle.camac_response_times.specs.declared.search.Response.{Response}
use Rattle.camac_response_times.specs.declared.search.Wanted.{Wanted}
use Rattle.camac_response_times.specs.Response.{is_up_to, is_below, called_within}
use Rattle.camac_response_times.specs.Rounds.{longest, most_cycles, response}

-- a service up to a bit takes no more cycles than lie between its calls at its rate
abbrev pub FitsRate : (bit : ℕ) → Source → Type 0
FitsRate g t = is_up_to g t ≡ true → IfSome t.every (λ rate. t.cycles ≤ rate)

abbrev pub FitRates : List Caller → Type 0
FitRates cs = All (λ c. c.cycles ≤ c.rate) cs

-- services up to a bit, or below it
abbrev pub is_meant : (bit : ℕ) → (own : Bool) → Source → Bool
is_meant g own t = if own then is_up_to g t else is_below g t

-- the cycles of all calls within e cycles but the first ones
abbrev pub repeated : ℕ → List Caller → ℕ
repeated e [] = 0
repeated e (c ∷ cs) = e / c.rate * c.cycles + repeated e cs

-- what services want that are laid out for the rounds
abbrev pub gathered : ℕ → Wanted → ℕ
gathered e w = w.once + repeated e w.callers.items + called_within (is_meant w.bit w.own) e w.rest.now

-- a number up to the limit
abbrev pub within : ℕ → Option ℕ
within n = if nat_le n most_cycles then Some n else None

-- with a load of so many parts of 2^32 beside them, so many cycles of calls are more than e
abbrev pub TakesAll : (load e called : ℕ) → Type 0
TakesAll load e called = 2 ^ 32 * (e + 1) ≤ load * (e + 1) + 2 ^ 32 * called

-- what is told of a service in a longest stretch of so many cycles that is called so many cycles after its look-at-me at most
abbrev pub answer_with : Source → (longest start : ℕ) → Response
answer_with s most start = record { start = start; end = start + s.cycles; longest = most }

abbrev pub answer : List Source → Source → Option Response
answer ts s = option_and_then (λ most. option_map (answer_with s most) (response ts s)) (longest ts s)

-- the response of the service of this number
abbrev pub response_at : List Source → ℕ → Option Response
response_at ts number = option_and_then (answer ts) (slice_get ts number)

-- these are the responses of these services
pub record AreFound (ts : List Source) (found : List (Option Response)) : Type 0 where
  pub count : length found ≡ length ts
  pub each : (i : ℕ) (d : Option Response) → i < length found → slice_index_or found i d ≡ response_at ts i
