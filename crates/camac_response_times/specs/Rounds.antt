-- The fewest cycles that are enough for what is wanted, found from 0 by putting them in again, and the response that they give.
use Rattle.std.specs.Prelude.{ℕ, zero, suc, ◌+◌, ◌-◌, ◌*◌, max, List, Option, Some, None, true, false, nat_eq, nat_le, option_map}
use Rattle.camac_response_times.specs.declared.source.Source.{Source}
use Rattle.camac_response_times.specs.declared.search.Settled.{Settled}
use Rattle.camac_response_times.specs.Response.{calls_within, period, stretch_wants, start_wants}

-- the greatest number, and the most rounds for one service (own)
abbrev pub most_cycles : ℕ
most_cycles = 4294967295

unfoldable pub most_rounds : ℕ
most_rounds = 65535

-- where it stands still, and the rounds that are left
abbrev pub settle : (wants : ℕ → ℕ) → (rounds : ℕ) → ℕ → Option Settled
settle wants zero e = None
settle wants (suc r) e =
    elim (nat_le (wants e) most_cycles) [
      | true ↦ elim (nat_eq (wants e) e) [ true ↦ Some (record { cycles = e; rounds = r }) | false ↦ settle wants r (wants e) ]
      | false ↦ None
    ]

-- the greatest of `most` and of the waits of k calls from the n-th on: from the look-at-me to the call
abbrev pub greatest_wait : List Source → Source → (k n rounds most : ℕ) → Option ℕ
greatest_wait ts s zero n r most = Some most
greatest_wait ts s (suc k) n r most =
    elim (settle (start_wants ts s n) r 0) [
      | None ↦ None
      | Some z ↦ greatest_wait ts s k (n + 1) z.rounds (max most (z.cycles - (n - 1) * period s.every))
    ]

-- the most cycles from the look-at-me of a service to its call, by all its calls in the longest stretch
abbrev pub response_in : List Source → Source → (rounds : ℕ) → Option ℕ
response_in ts s r =
    elim (settle (stretch_wants ts s.bit) r 0) [
      | None ↦ None
      | Some z ↦ greatest_wait ts s (calls_within s.every z.cycles) 1 z.rounds 0
    ]

-- the cycles of its longest stretch
abbrev pub longest_in : List Source → Source → (rounds : ℕ) → Option ℕ
longest_in ts s r = option_map (λ z. z.cycles) (settle (stretch_wants ts s.bit) r 0)

-- both with the most rounds
abbrev pub response : List Source → Source → Option ℕ
response ts s = response_in ts s most_rounds

abbrev pub longest : List Source → Source → Option ℕ
longest ts s = longest_in ts s most_rounds
