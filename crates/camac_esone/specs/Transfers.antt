-- The three transfers, named after ESONE's CFUBC, CFUBR and CFMAD; their rules are own.
-- Each says from all Q so far whether another cycle is wanted, and where.
use Rattle.std.specs.Prelude.{ℕ, ◌+◌, suc, List, [], ◌∷◌, Option, Some, None, Bool, true, false, ◌&&◌, ◌||◌, nat_eq, nat_lt, nat_le, length, if◌then◌else◌}
use Rattle.camac_branch.specs.Address.{Address}

-- how many of the replies have Q=1
abbrev pub tally : List Bool → ℕ
tally [] = 0
tally (true ∷ qs) = suc (tally qs)
tally (false ∷ qs) = tally qs

abbrev pub all_true : List Bool → Bool
all_true [] = true
all_true (true ∷ qs) = all_true qs
all_true (false ∷ qs) = false

-- where the next cycle goes, from all Q so far
abbrev pub NextAddress : Type 0
NextAddress = List Bool → Option Address

abbrev pub when : Bool → Address → Option Address
when true at = Some at
when false at = None

-- Q-stop: up to the first Q=0, at most max cycles
abbrev pub q_stop_next : Address → ℕ → NextAddress
q_stop_next at max qs = when (all_true qs && nat_lt (length qs) max) at

-- Q-repeat: until max replies had Q=1, at most limit cycles
abbrev pub q_repeat_next : Address → ℕ → ℕ → NextAddress
q_repeat_next at max limit qs = when (nat_lt (tally qs) max && nat_lt (length qs) limit) at

-- the next station
abbrev pub next_station : Address → Address
next_station at = record at { station = at.station + 1; sub_address = 0 }

-- the address after one with this Q
abbrev pub successor : Bool → Address → Address
successor true at = if nat_lt at.sub_address 15 then record at { sub_address = at.sub_address + 1 } else next_station at
successor false at = next_station at

-- the address after all these Q
abbrev pub address_after : Address → List Bool → Address
address_after at [] = at
address_after at (q ∷ qs) = address_after (successor q at) qs

-- not past the final address, by station and then by sub-address
abbrev pub is_by : Address → Address → Bool
is_by last at =
    nat_lt at.station last.station || (nat_eq at.station last.station && nat_le at.sub_address last.sub_address)

-- Scan: until max replies had Q=1, or past the final address
abbrev pub scan_next : Address → Address → ℕ → NextAddress
scan_next first last max qs =
    when (nat_lt (tally qs) max && is_by last (address_after first qs)) (address_after first qs)
