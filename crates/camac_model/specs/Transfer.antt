-- A transfer: cycle after cycle, as long as all Q so far want another one (own).
use Rattle.std.specs.Prelude.{ℕ, List, [], ◌∷◌, ◌++◌, Option, Some, None, Bool, option_map, slice_get, if◌then◌else◌}
use Rattle.camac_func.specs.declared.data.DataMove.{DataMove}
use Rattle.camac_func.specs.declared.data.DataMove.TheVariants as moved
use Rattle.camac_branch.specs.Address.{Address}
use Rattle.camac_branch.specs.Allowed.{width}
use Rattle.camac_branch.specs.Branch.{Reply, Answer}
use Rattle.camac_esone.specs.Transfers.{NextAddress, tally}
use Rattle.camac_branch.specs.Plan.{Layout}
use Rattle.camac_model.specs.State.{State, stepped, with_word}
use Rattle.camac_model.specs.Behaviour.{stops, short, Action, given}
use Rattle.camac_model.specs.Cycle.{cycle, kept}

-- the data of the next cycle: a read, or the word of a table whose index is the number of Q=1 so far
abbrev pub transfer_data : Option (List ℕ) → List Bool → Option DataMove
transfer_data None qs = Some moved.In
transfer_data (Some table) qs = option_map moved.Out (slice_get table (tally qs))

-- a read puts the word of a reply with Q=1 into the event
abbrev pub keep_word : (table : Option (List ℕ)) → (bits : ℕ) → Reply → State → State
keep_word None bits r s = if r.q then with_word (kept bits r) s else s
keep_word (Some table) bits r s = s

-- another cycle, or the end
abbrev pub request : Option Address → (Address → Action) → Action → Action
request None go finish s = finish s
request (Some at) go finish s = go at s

-- the cycles on these answers after those with the Q so far, and then the end.
-- Without an answer a cycle that is wanted is wrong or short, so nothing follows it
abbrev pub transfer :
    Layout → (function : ℕ) → (table : Option (List ℕ)) → NextAddress → (finish : List Bool → Action) → (qs : List Bool) → List Answer → Action
transfer plan f table next_address finish qs [] =
    request (next_address qs) (λ at. given (transfer_data table qs) (λ d. cycle plan at f d [] (λ r. stops short)))
    (finish qs)
transfer plan f table next_address finish qs (a ∷ rest) =
    request (next_address qs) (λ at. given (transfer_data table qs) (λ d. cycle plan at f d (a ∷ rest) (λ r s.
    transfer plan f table next_address finish (qs ++ r.q ∷ []) rest (stepped (keep_word table (width plan at f) r s)))))
    (finish qs)
