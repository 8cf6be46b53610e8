-- The three transfers as conditions on the whole list of their cycles; the rules are own.
use Rattle.std.specs.Prelude.{◌≡◌, ℕ, ◌<◌, ◌≤◌, suc, List, [], ◌∷◌, ◌++◌, ◌⊎◌, Option, Some, None, Bool, true, false, length, map, take, option_map}
use Rattle.std.specs.Option.{unwrap_or}
use Rattle.camac_branch.specs.Address.{Address}
use Rattle.camac_esone.specs.Transfers.{tally, successor, is_by}

-- a cycle: where it goes, and the Q of its reply
pub record Cycle : Type 0 where
  pub at : Address
  pub q : Bool

-- all Q in turn
abbrev pub replies : List Cycle → List Bool
replies cycles = map (λ c. c.q) cycles

-- a fact of each cycle and those before it
abbrev pub EachCycle : (List Cycle → Cycle → Type 0) → List Cycle → Type 0
EachCycle P cycles = (before after : List Cycle) (c : Cycle) → before ++ c ∷ after ≡ cycles → P before c

abbrev pub AreAt : Address → List Cycle → Type 0
AreAt at cycles = EachCycle (λ before c. c.at ≡ at) cycles

-- the place of the first Q=0, counted from 1, if there is one
abbrev pub first_zero : List Bool → Option ℕ
first_zero [] = None
first_zero (false ∷ qs) = Some 1
first_zero (true ∷ qs) = option_map suc (first_zero qs)

-- Q-stop: the number of cycles is the place of the first Q=0 among the first max, that cycle included, else max.
pub record IsQStopList (at : Address) (max : ℕ) (cycles : List Cycle) : Type 0 where
  pub address : AreAt at cycles
  pub count : length cycles ≡ unwrap_or (first_zero (take max (replies cycles))) max

-- the shortest list with this many replies of Q=1
pub record IsShortest (max : ℕ) (cycles : List Cycle) : Type 0 where
  pub reached : tally (replies cycles) ≡ max
  pub before : EachCycle (λ before c. tally (replies before) < max) cycles

-- a list of which no prefix has this many replies of Q=1
pub record IsTooFew (max : ℕ) (cycles : List Cycle) : Type 0 where
  pub whole : tally (replies cycles) < max
  pub before : EachCycle (λ before c. tally (replies before) < max) cycles

-- Q-repeat: the shortest list with max replies of Q=1, or limit cycles where none of at most limit has that many.
pub record IsQRepeatList (at : Address) (max limit : ℕ) (cycles : List Cycle) : Type 0 where
  pub address : AreAt at cycles
  pub count : (IsShortest max cycles × (length cycles ≤ limit)) ⊎ (IsTooFew max cycles × (length cycles ≡ limit))

-- the first address, or the successor of the last cycle
abbrev pub next_after : Address → List Cycle → Address
next_after first [] = first
next_after first (c ∷ cycles) = next_after (successor c.q c.at) cycles

-- Scan: from the first address each next one is the successor, up to max replies of Q=1 or past the final address.
pub record IsScanList (first last : Address) (max : ℕ) (cycles : List Cycle) : Type 0 where
  pub one_crate : EachCycle (λ before c. c.at.crate_no ≡ first.crate_no) cycles
  pub successors : EachCycle (λ before c. c.at ≡ next_after first before) cycles
  pub not_past : EachCycle (λ before c. is_by last c.at ≡ true) cycles
  -- before the last cycle fewer than max have Q=1
  pub before : (before : List Cycle) (c : Cycle) → before ++ c ∷ [] ≡ cycles → tally (replies before) < max
  -- It cannot be continued.
  pub whole : (tally (replies cycles) ≡ max) ⊎ (is_by last (next_after first cycles) ≡ false)

-- A transfer that is cut short: a prefix of such a list, but not the whole.
pub record IsCut (IsList : List Cycle → Type 0) (cycles : List Cycle) : Type 0 where
  pub next : Cycle
  pub rest : List Cycle
  pub whole : IsList (cycles ++ next ∷ rest)
