-- What a service in progress holds.
use Rattle.std.specs.Prelude.{ℕ, ◌+◌, List, [], ◌∷◌, ◌++◌, Option, Some, None, Bool, true, false, nat_eq, min, if◌then◌else◌}
use Rattle.camac_branch.specs.Address.{Address}
use Rattle.camac_branch.specs.Branch.{Branch, Answer}

-- by number, in the scope of the service or of the procedure that runs
abbrev pub Variables : Type 0
Variables = ℕ → ℕ

-- none where the register is not set
abbrev pub Registers : Type 0
Registers = ℕ → Option Address

pub record State : Type 0 where
  pub branch : Branch
  pub variables : Variables
  pub registers : Registers
  -- the flags of the last cycle
  pub q : Bool
  pub x : Bool
  -- of the service so far: its event words, its steps, what its cycles and locks cost, and how many of its cycles had X=0
  pub words : List ℕ
  pub steps : ℕ
  pub cost : ℕ
  pub missed : ℕ
  -- the answers that are left
  pub answers : List Answer

-- no crate is locked
abbrev pub unlocked : Branch → Branch
unlocked b c = record (b c) { locked = false }

-- where a service starts
abbrev pub fresh : Branch → List Answer → State
fresh b answers = record {
  branch = unlocked b;
  variables = λ _. 0;
  registers = λ _. None;
  q = false;
  x = false;
  words = [];
  steps = 0;
  cost = 0;
  missed = 0;
  answers = answers;
}

-- a function with another value at one number
abbrev pub set_at : {A : Type 0} → ℕ → A → (ℕ → A) → ℕ → A
set_at k v old i = if nat_eq i k then v else old i

abbrev pub stepped : State → State
stepped s = record s { steps = s.steps + 1 }

abbrev pub with_variable : ℕ → ℕ → State → State
with_variable x v s = record s { variables = set_at x v s.variables }

abbrev pub with_register : ℕ → Address → State → State
with_register r at s = record s { registers = set_at r (Some at) s.registers }

abbrev pub with_word : ℕ → State → State
with_word w s = record s { words = s.words ++ w ∷ [] }

-- one more cycle with this X; the number stays at 65,535 (own)
abbrev pub missed_with : Bool → ℕ → ℕ
missed_with true m = m
missed_with false m = min 65535 (m + 1)
