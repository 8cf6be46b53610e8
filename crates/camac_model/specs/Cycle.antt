-- One dataway cycle; taking and releasing a lock.
use Rattle.std.specs.Prelude.{ℕ, ◌+◌, ◌^◌, ◌%◌, List, [], ◌∷◌, Option, Some, None, Bool, true, false, min, if◌then◌else◌}
use Rattle.camac_lang.specs.declared.word.WordSize.{WordSize}
use Rattle.camac_lang.specs.declared.word.WordSize.TheVariants.{Full, Short}
use Rattle.camac_func.specs.declared.data.DataMove.{DataMove}
use Rattle.camac_branch.specs.Address.{Address}
use Rattle.camac_branch.specs.Branch.{Reply, Answer, reply_to, branch_after, with_lock}
use Rattle.camac_branch.specs.Plan.{Layout, crate_waits}
use Rattle.camac_crate.specs.Lock.{permitted}
use Rattle.camac_model.specs.State.{State, missed_with}
use Rattle.camac_model.specs.Behaviour.{cycled, lock_taken, lock_released, does, ends, stops, short, overrun, wrong, Action}

-- What an operation in a crate comes to: the crate is not in the plan; no answer is left; the answer's wait is longer than the plan permits;
-- or the operation is made, with this answer
pub data Outcome : Type 0 where
  no_crate : Outcome
  no_answer : Outcome
  too_long : (wait : ℕ) → Outcome
  answered : Answer → (rest : List Answer) → Outcome

-- by the waits that the plan permits in the crate, if it has that crate, by its lock and by the answers
abbrev pub outcome : (waits : Option ℕ) → (locked : Bool) → List Answer → Outcome
outcome None locked answers = no_crate
outcome (Some waits) locked [] = no_answer
outcome (Some waits) locked (a ∷ rest) = if permitted locked waits a.wait then answered a rest else too_long a.wait

-- what follows it
abbrev pub follow : (crate_no : ℕ) → Outcome → (Answer → List Answer → Action) → Action
follow c no_crate go s = stops wrong s
follow c no_answer go s = stops short s
follow c (too_long wait) go s = stops (overrun c wait) s
follow c (answered a rest) go s = go a rest s

-- the state after a cycle with this reply
abbrev pub after_cycle : Address → ℕ → Reply → ℕ → List Answer → State → State
after_cycle at f r wait rest s = record s {
  branch = branch_after at f s.branch;
  q = r.q;
  x = r.x;
  cost = s.cost + (1 + wait);
  missed = missed_with r.x s.missed;
  answers = rest;
}

-- a cycle that is permitted, and then what its reply leads to
abbrev pub make_cycle : Layout → Address → ℕ → DataMove → (Reply → Action) → Answer → List Answer → Action
make_cycle plan at f d go a rest s =
    let reply = reply_to plan s.branch at f a in
    does (cycled at f d reply a.wait) (go reply (after_cycle at f reply a.wait rest s))

-- one cycle on the first of these answers
abbrev pub cycle : Layout → Address → ℕ → DataMove → List Answer → (Reply → Action) → Action
cycle plan at f d answers go s =
    follow at.crate_no (outcome (crate_waits plan at.crate_no) (s.branch at.crate_no).locked answers) (make_cycle plan at f d go) s

-- how many bits a single action keeps of a word of so many bits
abbrev pub sized : WordSize → ℕ → ℕ
sized Full w = w
sized Short w = min w 16

-- the low bits of a reply's word
abbrev pub kept : ℕ → Reply → ℕ
kept bits r = r.word % 2 ^ bits

abbrev pub after_lock : ℕ → ℕ → List Answer → State → State
after_lock c wait rest s =
    record s { branch = with_lock c true s.branch; cost = s.cost + wait; answers = rest }

-- takes the lock of a crate, unless it is locked
abbrev pub take_lock : ℕ → ℕ → Bool → Action → Action
take_lock c waits true body s = stops wrong s
take_lock c waits false body s =
    follow c (outcome (Some waits) false s.answers) (λ a rest t. does (lock_taken c a.wait) (body (after_lock c a.wait rest t))) s

-- a release is a step
abbrev pub after_release : ℕ → State → State
after_release c s = record s { branch = with_lock c false s.branch; steps = s.steps + 1 }

abbrev pub release : ℕ → Action
release c s = does (lock_released c) (ends (after_release c s))
