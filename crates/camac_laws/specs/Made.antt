-- How often a run makes each statement of a body, and what each time costs.
use Rattle.std.specs.Prelude.{◌≡◌, ◌≤◌, ℕ, zero, suc, ◌+◌, ◌-◌, List, [], ◌∷◌, ◌++◌, length, Option, Some, None, Bool, true, false, IsTrue, Ok, if◌then◌else◌}
use Rattle.camac_lang.specs.Scope.{is_well_formed}
use Rattle.camac_lang.specs.Tree.{Condition, Statement, choose, choose_else, for_, for_each, while_, locked, Block, done, next, Script}
use Rattle.camac_branch.specs.Branch.{Branch, Answer}
use Rattle.camac_branch.specs.Plan.{Layout, IsPlan, crate_waits}
use Rattle.camac_model.specs.State.{State, fresh, stepped}
use Rattle.camac_model.specs.Behaviour.{Behaviour, does, ends, stops, Action, reached}
use Rattle.camac_model.specs.Value.{value, truth}
use Rattle.camac_model.specs.Cycle.{Outcome, answered, outcome, after_lock}
use Rattle.camac_model.specs.Fine.{Bounds, most_turns, AreInRanges}
use Rattle.camac_model.specs.Meaning.{Context, context, entered, for_state, meaning, block_meaning}
use Rattle.camac_rules.specs.Accept.{Section, of_procedure, of_service, accept}
use Rattle.camac_rules.specs.Capped.{capped}
use Rattle.camac_check_costs.specs.Body.{BodyRows}
use Rattle.camac_check_costs.specs.Bodies.{costs_with, sections_of}
use Rattle.camac_check_rows.specs.declared.row.Row.{Row}
use Rattle.camac_laws.specs.Lower.{AtMost}

-- How often the statements of a body are made.

-- none of these is made more often
abbrev pub NoMore : ℕ → List Row → Type 0
NoMore most [] = Unit {0}
NoMore most (r ∷ rs) = (r.times ≤ most) × NoMore most rs

abbrev pub InSteps : List BodyRows → Type 0
InSteps [] = Unit {0}
InSteps (b ∷ bs) = NoMore b.costs.steps b.rows × InSteps bs

-- No statement of a procedure or service is made more often than its bound has steps.
abbrev pub TimesInSteps : Type 0
TimesInSteps = (plan : Layout) (script : Script) → InSteps (costs_with capped plan script)

-- what is counted from one state of a service to a later one
abbrev pub spent : State → State → Bounds
spent s t = record { cycles = t.cost - s.cost; words = length t.words - length s.words; steps = t.steps - s.steps }

-- For each statement, in the order of the text, what each time of it has cost. The second arm of a choice is told as a statement of its own.
abbrev pub Made : Type 0
Made = List (List Bounds)

-- these times and then those
abbrev pub both : Made → Made → Made
both [] others = others
both (ts ∷ made) [] = ts ∷ made
both (ts ∷ made) (us ∷ others) = (ts ++ us) ∷ both made others

-- what is made where a behaviour ends; where it stops nothing is
abbrev pub from_end : Behaviour State → (State → Made) → Made → Made
from_end (does p b) go none = from_end b go none
from_end (ends s) go none = go s
from_end (stops w s) go none = none

abbrev pub where_some : {A : Type 0} → Option A → (A → Made) → Made → Made
where_some None go none = none
where_some (Some v) go none = go v

abbrev pub by_test : Option Bool → (first second none : Made) → Made
by_test None first second none = none
by_test (Some true) first second none = first
by_test (Some false) first second none = second

-- in further turns of a `for`, and of a `while`, of which so many are allowed: by what its body does, and what is made in it
abbrev pub for_made : (turns allowed variable current : ℕ) → Action → (State → Made) → Made → State → Made
for_made zero n x v body made none s = none
for_made (suc k) zero x v body made none s = none
for_made (suc k) (suc n) x v body made none s =
    both (made (for_state x v s)) (from_end (body (for_state x v s)) (for_made k n x (v + 1) body made none) none)

abbrev pub while_made : (allowed : ℕ) → Condition → Action → (State → Made) → Made → State → Made
while_made zero c body made none s = none
while_made (suc n) c body made none s =
    by_test (truth c s.variables s.q s.x) (both (made (stepped s)) (from_end (body (stepped s)) (while_made n c body made none) none)) none none

-- in a lock, once it is taken
abbrev pub lock_made : ℕ → Outcome → (State → Made) → Made → State → Made
lock_made c (answered a rest) made none s = made (after_lock c a.wait rest s)
lock_made c _ made none s = none

-- none of these is made
abbrev mutual
  pub unmade_in : Statement → Made
  unmade_in (choose spot test a) = unmade a
  unmade_in (choose_else spot test a b) = unmade a ++ [] ∷ unmade b
  unmade_in (for_ spot x e1 e2 keeps body) = unmade body
  unmade_in (for_each spot x v last body) = unmade body
  unmade_in (while_ spot test m k keeps body) = unmade body
  unmade_in (locked spot e body) = unmade body
  unmade_in s = []

  pub unmade : Block → Made
  unmade done = []
  unmade (next s rest) = [] ∷ unmade_in s ++ unmade rest

-- in the blocks of a statement that is begun, and in a block
abbrev mutual
  pub made_in : Context → ℕ → Statement → State → Made
  made_in c n (choose spot test a) s = by_test (truth test s.variables s.q s.x) (made c n a s) (unmade a) (unmade a)
  made_in c n (choose_else spot test a b) s =
      by_test (truth test s.variables s.q s.x)
      (made c n a s ++ [] ∷ unmade b)
      (unmade a ++ (spent s (reached (block_meaning c n b s)) ∷ []) ∷ made c n b s)
      (unmade a ++ [] ∷ unmade b)
  made_in c n (for_ spot x e1 e2 keeps body) s =
      where_some (value e1 s.variables) (λ v. where_some (value e2 s.variables)
      (λ w. for_made (w + 1 - v) n x v (block_meaning c n body) (made c n body) (unmade body) s) (unmade body)) (unmade body)
  made_in c n (for_each spot x v last body) s = for_made (last + 1 - v) n x v (block_meaning c n body) (made c n body) (unmade body) s
  made_in c n (while_ spot test m k keeps body) s = while_made n test (block_meaning c n body) (made c n body) (unmade body) s
  made_in c n (locked spot e body) s =
      where_some (value e s.variables)
      (λ k. if (s.branch k).locked then unmade body
      else lock_made k (outcome (crate_waits c.plan k) false s.answers) (made c n body) (unmade body) s) (unmade body)
  made_in c n st s = []

  pub made : Context → ℕ → Block → State → Made
  made c n done s = []
  made c n (next st rest) s =
      (spent s (reached (meaning c n st s)) ∷ []) ∷ made_in c n st (stepped s) ++ from_end (meaning c n st s) (made c n rest) (unmade rest)

-- none of these costs more than so much
abbrev pub NoneAbove : Bounds → List Bounds → Type 0
NoneAbove most [] = Unit {0}
NoneAbove most (k ∷ ks) = AtMost k most × NoneAbove most ks

-- no more times than the row says, and each within what it says of one
pub record KeepsTo (r : Row) (ks : List Bounds) : Type 0 where
  pub times : length ks ≤ r.times
  pub each : NoneAbove r.each ks

-- each row by the statement in its place
abbrev pub AllKeep : List Row → Made → Type 0
AllKeep [] [] = Unit {0}
AllKeep [] (ks ∷ made) = ⊥
AllKeep (r ∷ rows) [] = ⊥
AllKeep (r ∷ rows) (ks ∷ made) = KeepsTo r ks × AllKeep rows made

-- of a procedure in one call, on all arguments in range, and of a service in one service; whatever the branch is like and answers
abbrev pub SectionKeeps : Layout → Script → Section → List Row → Type 0
SectionKeeps plan s (of_procedure p) rows =
    (n : ℕ) → most_turns ≤ n → (vs : List ℕ) → AreInRanges vs p.parameters → (b : Branch) (q x : Bool) (answers : List Answer)
    → AllKeep rows (made (context plan s) n p.body (entered vs (record (fresh b answers) { branch = b; q = q; x = x })))
SectionKeeps plan s (of_service v) rows =
    (n : ℕ) → most_turns ≤ n → (b : Branch) (answers : List Answer) → AllKeep rows (made (context plan s) n v.body (fresh b answers))

abbrev pub SectionsKeep : Layout → Script → List Section → List BodyRows → Type 0
SectionsKeep plan s [] [] = Unit {0}
SectionsKeep plan s [] (b ∷ bs) = ⊥
SectionsKeep plan s (section ∷ rest) [] = ⊥
SectionsKeep plan s (section ∷ rest) (b ∷ bs) = SectionKeeps plan s section b.rows × SectionsKeep plan s rest bs

-- No run makes a statement of an accepted script more often in one service or call than its row says, and no time of it costs more.
abbrev pub RowsAreOfRuns : Type 0
RowsAreOfRuns = (plan : Layout) (script : Script) (ks : List Bounds) → IsPlan plan → IsTrue (is_well_formed script) → accept plan script ≡ Ok ks
    → SectionsKeep plan script (sections_of script) (costs_with capped plan script)
