-- What is fine, taken apart: it began within its bounds, and so did each part of it.
use Rattle.std.proofs.Common.{◌≡◌, ℕ, zero, suc, ◌-◌, ◌^◌, ◌<◌, ◌≤◌, List, [], ◌∷◌, ◌++◌, length, length-append, Option, Some, None, Bool, true, false, refl, subst, arith, ◌+◌}
use Rattle.std.specs.Prelude.{IsSome}
use Rattle.camac_func.specs.declared.data.DataMove.{DataMove}
use Rattle.camac_lang.specs.Tree.{Condition, Block, Script}
use Rattle.camac_branch.specs.Address.{Address}
use Rattle.camac_branch.specs.Branch.{Answer, Reply, reply_to}
use Rattle.camac_branch.specs.Plan.{Layout, crate_waits}
use Rattle.camac_model.specs.State.{State, stepped, with_word}
use Rattle.camac_model.specs.Behaviour.{Behaviour, does, ends, stops, more, Action, then_do, given, decide, unless_wrong, reached, lock_taken}
use Rattle.camac_model.specs.Cycle.{outcome, follow, cycle, make_cycle, after_cycle, take_lock, after_lock}
use Rattle.camac_model.specs.Fine.{Bounds, AreWords, IsWithinBounds, IsFine, most_turns}
use Rattle.camac_model.specs.Laws.{HasGrown}
use Rattle.camac_model.specs.Meaning.{context, for_state, for_turns, turns, block_meaning}
use Rattle.camac_model.specs.Safe.{IsSafe}
use Rattle.camac_model.specs.Value.{truth}
use Rattle.camac_model.proofs.Grown.{counts_grow}
use Rattle.camac_machine.specs.Rest.{Owner, nothing, releases, for_loop, while_loop, returns, owed, Open, left_of, rest_in, says}

pub turns_are : most_turns ≡ 65535
unfolding most_turns
turns_are = refl

pub some_is : {A : Type 0} (o : Option A) (v : A) → o ≡ Some v → IsSome o
some_is o v e = rw e refl

prefix_words : (xs ys : List ℕ) → AreWords (xs ++ ys) → AreWords xs
prefix_words [] ys h = tt
prefix_words (x ∷ xs) ys h = (h.0, prefix_words xs ys h.1)

last_word : (xs : List ℕ) (v : ℕ) → AreWords (xs ++ v ∷ []) → v < 2 ^ 24
last_word [] v h = h.0
last_word (x ∷ xs) v h = last_word xs v h.1

-- an answer with nothing in it, whose wait is always permitted
abbrev pub blank : Answer
blank = record { x = false; q = false; word = 0; wait = 0; gl = 0 }

module _ (plan : Layout) (k : Bounds) where
  -- it went on with a value
  pub fine_given : {A : Type 0} (o : Option A) (go : A → Action) (s : State) (rest : Action) → IsFine plan k (then_do (given o go s) rest) → (v : A) × (o ≡ Some v) × IsFine plan k (then_do (go v s) rest)
  fine_given None go s rest h = absurd h.0
  fine_given (Some v) go s rest h = (v, refl, h)

  -- what can follow is in a crate of the plan
  pub fine_follow : (c : ℕ) (o : Option ℕ) (l : Bool) (answers : List Answer) (go : Answer → List Answer → Action) (s : State) (rest : Action) → IsFine plan k (then_do (follow c (outcome o l answers) go s) rest) → (waits : ℕ) × (o ≡ Some waits) × IsFine plan k (then_do (follow c (outcome (Some waits) l answers) go s) rest)
  fine_follow c None l answers go s rest h = absurd h.0
  fine_follow c (Some waits) l answers go s rest h = (waits, refl, h)

  pub fine_unless : (b : Bool) (go : Action) (s : State) (rest : Action) → IsFine plan k (then_do (unless_wrong b go s) rest) → (b ≡ true) × IsFine plan k (then_do (go s) rest)
  fine_unless true go s rest h = (refl, h)
  fine_unless false go s rest h = absurd h.0

  fine_reached : (b : Behaviour State) → IsFine plan k b → IsWithinBounds k (reached b)
  fine_reached (does p b) h = fine_reached b h.1
  fine_reached (ends s) h = h
  fine_reached (stops w s) h = h.1

  -- what is fine with what follows is fine by itself
  pub fine_first : (b : Behaviour State) (go : Action) → ((s : State) → IsFine plan k (go s) → IsWithinBounds k s) → IsFine plan k (then_do b go) → IsFine plan k b
  fine_first (does p b) go keeps h = (h.0, fine_first b go keeps h.1)
  fine_first (ends s) go keeps h = keeps s h
  fine_first (stops w s) go keeps h = h

  before : (s t : State) → HasGrown s t → IsWithinBounds k t → IsWithinBounds k s
  before s t g h =
      let steps = g.steps in
      let cycles = g.cost in
      let few : length (s.words ++ g.words.0) ≤ k.words = subst (λ ws. length ws ≤ k.words) g.words.1 h.words in
      record {
        cycles = omega (arith, h.cycles, cycles);
        words = omega (arith, length-append s.words g.words.0, few);
        steps = omega (arith, h.steps, steps);
        are_words = prefix_words s.words g.words.0 (subst AreWords g.words.1 h.are_words);
      }

  pub keeps_block : (script : Script) (n : ℕ) (b : Block) (s : State) → IsFine plan k (block_meaning (context plan script) n b s) → IsWithinBounds k s
  keeps_block script n b s h =
      before s (reached (block_meaning (context plan script) n b s)) (counts_grow plan script n b s)
      (fine_reached (block_meaning (context plan script) n b s) h)

  before_step : (s : State) → IsWithinBounds k (stepped s) → IsWithinBounds k s
  before_step s h = record { cycles = h.cycles; words = h.words; steps = let le = h.steps in omega (arith, le); are_words = h.are_words }

  before_turn : (x v : ℕ) (s : State) → IsWithinBounds k (for_state x v s) → IsWithinBounds k s
  before_turn x v s h = record { cycles = h.cycles; words = h.words; steps = let le = h.steps in omega (arith, le); are_words = h.are_words }

  pub keeps_for : (script : Script) (b : Block) (j n x v last : ℕ) (s : State) → IsFine plan k (for_turns j n x v last (block_meaning (context plan script) most_turns b) s) → IsWithinBounds k s
  keeps_for script b zero n x v last s h = record { cycles = h.cycles; words = h.words; steps = h.steps; are_words = h.are_words }
  keeps_for script b (suc j) zero x v last s h = absurd h.0
  keeps_for script b (suc j) (suc n) x v last s h =
      let body : Action = block_meaning (context plan script) most_turns b in
      before_turn x v s
      (keeps_block script most_turns b (for_state x v s)
      (fine_first (body (for_state x v s)) (for_turns j n x (v + 1) last body) (λ t f. keeps_for script b j n x (v + 1) last t f) h))

  pub keeps_turns : (script : Script) (b : Block) (test : Condition) (n : ℕ) (s : State) → IsFine plan k (turns n test (block_meaning (context plan script) most_turns b) s) → IsWithinBounds k s
  keeps_turns script b test zero s h = go (truth test s.variables s.q s.x) h
    where
      go : (o : Option Bool) → IsFine plan k (decide o (stops more) ends s) → IsWithinBounds k s
      go None f = absurd f.0
      go (Some true) f = absurd f.0
      go (Some false) f = f
  keeps_turns script b test (suc n) s h =
      let body : Action = block_meaning (context plan script) most_turns b in
      go (λ f. before_step s (keeps_block script most_turns b (stepped s) (fine_first (body (stepped s)) (turns n test body) (λ t g. keeps_turns script b test n t g) f)))
      (truth test s.variables s.q s.x) h
    where
      go : (IsFine plan k (then_do (block_meaning (context plan script) most_turns b (stepped s)) (turns n test (block_meaning (context plan script) most_turns b))) → IsWithinBounds k s) → (o : Option Bool) → IsFine plan k (decide o (λ t. then_do (block_meaning (context plan script) most_turns b (stepped t)) (turns n test (block_meaning (context plan script) most_turns b))) ends s) → IsWithinBounds k s
      go turn None f = absurd f.0
      go turn (Some true) f = turn f
      go turn (Some false) f = f

  keeps_owed : (script : Script) (o : Owner) (s : State) → IsFine plan k (owed (context plan script) o s) → IsWithinBounds k s
  unfolding owed
  keeps_owed script nothing s h = h
  keeps_owed script (releases c) s h =
      let steps = h.1.steps in
      record { cycles = h.1.cycles; words = h.1.words; steps = omega (arith, steps); are_words = h.1.are_words }
  keeps_owed script (for_loop x v last n b) s h = keeps_for script b (last - v) n x (v + 1) last s h
  keeps_owed script (while_loop test n b) s h = keeps_turns script b test n s h
  keeps_owed script (returns p vs rs) s h = record { cycles = h.cycles; words = h.words; steps = h.steps; are_words = h.are_words }

  keeps_left : (script : Script) (o : Open) (s : State) → IsFine plan k (left_of (context plan script) o s) → IsWithinBounds k s
  keeps_left script o s h =
      keeps_block script most_turns o.block s
      (fine_first (block_meaning (context plan script) most_turns o.block s) (owed (context plan script) o.owner) (λ t f. keeps_owed script o.owner t f) h)

  pub keeps_rest : (script : Script) (os : List Open) (s : State) → IsFine plan k (rest_in (context plan script) os s) → IsWithinBounds k s
  unfolding rest_in
  keeps_rest script [] s h = h
  keeps_rest script (o ∷ os) s h =
      keeps_rest script os s
      (fine_first (rest_in (context plan script) os s) (left_of (context plan script) o) (λ t f. keeps_left script o t f) h)

  -- what is fine after releases is fine
  pub fine_says : (ks : List ℕ) (b : Behaviour State) → IsFine plan k (says ks b) → IsFine plan k b
  fine_says [] b h = h
  fine_says (c ∷ ks) b h = fine_says ks b h.1

  pub fine_decide : (o : Option Bool) (first second : Action) (s : State) (rest : Action) → IsFine plan k (then_do (decide o first second s) rest) → IsSome o
  fine_decide None first second s rest h = absurd h.0
  fine_decide (Some true) first second s rest h = refl
  fine_decide (Some false) first second s rest h = refl

  -- a lock that can be taken is one of a crate in the plan that is free
  pub fine_lock : (c : ℕ) (body : Action) (s : State) (rest : Action) → IsFine plan k (then_do (given (crate_waits plan c) (λ waits t. take_lock c waits (t.branch c).locked body t) s) rest) → IsSome (crate_waits plan c) × ((s.branch c).locked ≡ false)
  fine_lock c body s rest h =
      let g = fine_given (crate_waits plan c) (λ waits t. take_lock c waits (t.branch c).locked body t) s rest h in
      (some_is (crate_waits plan c) g.0 g.1, free (s.branch c).locked g.0 g.2)
    where
      free : (l : Bool) (waits : ℕ) → IsFine plan k (then_do (take_lock c waits l body s) rest) → l ≡ false
      free true waits f = absurd f.0
      free false waits f = refl

  -- a lock that can be taken waits here for an answer
  pub lock_within : (c : ℕ) (body : Action) (s : State) (rest : Action) → s.answers ≡ [] → IsFine plan k (then_do (given (crate_waits plan c) (λ waits t. take_lock c waits (t.branch c).locked body t) s) rest) → IsWithinBounds k s
  lock_within c body s rest e h =
      let g = fine_given (crate_waits plan c) (λ waits t. take_lock c waits (t.branch c).locked body t) s rest h in go (s.branch c).locked g.0 g.2
    where
      go : (l : Bool) (waits : ℕ) → IsFine plan k (then_do (take_lock c waits l body s) rest) → IsWithinBounds k s
      go true waits f = absurd f.0
      go false waits f =
          let at = subst (λ left. IsFine plan k (then_do (follow c (outcome (Some waits) false left) (λ a more t. does (lock_taken c a.wait) (body (after_lock c a.wait more t))) s) rest)) e f in at.1

  -- a cycle that can be made is safe
  pub fine_cycle : (at : Address) (f : ℕ) (d : DataMove) (go : Reply → Action) (s : State) (rest : Action) → IsFine plan k (then_do (cycle plan at f d (blank ∷ []) go s) rest) → IsSome (crate_waits plan at.crate_no) × IsSafe plan at f d
  fine_cycle at f d go s rest h =
      let g = fine_follow at.crate_no (crate_waits plan at.crate_no) (s.branch at.crate_no).locked (blank ∷ []) (make_cycle plan at f d go) s rest h in
      (some_is (crate_waits plan at.crate_no) g.0 g.1, g.2.0)

  -- a cycle makes no step, so that what follows it counts the same
  pub cycle_steps : (at : Address) (f : ℕ) (d : DataMove) (go : Reply → Action) (s : State) (rest : Action) → ((r : Reply) (t : State) → IsFine plan k (then_do (go r t) rest) → t.steps ≤ k.steps) → IsFine plan k (then_do (cycle plan at f d (blank ∷ []) go s) rest) → s.steps ≤ k.steps
  cycle_steps at f d go s rest keeps h =
      let g = fine_follow at.crate_no (crate_waits plan at.crate_no) (s.branch at.crate_no).locked (blank ∷ []) (make_cycle plan at f d go) s rest h in
      let r : Reply = reply_to plan s.branch at f blank in
      keeps r (after_cycle at f r 0 [] s) g.2.1

  -- a word that is put has room, and 24 bits
  pub fine_word : (script : Script) (bs : List Open) (v : ℕ) (s : State) → IsFine plan k (rest_in (context plan script) bs (with_word v s)) → (length s.words < k.words) × (v < 2 ^ 24)
  fine_word script bs v s h =
      let within = keeps_rest script bs (with_word v s) h in
      let few : length (s.words ++ v ∷ []) ≤ k.words = within.words in
      (omega (arith, length-append s.words (v ∷ [])), last_word s.words v within.are_words)
