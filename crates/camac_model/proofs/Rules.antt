-- Rules for what a behaviour meets: S at each piece, P where it stops, Q where it ends, each given what is counted from the pieces before.
-- One rule for each way in which the meaning is put together; induction over statements needs nothing else.
use Rattle.std.proofs.Common.{◌≡◌, ℕ, zero, suc, ◌+◌, ◌≤◌, List, [], ◌∷◌, ◌++◌, Option, Some, None, Bool, true, false, refl, arith, subst}
use Rattle.std.specs.Prelude.{if◌then◌else◌, slice_get}
use Rattle.camac_lang.specs.Tree.{Condition, Block, Procedure, Script}
use Rattle.camac_func.specs.declared.data.DataMove.{DataMove}
use Rattle.camac_branch.specs.Address.{Address}
use Rattle.camac_branch.specs.Allowed.{width}
use Rattle.camac_branch.specs.Branch.{Reply, Answer, reply_to}
use Rattle.camac_branch.specs.Plan.{Layout, crate_waits}
use Rattle.camac_crate.specs.Lock.{permitted}
use Rattle.camac_esone.specs.Transfers.{NextAddress}
use Rattle.camac_model.specs.State.{State, stepped, with_variable, with_word}
use Rattle.camac_model.specs.Behaviour.{Piece, cycled, lock_taken, Behaviour, does, ends, stops, Stop, short, overrun, wrong, more, Action, then_do, given, decide, unless_wrong}
use Rattle.camac_model.specs.Value.{truth}
pub use Rattle.camac_model.specs.Moments.{Meets}
use Rattle.camac_model.specs.Cycle.{too_long, answered, outcome, follow, after_cycle, make_cycle, cycle, kept, after_lock, take_lock}
use Rattle.camac_model.specs.Transfer.{transfer_data, keep_word, request, transfer}
use Rattle.camac_model.specs.Meaning.{for_state, for_turns, turns, entered, returned, enter, Context, block_meaning, with_procedure, routines_with, bare, context}

-- What every block does where the procedures before it do it, the blocks of a script do.

-- each procedure of a context has a property
pub record AllRoutines (P : (ℕ → Action) → Type 0) (c : Context) : Type 0 where
  pub each : (p : ℕ) (r : ℕ → Action) → slice_get c.routines p ≡ Some r → P r

module _ (P : (ℕ → Action) → Type 0) where
  -- one more at the end of a list
  appended : (rs : List (ℕ → Action)) (x : ℕ → Action) → ((p : ℕ) (r : ℕ → Action) → slice_get rs p ≡ Some r → P r) → P x → (p : ℕ) (r : ℕ → Action) → slice_get (rs ++ x ∷ []) p ≡ Some r → P r
  appended [] x h hx zero r e = let same : x ≡ r = cc in subst P same hx
  appended [] x h hx (suc p) r e = absurd (cc)
  appended (y ∷ rs) x h hx zero r e = h zero r e
  appended (y ∷ rs) x h hx (suc p) r e = appended rs x (λ q r' e'. h (suc q) r' e') hx p r e

  module _ (block : (c : Context) → AllRoutines P c → (b : Block) → P (λ n. block_meaning c n b)) where
    pub with_one : (c : Context) (p : Procedure) → AllRoutines P c → AllRoutines P (with_procedure c p)
    with_one c p h = record { each = appended c.routines (λ n. block_meaning c n p.body) h.each (block c h p.body) }

    with_all : (c : Context) (ps : List Procedure) → AllRoutines P c → (p : ℕ) (r : ℕ → Action) → slice_get (routines_with c ps) p ≡ Some r → P r
    with_all c [] h = h.each
    with_all c (q ∷ ps) h = with_all (with_procedure c q) ps (with_one c q h)

    -- every procedure of a script, and every block in its context
    pub script_routines : (plan : Layout) (script : Script) → AllRoutines P (context plan script)
    script_routines plan script = record { each = with_all (bare plan script) script.procedures (record { each = λ p r e. absurd (cc) }) }

    pub script_block : (plan : Layout) (script : Script) (b : Block) → P (λ n. block_meaning (context plan script) n b)
    script_block plan script b = block (context plan script) (script_routines plan script) b

-- keeping a word uses no answer
pub keeps_answers : (g : Option (List ℕ)) (w : ℕ) (r : Reply) (s : State) → (keep_word g w r s).answers ≡ s.answers
keeps_answers None w r s = go r.q
  where
    go : (b : Bool) → (if b then with_word (kept w r) s else s).answers ≡ s.answers
    go true = refl
    go false = refl
keeps_answers (Some ws) w r s = refl

module _ {X : Type 0} (step : X → Piece → X) (S : X → Piece → Type 0) (P : X → Stop → State → Type 0) where
  pub then_meets : {A B : Type 0} (Q : X → A → Type 0) (R : X → B → Type 0) (x : X) (b : Behaviour A) (go : A → Behaviour B) → Meets step S P Q x b → ((y : X) (a : A) → Q y a → Meets step S P R y (go a)) → Meets step S P R x (then_do b go)
  then_meets Q R x (does p b) go h g = (h.0, then_meets Q R (step x p) b go h.1 g)
  then_meets Q R x (ends a) go h g = g x a h
  then_meets Q R x (stops w s) go h g = h

  pub weaker : {A : Type 0} (Q R : X → A → Type 0) (x : X) (b : Behaviour A) → Meets step S P Q x b → ((y : X) (a : A) → Q y a → R y a) → Meets step S P R x b
  weaker Q R x (does p b) h g = (h.0, weaker Q R (step x p) b h.1 g)
  weaker Q R x (ends a) h g = g x a h
  weaker Q R x (stops w s) h g = h

  module _ (Q : X → State → Type 0) (x : X) where
    pub given_meets : {A : Type 0} (o : Option A) (go : A → Action) (s : State) → (o ≡ None → P x wrong s) → ((v : A) → o ≡ Some v → Meets step S P Q x (go v s)) → Meets step S P Q x (given o go s)
    given_meets None go s bad h = bad refl
    given_meets (Some v) go s bad h = h v refl

    pub decide_meets : (o : Option Bool) (a b : Action) (s : State) → (o ≡ None → P x wrong s) → (o ≡ Some true → Meets step S P Q x (a s)) → (o ≡ Some false → Meets step S P Q x (b s)) → Meets step S P Q x (decide o a b s)
    decide_meets None a b s bad h g = bad refl
    decide_meets (Some true) a b s bad h g = h refl
    decide_meets (Some false) a b s bad h g = g refl

    pub unless_meets : (b : Bool) (go : Action) (s : State) → (b ≡ false → P x wrong s) → (b ≡ true → Meets step S P Q x (go s)) → Meets step S P Q x (unless_wrong b go s)
    unless_meets true go s bad h = h refl
    unless_meets false go s bad h = bad refl

    -- an answer that is left, whose wait is permitted or not
    made_meets : (b : Bool) (c : ℕ) (a : Answer) (rest : List Answer) (go : Answer → List Answer → Action) (s : State) → (b ≡ false → P x (overrun c a.wait) s) → (b ≡ true → Meets step S P Q x (go a rest s)) → Meets step S P Q x (follow c (if b then answered a rest else too_long a.wait) go s)
    made_meets true c a rest go s bad h = h refl
    made_meets false c a rest go s bad h = bad refl

    -- in a crate of the plan
    next_meets : (c waits : ℕ) (l : Bool) (answers : List Answer) (go : Answer → List Answer → Action) (s : State) → (answers ≡ [] → P x short s) → ((a : Answer) (rest : List Answer) → answers ≡ a ∷ rest → permitted l waits a.wait ≡ false → P x (overrun c a.wait) s) → ((a : Answer) (rest : List Answer) → answers ≡ a ∷ rest → permitted l waits a.wait ≡ true → Meets step S P Q x (go a rest s)) → Meets step S P Q x (follow c (outcome (Some waits) l answers) go s)
    next_meets c waits l [] go s no_answer no_wait h = no_answer refl
    next_meets c waits l (a ∷ rest) go s no_answer no_wait h = made_meets (permitted l waits a.wait) c a rest go s (no_wait a rest refl) (h a rest refl)

    -- where no answer is left
    last_meets : (c : ℕ) (o : Option ℕ) (l : Bool) (go : Answer → List Answer → Action) (s : State) → (o ≡ None → P x wrong s) → P x short s → Meets step S P Q x (follow c (outcome o l []) go s)
    last_meets c None l go s no_crate no_answer = no_crate refl
    last_meets c (Some waits) l go s no_crate no_answer = no_answer

    -- where one is left
    one_meets : (c : ℕ) (o : Option ℕ) (l : Bool) (a : Answer) (rest : List Answer) (go : Answer → List Answer → Action) (s : State) → (o ≡ None → P x wrong s) → ((waits : ℕ) → o ≡ Some waits → permitted l waits a.wait ≡ false → P x (overrun c a.wait) s) → ((waits : ℕ) → o ≡ Some waits → permitted l waits a.wait ≡ true → Meets step S P Q x (go a rest s)) → Meets step S P Q x (follow c (outcome o l (a ∷ rest)) go s)
    one_meets c None l a rest go s no_crate no_wait h = no_crate refl
    one_meets c (Some waits) l a rest go s no_crate no_wait h = made_meets (permitted l waits a.wait) c a rest go s (no_wait waits refl) (h waits refl)

    pub cycle_meets : (plan : Layout) (at : Address) (f : ℕ) (d : DataMove) (answers : List Answer) (go : Reply → Action) (s : State) → (crate_waits plan at.crate_no ≡ None → P x wrong s) → (answers ≡ [] → P x short s) → ((waits : ℕ) (a : Answer) (rest : List Answer) → crate_waits plan at.crate_no ≡ Some waits → answers ≡ a ∷ rest → permitted (s.branch at.crate_no).locked waits a.wait ≡ false → P x (overrun at.crate_no a.wait) s) → ((waits : ℕ) (a : Answer) (rest : List Answer) → crate_waits plan at.crate_no ≡ Some waits → answers ≡ a ∷ rest → permitted (s.branch at.crate_no).locked waits a.wait ≡ true → Meets step S P Q x (make_cycle plan at f d go a rest s)) → Meets step S P Q x (cycle plan at f d answers go s)
    cycle_meets plan at f d [] go s no_crate no_answer no_wait h =
        last_meets at.crate_no (crate_waits plan at.crate_no) (s.branch at.crate_no).locked (make_cycle plan at f d go) s no_crate (no_answer refl)
    cycle_meets plan at f d (a ∷ rest) go s no_crate no_answer no_wait h =
        one_meets at.crate_no (crate_waits plan at.crate_no) (s.branch at.crate_no).locked a rest (make_cycle plan at f d go) s no_crate (λ waits e. no_wait waits a rest e refl) (λ waits e. h waits a rest e refl)

    pub lock_meets : (c waits : ℕ) (l : Bool) (body : Action) (s : State) → (l ≡ true → P x wrong s) → (s.answers ≡ [] → P x short s) → ((a : Answer) (rest : List Answer) → s.answers ≡ a ∷ rest → permitted false waits a.wait ≡ false → P x (overrun c a.wait) s) → ((a : Answer) (rest : List Answer) → l ≡ false → s.answers ≡ a ∷ rest → permitted false waits a.wait ≡ true → S x (lock_taken c a.wait) × Meets step S P Q (step x (lock_taken c a.wait)) (body (after_lock c a.wait rest s))) → Meets step S P Q x (take_lock c waits l body s)
    lock_meets c waits true body s bad no_answer no_wait h = bad refl
    lock_meets c waits false body s bad no_answer no_wait h =
        next_meets c waits false s.answers (λ a rest t. does (lock_taken c a.wait) (body (after_lock c a.wait rest t))) s no_answer no_wait (λ a rest e p. h a rest refl e p)

    pub enter_meets : (body : Action) (vs : List ℕ) (s : State) → Meets step S P (λ y t. Q y (returned s t)) x (body (entered vs s)) → Meets step S P Q x (enter body vs s)
    enter_meets body vs s h = then_meets (λ y t. Q y (returned s t)) Q x (body (entered vs s)) (λ t. ends (returned s t)) h (λ y t q. q)

  -- the state after a cycle of a transfer
  abbrev pub after_one : Layout → Address → ℕ → Option (List ℕ) → Reply → ℕ → List Answer → State → State
  after_one plan at f g r wait rest s = stepped (keep_word g (width plan at f) r (after_cycle at f r wait rest s))

  -- an invariant on all Q so far and the state, kept from cycle to cycle of a transfer
  pub record Carries (plan : Layout) (f : ℕ) (g : Option (List ℕ)) (next_address : NextAddress) (I : X → List Bool → State → Type 0) : Type 0 where
    pub no_word : (x : X) (qs : List Bool) (s : State) (at : Address) → I x qs s → next_address qs ≡ Some at → transfer_data g qs ≡ None → P x wrong s
    pub no_crate : (x : X) (qs : List Bool) (s : State) (at : Address) → I x qs s → next_address qs ≡ Some at → crate_waits plan at.crate_no ≡ None → P x wrong s
    pub no_answer : (x : X) (qs : List Bool) (s : State) (at : Address) → I x qs s → next_address qs ≡ Some at → s.answers ≡ [] → P x short s
    pub no_wait : (x : X) (qs : List Bool) (s : State) (at : Address) (waits : ℕ) (a : Answer) (rest : List Answer) → I x qs s → next_address qs ≡ Some at → crate_waits plan at.crate_no ≡ Some waits → s.answers ≡ a ∷ rest → permitted (s.branch at.crate_no).locked waits a.wait ≡ false → P x (overrun at.crate_no a.wait) s
    pub keeps : (x : X) (qs : List Bool) (s : State) (at : Address) (d : DataMove) (waits : ℕ) (a : Answer) (rest : List Answer) → I x qs s → next_address qs ≡ Some at → transfer_data g qs ≡ Some d → crate_waits plan at.crate_no ≡ Some waits → s.answers ≡ a ∷ rest → permitted (s.branch at.crate_no).locked waits a.wait ≡ true
        → S x (cycled at f d (reply_to plan s.branch at f a) a.wait) × I (step x (cycled at f d (reply_to plan s.branch at f a) a.wait)) (qs ++ (reply_to plan s.branch at f a).q ∷ []) (after_one plan at f g (reply_to plan s.branch at f a) a.wait rest s)

  module _ (Q : X → State → Type 0) (plan : Layout) (f : ℕ) (g : Option (List ℕ)) (next_address : NextAddress) (finish : List Bool → Action) (I : X → List Bool → State → Type 0) (k : Carries plan f g next_address I) (h : (x : X) (qs : List Bool) (s : State) → I x qs s → next_address qs ≡ None → Meets step S P Q x (finish qs s)) where
    pub transfer_meets : (answers : List Answer) (x : X) (qs : List Bool) (s : State) → s.answers ≡ answers → I x qs s → Meets step S P Q x (transfer plan f g next_address finish qs answers s)
    transfer_meets [] x qs s e i = go (next_address qs) refl
      where
        go : (o : Option Address) → next_address qs ≡ o → Meets step S P Q x (request o (λ at. given (transfer_data g qs) (λ d. cycle plan at f d [] (λ r. stops short))) (finish qs) s)
        go None w = h x qs s i w
        go (Some at) w =
            given_meets Q x (transfer_data g qs) (λ d. cycle plan at f d [] (λ r. stops short)) s (k.no_word x qs s at i w) (λ d y.
            last_meets Q x at.crate_no (crate_waits plan at.crate_no) (s.branch at.crate_no).locked (make_cycle plan at f d (λ r. stops short)) s (k.no_crate x qs s at i w) (k.no_answer x qs s at i w e))
    transfer_meets (b ∷ bs) x qs s e i = go (λ x' qs' t. transfer_meets bs x' qs' t) (next_address qs) refl
      where
        go : ((x' : X) (qs' : List Bool) (t : State) → t.answers ≡ bs → I x' qs' t → Meets step S P Q x' (transfer plan f g next_address finish qs' bs t)) → (o : Option Address) → next_address qs ≡ o → Meets step S P Q x (request o (λ at. given (transfer_data g qs) (λ d. cycle plan at f d (b ∷ bs) (λ r u. transfer plan f g next_address finish (qs ++ r.q ∷ []) bs (stepped (keep_word g (width plan at f) r u))))) (finish qs) s)
        go ih None w = h x qs s i w
        go ih (Some at) w =
            let next' : Reply → Action = λ r u. transfer plan f g next_address finish (qs ++ r.q ∷ []) bs (stepped (keep_word g (width plan at f) r u)) in
            given_meets Q x (transfer_data g qs) (λ d. cycle plan at f d (b ∷ bs) next') s (k.no_word x qs s at i w) (λ d y.
            one_meets Q x at.crate_no (crate_waits plan at.crate_no) (s.branch at.crate_no).locked b bs (make_cycle plan at f d next') s (k.no_crate x qs s at i w) (λ waits z. k.no_wait x qs s at waits b bs i w z e) (λ waits z p.
            let r : Reply = reply_to plan s.branch at f b in
            let one = k.keeps x qs s at d waits b bs i w y z e p in
            (one.0, ih (step x (cycled at f d r b.wait)) (qs ++ r.q ∷ []) (after_one plan at f g r b.wait bs s) (keeps_answers g (width plan at f) r (after_cycle at f r b.wait bs s)) one.1)))

  -- a `while` keeps an invariant on the turns that are allowed and the state
  module _ (Q : X → State → Type 0) (c : Condition) (body : Action) (I : X → ℕ → State → Type 0)
      (bad : (x : X) (n : ℕ) (s : State) → I x n s → truth c s.variables s.q s.x ≡ None → P x wrong s)
      (limit : (x : X) (s : State) → I x zero s → truth c s.variables s.q s.x ≡ Some true → P x more s)
      (turn : (x : X) (n : ℕ) (s : State) → I x (suc n) s → truth c s.variables s.q s.x ≡ Some true → Meets step S P (λ y. I y n) x (body (stepped s)))
      (out : (x : X) (n : ℕ) (s : State) → I x n s → truth c s.variables s.q s.x ≡ Some false → Q x s) where
    pub turns_meet : (n : ℕ) (x : X) (s : State) → I x n s → Meets step S P Q x (turns n c body s)
    turns_meet zero x s i =
        decide_meets Q x (truth c s.variables s.q s.x) (stops more) ends s (bad x zero s i) (λ e. limit x s i e) (λ e. out x zero s i e)
    turns_meet (suc n) x s i =
        decide_meets Q x (truth c s.variables s.q s.x) (λ t. then_do (body (stepped t)) (turns n c body)) ends s (bad x (suc n) s i)
        (λ e. then_meets (λ y. I y n) Q x (body (stepped s)) (turns n c body) (turn x n s i e) (λ y t j. turns_meet n y t j)) (λ e. out x (suc n) s i e)

  -- a `for` keeps an invariant on the turns to come, the next value and the state
  module _ (Q : X → State → Type 0) (v' last : ℕ) (body : Action) (I : X → ℕ → ℕ → State → Type 0)
      (limit : (x : X) (k v : ℕ) (s : State) → I x (suc k) v s → P x more s)
      (turn : (x : X) (k v : ℕ) (s : State) → I x (suc k) v s → Meets step S P (λ y. I y k (v + 1)) x (body (for_state v' v s)))
      (out : (x : X) (v : ℕ) (s : State) → I x zero v s → Q x (with_variable v' last s)) where
    pub counts_meet : (k n : ℕ) (x : X) (v : ℕ) (s : State) → I x k v s → Meets step S P Q x (for_turns k n v' v last body s)
    counts_meet zero n x v s i = out x v s i
    counts_meet (suc k) zero x v s i = limit x k v s i
    counts_meet (suc k) (suc n) x v s i =
        then_meets (λ y. I y k (v + 1)) Q x (body (for_state v' v s)) (for_turns k n v' (v + 1) last body) (turn x k v s i) (λ y t j. counts_meet k n y (v + 1) t j)

  -- the same where all its turns are allowed
  module _ (Q : X → State → Type 0) (v' last : ℕ) (body : Action) (I : X → ℕ → ℕ → State → Type 0)
      (turn : (x : X) (k v : ℕ) (s : State) → I x (suc k) v s → Meets step S P (λ y. I y k (v + 1)) x (body (for_state v' v s)))
      (out : (x : X) (v : ℕ) (s : State) → I x zero v s → Q x (with_variable v' last s)) where
    pub counts_meet_within : (k n : ℕ) → k ≤ n → (x : X) (v : ℕ) (s : State) → I x k v s → Meets step S P Q x (for_turns k n v' v last body s)
    counts_meet_within zero n le x v s i = out x v s i
    counts_meet_within (suc k) zero le x v s i = absurd (omega arith)
    counts_meet_within (suc k) (suc n) le x v s i =
        then_meets (λ y. I y k (v + 1)) Q x (body (for_state v' v s)) (for_turns k n v' (v + 1) last body) (turn x k v s i) (λ y t j. counts_meet_within k n (omega arith) y (v + 1) t j)
