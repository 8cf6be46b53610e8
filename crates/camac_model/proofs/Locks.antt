-- A statement that ends leaves each crate locked as it was. By the rules of Rules.antt, and an example of their use.
use Rattle.std.proofs.Common.{◌≡◌, ℕ, zero, suc, ◌+◌, ◌-◌, List, [], Option, Some, None, Bool, true, false, refl, sym, ◌∙◌, ap}
use Rattle.std.proofs.lemmas.Bool.{eqb-true}
use Rattle.std.specs.Prelude.{nat_eq, if◌then◌else◌, slice_get}
use Rattle.camac_lang.specs.declared.word.WordSize.{WordSize}
use Rattle.camac_lang.specs.declared.word.WordSize.TheVariants.{Full}
use Rattle.camac_lang.specs.Tree.{Condition, Move, no_data, into, from, Statement, assign, set_register, single, address_scan, q_stop, q_repeat, put, crate_call, lam_call, choose, choose_else, for_, for_each, while_, locked, call, Block, done, next}
use Rattle.camac_func.specs.declared.data.DataMove.{DataMove}
use Rattle.camac_func.specs.declared.data.DataMove.TheVariants as moved
use Rattle.camac_branch.specs.Address.{Address, address}
use Rattle.camac_branch.specs.Allowed.{width}
use Rattle.camac_crate.specs.declared.command.ControllerOp.{ControllerOp}
use Rattle.camac_crate.specs.Controller.{controller}
use Rattle.camac_crate.specs.State as crate_state
use Rattle.camac_branch.specs.Branch.{Branch, CrateNow, Reply, effect_in, branch_after, with_crate, with_lock, reply_to}
use Rattle.camac_branch.specs.Plan.{Layout, crate_waits}
use Rattle.camac_esone.specs.Transfers.{NextAddress, tally, q_stop_next, q_repeat_next, scan_next}
use Rattle.camac_model.specs.State.{State, stepped, fresh, with_variable, with_register, with_word}
use Rattle.camac_model.specs.Behaviour.{Piece, Behaviour, does, ends, stops, Stop, Action, then_do, given, unless_wrong}
use Rattle.camac_model.specs.Value.{value, values, truth}
use Rattle.camac_model.specs.Cycle.{after_cycle, cycle, sized, kept, after_lock, take_lock, release}
use Rattle.camac_model.specs.Transfer.{keep_word}
use Rattle.camac_model.specs.Meaning.{Context, crate_address, crate_function, lam_function, fits_size, act, transfer_to, sent, for_state, for_from, turns, entered, enter, effect, block_meaning, context}
use Rattle.camac_model.specs.Laws.{EndsWith, NoneLocked, ServicesUnlock}
use Rattle.camac_model.proofs.Rules.{AllRoutines, script_block, Meets, then_meets, weaker, given_meets, decide_meets, unless_meets, cycle_meets, lock_meets, enter_meets, after_one, transfer_meets, turns_meet, counts_meet}

-- each crate is locked in both or in neither
pub record SameLocks (b d : Branch) : Type 0 where
  pub at : (c : ℕ) → (d c).locked ≡ (b c).locked

same : (b : Branch) → SameLocks b b
same b = record { at = λ c. refl }

further : (a b d : Branch) → SameLocks a b → SameLocks b d → SameLocks a d
further a b d h g = record { at = λ c. g.at c ∙ h.at c }

-- a crate with the lock as it was
placed : (b : Branch) (c : ℕ) (k : CrateNow) → k.locked ≡ (b c).locked → SameLocks b (with_crate c k b)
placed b c k e = record { at = λ d. go d (nat_eq d c) refl }
  where
    go : (d : ℕ) (t : Bool) → nat_eq d c ≡ t → (if t then k else b d).locked ≡ (b d).locked
    go d true x = e ∙ ap (λ i. (b i).locked) (sym (eqb-true d c x))
    go d false x = refl

effects_lock : (b : Branch) (c : ℕ) (o : Option ControllerOp) → SameLocks b (effect_in c o b)
effects_lock b c None = same b
effects_lock b c (Some op) = placed b c (record (b c) { bits = crate_state.effect op (b c).bits }) refl

pub cycle_locks : (b : Branch) (at : Address) (f : ℕ) → SameLocks b (branch_after at f b)
cycle_locks b at f = effects_lock b at.crate_no (controller at.station at.sub_address f)

-- a crate that was free, locked for a while and released
held_locks : (b d : Branch) (c : ℕ) → (b c).locked ≡ false → SameLocks (with_lock c true b) d → SameLocks b (with_lock c false d)
held_locks b d c free h = record { at = λ i. go i (nat_eq i c) refl (h.at i) }
  where
    go : (i : ℕ) (t : Bool) → nat_eq i c ≡ t → (d i).locked ≡ (if t then record (b c) { locked = true } else b i).locked → (if t then record (d c) { locked = false } else d i).locked ≡ (b i).locked
    go i true x g = sym free ∙ ap (λ j. (b j).locked) (sym (eqb-true i c x))
    go i false x g = g

word_locks : (g : Option (List ℕ)) (w : ℕ) (r : Reply) (s : State) → SameLocks s.branch (keep_word g w r s).branch
word_locks None w r s = go r.q
  where
    go : (b : Bool) → SameLocks s.branch (if b then with_word (kept w r) s else s).branch
    go true = same s.branch
    go false = same s.branch
word_locks (Some ws) w r s = same s.branch

-- nothing is counted, and nothing said of pieces and stops
abbrev step : Unit {0} → Piece → Unit {0}
step x p = tt

abbrev AnyPiece : Unit {0} → Piece → Type 0
AnyPiece x p = Unit {0}

abbrev AnyStop : Unit {0} → Stop → State → Type 0
AnyStop x w s = Unit {0}

abbrev Keeps : State → Unit {0} → State → Type 0
Keeps s x t = SameLocks s.branch t.branch

-- what ends keeps the locks
abbrev Leaves : State → Behaviour State → Type 0
Leaves s b = Meets step AnyPiece AnyStop (Keeps s) tt b

cycle_leaves : (plan : Layout) (at : Address) (f : ℕ) (d : DataMove) (go : Reply → Action) (s : State) → ((r : Reply) (t : State) → SameLocks s.branch t.branch → Leaves s (go r t)) → Leaves s (cycle plan at f d s.answers go s)
cycle_leaves plan at f d go s h =
    cycle_meets step AnyPiece AnyStop (Keeps s) tt plan at f d s.answers go s (λ _. tt) (λ _. tt) (λ waits a rest _ _ _. tt) (λ waits a rest _ _ _.
    let r : Reply = reply_to plan s.branch at f a in
    (tt, h r (after_cycle at f r a.wait rest s) (cycle_locks s.branch at f)))

act_leaves : (plan : Layout) (at : Address) (f : ℕ) (size : WordSize) (m : Move) (s : State) → Leaves s (act plan at f size m s)
act_leaves plan at f size no_data s = cycle_leaves plan at f moved.None (λ r. ends) s (λ r t g. g)
act_leaves plan at f size (into x) s =
    cycle_leaves plan at f moved.In (λ r t. ends (with_variable x (kept (sized size (width plan at f)) r) t)) s (λ r t g. g)
act_leaves plan at f size (from e) s =
    let send : ℕ → Action = λ v t. cycle plan at f (moved.Out v) t.answers (λ r. ends) t in
    given_meets step AnyPiece AnyStop (Keeps s) tt (value e s.variables) (λ v. unless_wrong (fits_size size v) (send v)) s (λ _. tt) (λ v _.
    unless_meets step AnyPiece AnyStop (Keeps s) tt (fits_size size v) (send v) s (λ _. tt) (λ _. cycle_leaves plan at f (moved.Out v) (λ r. ends) s (λ r t g. g)))

transfer_leaves : (plan : Layout) (f : ℕ) (g : Option (List ℕ)) (next_address : NextAddress) (x : ℕ) (s : State) → Leaves s (transfer_to plan f g next_address x s)
transfer_leaves plan f g next_address x s =
    transfer_meets step AnyPiece AnyStop (Keeps s) plan f g next_address (λ qs t. ends (with_variable x (tally qs) t)) (λ _ qs t. SameLocks s.branch t.branch)
    (record {
      no_word = λ _ _ _ _ _ _ _. tt;
      no_crate = λ _ _ _ _ _ _ _. tt;
      no_answer = λ _ _ _ _ _ _ _. tt;
      no_wait = λ _ _ _ _ _ _ _ _ _ _ _ _. tt;
      keeps = λ _ qs t at d waits a rest i _ _ _ _ _.
          let r : Reply = reply_to plan t.branch at f a in
          let u : State = after_cycle at f r a.wait rest t in
          (tt, further s.branch u.branch (after_one step AnyPiece AnyStop plan at f g r a.wait rest t).branch (further s.branch t.branch u.branch i (cycle_locks t.branch at f)) (word_locks g (width plan at f) r u));
    })
    (λ _ qs t i _. i) s.answers tt [] s refl (same s.branch)

turns_leave : (n : ℕ) (c : Condition) (body : Action) → ((t : State) → Leaves t (body t)) → (s : State) → Leaves s (turns n c body s)
turns_leave n c body h s =
    turns_meet step AnyPiece AnyStop (Keeps s) c body (λ _ _ t. SameLocks s.branch t.branch) (λ _ _ _ _ _. tt) (λ _ _ _ _. tt)
    (λ _ _ t i _. weaker step AnyPiece AnyStop (Keeps (stepped t)) (Keeps s) tt (body (stepped t)) (h (stepped t)) (λ _ u g. further s.branch t.branch u.branch i g)) (λ _ _ t i _. i) n tt s (same s.branch)

counts_leave : (k n x v last : ℕ) (body : Action) → ((t : State) → Leaves t (body t)) → (s : State) → Leaves s (for_from k n x v last body s)
counts_leave zero n x v last body h s = same s.branch
counts_leave (suc k) n x v last body h s =
    counts_meet step AnyPiece AnyStop (Keeps s) x last body (λ _ _ _ t. SameLocks s.branch t.branch) (λ _ _ _ _ _. tt)
    (λ _ _ w t i. weaker step AnyPiece AnyStop (Keeps (for_state x w t)) (Keeps s) tt (body (for_state x w t)) (h (for_state x w t)) (λ _ u g. further s.branch t.branch u.branch i g)) (λ _ _ t i. i) (suc k) n tt v s (same s.branch)

abbrev LeavesWithin : (ℕ → Action) → Type 0
LeavesWithin body = (n : ℕ) (s : State) → Leaves s (body n s)

module _ (c : Context) (routines : AllRoutines LeavesWithin c) (n : ℕ) where
  given_leaves : {A : Type 0} (s : State) (o : Option A) (go : A → Action) → ((v : A) → o ≡ Some v → Leaves s (go v s)) → Leaves s (given o go s)
  given_leaves s o go h = given_meets step AnyPiece AnyStop (Keeps s) tt o go s (λ _. tt) h

  mutual
    statement_leaves : (st : Statement) (s : State) → Leaves s (effect c n st s)
    statement_leaves (assign spot x e) s = given_leaves s (value e s.variables) (λ v t. ends (with_variable x v t)) (λ v _. same s.branch)
    statement_leaves (set_register spot r e1 e2 e3) s =
        let third : ℕ → ℕ → ℕ → Action = λ k' m' a' t. ends (with_register r (address k' m' a') t) in
        let second : ℕ → ℕ → Action = λ k' m'. given (value e3 s.variables) (third k' m') in
        given_leaves s (value e1 s.variables) (λ k'. given (value e2 s.variables) (second k')) (λ k' _.
        given_leaves s (value e2 s.variables) (second k') (λ m' _.
        given_leaves s (value e3 s.variables) (third k' m') (λ a' _. same s.branch)))
    statement_leaves (single spot size f r d) s = given_leaves s (s.registers r) (λ at. act c.plan at f size d) (λ at _. act_leaves c.plan at f size d s)
    statement_leaves (address_scan spot f r1 r2 max x) s =
        let go : Address → Address → ℕ → Action = λ a b l. transfer_to c.plan f None (scan_next a b l) x in
        let third : Address → Address → ℕ → Action = λ a b l. unless_wrong (nat_eq a.crate_no b.crate_no) (go a b l) in
        let second : Address → Address → Action = λ a b. given (value max s.variables) (third a b) in
        given_leaves s (s.registers r1) (λ a. given (s.registers r2) (second a)) (λ a _.
        given_leaves s (s.registers r2) (second a) (λ b _.
        given_leaves s (value max s.variables) (third a b) (λ l _.
        unless_meets step AnyPiece AnyStop (Keeps s) tt (nat_eq a.crate_no b.crate_no) (go a b l) s (λ _. tt) (λ _. transfer_leaves c.plan f None (scan_next a b l) x s))))
    statement_leaves (q_stop spot f r g max x) s =
        let second : Option (List ℕ) → Address → ℕ → Action = λ table at l. transfer_to c.plan f table (q_stop_next at l) x in
        let first : Option (List ℕ) → Address → Action = λ table at. given (value max s.variables) (second table at) in
        given_leaves s (sent c g) (λ table. given (s.registers r) (first table)) (λ table _.
        given_leaves s (s.registers r) (first table) (λ at _.
        given_leaves s (value max s.variables) (second table at) (λ l _. transfer_leaves c.plan f table (q_stop_next at l) x s)))
    statement_leaves (q_repeat spot f r g max limit x) s =
        let third : Option (List ℕ) → Address → ℕ → ℕ → Action = λ table at l l'. transfer_to c.plan f table (q_repeat_next at l l') x in
        let second : Option (List ℕ) → Address → ℕ → Action = λ table at l. given (value limit s.variables) (third table at l) in
        let first : Option (List ℕ) → Address → Action = λ table at. given (value max s.variables) (second table at) in
        given_leaves s (sent c g) (λ table. given (s.registers r) (first table)) (λ table _.
        given_leaves s (s.registers r) (first table) (λ at _.
        given_leaves s (value max s.variables) (second table at) (λ l _.
        given_leaves s (value limit s.variables) (third table at l) (λ l' _. transfer_leaves c.plan f table (q_repeat_next at l l') x s))))
    statement_leaves (put spot e) s = given_leaves s (value e s.variables) (λ v t. ends (with_word v t)) (λ v _. same s.branch)
    statement_leaves (crate_call spot op e) s =
        given_leaves s (value e s.variables) (λ d. act c.plan (crate_address op d) (crate_function op) Full no_data) (λ d _. act_leaves c.plan (crate_address op d) (crate_function op) Full no_data s)
    statement_leaves (lam_call spot op l) s =
        given_leaves s (slice_get c.lams l) (λ at. act c.plan at (lam_function op) Full no_data) (λ at _. act_leaves c.plan at (lam_function op) Full no_data s)
    statement_leaves (choose spot test a) s =
        decide_meets step AnyPiece AnyStop (Keeps s) tt (truth test s.variables s.q s.x) (block_meaning c n a) ends s (λ _. tt) (λ _. block_leaves a s) (λ _. same s.branch)
    statement_leaves (choose_else spot test a b) s =
        decide_meets step AnyPiece AnyStop (Keeps s) tt (truth test s.variables s.q s.x) (block_meaning c n a) (block_meaning c n b) s (λ _. tt) (λ _. block_leaves a s) (λ _. block_leaves b s)
    statement_leaves (for_ spot x e1 e2 keeps body) s =
        let second : ℕ → ℕ → Action = λ v w. for_from (w + 1 - v) n x v w (block_meaning c n body) in
        given_leaves s (value e1 s.variables) (λ v. given (value e2 s.variables) (second v)) (λ v _.
        given_leaves s (value e2 s.variables) (second v) (λ w _. counts_leave (w + 1 - v) n x v w (block_meaning c n body) (λ t. block_leaves body t) s))
    statement_leaves (for_each spot x v last body) s = counts_leave (last + 1 - v) n x v last (block_meaning c n body) (λ t. block_leaves body t) s
    statement_leaves (while_ spot test m k keeps body) s = turns_leave n test (block_meaning c n body) (λ t. block_leaves body t) s
    statement_leaves (locked spot e body) s =
        let held : ℕ → Action = λ d u. then_do (block_meaning c n body u) (release d) in
        let go : ℕ → ℕ → Action = λ d waits t. take_lock d waits (t.branch d).locked (held d) t in
        given_leaves s (value e s.variables) (λ d. given (crate_waits c.plan d) (go d)) (λ d _.
        given_leaves s (crate_waits c.plan d) (go d) (λ waits _.
        lock_meets step AnyPiece AnyStop (Keeps s) tt d waits (s.branch d).locked (held d) s (λ _. tt) (λ _. tt) (λ a rest _ _. tt) (λ a rest free _ _.
        let t : State = after_lock d a.wait rest s in
        (tt, then_meets step AnyPiece AnyStop (Keeps t) (Keeps s) tt (block_meaning c n body t) (release d) (block_leaves body t) (λ _ u g. (tt, held_locks s.branch u.branch d free g))))))
    statement_leaves (call spot p es) s =
        given_leaves s (slice_get c.routines p) (λ r. given (values es s.variables) (λ vs. enter (r n) vs)) (λ r e.
        given_leaves s (values es s.variables) (λ vs. enter (r n) vs) (λ vs _.
        enter_meets step AnyPiece AnyStop (Keeps s) tt (r n) vs s (routines.each p r e n (entered vs s))))

    block_leaves : (b : Block) (s : State) → Leaves s (block_meaning c n b s)
    block_leaves done s = same s.branch
    block_leaves (next st rest) s =
        then_meets step AnyPiece AnyStop (Keeps s) (Keeps s) tt (effect c n st (stepped s)) (block_meaning c n rest) (statement_leaves st (stepped s)) (λ _ t g.
        weaker step AnyPiece AnyStop (Keeps t) (Keeps s) tt (block_meaning c n rest t) (block_leaves rest t) (λ _ u h. further s.branch t.branch u.branch g h))

none_locked : (b : Behaviour State) (s : State) → NoneLocked s → Leaves s b → EndsWith NoneLocked b
none_locked (does p b) s free h = none_locked b s free h.1
none_locked (ends t) s free h = λ c. h.at c ∙ free c
none_locked (stops w t) s free h = tt

pub services_unlock : ServicesUnlock
services_unlock plan script n v b answers =
    none_locked (block_meaning (context plan script) n v.body (fresh b answers)) (fresh b answers) (λ c. refl)
    (script_block LeavesWithin (λ c h b n s. block_leaves c h n b s) plan script v.body n (fresh b answers))
