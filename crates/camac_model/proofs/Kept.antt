-- What each single step keeps, of the pieces so far and the state, holds wherever a statement ends or stops.
use Rattle.std.proofs.Common.{◌≡◌, ℕ, zero, suc, ◌+◌, ◌-◌, List, [], ◌∷◌, Option, Some, None, Bool, true, false, refl}
use Rattle.std.specs.Prelude.{slice_get, nat_eq, if◌then◌else◌}
use Rattle.camac_lang.specs.declared.word.WordSize.{WordSize}
use Rattle.camac_lang.specs.declared.word.WordSize.TheVariants.{Full}
use Rattle.camac_lang.specs.Tree.{Condition, Move, no_data, into, from, Statement, assign, set_register, single, address_scan, q_stop, q_repeat, put, crate_call, lam_call, choose, choose_else, for_, for_each, while_, locked, call, Block, done, next, Script}
use Rattle.camac_func.specs.declared.data.DataMove.{DataMove}
use Rattle.camac_func.specs.declared.data.DataMove.TheVariants as moved
use Rattle.camac_branch.specs.Address.{Address, address}
use Rattle.camac_branch.specs.Allowed.{width}
use Rattle.camac_branch.specs.Branch.{Reply, Answer, reply_to}
use Rattle.camac_branch.specs.Plan.{Layout, crate_waits}
use Rattle.camac_esone.specs.Transfers.{NextAddress, tally, q_stop_next, q_repeat_next, scan_next}
use Rattle.camac_model.specs.State.{State, Variables, Registers, stepped, with_variable, with_register, with_word}
use Rattle.camac_model.specs.Behaviour.{Piece, cycled, lock_taken, lock_released, ends, Stop, Action, then_do, given, unless_wrong}
use Rattle.camac_model.specs.Value.{value, values, truth}
use Rattle.camac_model.specs.Cycle.{after_cycle, cycle, sized, kept, after_lock, take_lock, after_release, release}
use Rattle.camac_model.specs.Transfer.{keep_word}
use Rattle.camac_model.specs.Meaning.{Context, crate_address, crate_function, lam_function, fits_size, act, transfer_to, sent, for_state, for_from, turns, entered, returned, enter, effect, block_meaning, context}
use Rattle.camac_model.proofs.Rules.{AllRoutines, script_block, Meets, then_meets, given_meets, decide_meets, unless_meets, cycle_meets, lock_meets, transfer_meets, turns_meet, counts_meet}

module _ {X : Type 0} (step : X → Piece → X) (S : X → Piece → Type 0) (I : X → State → Type 0) where
  -- each single step keeps it, and S holds of its piece
  pub record IsStepwise : Type 0 where
    pub on_step : (x : X) (s : State) → I x s → I x (stepped s)
    pub on_store : (x : X) (env : Variables) (regs : Registers) (s : State) → I x s → I x (record s { variables = env; registers = regs })
    pub on_word : (x : X) (w : ℕ) (s : State) → I x s → I x (with_word w s)
    pub on_cycle : (x : X) (at : Address) (f : ℕ) (d : DataMove) (r : Reply) (a : Answer) (rest : List Answer) (s : State) → s.answers ≡ a ∷ rest → I x s → S x (cycled at f d r a.wait) × I (step x (cycled at f d r a.wait)) (after_cycle at f r a.wait rest s)
    pub on_lock : (x : X) (c : ℕ) (a : Answer) (rest : List Answer) (s : State) → s.answers ≡ a ∷ rest → (s.branch c).locked ≡ false → I x s → S x (lock_taken c a.wait) × I (step x (lock_taken c a.wait)) (after_lock c a.wait rest s)
    pub on_release : (x : X) (c : ℕ) (s : State) → I x s → S x (lock_released c) × I (step x (lock_released c)) (after_release c s)

  abbrev pub Still : X → Stop → State → Type 0
  Still x w s = I x s

  -- an action keeps it
  abbrev pub Keeps : Action → Type 0
  Keeps go = (x : X) (s : State) → I x s → Meets step S Still I x (go s)

  module _ (k : IsStepwise) where
    given_keeps : {A : Type 0} (o : Option A) (go : A → Action) (x : X) (s : State) → I x s → ((v : A) → o ≡ Some v → Meets step S Still I x (go v s)) → Meets step S Still I x (given o go s)
    given_keeps o go x s i h = given_meets step S Still I x o go s (λ _. i) h

    then_keeps : (a b : Action) → Keeps a → Keeps b → (x : X) (s : State) → I x s → Meets step S Still I x (then_do (a s) b)
    then_keeps a b h g x s i = then_meets step S Still I I x (a s) b (h x s i) g

    cycle_keeps : (plan : Layout) (at : Address) (f : ℕ) (d : DataMove) (go : Reply → Action) → ((r : Reply) → Keeps (go r)) → (x : X) (s : State) → I x s → Meets step S Still I x (cycle plan at f d s.answers go s)
    cycle_keeps plan at f d go h x s i =
        cycle_meets step S Still I x plan at f d s.answers go s (λ _. i) (λ _. i) (λ waits a rest e g p. i) (λ waits a rest e g p.
        let r : Reply = reply_to plan s.branch at f a in
        let one = k.on_cycle x at f d r a rest s g i in
        (one.0, h r (step x (cycled at f d r a.wait)) (after_cycle at f r a.wait rest s) one.1))

    word_keeps : (g : Option (List ℕ)) (w : ℕ) (r : Reply) (x : X) (s : State) → I x s → I x (keep_word g w r s)
    word_keeps None w r x s i = go r.q
      where
        go : (b : Bool) → I x (if b then with_word (kept w r) s else s)
        go true = k.on_word x (kept w r) s i
        go false = i
    word_keeps (Some ws) w r x s i = i

    act_keeps : (plan : Layout) (at : Address) (f : ℕ) (size : WordSize) (m : Move) → Keeps (act plan at f size m)
    act_keeps plan at f size no_data x s i = cycle_keeps plan at f moved.None (λ r. ends) (λ r y t j. j) x s i
    act_keeps plan at f size (into v) x s i =
        cycle_keeps plan at f moved.In (λ r t. ends (with_variable v (kept (sized size (width plan at f)) r) t)) (λ r y t j. k.on_store y _ _ t j) x s i
    act_keeps plan at f size (from e) x s i =
        let send : ℕ → Action = λ v t. cycle plan at f (moved.Out v) t.answers (λ r. ends) t in
        given_keeps (value e s.variables) (λ v. unless_wrong (fits_size size v) (send v)) x s i (λ v _.
        unless_meets step S Still I x (fits_size size v) (send v) s (λ _. i) (λ _. cycle_keeps plan at f (moved.Out v) (λ r. ends) (λ r y t j. j) x s i))

    transfer_keeps : (plan : Layout) (f : ℕ) (g : Option (List ℕ)) (next_address : NextAddress) (v : ℕ) → Keeps (transfer_to plan f g next_address v)
    transfer_keeps plan f g next_address v x s i =
        transfer_meets step S Still I plan f g next_address (λ qs t. ends (with_variable v (tally qs) t)) (λ y qs t. I y t)
        (record {
          no_word = λ y qs t at j _ _. j;
          no_crate = λ y qs t at j _ _. j;
          no_answer = λ y qs t at j _ _. j;
          no_wait = λ y qs t at waits a rest j _ _ _ _. j;
          keeps = λ y qs t at d waits a rest j _ _ _ e _.
              let r : Reply = reply_to plan t.branch at f a in
              let u : State = after_cycle at f r a.wait rest t in
              let z : X = step y (cycled at f d r a.wait) in
              let one = k.on_cycle y at f d r a rest t e j in
              (one.0, k.on_step z (keep_word g (width plan at f) r u) (word_keeps g (width plan at f) r z u one.1));
        })
        (λ y qs t j _. k.on_store y _ _ t j) s.answers x [] s refl i

    turns_keep : (n : ℕ) (c : Condition) (body : Action) → Keeps body → Keeps (turns n c body)
    turns_keep n c body h x s i =
        turns_meet step S Still I c body (λ y _ t. I y t) (λ y _ t j _. j) (λ y t j _. j)
        (λ y _ t j _. h y (stepped t) (k.on_step y t j)) (λ y _ t j _. j) n x s i

    count_keeps : (i n v first last : ℕ) (body : Action) → Keeps body → Keeps (for_from i n v first last body)
    count_keeps zero n v first last body h x s j = j
    count_keeps (suc i) n v first last body h x s j =
        counts_meet step S Still I v last body (λ y _ _ t. I y t) (λ y _ _ t j. j)
        (λ y _ w t j. h y (for_state v w t) (k.on_step y (with_variable v w t) (k.on_store y _ _ t j)))
        (λ y _ t j. k.on_store y _ _ t j) (suc i) n x first s j

    enter_keeps : (body : Action) → Keeps body → (vs : List ℕ) → Keeps (enter body vs)
    enter_keeps body h vs x s i =
        then_meets step S Still I I x (body (entered vs s)) (λ t. ends (returned s t)) (h x (entered vs s) (k.on_store x _ _ s i)) (λ y t j. k.on_store y s.variables s.registers t j)

    lock_keeps : (c waits : ℕ) (body : Action) → Keeps body → Keeps (λ s. take_lock c waits (s.branch c).locked body s)
    lock_keeps c waits body h x s i =
        lock_meets step S Still I x c waits (s.branch c).locked body s (λ _. i) (λ _. i) (λ a rest _ _. i) (λ a rest free e _.
        let one = k.on_lock x c a rest s e free i in
        (one.0, h (step x (lock_taken c a.wait)) (after_lock c a.wait rest s) one.1))

    release_keeps : (c : ℕ) → Keeps (release c)
    release_keeps c x s i = k.on_release x c s i

    abbrev pub KeepsWithin : (ℕ → Action) → Type 0
    KeepsWithin body = (n : ℕ) → Keeps (body n)

    module _ (c : Context) (routines : AllRoutines KeepsWithin c) (n : ℕ) where
      mutual
        statement_keeps : (st : Statement) → Keeps (effect c n st)
        statement_keeps (assign spot v e) x s i =
            given_keeps (value e s.variables) (λ w t. ends (with_variable v w t)) x s i (λ w _. k.on_store x _ _ s i)
        statement_keeps (set_register spot r e1 e2 e3) x s i =
            let third : ℕ → ℕ → ℕ → Action = λ k' m' a' t. ends (with_register r (address k' m' a') t) in
            let second : ℕ → ℕ → Action = λ k' m'. given (value e3 s.variables) (third k' m') in
            let first : ℕ → Action = λ k'. given (value e2 s.variables) (second k') in
            given_keeps (value e1 s.variables) first x s i (λ k' _.
            given_keeps (value e2 s.variables) (second k') x s i (λ m' _.
            given_keeps (value e3 s.variables) (third k' m') x s i (λ a' _. k.on_store x _ _ s i)))
        statement_keeps (single spot size f r d) x s i =
            given_keeps (s.registers r) (λ at. act c.plan at f size d) x s i (λ at _. act_keeps c.plan at f size d x s i)
        statement_keeps (address_scan spot f r1 r2 max v) x s i =
            let go : Address → Address → ℕ → Action = λ a b l. transfer_to c.plan f None (scan_next a b l) v in
            let third : Address → Address → ℕ → Action = λ a b l. unless_wrong (nat_eq a.crate_no b.crate_no) (go a b l) in
            let second : Address → Address → Action = λ a b. given (value max s.variables) (third a b) in
            given_keeps (s.registers r1) (λ a. given (s.registers r2) (second a)) x s i (λ a _.
            given_keeps (s.registers r2) (second a) x s i (λ b _.
            given_keeps (value max s.variables) (third a b) x s i (λ l _.
            unless_meets step S Still I x (nat_eq a.crate_no b.crate_no) (go a b l) s (λ _. i) (λ _. transfer_keeps c.plan f None (scan_next a b l) v x s i))))
        statement_keeps (q_stop spot f r g max v) x s i =
            let second : Option (List ℕ) → Address → ℕ → Action = λ table at l. transfer_to c.plan f table (q_stop_next at l) v in
            let first : Option (List ℕ) → Address → Action = λ table at. given (value max s.variables) (second table at) in
            given_keeps (sent c g) (λ table. given (s.registers r) (first table)) x s i (λ table _.
            given_keeps (s.registers r) (first table) x s i (λ at _.
            given_keeps (value max s.variables) (second table at) x s i (λ l _. transfer_keeps c.plan f table (q_stop_next at l) v x s i)))
        statement_keeps (q_repeat spot f r g max limit v) x s i =
            let third : Option (List ℕ) → Address → ℕ → ℕ → Action = λ table at l l'. transfer_to c.plan f table (q_repeat_next at l l') v in
            let second : Option (List ℕ) → Address → ℕ → Action = λ table at l. given (value limit s.variables) (third table at l) in
            let first : Option (List ℕ) → Address → Action = λ table at. given (value max s.variables) (second table at) in
            given_keeps (sent c g) (λ table. given (s.registers r) (first table)) x s i (λ table _.
            given_keeps (s.registers r) (first table) x s i (λ at _.
            given_keeps (value max s.variables) (second table at) x s i (λ l _.
            given_keeps (value limit s.variables) (third table at l) x s i (λ l' _. transfer_keeps c.plan f table (q_repeat_next at l l') v x s i))))
        statement_keeps (put spot e) x s i =
            given_keeps (value e s.variables) (λ w t. ends (with_word w t)) x s i (λ w _. k.on_word x w s i)
        statement_keeps (crate_call spot op e) x s i =
            given_keeps (value e s.variables) (λ d. act c.plan (crate_address op d) (crate_function op) Full no_data) x s i (λ d _. act_keeps c.plan (crate_address op d) (crate_function op) Full no_data x s i)
        statement_keeps (lam_call spot op l) x s i =
            given_keeps (slice_get c.lams l) (λ at. act c.plan at (lam_function op) Full no_data) x s i (λ at _. act_keeps c.plan at (lam_function op) Full no_data x s i)
        statement_keeps (choose spot test a) x s i =
            decide_meets step S Still I x (truth test s.variables s.q s.x) (block_meaning c n a) ends s (λ _. i) (λ _. block_keeps a x s i) (λ _. i)
        statement_keeps (choose_else spot test a b) x s i =
            decide_meets step S Still I x (truth test s.variables s.q s.x) (block_meaning c n a) (block_meaning c n b) s (λ _. i) (λ _. block_keeps a x s i) (λ _. block_keeps b x s i)
        statement_keeps (for_ spot v e1 e2 keeps body) x s i =
            let second : ℕ → ℕ → Action = λ first last. for_from (last + 1 - first) n v first last (block_meaning c n body) in
            given_keeps (value e1 s.variables) (λ first. given (value e2 s.variables) (second first)) x s i (λ first _.
            given_keeps (value e2 s.variables) (second first) x s i (λ last _.
            count_keeps (last + 1 - first) n v first last (block_meaning c n body) (λ y t j. block_keeps body y t j) x s i))
        statement_keeps (for_each spot v first last body) x s i = count_keeps (last + 1 - first) n v first last (block_meaning c n body) (λ y t j. block_keeps body y t j) x s i
        statement_keeps (while_ spot test turns' measure keeps body) x s i =
            turns_keep n test (block_meaning c n body) (λ y t j. block_keeps body y t j) x s i
        statement_keeps (locked spot e body) x s i =
            let held : ℕ → Action = λ d u. then_do (block_meaning c n body u) (release d) in
            let go : ℕ → ℕ → Action = λ d waits t. take_lock d waits (t.branch d).locked (held d) t in
            given_keeps (value e s.variables) (λ d. given (crate_waits c.plan d) (go d)) x s i (λ d _.
            given_keeps (crate_waits c.plan d) (go d) x s i (λ waits _.
            lock_keeps d waits (held d) (λ y t j. then_keeps (block_meaning c n body) (release d) (λ y t j. block_keeps body y t j) (release_keeps d) y t j) x s i))
        statement_keeps (call spot p es) x s i =
            given_keeps (slice_get c.routines p) (λ r. given (values es s.variables) (λ vs. enter (r n) vs)) x s i (λ r e.
            given_keeps (values es s.variables) (λ vs. enter (r n) vs) x s i (λ vs _. enter_keeps (r n) (routines.each p r e n) vs x s i))

        pub block_keeps : (b : Block) → Keeps (block_meaning c n b)
        block_keeps done x s i = i
        block_keeps (next st rest) x s i =
            then_keeps (λ t. effect c n st (stepped t)) (block_meaning c n rest) (λ y t j. statement_keeps st y (stepped t) (k.on_step y t j)) (λ y t j. block_keeps rest y t j) x s i

    -- each block of a script keeps it
    pub script_keeps : (plan : Layout) (script : Script) (b : Block) (n : ℕ) → Keeps (block_meaning (context plan script) n b)
    script_keeps plan script b = script_block KeepsWithin (λ c h b n. block_keeps c h n b) plan script b
