-- More turns and more answers: of behaviours, of blocks and of runs.
use Rattle.std.proofs.Common.{◌≡◌, ℕ, zero, suc, ◌+◌, ◌≤◌, List, [], ◌∷◌, ◌++◌, Option, Some, None, Bool, true, false, refl, sym, ap, subst, arith, ◌≢◌, length, drop, ◌∙◌, append_assoc, length-append, ◌-◌}
use Rattle.std.proofs.lemmas.List.{append-nil}
use Rattle.std.specs.Prelude.{if◌then◌else◌, slice_get, nat_eq}
use Rattle.camac_lang.specs.declared.word.WordSize.{WordSize}
use Rattle.camac_lang.specs.Tree.{Condition, Move, no_data, into, from, done, next, Script, Statement, assign, set_register, single, address_scan, q_stop, q_repeat, put, crate_call, lam_call, choose, choose_else, for_, for_each, while_, locked, call, Block}
use Rattle.camac_lang.specs.declared.word.WordSize.TheVariants.{Full}
use Rattle.camac_func.specs.declared.data.DataMove.{DataMove}
use Rattle.camac_func.specs.declared.data.DataMove.TheVariants as moved
use Rattle.camac_branch.specs.Address.{Address, address}
use Rattle.camac_branch.specs.Allowed.{width}
use Rattle.camac_branch.specs.Branch.{Reply, Answer, reply_to, pattern_of, Branch, start}
use Rattle.camac_branch.specs.Plan.{Layout, crate_waits}
use Rattle.camac_crate.specs.Lock.{permitted}
use Rattle.camac_esone.specs.Transfers.{NextAddress, tally, q_stop_next, q_repeat_next, scan_next}
use Rattle.camac_model.specs.State.{State, stepped, with_word, with_variable, fresh, with_register}
use Rattle.camac_model.specs.Behaviour.{Behaviour, does, ends, stops, Stop, short, more, Action, then_do, given, decide, unless_wrong, lock_taken, uses, overrun, wrong, reached, stop_of, Piece, pieces, item_of, items_in, event_in, events_in, event_left}
use Rattle.camac_model.specs.Value.{value, truth, values}
use Rattle.camac_model.specs.Cycle.{too_long, answered, outcome, follow, after_cycle, make_cycle, cycle, kept, sized, after_lock, take_lock, after_release, release}
use Rattle.camac_model.specs.Transfer.{transfer_data, keep_word, request, transfer}
use Rattle.camac_model.specs.Meaning.{fits_size, act, transfer_to, for_state, for_turns, for_from, turns, entered, returned, enter, effect, block_meaning, context, Context, crate_address, crate_function, lam_function, sent}
use Rattle.camac_model.specs.Laws.{longer, Extends, SameEnd, ThenDoAssociates, BlocksCompose, RunEnd, is_short, EndsWith, TurnsSuffice, RunTurnsSuffice, AnswersExtend, RunAnswersExtend, RunsGoOn}
use Rattle.camac_model.specs.Run.{Chosen, service_for, service_meaning, event_of, serve, rounds, run}
use Rattle.camac_model.proofs.Counts.{services_count}
use Rattle.camac_model.proofs.Rules.{AllRoutines, script_block}
use mathlib.Core.Path.{fun_ext}

-- With more turns and more answers a behaviour does the same, or goes on from a stop that is open.

-- which stops are open, how many turns are allowed before and after, and the answers that are added
pub record Further (open' : Stop → Bool) (n m : ℕ) (bs : List Answer) : Type 0 where
  pub turns : n ≤ m
  pub same_turns : open' more ≡ false → n ≡ m
  pub same_answers : open' short ≡ false → bs ≡ []

fewer : {open' : Stop → Bool} {bs : List Answer} (n m : ℕ) → Further open' (suc n) (suc m) bs → Further open' n m bs
fewer n m k = record {
  turns = let le = k.turns in omega arith;
  same_turns = λ e. let same = k.same_turns e in omega arith;
  same_answers = k.same_answers;
}

module _ (open' : Stop → Bool) (bs : List Answer) where
  abbrev pub Goes : Behaviour State → Behaviour State → Type 0
  Goes a b = Extends (SameEnd bs) open' bs a b

  pub then_extends : {A : Type 0} (E : A → Behaviour A → Type 0) (a b : Behaviour State) (go go' : State → Behaviour A) → Goes a b → ((t : State) → Extends E open' bs (go t) (go' (longer bs t))) → Extends E open' bs (then_do a go) (then_do b go')
  then_extends E (does p a) b go go' h f = (then_do h.0 go', ap (λ o. then_do o go') h.1, then_extends E a h.0 go go' h.2 f)
  then_extends E (ends t) b go go' h f = subst (λ o. Extends E open' bs (go t) (then_do o go')) (sym h) (f t)
  then_extends E (stops w s) b go go' h f = λ e. ap (λ o. then_do o go') (h e)

  pub given_extends : {A : Type 0} (o : Option A) (go go' : A → Action) (s : State) → ((v : A) → o ≡ Some v → Goes (go v s) (go' v (longer bs s))) → Goes (given o go s) (given o go' (longer bs s))
  given_extends None go go' s h = λ e. refl
  given_extends (Some v) go go' s h = h v refl

  pub decide_extends : (o : Option Bool) (a a' b b' : Action) (s : State) → Goes (a s) (a' (longer bs s)) → Goes (b s) (b' (longer bs s)) → Goes (decide o a b s) (decide o a' b' (longer bs s))
  decide_extends None a a' b b' s h g = λ e. refl
  decide_extends (Some true) a a' b b' s h g = h
  decide_extends (Some false) a a' b b' s h g = g

  pub unless_extends : (b : Bool) (go go' : Action) (s : State) → Goes (go s) (go' (longer bs s)) → Goes (unless_wrong b go s) (unless_wrong b go' (longer bs s))
  unless_extends true go go' s h = h
  unless_extends false go go' s h = λ e. refl

  -- an answer that is left, whose wait is permitted or not
  made_extends : (b : Bool) (c : ℕ) (a : Answer) (rest : List Answer) (go go' : Answer → List Answer → Action) (s : State) → Goes (go a rest s) (go' a (rest ++ bs) (longer bs s)) → Goes (follow c (if b then answered a rest else too_long a.wait) go s) (follow c (if b then answered a (rest ++ bs) else too_long a.wait) go' (longer bs s))
  made_extends true c a rest go go' s h = h
  made_extends false c a rest go go' s h = λ e. refl

  -- no answer is left; cs are those that were added
  last_extends : (c : ℕ) (o : Option ℕ) (l : Bool) (cs : List Answer) (go go' : Answer → List Answer → Action) (s : State) → (open' short ≡ false → cs ≡ []) → Goes (follow c (outcome o l []) go s) (follow c (outcome o l cs) go' (longer bs s))
  last_extends c None l cs go go' s closed = λ e. refl
  last_extends c (Some waits) l cs go go' s closed = λ e. ap (λ cs'. follow c (outcome (Some waits) l cs') go' (longer bs s)) (closed e)

  pub next_extends : (closed : open' short ≡ false → bs ≡ []) (c : ℕ) (o : Option ℕ) (l : Bool) (answers : List Answer) (go go' : Answer → List Answer → Action) (s : State) → ((a : Answer) (rest : List Answer) → answers ≡ a ∷ rest → Goes (go a rest s) (go' a (rest ++ bs) (longer bs s))) → Goes (follow c (outcome o l answers) go s) (follow c (outcome o l (answers ++ bs)) go' (longer bs s))
  next_extends closed c o l [] go go' s h = last_extends c o l bs go go' s closed
  next_extends closed c None l (a ∷ rest) go go' s h = λ e. refl
  next_extends closed c (Some waits) l (a ∷ rest) go go' s h = made_extends (permitted l waits a.wait) c a rest go go' s (h a rest refl)

  -- what follows a cycle
  abbrev Follows : List Answer → (Reply → Action) → (Reply → Action) → Type 0
  Follows answers go go' = (r : Reply) (t : State) (a : Answer) → answers ≡ a ∷ t.answers → Goes (go r t) (go' r (longer bs t))

  pub cycle_extends : (closed : open' short ≡ false → bs ≡ []) (plan : Layout) (at : Address) (f : ℕ) (d : DataMove) (answers : List Answer) (go go' : Reply → Action) (s : State) → Follows answers go go' → Goes (cycle plan at f d answers go s) (cycle plan at f d (answers ++ bs) go' (longer bs s))
  cycle_extends closed plan at f d answers go go' s h =
      next_extends closed at.crate_no (crate_waits plan at.crate_no) (s.branch at.crate_no).locked answers (make_cycle plan at f d go) (make_cycle plan at f d go') s (λ a rest e.
      let r : Reply = reply_to plan s.branch at f a in
      (go' r (longer bs (after_cycle at f r a.wait rest s)), refl, h r (after_cycle at f r a.wait rest s) a e))

  keep_longer : (g : Option (List ℕ)) (w : ℕ) (r : Reply) (s : State) → longer bs (keep_word g w r s) ≡ keep_word g w r (longer bs s)
  keep_longer None w r s = go r.q
    where
      go : (b : Bool) → longer bs (if b then with_word (kept w r) s else s) ≡ (if b then with_word (kept w r) (longer bs s) else longer bs s)
      go true = refl
      go false = refl
  keep_longer (Some ws) w r s = refl

  module _ (closed : open' short ≡ false → bs ≡ []) (plan : Layout) (f : ℕ) (g : Option (List ℕ)) (next_address : NextAddress) (finish finish' : List Bool → Action) (h : (qs : List Bool) (t : State) → Goes (finish qs t) (finish' qs (longer bs t))) where
    -- where no answer is left, against the answers that were added
    at_last : (cs : List Answer) → (open' short ≡ false → cs ≡ []) → (qs : List Bool) (s : State) → Goes (transfer plan f g next_address finish qs [] s) (transfer plan f g next_address finish' qs cs (longer bs s))
    at_last [] closed' qs s = go (next_address qs)
      where
        go : (o : Option Address) → Goes (request o (λ at. given (transfer_data g qs) (λ d. cycle plan at f d [] (λ r. stops short))) (finish qs) s) (request o (λ at. given (transfer_data g qs) (λ d. cycle plan at f d [] (λ r. stops short))) (finish' qs) (longer bs s))
        go None = h qs s
        go (Some at) =
            given_extends (transfer_data g qs) (λ d. cycle plan at f d [] (λ r. stops short)) (λ d. cycle plan at f d [] (λ r. stops short)) s (λ d _.
            last_extends at.crate_no (crate_waits plan at.crate_no) (s.branch at.crate_no).locked [] (make_cycle plan at f d (λ r. stops short)) (make_cycle plan at f d (λ r. stops short)) s closed')
    at_last (c ∷ rest) closed' qs s = go (next_address qs)
      where
        go : (o : Option Address) → Goes (request o (λ at. given (transfer_data g qs) (λ d. cycle plan at f d [] (λ r. stops short))) (finish qs) s) (request o (λ at. given (transfer_data g qs) (λ d. cycle plan at f d (c ∷ rest) (λ r u. transfer plan f g next_address finish' (qs ++ r.q ∷ []) rest (stepped (keep_word g (width plan at f) r u))))) (finish' qs) (longer bs s))
        go None = h qs s
        go (Some at) =
            let next' : Reply → Action = λ r u. transfer plan f g next_address finish' (qs ++ r.q ∷ []) rest (stepped (keep_word g (width plan at f) r u)) in
            given_extends (transfer_data g qs) (λ d. cycle plan at f d [] (λ r. stops short)) (λ d. cycle plan at f d (c ∷ rest) next') s (λ d _.
            last_extends at.crate_no (crate_waits plan at.crate_no) (s.branch at.crate_no).locked (c ∷ rest) (make_cycle plan at f d (λ r. stops short)) (make_cycle plan at f d next') s closed')

    pub transfer_extends : (answers : List Answer) (qs : List Bool) (s : State) → Goes (transfer plan f g next_address finish qs answers s) (transfer plan f g next_address finish' qs (answers ++ bs) (longer bs s))
    transfer_extends [] qs s = at_last bs closed qs s
    transfer_extends (c ∷ rest) qs s = go (λ qs' t. transfer_extends rest qs' t) (next_address qs)
      where
        go : ((qs' : List Bool) (t : State) → Goes (transfer plan f g next_address finish qs' rest t) (transfer plan f g next_address finish' qs' (rest ++ bs) (longer bs t))) → (o : Option Address) → Goes (request o (λ at. given (transfer_data g qs) (λ d. cycle plan at f d (c ∷ rest) (λ r u. transfer plan f g next_address finish (qs ++ r.q ∷ []) rest (stepped (keep_word g (width plan at f) r u))))) (finish qs) s) (request o (λ at. given (transfer_data g qs) (λ d. cycle plan at f d (c ∷ (rest ++ bs)) (λ r u. transfer plan f g next_address finish' (qs ++ r.q ∷ []) (rest ++ bs) (stepped (keep_word g (width plan at f) r u))))) (finish' qs) (longer bs s))
        go ih None = h qs s
        go ih (Some at) =
            let w : ℕ = width plan at f in
            let next' : Reply → Action = λ r u. transfer plan f g next_address finish (qs ++ r.q ∷ []) rest (stepped (keep_word g w r u)) in
            let next'' : Reply → Action = λ r u. transfer plan f g next_address finish' (qs ++ r.q ∷ []) (rest ++ bs) (stepped (keep_word g w r u)) in
            given_extends (transfer_data g qs) (λ d. cycle plan at f d (c ∷ rest) next') (λ d. cycle plan at f d (c ∷ (rest ++ bs)) next'') s (λ d _.
            cycle_extends closed plan at f d (c ∷ rest) next' next'' s (λ r t a e.
            subst (λ u. Goes (next' r t) (transfer plan f g next_address finish' (qs ++ r.q ∷ []) (rest ++ bs) (stepped u))) (keep_longer g w r t)
            (ih (qs ++ r.q ∷ []) (stepped (keep_word g w r t)))))

  module _ (closed : open' short ≡ false → bs ≡ []) where
    pub act_extends : (plan : Layout) (at : Address) (f : ℕ) (size : WordSize) (m : Move) (s : State) → Goes (act plan at f size m s) (act plan at f size m (longer bs s))
    act_extends plan at f size no_data s =
        cycle_extends closed plan at f moved.None s.answers (λ r. ends) (λ r. ends) s (λ r t a e. refl)
    act_extends plan at f size (into x) s =
        let keep : Reply → Action = λ r t. ends (with_variable x (kept (sized size (width plan at f)) r) t) in
        cycle_extends closed plan at f moved.In s.answers keep keep s (λ r t a e. refl)
    act_extends plan at f size (from e) s =
        let send : ℕ → Action = λ v t. cycle plan at f (moved.Out v) t.answers (λ r. ends) t in
        given_extends (value e s.variables) (λ v. unless_wrong (fits_size size v) (send v)) (λ v. unless_wrong (fits_size size v) (send v)) s (λ v _.
        unless_extends (fits_size size v) (send v) (send v) s (cycle_extends closed plan at f (moved.Out v) s.answers (λ r. ends) (λ r. ends) s (λ r t a e. refl)))

    pub transfer_to_extends : (plan : Layout) (f : ℕ) (g : Option (List ℕ)) (next_address : NextAddress) (x : ℕ) (s : State) → Goes (transfer_to plan f g next_address x s) (transfer_to plan f g next_address x (longer bs s))
    transfer_to_extends plan f g next_address x s =
        let finish : List Bool → Action = λ qs t. ends (with_variable x (tally qs) t) in
        transfer_extends closed plan f g next_address finish finish (λ qs t. refl) s.answers [] s

    pub lock_extends : (c waits : ℕ) (l : Bool) (body body' : Action) → ((t : State) → Goes (body t) (body' (longer bs t))) → (s : State) → Goes (take_lock c waits l body s) (take_lock c waits l body' (longer bs s))
    lock_extends c waits true body body' h s = λ e. refl
    lock_extends c waits false body body' h s =
        next_extends closed c (Some waits) false s.answers (λ a rest t. does (lock_taken c a.wait) (body (after_lock c a.wait rest t))) (λ a rest t. does (lock_taken c a.wait) (body' (after_lock c a.wait rest t))) s (λ a rest e.
        (body' (longer bs (after_lock c a.wait rest s)), refl, h (after_lock c a.wait rest s)))

  pub enter_extends : (body body' : Action) → ((t : State) → Goes (body t) (body' (longer bs t))) → (vs : List ℕ) (s : State) → Goes (enter body vs s) (enter body' vs (longer bs s))
  enter_extends body body' h vs s =
      then_extends (SameEnd bs) (body (entered vs s)) (body' (longer bs (entered vs s))) (λ t. ends (returned s t)) (λ t. ends (returned (longer bs s) t)) (h (entered vs s)) (λ t. refl)

  counts_extend : (i n m : ℕ) → Further open' n m bs → (x v last : ℕ) (body body' : Action) → ((t : State) → Goes (body t) (body' (longer bs t))) → (s : State) → Goes (for_turns i n x v last body s) (for_turns i m x v last body' (longer bs s))
  counts_extend zero n m k x v last body body' h s = refl
  counts_extend (suc i) zero m k x v last body body' h s = λ e. ap (λ j. for_turns (suc i) j x v last body' (longer bs s)) (sym (k.same_turns e))
  counts_extend (suc i) (suc n) zero k x v last body body' h s = let le = k.turns in absurd (omega arith)
  counts_extend (suc i) (suc n) (suc m) k x v last body body' h s =
      then_extends (SameEnd bs) (body (for_state x v s)) (body' (longer bs (for_state x v s))) (for_turns i n x (v + 1) last body) (for_turns i m x (v + 1) last body') (h (for_state x v s))
      (counts_extend i n m (fewer n m k) x (v + 1) last body body' h)

  pub count_extends : (i n m : ℕ) → Further open' n m bs → (x v last : ℕ) (body body' : Action) → ((t : State) → Goes (body t) (body' (longer bs t))) → (s : State) → Goes (for_from i n x v last body s) (for_from i m x v last body' (longer bs s))
  count_extends zero n m k x v last body body' h s = refl
  count_extends (suc i) n m k x v last body body' h s = counts_extend (suc i) n m k x v last body body' h s

  pub turns_extend : (n m : ℕ) → Further open' n m bs → (c : Condition) (body body' : Action) → ((t : State) → Goes (body t) (body' (longer bs t))) → (s : State) → Goes (turns n c body s) (turns m c body' (longer bs s))
  turns_extend zero zero k c body body' h s =
      decide_extends (truth c s.variables s.q s.x) (stops more) (stops more) ends ends s (λ e. refl) refl
  turns_extend zero (suc m) k c body body' h s =
      decide_extends (truth c s.variables s.q s.x) (stops more) (λ t. then_do (body' (stepped t)) (turns m c body')) ends ends s (λ e. let same = k.same_turns e in absurd (omega arith)) refl
  turns_extend (suc n) zero k c body body' h s = let le = k.turns in absurd (omega arith)
  turns_extend (suc n) (suc m) k c body body' h s =
      decide_extends (truth c s.variables s.q s.x) (λ t. then_do (body (stepped t)) (turns n c body)) (λ t. then_do (body' (stepped t)) (turns m c body')) ends ends s
      (then_extends (SameEnd bs) (body (stepped s)) (body' (longer bs (stepped s))) (turns n c body) (turns m c body') (h (stepped s)) (turns_extend n m (fewer n m k) c body body' h))
      refl

-- The laws on more turns and more answers, of blocks and of runs; how behaviours and blocks are put together.

-- What each statement does with more turns and more answers.

-- what a body does with m turns and more answers, against n turns
abbrev pub GoesOn : (Stop → Bool) → ℕ → ℕ → List Answer → (ℕ → Action) → Type 0
GoesOn open' n m bs body = (s : State) → Extends (SameEnd bs) open' bs (body n s) (body m (longer bs s))

module _ (open' : Stop → Bool) (n m : ℕ) (bs : List Answer) (k : Further open' n m bs) where
  module _ (c : Context) (routines : AllRoutines (GoesOn open' n m bs) c) where
    closed : open' short ≡ false → bs ≡ []
    closed = k.same_answers

    mutual
      pub statement_extends : (st : Statement) (s : State) → Goes open' bs (effect c n st s) (effect c m st (longer bs s))
      statement_extends (assign spot x e) s =
          given_extends open' bs (value e s.variables) (λ v t. ends (with_variable x v t)) (λ v t. ends (with_variable x v t)) s (λ v _. refl)
      statement_extends (set_register spot r e1 e2 e3) s =
          let third : ℕ → ℕ → ℕ → Action = λ k' m' a' t. ends (with_register r (address k' m' a') t) in
          let second : ℕ → ℕ → Action = λ k' m'. given (value e3 s.variables) (third k' m') in
          let first : ℕ → Action = λ k'. given (value e2 s.variables) (second k') in
          given_extends open' bs (value e1 s.variables) first first s (λ k' _.
          given_extends open' bs (value e2 s.variables) (second k') (second k') s (λ m' _.
          given_extends open' bs (value e3 s.variables) (third k' m') (third k' m') s (λ a' _. refl)))
      statement_extends (single spot size f r d) s =
          given_extends open' bs (s.registers r) (λ at. act c.plan at f size d) (λ at. act c.plan at f size d) s (λ at _. act_extends open' bs closed c.plan at f size d s)
      statement_extends (address_scan spot f r1 r2 max x) s =
          let go : Address → Address → ℕ → Action = λ a b l. transfer_to c.plan f None (scan_next a b l) x in
          let third : Address → Address → ℕ → Action = λ a b l. unless_wrong (nat_eq a.crate_no b.crate_no) (go a b l) in
          let second : Address → Address → Action = λ a b. given (value max s.variables) (third a b) in
          let first : Address → Action = λ a. given (s.registers r2) (second a) in
          given_extends open' bs (s.registers r1) first first s (λ a _.
          given_extends open' bs (s.registers r2) (second a) (second a) s (λ b _.
          given_extends open' bs (value max s.variables) (third a b) (third a b) s (λ l _.
          unless_extends open' bs (nat_eq a.crate_no b.crate_no) (go a b l) (go a b l) s (transfer_to_extends open' bs closed c.plan f None (scan_next a b l) x s))))
      statement_extends (q_stop spot f r g max x) s =
          let second : Option (List ℕ) → Address → ℕ → Action = λ table at l. transfer_to c.plan f table (q_stop_next at l) x in
          let first : Option (List ℕ) → Address → Action = λ table at. given (value max s.variables) (second table at) in
          given_extends open' bs (sent c g) (λ table. given (s.registers r) (first table)) (λ table. given (s.registers r) (first table)) s (λ table _.
          given_extends open' bs (s.registers r) (first table) (first table) s (λ at _.
          given_extends open' bs (value max s.variables) (second table at) (second table at) s (λ l _. transfer_to_extends open' bs closed c.plan f table (q_stop_next at l) x s)))
      statement_extends (q_repeat spot f r g max limit x) s =
          let third : Option (List ℕ) → Address → ℕ → ℕ → Action = λ table at l l'. transfer_to c.plan f table (q_repeat_next at l l') x in
          let second : Option (List ℕ) → Address → ℕ → Action = λ table at l. given (value limit s.variables) (third table at l) in
          let first : Option (List ℕ) → Address → Action = λ table at. given (value max s.variables) (second table at) in
          given_extends open' bs (sent c g) (λ table. given (s.registers r) (first table)) (λ table. given (s.registers r) (first table)) s (λ table _.
          given_extends open' bs (s.registers r) (first table) (first table) s (λ at _.
          given_extends open' bs (value max s.variables) (second table at) (second table at) s (λ l _.
          given_extends open' bs (value limit s.variables) (third table at l) (third table at l) s (λ l' _. transfer_to_extends open' bs closed c.plan f table (q_repeat_next at l l') x s))))
      statement_extends (put spot e) s =
          given_extends open' bs (value e s.variables) (λ v t. ends (with_word v t)) (λ v t. ends (with_word v t)) s (λ v _. refl)
      statement_extends (crate_call spot op e) s =
          let go : ℕ → Action = λ v. act c.plan (crate_address op v) (crate_function op) Full no_data in
          given_extends open' bs (value e s.variables) go go s (λ v _. act_extends open' bs closed c.plan (crate_address op v) (crate_function op) Full no_data s)
      statement_extends (lam_call spot op l) s =
          let go : Address → Action = λ at. act c.plan at (lam_function op) Full no_data in
          given_extends open' bs (slice_get c.lams l) go go s (λ at _. act_extends open' bs closed c.plan at (lam_function op) Full no_data s)
      statement_extends (choose spot test a) s =
          decide_extends open' bs (truth test s.variables s.q s.x) (block_meaning c n a) (block_meaning c m a) ends ends s (block_extends a s) refl
      statement_extends (choose_else spot test a b) s =
          decide_extends open' bs (truth test s.variables s.q s.x) (block_meaning c n a) (block_meaning c m a) (block_meaning c n b) (block_meaning c m b) s (block_extends a s) (block_extends b s)
      statement_extends (for_ spot x e1 e2 keeps body) s =
          let second : ℕ → ℕ → ℕ → Action = λ n' v w. for_from (w + 1 - v) n' x v w (block_meaning c n' body) in
          let first : ℕ → ℕ → Action = λ n' v. given (value e2 s.variables) (second n' v) in
          given_extends open' bs (value e1 s.variables) (first n) (first m) s (λ v _.
          given_extends open' bs (value e2 s.variables) (second n v) (second m v) s (λ w _.
          count_extends open' bs (w + 1 - v) n m k x v w (block_meaning c n body) (block_meaning c m body) (λ t. block_extends body t) s))
      statement_extends (for_each spot x v last body) s = count_extends open' bs (last + 1 - v) n m k x v last (block_meaning c n body) (block_meaning c m body) (λ t. block_extends body t) s
      statement_extends (while_ spot test turns' measure keeps body) s =
          turns_extend open' bs n m k test (block_meaning c n body) (block_meaning c m body) (λ t. block_extends body t) s
      statement_extends (locked spot e body) s =
          let held : ℕ → ℕ → Action = λ n' d u. then_do (block_meaning c n' body u) (release d) in
          let go : ℕ → ℕ → ℕ → Action = λ n' d waits t. take_lock d waits (t.branch d).locked (held n' d) t in
          let first : ℕ → ℕ → Action = λ n' d. given (crate_waits c.plan d) (go n' d) in
          given_extends open' bs (value e s.variables) (first n) (first m) s (λ d _.
          given_extends open' bs (crate_waits c.plan d) (go n d) (go m d) s (λ waits _.
          lock_extends open' bs closed d waits (s.branch d).locked (held n d) (held m d) (λ t.
          then_extends open' bs (SameEnd bs) (block_meaning c n body t) (block_meaning c m body (longer bs t)) (release d) (release d) (block_extends body t) (λ u. (ends (after_release d (longer bs u)), refl, refl))) s))
      statement_extends (call spot p es) s =
          let second : ℕ → (ℕ → Action) → List ℕ → Action = λ n' r vs. enter (r n') vs in
          let first : ℕ → (ℕ → Action) → Action = λ n' r. given (values es s.variables) (second n' r) in
          given_extends open' bs (slice_get c.routines p) (first n) (first m) s (λ r e.
          given_extends open' bs (values es s.variables) (second n r) (second m r) s (λ vs _.
          enter_extends open' bs (r n) (r m) (routines.each p r e) vs s))

      pub block_extends : (b : Block) (s : State) → Goes open' bs (block_meaning c n b s) (block_meaning c m b (longer bs s))
      block_extends done s = refl
      block_extends (next st rest) s =
          then_extends open' bs (SameEnd bs) (effect c n st (stepped s)) (effect c m st (longer bs (stepped s))) (block_meaning c n rest) (block_meaning c m rest) (statement_extends st (stepped s)) (λ t. block_extends rest t)

  -- each block of a script
  pub script_extends : (plan : Layout) (script : Script) (b : Block) → GoesOn open' n m bs (λ n'. block_meaning (context plan script) n' b)
  script_extends plan script b = script_block (GoesOn open' n m bs) (λ c h b s. block_extends c h b s) plan script b

pub then_assoc : {A B C : Type 0} (b : Behaviour A) (f : A → Behaviour B) (g : B → Behaviour C) → then_do (then_do b f) g ≡ then_do b (λ a. then_do (f a) g)
then_assoc (does p b) f g = ap (does p) (then_assoc b f g)
then_assoc (ends a) f g = refl
then_assoc (stops w s) f g = refl

pub then_do_associates : ThenDoAssociates
then_do_associates b f g = then_assoc b f g

pub blocks_compose : BlocksCompose
blocks_compose c n done b s = refl
blocks_compose c n (next st rest) b s =
    ap (then_do (effect c n st (stepped s))) (fun_ext (λ t. blocks_compose c n rest b t)) ∙ sym (then_assoc (effect c n st (stepped s)) (block_meaning c n rest) (block_meaning c n b))

-- More alone is open
abbrev is_more : Stop → Bool
is_more short = false
is_more (overrun c w) = false
is_more wrong = false
is_more more = true

more_turns : (n m : ℕ) → n ≤ m → Further is_more n m []
more_turns n m le = record { turns = le; same_turns = λ e. absurd (cc); same_answers = λ e. refl }

more_answers : (n : ℕ) (bs : List Answer) → Further is_short n n bs
more_answers n bs = record { turns = omega arith; same_turns = λ e. refl; same_answers = λ e. absurd (cc) }

no_longer : (s : State) → longer [] s ≡ s
no_longer s = ap (λ l. record s { answers = l }) (append-nil s.answers)

-- what goes on from a behaviour that wanted no further turn is that behaviour
same_without : {A : Type 0} (E : A → Behaviour A → Type 0) → ((v : A) (b : Behaviour A) → E v b → b ≡ ends v) → (a b : Behaviour A) → Extends E is_more [] a b → stop_of a ≢ Some more → b ≡ a
same_without E end (does p a) b h ne = h.1 ∙ ap (does p) (same_without E end a h.0 h.2 ne)
same_without E end (ends v) b h ne = end v b h
same_without E end (stops short s) b h ne = h refl ∙ ap (stops short) (no_longer s)
same_without E end (stops (overrun c w) s) b h ne = h refl ∙ ap (stops (overrun c w)) (no_longer s)
same_without E end (stops wrong s) b h ne = h refl ∙ ap (stops wrong) (no_longer s)
same_without E end (stops more s) b h ne = absurd (ne refl)

pub turns_suffice : TurnsSuffice
turns_suffice plan script n m le b s ne =
    let a : Behaviour State = block_meaning (context plan script) n b s in
    let c : Behaviour State = block_meaning (context plan script) m b s in
    same_without (SameEnd []) (λ v o e. e ∙ ap ends (no_longer v)) a c
    (subst (λ t. Extends (SameEnd []) is_more [] a (block_meaning (context plan script) m b t)) (no_longer s) (script_extends is_more n m [] (more_turns n m le) plan script b s)) ne

pub answers_extend : AnswersExtend
answers_extend plan script n bs b s = script_extends is_short n n bs (more_answers n bs) plan script b s

-- what holds where a behaviour ends or stops holds where it ends
pub where_reached : (Q : State → Type 0) (b : Behaviour State) → Q (reached b) → EndsWith Q b
where_reached Q (does p b) q = where_reached Q b q
where_reached Q (ends s) q = q
where_reached Q (stops w s) q = tt

pub drop_length : (k : ℕ) (l : List Answer) → length (drop k l) ≤ length l
drop_length zero l = omega arith
drop_length (suc k) [] = omega arith
drop_length (suc k) (a ∷ l) = let h = drop_length k l in omega arith

module _ (open' : Stop → Bool) (n m : ℕ) (bs : List Answer) (k : Further open' n m bs) where
  -- as then_extends, with what holds at the end
  then_where : {A : Type 0} (E : A → Behaviour A → Type 0) (Q : State → Type 0) (a b : Behaviour State) (go go' : State → Behaviour A) → Extends (SameEnd bs) open' bs a b → EndsWith Q a → ((t : State) → Q t → Extends E open' bs (go t) (go' (longer bs t))) → Extends E open' bs (then_do a go) (then_do b go')
  then_where E Q (does p a) b go go' h q f = (then_do h.0 go', ap (λ o. then_do o go') h.1, then_where E Q a h.0 go go' h.2 q f)
  then_where E Q (ends t) b go go' h q f = subst (λ o. Extends E open' bs (go t) (then_do o go')) (sym h) (f t q)
  then_where E Q (stops w s) b go go' h q f = λ e. ap (λ o. then_do o go') (h e)

  module _ (plan : Layout) (script : Script) where
    no_round : (i : ℕ) (b : Branch) → rounds i (context plan script) m script.services b [] ≡ ends tt
    no_round zero b = refl
    no_round (suc i) b = refl

    -- no answer was left
    at_end : (j : ℕ) (b : Branch) → RunEnd bs tt (rounds j (context plan script) m script.services b bs)
    at_end j b e = ap (rounds j (context plan script) m script.services b) e ∙ no_round j b

    pub rounds_extend : (i j : ℕ) (answers : List Answer) (b : Branch) → length answers ≤ i → length (answers ++ bs) ≤ j → Extends (RunEnd bs) open' bs (rounds i (context plan script) n script.services b answers) (rounds j (context plan script) m script.services b (answers ++ bs))
    rounds_extend zero j [] b le le' = at_end j b
    rounds_extend zero j (a ∷ rest) b le le' = absurd (omega arith)
    rounds_extend (suc i) j [] b le le' = at_end j b
    rounds_extend (suc i) zero (a ∷ rest) b le le' = absurd (omega arith)
    rounds_extend (suc i) (suc j) (a ∷ rest) b le le' = (
      serve (context plan script) m (service_for (context plan script) (pattern_of plan b a.gl) script.services) b (rest ++ bs) (rounds j (context plan script) m script.services),
      refl,
      go (service_for (context plan script) (pattern_of plan b a.gl) script.services) (λ answers b' l. rounds_extend i j answers b' (omega arith) (omega (arith, length-append answers bs, length-append rest bs))),
    )
      where
        go : (o : Option Chosen) → ((answers : List Answer) (b' : Branch) → length answers ≤ length rest → Extends (RunEnd bs) open' bs (rounds i (context plan script) n script.services b' answers) (rounds j (context plan script) m script.services b' (answers ++ bs))) → Extends (RunEnd bs) open' bs (serve (context plan script) n o b rest (rounds i (context plan script) n script.services)) (serve (context plan script) m o b (rest ++ bs) (rounds j (context plan script) m script.services))
        go None ih = ih rest b (omega arith)
        go (Some v) ih =
            let o : Behaviour State = service_meaning (context plan script) n v.service b rest in
            let left = (services_count plan script n v.service b rest).answers_left in
            let fewer : length (reached o).answers ≤ length rest = subst (λ l. length l ≤ length rest) (sym left) (drop_length (uses (pieces o)) rest) in
            then_where (RunEnd bs) (λ t. length t.answers ≤ length rest) o (service_meaning (context plan script) m v.service b (rest ++ bs))
            (λ s. does (event_left (event_of v.bit s)) (rounds i (context plan script) n script.services s.branch s.answers)) (λ s. does (event_left (event_of v.bit s)) (rounds j (context plan script) m script.services s.branch s.answers))
            (script_extends open' n m bs k plan script v.service.body (fresh b rest))
            (where_reached (λ t. length t.answers ≤ length rest) o fewer)
            (λ t l. (rounds j (context plan script) m script.services t.branch (t.answers ++ bs), refl, ih t.answers t.branch l))

    run_extends : (answers : List Answer) → Extends (RunEnd bs) open' bs (run n plan script answers) (run m plan script (answers ++ bs))
    run_extends answers = rounds_extend (length answers) (length (answers ++ bs)) answers start (omega arith) (omega arith)

pub run_answers_extend : RunAnswersExtend
run_answers_extend plan script n answers bs = run_extends is_short n n bs (more_answers n bs) plan script answers

-- the pieces go on
pub more_pieces : (bs : List Answer) (a b : Behaviour (Unit {0})) → Extends (RunEnd bs) is_short bs a b → (ps : List Piece) × (pieces b ≡ pieces a ++ ps)
more_pieces bs (does p a) b h =
    let go = more_pieces bs a h.0 h.2 in (go.0, ap pieces h.1 ∙ ap (λ ps. p ∷ ps) go.1)
more_pieces bs (ends v) b h = (pieces b, refl)
more_pieces bs (stops w s) b h = (pieces b, refl)

items_append : (ps qs : List Piece) → items_in (ps ++ qs) ≡ items_in ps ++ items_in qs
items_append [] qs = refl
items_append (p ∷ ps) qs = ap (λ l. item_of p ++ l) (items_append ps qs) ∙ sym (append_assoc (item_of p) (items_in ps) (items_in qs))

events_append : (ps qs : List Piece) → events_in (ps ++ qs) ≡ events_in ps ++ events_in qs
events_append [] qs = refl
events_append (p ∷ ps) qs = ap (λ l. event_in p ++ l) (events_append ps qs) ∙ sym (append_assoc (event_in p) (events_in ps) (events_in qs))

pub runs_go_on : RunsGoOn
unfolding RunsGoOn
runs_go_on plan script n answers bs =
    let a : Behaviour (Unit {0}) = run n plan script answers in
    let go = more_pieces bs a (run n plan script (answers ++ bs)) (run_answers_extend plan script n answers bs) in
    record {
      more_items = (items_in go.0, ap items_in go.1 ∙ items_append (pieces a) go.0);
      more_events = (events_in go.0, ap events_in go.1 ∙ events_append (pieces a) go.0);
    }

unit_end : (v : Unit {0}) (b : Behaviour (Unit {0})) → RunEnd [] v b → b ≡ ends v
unit_end v b e = e refl

pub run_turns_suffice : RunTurnsSuffice
run_turns_suffice plan script n m le answers ne =
    same_without (RunEnd []) unit_end (run n plan script answers) (run m plan script answers)
    (subst (λ l. Extends (RunEnd []) is_more [] (run n plan script answers) (run m plan script l)) (append-nil answers) (run_extends is_more n m [] (more_turns n m le) plan script answers)) ne
