-- Where each service is fine by its bounds, it is short only for want of answers, and every run is safe.
use Rattle.std.proofs.Common.{◌<◌, ◌≤◌, length, arith, ◌≡◌, ℕ, zero, suc, ◌+◌, ◌-◌, List, [], ◌∷◌, Option, Some, None, Bool, true, false, refl, sym, ◌∙◌, ap, ◌≢◌, subst}
use Rattle.std.specs.Prelude.{nat_eq, if◌then◌else◌, slice_get, option_map}
use Rattle.camac_lang.specs.declared.word.WordSize.{WordSize}
use Rattle.camac_lang.specs.declared.word.WordSize.TheVariants.{Full}
use Rattle.camac_lang.specs.Tree.{Condition, Move, no_data, into, from, Statement, assign, set_register, single, address_scan, q_stop, q_repeat, put, crate_call, lam_call, choose, choose_else, for_, for_each, while_, locked, call, Block, done, next, Service, Script}
use Rattle.camac_func.specs.declared.data.DataMove.{DataMove}
use Rattle.camac_func.specs.declared.data.DataMove.TheVariants as moved
use Rattle.camac_branch.specs.Address.{Address, address}
use Rattle.camac_branch.specs.Allowed.{width}
use Rattle.camac_branch.specs.Branch.{Reply, Answer, reply_to, Branch, start, with_lock}
use Rattle.camac_branch.specs.Plan.{Layout, crate_waits}
use Rattle.camac_esone.specs.Transfers.{NextAddress, tally, q_stop_next, q_repeat_next, scan_next}
use Rattle.camac_model.specs.State.{State, stepped, fresh, with_variable, with_register, with_word}
use Rattle.camac_model.specs.Behaviour.{Piece, Behaviour, does, ends, stops, Stop, short, overrun, wrong, more, Action, then_do, given, unless_wrong, demanded, cycled, lock_taken, lock_released, event_left, piece_cost, stop_of, pieces}
use Rattle.camac_model.specs.Value.{value, values, truth}
use Rattle.camac_model.specs.Cycle.{after_cycle, cycle, sized, kept, after_lock, take_lock, release, after_release}
use Rattle.camac_model.specs.Transfer.{keep_word}
use Rattle.camac_model.specs.Meaning.{Context, crate_address, crate_function, lam_function, fits_size, act, transfer_to, sent, for_state, for_from, turns, entered, enter, effect, block_meaning, context}
use Rattle.camac_model.specs.Laws.{ShortOnlyOf, ServicesShort, NoneLocked}
use Rattle.camac_model.specs.Fine.{Bounds, IsWithinBounds, IsOfAnswers, IsFine, most_turns, IsFineService, AreFine, AreFineServices}
use Rattle.camac_model.specs.Headline.{Progress, Moment, moment_after, spent, InService, CostFits, first_moment, begun, WordsFit, FewAnswers, EventCost, StepsFit, EventFits, CostStays, IsShortOfAnswers, Locked, locked_after, NoneHeld, AreSafe, no_count, nothing, IsOver, FineServicesRun}
use Rattle.camac_model.specs.Run.{Chosen, event_of, service_meaning, the_run}
use Rattle.camac_model.specs.Safe.{IsSafePiece}
use Rattle.camac_model.specs.Moments.{Any, AnyStop}
use Rattle.camac_model.proofs.Rules.{AllRoutines, script_block, keeps_answers, Meets, then_meets, given_meets, decide_meets, unless_meets, cycle_meets, lock_meets, enter_meets, transfer_meets, turns_meet, counts_meet}
use Rattle.camac_model.proofs.Kept.{IsStepwise, Still, script_keeps}
use Rattle.camac_model.proofs.Locks.{cycle_locks, services_unlock}
use Rattle.camac_model.proofs.Rounds.{meets_where, meets_mapped, AtRunEnd, rounds_meet}
use Rattle.camac_model.proofs.Runs.{run_turns_suffice}

-- Each answer that is used comes with a step, so a service is short only where there were fewer answers than its steps.

keeps_steps : (g : Option (List ℕ)) (w : ℕ) (r : Reply) (s : State) → (keep_word g w r s).steps ≡ s.steps
keeps_steps None w r s = go r.q
  where
    go : (b : Bool) → (if b then with_word (kept w r) s else s).steps ≡ s.steps
    go true = refl
    go false = refl
keeps_steps (Some ws) w r s = refl

-- nothing is counted, and nothing said of pieces
abbrev step : Unit {0} → Piece → Unit {0}
step x p = tt

abbrev AnyPiece : Unit {0} → Piece → Type 0
AnyPiece x p = Unit {0}

module _ (total : ℕ) where
  -- no more answers were used than steps made; and one fewer, before an answer is wanted
  abbrev Spent : State → Type 0
  Spent s = total ≤ length s.answers + s.steps

  abbrev Ready : State → Type 0
  Ready s = total < length s.answers + s.steps

  abbrev StopsSpent : Unit {0} → Stop → State → Type 0
  StopsSpent x short s = (total < s.steps) × (s.answers ≡ [])
  StopsSpent x (overrun c w) s = Unit {0}
  StopsSpent x wrong s = Unit {0}
  StopsSpent x more s = Unit {0}

  abbrev EndsSpent : Unit {0} → State → Type 0
  EndsSpent x s = Spent s

  abbrev Spends : Behaviour State → Type 0
  Spends b = Meets step AnyPiece StopsSpent EndsSpent tt b

  ready_spent : (s : State) → Ready s → Spent s
  ready_spent s h = omega (arith, h)

  spent_step : (s : State) → Spent s → Ready (stepped s)
  spent_step s h = omega (arith, h)

  at_short : (s : State) → Ready s → s.answers ≡ [] → (total < s.steps) × (s.answers ≡ [])
  at_short s h e = (let l : length s.answers ≡ 0 = ap length e in omega (arith, h, l), e)

  -- one answer is used
  spend_one : (s t : State) (a : Answer) → Ready s → s.answers ≡ a ∷ t.answers → t.steps ≡ s.steps → Spent t
  spend_one s t a h e g = let l : length s.answers ≡ length (a ∷ t.answers) = ap length e in omega (arith, h, l, g)

  cycle_spends : (plan : Layout) (at : Address) (f : ℕ) (d : DataMove) (go : Reply → Action) (s : State) → Ready s → ((r : Reply) (t : State) → Spent t → Spends (go r t)) → Spends (cycle plan at f d s.answers go s)
  cycle_spends plan at f d go s i h =
      cycle_meets step AnyPiece StopsSpent EndsSpent tt plan at f d s.answers go s (λ _. tt) (λ e. at_short s i e) (λ waits a rest _ _ _. tt) (λ waits a rest _ e _.
      let r : Reply = reply_to plan s.branch at f a in
      (tt, h r (after_cycle at f r a.wait rest s) (spend_one s (after_cycle at f r a.wait rest s) a i e refl)))

  act_spends : (plan : Layout) (at : Address) (f : ℕ) (size : WordSize) (m : Move) (s : State) → Ready s → Spends (act plan at f size m s)
  act_spends plan at f size no_data s i = cycle_spends plan at f moved.None (λ r. ends) s i (λ r t g. g)
  act_spends plan at f size (into x) s i =
      cycle_spends plan at f moved.In (λ r t. ends (with_variable x (kept (sized size (width plan at f)) r) t)) s i (λ r t g. g)
  act_spends plan at f size (from e) s i =
      let send : ℕ → Action = λ v t. cycle plan at f (moved.Out v) t.answers (λ r. ends) t in
      given_meets step AnyPiece StopsSpent EndsSpent tt (value e s.variables) (λ v. unless_wrong (fits_size size v) (send v)) s (λ _. tt) (λ v _.
      unless_meets step AnyPiece StopsSpent EndsSpent tt (fits_size size v) (send v) s (λ _. tt) (λ _. cycle_spends plan at f (moved.Out v) (λ r. ends) s i (λ r t g. g)))

  transfer_spends : (plan : Layout) (f : ℕ) (g : Option (List ℕ)) (next_address : NextAddress) (x : ℕ) (s : State) → Ready s → Spends (transfer_to plan f g next_address x s)
  transfer_spends plan f g next_address x s i =
      transfer_meets step AnyPiece StopsSpent EndsSpent plan f g next_address (λ qs t. ends (with_variable x (tally qs) t)) (λ _ qs t. Ready t)
      (record {
        no_word = λ _ _ _ _ _ _ _. tt;
        no_crate = λ _ _ _ _ _ _ _. tt;
        no_answer = λ _ qs t at j _ e. at_short t j e;
        no_wait = λ _ _ _ _ _ _ _ _ _ _ _ _. tt;
        keeps = λ _ qs t at d waits a rest j _ _ _ e _.
            let r : Reply = reply_to plan t.branch at f a in
            let u : State = after_cycle at f r a.wait rest t in
            let w : State = keep_word g (width plan at f) r u in
            let left : w.answers ≡ rest = keeps_answers g (width plan at f) r u in
            (tt, spent_step w (spend_one t w a j (e ∙ ap (λ l. a ∷ l) (sym left)) (keeps_steps g (width plan at f) r u)));
      })
      (λ _ qs t j _. ready_spent t j) s.answers tt [] s refl i

  turns_spend : (n : ℕ) (c : Condition) (body : Action) → ((t : State) → Spent t → Spends (body t)) → (s : State) → Spent s → Spends (turns n c body s)
  turns_spend n c body h s i =
      turns_meet step AnyPiece StopsSpent EndsSpent c body (λ _ _ t. Spent t) (λ _ _ _ _ _. tt) (λ _ _ _ _. tt)
      (λ _ _ t j _. h (stepped t) (ready_spent (stepped t) (spent_step t j))) (λ _ _ t j _. j) n tt s i

  counts_spend : (k n x v last : ℕ) (body : Action) → ((t : State) → Spent t → Spends (body t)) → (s : State) → Spent s → Spends (for_from k n x v last body s)
  counts_spend zero n x v last body h s i = i
  counts_spend (suc k) n x v last body h s i =
      counts_meet step AnyPiece StopsSpent EndsSpent x last body (λ _ _ _ t. Spent t) (λ _ _ _ _ _. tt)
      (λ _ _ w t j. h (for_state x w t) (ready_spent (stepped t) (spent_step t j))) (λ _ _ t j. j) (suc k) n tt v s i

  abbrev SpendsWithin : (ℕ → Action) → Type 0
  SpendsWithin body = (n : ℕ) (s : State) → Spent s → Spends (body n s)

  module _ (c : Context) (routines : AllRoutines SpendsWithin c) (n : ℕ) where
    given_spends : {A : Type 0} (s : State) (o : Option A) (go : A → Action) → ((v : A) → o ≡ Some v → Spends (go v s)) → Spends (given o go s)
    given_spends s o go h = given_meets step AnyPiece StopsSpent EndsSpent tt o go s (λ _. tt) h

    mutual
      statement_spends : (st : Statement) (s : State) → Ready s → Spends (effect c n st s)
      statement_spends (assign spot x e) s i = given_spends s (value e s.variables) (λ v t. ends (with_variable x v t)) (λ v _. ready_spent s i)
      statement_spends (set_register spot r e1 e2 e3) s i =
          let third : ℕ → ℕ → ℕ → Action = λ k' m' a' t. ends (with_register r (address k' m' a') t) in
          let second : ℕ → ℕ → Action = λ k' m'. given (value e3 s.variables) (third k' m') in
          given_spends s (value e1 s.variables) (λ k'. given (value e2 s.variables) (second k')) (λ k' _.
          given_spends s (value e2 s.variables) (second k') (λ m' _.
          given_spends s (value e3 s.variables) (third k' m') (λ a' _. ready_spent s i)))
      statement_spends (single spot size f r d) s i = given_spends s (s.registers r) (λ at. act c.plan at f size d) (λ at _. act_spends c.plan at f size d s i)
      statement_spends (address_scan spot f r1 r2 max x) s i =
          let go : Address → Address → ℕ → Action = λ a b l. transfer_to c.plan f None (scan_next a b l) x in
          let third : Address → Address → ℕ → Action = λ a b l. unless_wrong (nat_eq a.crate_no b.crate_no) (go a b l) in
          let second : Address → Address → Action = λ a b. given (value max s.variables) (third a b) in
          given_spends s (s.registers r1) (λ a. given (s.registers r2) (second a)) (λ a _.
          given_spends s (s.registers r2) (second a) (λ b _.
          given_spends s (value max s.variables) (third a b) (λ l _.
          unless_meets step AnyPiece StopsSpent EndsSpent tt (nat_eq a.crate_no b.crate_no) (go a b l) s (λ _. tt) (λ _. transfer_spends c.plan f None (scan_next a b l) x s i))))
      statement_spends (q_stop spot f r g max x) s i =
          let second : Option (List ℕ) → Address → ℕ → Action = λ table at l. transfer_to c.plan f table (q_stop_next at l) x in
          let first : Option (List ℕ) → Address → Action = λ table at. given (value max s.variables) (second table at) in
          given_spends s (sent c g) (λ table. given (s.registers r) (first table)) (λ table _.
          given_spends s (s.registers r) (first table) (λ at _.
          given_spends s (value max s.variables) (second table at) (λ l _. transfer_spends c.plan f table (q_stop_next at l) x s i)))
      statement_spends (q_repeat spot f r g max limit x) s i =
          let third : Option (List ℕ) → Address → ℕ → ℕ → Action = λ table at l l'. transfer_to c.plan f table (q_repeat_next at l l') x in
          let second : Option (List ℕ) → Address → ℕ → Action = λ table at l. given (value limit s.variables) (third table at l) in
          let first : Option (List ℕ) → Address → Action = λ table at. given (value max s.variables) (second table at) in
          given_spends s (sent c g) (λ table. given (s.registers r) (first table)) (λ table _.
          given_spends s (s.registers r) (first table) (λ at _.
          given_spends s (value max s.variables) (second table at) (λ l _.
          given_spends s (value limit s.variables) (third table at l) (λ l' _. transfer_spends c.plan f table (q_repeat_next at l l') x s i))))
      statement_spends (put spot e) s i = given_spends s (value e s.variables) (λ v t. ends (with_word v t)) (λ v _. ready_spent s i)
      statement_spends (crate_call spot op e) s i =
          given_spends s (value e s.variables) (λ d. act c.plan (crate_address op d) (crate_function op) Full no_data) (λ d _. act_spends c.plan (crate_address op d) (crate_function op) Full no_data s i)
      statement_spends (lam_call spot op l) s i =
          given_spends s (slice_get c.lams l) (λ at. act c.plan at (lam_function op) Full no_data) (λ at _. act_spends c.plan at (lam_function op) Full no_data s i)
      statement_spends (choose spot test a) s i =
          decide_meets step AnyPiece StopsSpent EndsSpent tt (truth test s.variables s.q s.x) (block_meaning c n a) ends s (λ _. tt) (λ _. block_spends a s (ready_spent s i)) (λ _. ready_spent s i)
      statement_spends (choose_else spot test a b) s i =
          decide_meets step AnyPiece StopsSpent EndsSpent tt (truth test s.variables s.q s.x) (block_meaning c n a) (block_meaning c n b) s (λ _. tt) (λ _. block_spends a s (ready_spent s i)) (λ _. block_spends b s (ready_spent s i))
      statement_spends (for_ spot x e1 e2 keeps body) s i =
          let second : ℕ → ℕ → Action = λ v w. for_from (w + 1 - v) n x v w (block_meaning c n body) in
          given_spends s (value e1 s.variables) (λ v. given (value e2 s.variables) (second v)) (λ v _.
          given_spends s (value e2 s.variables) (second v) (λ w _. counts_spend (w + 1 - v) n x v w (block_meaning c n body) (λ t j. block_spends body t j) s (ready_spent s i)))
      statement_spends (for_each spot x v last body) s i = counts_spend (last + 1 - v) n x v last (block_meaning c n body) (λ t j. block_spends body t j) s (ready_spent s i)
      statement_spends (while_ spot test m k keeps body) s i = turns_spend n test (block_meaning c n body) (λ t j. block_spends body t j) s (ready_spent s i)
      statement_spends (locked spot e body) s i =
          let held : ℕ → Action = λ d u. then_do (block_meaning c n body u) (release d) in
          let go : ℕ → ℕ → Action = λ d waits t. take_lock d waits (t.branch d).locked (held d) t in
          given_spends s (value e s.variables) (λ d. given (crate_waits c.plan d) (go d)) (λ d _.
          given_spends s (crate_waits c.plan d) (go d) (λ waits _.
          lock_meets step AnyPiece StopsSpent EndsSpent tt d waits (s.branch d).locked (held d) s (λ _. tt) (λ e'. at_short s i e') (λ a rest _ _. tt) (λ a rest free e' _.
          let t : State = after_lock d a.wait rest s in
          (tt, then_meets step AnyPiece StopsSpent EndsSpent EndsSpent tt (block_meaning c n body t) (release d) (block_spends body t (spend_one s t a i e' refl)) (λ _ u g. (tt, ready_spent (stepped u) (spent_step u g)))))))
      statement_spends (call spot p es) s i =
          given_spends s (slice_get c.routines p) (λ r. given (values es s.variables) (λ vs. enter (r n) vs)) (λ r e.
          given_spends s (values es s.variables) (λ vs. enter (r n) vs) (λ vs _.
          enter_meets step AnyPiece StopsSpent EndsSpent tt (r n) vs s (routines.each p r e n (entered vs s) (ready_spent s i))))

      block_spends : (b : Block) (s : State) → Spent s → Spends (block_meaning c n b s)
      block_spends done s i = i
      block_spends (next st rest) s i =
          then_meets step AnyPiece StopsSpent EndsSpent EndsSpent tt (effect c n st (stepped s)) (block_meaning c n rest) (statement_spends st (stepped s) (spent_step s i)) (λ _ t j. block_spends rest t j)

short_of : (answers : List Answer) (b : Behaviour State) → Spends (length answers) b → ShortOnlyOf answers b
short_of answers (does p b) h = short_of answers b h.1
short_of answers (ends s) h = tt
short_of answers (stops short s) h = h
short_of answers (stops (overrun c w) s) h = tt
short_of answers (stops wrong s) h = tt
short_of answers (stops more s) h = tt

pub services_short : ServicesShort
services_short plan script n v b answers =
    short_of answers (block_meaning (context plan script) n v.body (fresh b answers))
    (script_block (SpendsWithin (length answers)) (λ c h b n s i. block_spends (length answers) c h n b s i) plan script v.body n (fresh b answers) (omega arith))

-- What a service that is fine meets, moment by moment of the run.

-- a piece of a service
abbrev pub IsPiece : Piece → Type 0
IsPiece (demanded p v) = ⊥
IsPiece (cycled at f d r w) = Unit {0}
IsPiece (lock_taken c w) = Unit {0}
IsPiece (lock_released c) = Unit {0}
IsPiece (event_left e) = ⊥

one_less : (s : State) (a : Answer) (rest : List Answer) → s.answers ≡ a ∷ rest → length s.answers - 1 ≡ length rest
one_less s a rest e = let l : length s.answers ≡ length (a ∷ rest) = ap length e in omega (arith, l)

-- service i, whose demand so many answers followed
module _ (i : ℕ) (answers : List Answer) where
  abbrev pub at_cost : ℕ → Progress
  at_cost c = record { service = i; cost = c; answers = length answers }

  -- the moment at which a state of the service is
  abbrev pub here : State → Moment
  here s = record { left = length s.answers; progress = Some (at_cost s.cost) }

  abbrev pub IsHere : Moment → State → Type 0
  IsHere m s = m ≡ here s

  pub record InIt (m : Moment) (p : Piece) : Type 0 where
    pub cost : ℕ
    pub is_in : m.progress ≡ Some (at_cost cost)
    pub is_piece : IsPiece p

  in_it : (m : Moment) (s : State) (p : Piece) → IsHere m s → IsPiece p → InIt m p
  in_it m s p e h = record { cost = s.cost; is_in = ap (λ x. x.progress) e; is_piece = h }

  after_one : (m : Moment) (s : State) (p : Piece) (n : Moment) → IsHere m s → moment_after (here s) p ≡ n → moment_after m p ≡ n
  after_one m s p n e h = ap (λ x. moment_after x p) e ∙ h

  pub stepwise : IsStepwise moment_after InIt IsHere
  stepwise = record {
    on_step = λ m s e. e;
    on_store = λ m env regs s e. e;
    on_word = λ m w s e. e;
    on_cycle = λ m at f d r a rest s l e. (
      in_it m s (cycled at f d r a.wait) e tt,
      after_one m s (cycled at f d r a.wait) (here (after_cycle at f r a.wait rest s)) e (ap (λ k. record { left = k; progress = Some (at_cost (s.cost + (1 + a.wait))) }) (one_less s a rest l)),
    );
    on_lock = λ m c a rest s l free e. (
      in_it m s (lock_taken c a.wait) e tt,
      after_one m s (lock_taken c a.wait) (here (after_lock c a.wait rest s)) e (ap (λ k. record { left = k; progress = Some (at_cost (s.cost + a.wait)) }) (one_less s a rest l)),
    );
    on_release = λ m c s e.
        let same : length s.answers - 0 ≡ length s.answers = omega arith in (
          in_it m s (lock_released c) e tt,
          after_one m s (lock_released c) (here (after_release c s)) e (ap (λ k. record { left = k; progress = Some (at_cost s.cost) }) same),
        );
  }

  abbrev pub Walks : Moment → Behaviour State → Type 0
  Walks m b = Meets moment_after InIt (Still moment_after InIt IsHere) IsHere m b

  next_in : (m : Moment) (p : Piece) (c : ℕ) → m.progress ≡ Some (at_cost c) → IsPiece p → (moment_after m p).progress ≡ Some (at_cost (c + piece_cost p))
  next_in m (demanded p v) c e h = absurd h
  next_in m (cycled at f d r w) c e h = ap (option_map (spent (1 + w))) e
  next_in m (lock_taken k w) c e h = ap (option_map (spent w)) e
  next_in m (lock_released k) c e h = let same : c ≡ c + 0 = omega arith in e ∙ ap (λ j. Some (at_cost j)) same
  next_in m (event_left v) c e h = absurd h

  module _ (plan : Layout) (ks : List Bounds) (k : Bounds) (its : slice_get ks i ≡ Some k) where
    pub in_service : (m : Moment) (c : ℕ) (T : Bounds → Progress → Type 0) → m.progress ≡ Some (at_cost c) → T k (at_cost c) → InService ks m T
    in_service m c T e t = record { progress = at_cost c; bounds = k; is_in_progress = e; are_its = its; holds = t }

    -- what it has cost so far is at most what it will have cost
    most : (m : Moment) (c : ℕ) → m.progress ≡ Some (at_cost c) → (b : Behaviour State) → Walks m b → IsFine plan k b → c ≤ k.cycles
    most m c e (does p b) h f =
        let le = most (moment_after m p) (c + piece_cost p) (next_in m p c e h.0.is_piece) b h.1 f.1 in omega (arith, le)
    most m c e (ends s) h f = at_last m c e s h f.cycles
      where
        at_last : (m : Moment) (c : ℕ) → m.progress ≡ Some (at_cost c) → (s : State) → IsHere m s → s.cost ≤ k.cycles → c ≤ k.cycles
        at_last m c e s h le =
            let both : Some (at_cost c) ≡ Some (at_cost s.cost) = sym e ∙ ap (λ x. x.progress) h in
            let same : at_cost c ≡ at_cost s.cost = cc in
            let costs : c ≡ s.cost = ap (λ g. g.cost) same in omega (arith, costs, le)
    most m c e (stops w s) h f = at_last m c e s h f.1.cycles
      where
        at_last : (m : Moment) (c : ℕ) → m.progress ≡ Some (at_cost c) → (s : State) → IsHere m s → s.cost ≤ k.cycles → c ≤ k.cycles
        at_last m c e s h le =
            let both : Some (at_cost c) ≡ Some (at_cost s.cost) = sym e ∙ ap (λ x. x.progress) h in
            let same : at_cost c ≡ at_cost s.cost = cc in
            let costs : c ≡ s.cost = ap (λ g. g.cost) same in omega (arith, costs, le)

    pub record AtPiece (m : Moment) (p : Piece) : Type 0 where
      pub is_piece : IsPiece p
      pub cost : InService ks (moment_after m p) CostFits

    pub record AtStop (m : Moment) (w : Stop) (s : State) : Type 0 where
      pub is_here : IsHere m s
      pub of_answers : IsOfAnswers w
      pub within : IsWithinBounds k s
      pub few : ShortOnlyOf answers (stops w s)

    pub record AtEnd (m : Moment) (s : State) : Type 0 where
      pub is_here : IsHere m s
      pub within : IsWithinBounds k s

    -- all of it together
    pub fine_walk : (m : Moment) (b : Behaviour State) → Walks m b → IsFine plan k b → ShortOnlyOf answers b → Meets moment_after AtPiece AtStop AtEnd m b
    fine_walk m (does p b) h f g =
        let c : ℕ = h.0.cost + piece_cost p in
        let e : (moment_after m p).progress ≡ Some (at_cost c) = next_in m p h.0.cost h.0.is_in h.0.is_piece in (
          record { is_piece = h.0.is_piece; cost = in_service (moment_after m p) c CostFits e (most (moment_after m p) c e b h.1 f.1) },
          fine_walk (moment_after m p) b h.1 f.1 g,
        )
    fine_walk m (ends s) h f g = record { is_here = h; within = f }
    fine_walk m (stops w s) h f g = record { is_here = h; of_answers = f.0; within = f.1; few = g }

-- Where each service is fine by its bounds, every run is safe.

-- the turns of the run are allowed
enough : most_turns ≤ 65535
unfolding most_turns
enough = omega arith

as_many : (n : ℕ) → most_turns ≤ n → 65535 ≤ n
unfolding most_turns
as_many n le = omega (arith, le)

-- the bounds of a service by its number
fine_at : (plan : Layout) (script : Script) (ks : List Bounds) (vs : List Service) (j : ℕ) (v : Service) → AreFine plan script ks vs → slice_get vs j ≡ Some v → (k : Bounds) × (slice_get ks j ≡ Some k) × IsFineService plan script k v
fine_at plan script [] [] j v f e = absurd (cc)
fine_at plan script [] (w ∷ vs) j v f e = absurd f
fine_at plan script (k ∷ ks) [] j v f e = absurd f
fine_at plan script (k ∷ ks) (w ∷ vs) zero v f e = let same : w ≡ v = cc in (k, refl, subst (λ z. IsFineService plan script k z) same f.0)
fine_at plan script (k ∷ ks) (w ∷ vs) (suc j) v f e = fine_at plan script ks vs j v f.1 e

-- between services
abbrev Between : Moment → List Answer → Type 0
Between m answers = m ≡ first_moment answers

one_used : (a : Answer) (rest : List Answer) → length (a ∷ rest) - 1 ≡ length rest
one_used a rest = omega arith

idle : (m : Moment) (a : Answer) (rest : List Answer) (p : ℕ) → Between m (a ∷ rest) → Between (moment_after m (demanded p None)) rest
idle m a rest p r =
    ap (λ x. moment_after x (demanded p None)) r ∙ ap (λ l. record { left = l; progress = None }) (one_used a rest)

begin : (m : Moment) (a : Answer) (rest : List Answer) (p i : ℕ) (b : Branch) → Between m (a ∷ rest) → moment_after m (demanded p (Some i)) ≡ here i rest (fresh b rest)
begin m a rest p i b r =
    ap (λ x. moment_after x (demanded p (Some i))) r ∙ ap (λ l. record { left = l; progress = Some (begun l i) }) (one_used a rest)

finish : (i : ℕ) (answers : List Answer) (m : Moment) (s : State) (bit : ℕ) → IsHere i answers m s → Between (moment_after m (event_left (event_of bit s))) s.answers
finish i answers m s bit e =
    let same : length s.answers - 0 ≡ length s.answers = omega arith in
    ap (λ x. moment_after x (event_left (event_of bit s))) e ∙ ap (λ l. record { left = l; progress = None }) same

-- a promise on the moments of a run, by what a service in progress gives for it
module _ (plan : Layout) (script : Script) (ks : List Bounds) (fine : AreFineServices plan script ks) (S : Moment → Piece → Type 0) (P : Moment → Stop → State → Type 0)
    (on_demand : (m : Moment) (p : ℕ) (o : Option ℕ) → S m (demanded p o))
    (on_piece : (i : ℕ) (rest : List Answer) (k : Bounds) (its : slice_get ks i ≡ Some k) (m : Moment) (p : Piece) → AtPiece i rest plan ks k its m p → S m p)
    (on_stop : (i : ℕ) (rest : List Answer) (k : Bounds) (its : slice_get ks i ≡ Some k) (m : Moment) (w : Stop) (s : State) → AtStop i rest plan ks k its m w s → P m w s)
    (on_event : (i : ℕ) (rest : List Answer) (k : Bounds) (its : slice_get ks i ≡ Some k) (m : Moment) (bit : ℕ) (s : State) → AtEnd i rest plan ks k its m s → S m (event_left (event_of bit s))) where
  served : (m : Moment) (a : Answer) (rest : List Answer) (p : ℕ) (v : Chosen) (b : Branch) → slice_get script.services v.number ≡ Some v.service → Between m (a ∷ rest)
      → S m (demanded p (Some v.number)) × Meets moment_after S P (λ y s. S y (event_left (event_of v.bit s)) × Between (moment_after y (event_left (event_of v.bit s))) s.answers) (moment_after m (demanded p (Some v.number))) (service_meaning (context plan script) 65535 v.service b rest)
  served m a rest p v b listed r =
      let i : ℕ = v.number in
      let h = fine_at plan script ks script.services i v.service fine listed in
      let k : Bounds = h.0 in
      let its : slice_get ks i ≡ Some k = h.1 in
      let x : Moment = moment_after m (demanded p (Some i)) in
      let o : Behaviour State = service_meaning (context plan script) 65535 v.service b rest in (
        on_demand m p (Some i),
        meets_mapped moment_after (AtPiece i rest plan ks k its) (AtStop i rest plan ks k its) S P (AtEnd i rest plan ks k its) (λ y s. S y (event_left (event_of v.bit s)) × Between (moment_after y (event_left (event_of v.bit s))) s.answers)
            (on_piece i rest k its) (on_stop i rest k its) (λ y s e. (on_event i rest k its y v.bit s e, finish i rest y s v.bit e.is_here)) x o
            (fine_walk i rest plan ks k its x o
            (script_keeps moment_after (InIt i rest) (IsHere i rest) (stepwise i rest) plan script v.service.body 65535 x (fresh b rest) (begin m a rest p i b r))
            (h.2 65535 enough b rest) (services_short plan script 65535 v.service b rest)),
      )

  run_meets : (answers : List Answer) → Meets moment_after S P (AtRunEnd moment_after S P plan script 65535 Between (λ x a rest p r. (on_demand x p None, idle x a rest p r)) served) (first_moment answers) (the_run plan script answers)
  run_meets answers =
      rounds_meet moment_after S P plan script 65535 Between (λ x a rest p r. (on_demand x p None, idle x a rest p r)) served (length answers) (first_moment answers) start answers (omega arith) refl

-- what a service in progress gives: at its moments
module _ (i : ℕ) (rest : List Answer) (plan : Layout) (ks : List Bounds) (k : Bounds) (its : slice_get ks i ≡ Some k) (m : Moment) where
  words_piece : (p : Piece) → AtPiece i rest plan ks k its m p → EventFits ks m p
  words_piece (demanded p o) h = tt
  words_piece (cycled at f d r w) h = tt
  words_piece (lock_taken c w) h = tt
  words_piece (lock_released c) h = tt
  words_piece (event_left e) h = absurd h.is_piece

  cost_piece : (p : Piece) → AtPiece i rest plan ks k its m p → CostStays ks m p
  cost_piece (demanded p o) h = tt
  cost_piece (cycled at f d r w) h = h.cost
  cost_piece (lock_taken c w) h = h.cost
  cost_piece (lock_released c) h = h.cost
  cost_piece (event_left e) h = absurd h.is_piece

  progress_of : (s : State) → IsHere i rest m s → m.progress ≡ (here i rest s).progress
  progress_of s e = ap (λ x. x.progress) e

  words_here : (s : State) → IsHere i rest m s → IsWithinBounds k s → InService ks m (WordsFit s.words)
  words_here s e h =
      in_service i rest plan ks k its m s.cost (WordsFit s.words) (progress_of s e) (record { most = h.words; are_words = h.are_words })

  steps_here : (s : State) → IsHere i rest m s → IsWithinBounds k s → InService ks m (StepsFit s)
  steps_here s e h =
      in_service i rest plan ks k its m s.cost (StepsFit s) (progress_of s e) (record { counted = refl; most = h.cycles; steps = h.steps })

  event_here : (bit : ℕ) (s : State) → IsHere i rest m s → IsWithinBounds k s → InService ks m (EventCost (event_of bit s))
  event_here bit s e h =
      in_service i rest plan ks k its m s.cost (EventCost (event_of bit s)) (progress_of s e) (record { counted = refl; most = h.cycles })

  short_here : (w : Stop) (s : State) → AtStop i rest plan ks k its m w s → IsShortOfAnswers ks m w s
  short_here short s h =
      let few = h.few.0 in
      let steps = h.within.steps in
      let none : length s.answers ≡ 0 = ap length h.few.1 in (
        ap (λ x. x.left) h.is_here ∙ none,
        in_service i rest plan ks k its m s.cost FewAnswers (progress_of s h.is_here) (omega (arith, few, steps)),
      )
  short_here (overrun c w) s h = tt
  short_here wrong s h = tt
  short_here more s h = tt

-- of a behaviour that is fine
module _ (plan : Layout) (k : Bounds) where
  fine_stops : (u : Unit {0}) (b : Behaviour State) → IsFine plan k b → Meets no_count Any (λ u w s. IsOfAnswers w) (λ y s. Unit {0} × Unit {0}) u b
  fine_stops u (does p b) h = (tt, fine_stops u b h.1)
  fine_stops u (ends s) h = (tt, tt)
  fine_stops u (stops w s) h = h.0

  fine_cycles : (u : Unit {0}) (b : Behaviour State) → IsFine plan k b → Meets no_count (λ u p. IsSafePiece plan p) AnyStop (λ y s. Unit {0} × Unit {0}) u b
  fine_cycles u (does p b) h = (h.0, fine_cycles u b h.1)
  fine_cycles u (ends s) h = (tt, tt)
  fine_cycles u (stops w s) h = tt

-- the locks of the branch are those that the pieces tell
record Told (l : Locked) (s : State) : Type 0 where
  at : (c : ℕ) → (s.branch c).locked ≡ l c

lock_told : (l : Locked) (b : Branch) (c : ℕ) (t : Bool) → ((d : ℕ) → (b d).locked ≡ l d) → (d : ℕ) → (with_lock c t b d).locked ≡ (if nat_eq d c then t else l d)
lock_told l b c t h d = go (nat_eq d c)
  where
    go : (same : Bool) → (if same then record (b c) { locked = t } else b d).locked ≡ (if same then t else l d)
    go true = refl
    go false = h d

told_stepwise : IsStepwise locked_after NoneHeld Told
told_stepwise = record {
  on_step = λ l s h. record { at = h.at };
  on_store = λ l env regs s h. record { at = h.at };
  on_word = λ l w s h. record { at = h.at };
  on_cycle = λ l at f d r a rest s e h. (tt, record { at = λ c. (cycle_locks s.branch at f).at c ∙ h.at c });
  on_lock = λ l c a rest s e free h. (sym (h.at c) ∙ free, record { at = lock_told l s.branch c true h.at });
  on_release = λ l c s h. (tt, record { at = lock_told l s.branch c false h.at });
}

abbrev pub NoneTold : Locked → List Answer → Type 0
NoneTold l answers = (c : ℕ) → l c ≡ false

module _ (plan : Layout) (script : Script) where
  pub told_service : (l : Locked) (a : Answer) (rest : List Answer) (p : ℕ) (v : Chosen) (b : Branch) → slice_get script.services v.number ≡ Some v.service → NoneTold l (a ∷ rest)
      → NoneHeld l (demanded p (Some v.number)) × Meets locked_after NoneHeld AnyStop (λ y s. NoneHeld y (event_left (event_of v.bit s)) × NoneTold y s.answers) l (service_meaning (context plan script) 65535 v.service b rest)
  told_service l a rest p v b listed none =
      let o : Behaviour State = service_meaning (context plan script) 65535 v.service b rest in (
        tt,
        meets_mapped locked_after NoneHeld (Still locked_after NoneHeld Told) NoneHeld AnyStop (λ y s. Told y s × NoneLocked s) (λ y s. NoneHeld y (event_left (event_of v.bit s)) × NoneTold y s.answers)
            (λ x q h. h) (λ x w s h. tt) (λ y s h. (λ c. sym (h.0.at c) ∙ h.1 c, λ c. sym (h.0.at c) ∙ h.1 c)) l o
            (meets_where locked_after NoneHeld (Still locked_after NoneHeld Told) Told NoneLocked l o
            (script_keeps locked_after NoneHeld Told told_stepwise plan script v.service.body 65535 l (fresh b rest) (record { at = λ c. sym (none c) }))
            (services_unlock plan script 65535 v.service b rest)),
      )

  locks_told : (answers : List Answer) → Meets locked_after NoneHeld AnyStop Any (λ c. false) (the_run plan script answers)
  locks_told answers =
      meets_mapped locked_after NoneHeld AnyStop NoneHeld AnyStop (AtRunEnd locked_after NoneHeld AnyStop plan script 65535 NoneTold (λ l a rest p none. (tt, none)) told_service) Any (λ x q h. h) (λ x w s h. h) (λ x u h. tt) (λ c. false) (the_run plan script answers)
      (rounds_meet locked_after NoneHeld AnyStop plan script 65535 NoneTold (λ l a rest p none. (tt, none)) told_service (length answers) (λ c. false) start answers (omega arith) (λ c. refl))

abbrev AnyTime : Unit {0} → List Answer → Type 0
AnyTime u answers = Unit {0}

all_safe : (plan : Layout) (b : Behaviour (Unit {0})) → Meets no_count (λ u p. IsSafePiece plan p) AnyStop Any nothing b → AreSafe plan (pieces b)
all_safe plan (does p b) h = (h.0, all_safe plan b h.1)
all_safe plan (ends u) h = tt
all_safe plan (stops w s) h = tt

not_more : (b : Behaviour (Unit {0})) → Meets no_count Any (λ u w s. IsOfAnswers w) Any nothing b → stop_of b ≢ Some more
not_more (does p b) h = not_more b h.1
not_more (ends u) h = λ e. absurd (cc)
not_more (stops short s) h = λ e. absurd (cc)
not_more (stops (overrun c w) s) h = λ e. absurd (cc)
not_more (stops wrong s) h = absurd h
not_more (stops more s) h = absurd h

module _ (plan : Layout) (script : Script) (ks : List Bounds) (fine : AreFineServices plan script ks) where
  right : (answers : List Answer) → Meets no_count Any (λ u w s. IsOfAnswers w) Any nothing (the_run plan script answers)
  right answers =
      rounds_meet no_count Any (λ u w s. IsOfAnswers w) plan script 65535 AnyTime (λ u a rest p r. (tt, tt)) (λ u a rest p v b listed r.
      let h = fine_at plan script ks script.services v.number v.service fine listed in
      (tt, fine_stops plan h.0 u (service_meaning (context plan script) 65535 v.service b rest) (h.2 65535 enough b rest))) (length answers) nothing start answers (omega arith) tt

  safe : (answers : List Answer) → AreSafe plan (pieces (the_run plan script answers))
  safe answers =
      all_safe plan (the_run plan script answers)
      (rounds_meet no_count (λ u p. IsSafePiece plan p) AnyStop plan script 65535 AnyTime (λ u a rest p r. (tt, tt)) (λ u a rest p v b listed r.
      let h = fine_at plan script ks script.services v.number v.service fine listed in
      (tt, fine_cycles plan h.0 u (service_meaning (context plan script) 65535 v.service b rest) (h.2 65535 enough b rest))) (length answers) nothing start answers (omega arith) tt)

pub fine_services_run : FineServicesRun
fine_services_run plan script ks fine = record {
  right_and_ending = right plan script ks fine;
  same_turns = λ n le answers. run_turns_suffice plan script 65535 n (as_many n le) answers (not_more (the_run plan script answers) (right plan script ks fine answers));
  safe_cycles = safe plan script ks fine;
  words_within = λ answers.
      weaken_end (EventFits ks) (λ m w s. InService ks m (WordsFit s.words)) (first_moment answers) (the_run plan script answers)
      (run_meets plan script ks fine (EventFits ks) (λ m w s. InService ks m (WordsFit s.words)) (λ m p o. tt)
      (λ i rest k its m p h. words_piece i rest plan ks k its m p h) (λ i rest k its m w s h. words_here i rest plan ks k its m s h.is_here h.within) (λ i rest k its m bit s h. words_here i rest plan ks k its m s h.is_here h.within) answers);
  cost_within = λ answers.
      weaken_end (CostStays ks) (λ m w s. InService ks m (StepsFit s)) (first_moment answers) (the_run plan script answers)
      (run_meets plan script ks fine (CostStays ks) (λ m w s. InService ks m (StepsFit s)) (λ m p o. tt)
      (λ i rest k its m p h. cost_piece i rest plan ks k its m p h) (λ i rest k its m w s h. steps_here i rest plan ks k its m s h.is_here h.within) (λ i rest k its m bit s h. event_here i rest plan ks k its m bit s h.is_here h.within) answers);
  short_of_answers = λ answers.
      at_run_end Any (IsShortOfAnswers ks) (first_moment answers) (the_run plan script answers)
      (run_meets plan script ks fine Any (IsShortOfAnswers ks) (λ m p o. tt)
      (λ i rest k its m p h. tt) (λ i rest k its m w s h. short_here i rest plan ks k its m w s h) (λ i rest k its m bit s h. tt) answers);
  locks_released = locks_told plan script;
}
  where
    weaken_end : (S : Moment → Piece → Type 0) (P : Moment → Stop → State → Type 0) (m : Moment) (b : Behaviour (Unit {0})) → Meets moment_after S P (λ x u. Between x []) m b → Meets moment_after S P Any m b
    weaken_end S P m b h = meets_mapped moment_after S P S P (λ x u. Between x []) Any (λ x p g. g) (λ x w s g. g) (λ x u g. tt) m b h

    at_run_end : (S : Moment → Piece → Type 0) (P : Moment → Stop → State → Type 0) (m : Moment) (b : Behaviour (Unit {0})) → Meets moment_after S P (λ x u. Between x []) m b → Meets moment_after S P IsOver m b
    at_run_end S P m b h =
        meets_mapped moment_after S P S P (λ x u. Between x []) IsOver (λ x p g. g) (λ x w s g. g) (λ x u g. record { none_left = ap (λ y. y.left) g; none_in_progress = ap (λ y. y.progress) g }) m b h
