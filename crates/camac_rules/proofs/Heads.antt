-- The heads of loops and their turns: what a turn leaves alone, and what is known where one begins.
use Rattle.std.proofs.Common.{◌≡◌, ℕ, zero, suc, ◌+◌, ◌-◌, Bool, false, List, [], Option, Some, None, refl, ◌∙◌, ◌≤◌, true, cond, ◌∷◌, get_or, sym, ap, subst, arith, length}
use Rattle.std.proofs.lemmas.Bool.{or_parts, cond_both, cond-false, eqb-true, eqb-false, and_parts, leb-true}
use Rattle.std.proofs.lemmas.Nat.{mul-le}
use Rattle.std.specs.Prelude.{◌||◌, nat_eq, slice_get, nat_le}
use Rattle.camac_lang.specs.declared.word.WordSize.{WordSize}
use Rattle.camac_lang.specs.declared.word.WordSize.TheVariants.{Full}
use Rattle.camac_lang.specs.Tree.{Move, no_data, into, from, Statement, assign, set_register, single, address_scan, q_stop, q_repeat, put, crate_call, lam_call, choose, choose_else, for_, for_each, while_, locked, call, Block, done, next, Keep}
use Rattle.camac_func.specs.declared.data.DataMove.{DataMove}
use Rattle.camac_func.specs.declared.data.DataMove.TheVariants as moved
use Rattle.camac_branch.specs.Address.{Address, address}
use Rattle.camac_branch.specs.Allowed.{width}
use Rattle.camac_branch.specs.Branch.{Reply, Answer, reply_to}
use Rattle.camac_branch.specs.Plan.{Layout, crate_waits}
use Rattle.camac_esone.specs.Transfers.{NextAddress, q_stop_next, q_repeat_next, scan_next, tally}
use Rattle.camac_model.specs.State.{State, stepped, set_at, with_variable, with_register, with_word, Variables, Registers}
use Rattle.camac_model.specs.Behaviour.{Piece, Behaviour, does, ends, stops, Stop, Action, then_do, given, unless_wrong}
use Rattle.camac_model.specs.Moments.{Meets}
use Rattle.camac_model.specs.Value.{value, values, truth}
use Rattle.camac_model.specs.Cycle.{cycle, after_cycle, sized, kept, after_lock, take_lock, release}
use Rattle.camac_model.specs.Transfer.{keep_word}
use Rattle.camac_model.specs.Meaning.{Context, crate_address, crate_function, lam_function, fits_size, act, transfer_to, sent, for_state, for_from, enter, effect, block_meaning}
use Rattle.camac_model.specs.Fine.{Bounds, AreWords, most_turns}
use Rattle.camac_model.proofs.Rules.{then_meets, given_meets, decide_meets, unless_meets, cycle_meets, lock_meets, enter_meets, transfer_meets, turns_meet, counts_meet}
use Rattle.camac_rules.specs.Writes.{reads_into, writes, block_writes, any_range, forget_variable, forget_move, forget, forget_block}
use Rattle.camac_rules.specs.Known.{write, range_at, region_at, Facts, Known, with_range}
use Rattle.camac_rules.specs.Loops.{kept_range, keeps_hold, keeps_hold_after, with_keeps, head, turn_limit}
use Rattle.camac_rules.specs.Costs.{loop_costs}
use Rattle.camac_rules.proofs.Stores.{Place, read_same, read_other, IsSetInside, Inside, Reaches, AreLocked}
use Rattle.camac_rules.proofs.Sound.{AreEasy, Paid, Stopped, step as step_of_sound, SafePiece}
use Rattle.camac_range.specs.Number.{greatest}
use Rattle.camac_range.specs.Interval.{Interval, only, is_inside, IsWithin}

-- A statement leaves alone each variable that it does not write and each register that it does not set.

-- whether register r is set
abbrev mutual
  pub sets : Statement → ℕ → Bool
  sets (assign spot x e) r = false
  sets (set_register spot g e1 e2 e3) r = nat_eq r g
  sets (single spot size f g move) r = false
  sets (address_scan spot f r1 r2 max x) r = false
  sets (q_stop spot f g t max x) r = false
  sets (q_repeat spot f g t max limit x) r = false
  sets (put spot e) r = false
  sets (crate_call spot which e) r = false
  sets (lam_call spot which l) r = false
  sets (choose spot test a) r = block_sets a r
  sets (choose_else spot test a b) r = block_sets a r || block_sets b r
  sets (for_ spot x e1 e2 keeps body) r = block_sets body r
  sets (for_each spot x v last body) r = block_sets body r
  sets (while_ spot test most m keeps body) r = block_sets body r
  sets (locked spot e body) r = block_sets body r
  sets (call spot p es) r = false

  pub block_sets : Block → ℕ → Bool
  block_sets done r = false
  block_sets (next s rest) r = sets s r || block_sets rest r

-- what is neither written nor set is as before
pub record Same (w g : ℕ → Bool) (s t : State) : Type 0 where
  pub variables : (y : ℕ) → w y ≡ false → t.variables y ≡ s.variables y
  pub registers : (r : ℕ) → g r ≡ false → t.registers r ≡ s.registers r

pub same_self : (w g : ℕ → Bool) (s : State) → Same w g s s
same_self w g s = record { variables = λ y e. refl; registers = λ r e. refl }

-- nothing is said of pieces and stops
abbrev pub step : Unit {0} → Piece → Unit {0}
step x p = tt

abbrev pub AnyPiece : Unit {0} → Piece → Type 0
AnyPiece x p = Unit {0}

abbrev pub AnyStop : Unit {0} → Stop → State → Type 0
AnyStop x w s = Unit {0}

-- where it ends, all is as before but for what may be written and set
abbrev Left : (ℕ → Bool) → (ℕ → Bool) → State → Unit {0} → State → Type 0
Left w g s x t = Same w g s t

abbrev pub Leaves : (ℕ → Bool) → (ℕ → Bool) → State → Behaviour State → Type 0
Leaves w g s b = Meets step AnyPiece AnyStop (Left w g s) tt b

any_end : (Q : Unit {0} → State → Type 0) (b : Behaviour State) → ((t : State) → Q tt t) → Meets step AnyPiece AnyStop Q tt b
any_end Q (does p b) h = (tt, any_end Q b h)
any_end Q (ends t) h = h t
any_end Q (stops w t) h = tt

-- less is claimed, from a state where all that is claimed is as before
leaves_from : (w g w' g' : ℕ → Bool) (s t : State) (b : Behaviour State) → ((y : ℕ) → w' y ≡ false → w y ≡ false) → ((r : ℕ) → g' r ≡ false → g r ≡ false) → Same w' g' s t → Leaves w g t b → Leaves w' g' s b
leaves_from w g w' g' s t (does p b) f k h l = (tt, leaves_from w g w' g' s t b f k h l.1)
leaves_from w g w' g' s t (ends u) f k h l = record { variables = λ y e. l.variables y (f y e) ∙ h.variables y e; registers = λ r e. l.registers r (k r e) ∙ h.registers r e }
leaves_from w g w' g' s t (stops x u) f k h l = tt

set_other : {A : Type 0} (x y : ℕ) (v : A) (f : ℕ → A) → nat_eq y x ≡ false → set_at x v f y ≡ f y
set_other x y v f e = cond-false (nat_eq y x) v (f y) e

-- a variable is written
pub same_written : (w g : ℕ → Bool) (x v : ℕ) (s t : State) → ((y : ℕ) → w y ≡ false → nat_eq y x ≡ false) → Same w g s t → Same w g s (with_variable x v t)
same_written w g x v s t f h = record { variables = λ y e. set_other x y v t.variables (f y e) ∙ h.variables y e; registers = h.registers }

pub same_for_state : (w g : ℕ → Bool) (x v : ℕ) (s t : State) → Same w g s (with_variable x v t) → Same w g s (for_state x v t)
same_for_state w g x v s t h = record { variables = h.variables; registers = h.registers }

given_leaves : {A : Type 0} (w g : ℕ → Bool) (s : State) (o : Option A) (go : A → Action) → ((v : A) → Leaves w g s (go v s)) → Leaves w g s (given o go s)
given_leaves w g s o go h = given_meets step AnyPiece AnyStop (Left w g s) tt o go s (λ e. tt) (λ v e. h v)

unless_leaves : (w g : ℕ → Bool) (s : State) (b : Bool) (go : Action) → Leaves w g s (go s) → Leaves w g s (unless_wrong b go s)
unless_leaves w g s b go h = unless_meets step AnyPiece AnyStop (Left w g s) tt b go s (λ e. tt) (λ e. h)

cycle_leaves : (w g : ℕ → Bool) (s : State) (plan : Layout) (at : Address) (f : ℕ) (d : DataMove) (answers : List Answer) (go : Reply → Action) → ((r : Reply) (wait : ℕ) (rest : List Answer) → Leaves w g s (go r (after_cycle at f r wait rest s))) → Leaves w g s (cycle plan at f d answers go s)
cycle_leaves w g s plan at f d answers go h =
    cycle_meets step AnyPiece AnyStop (Left w g s) tt plan at f d answers go s (λ e. tt) (λ e. tt) (λ waits a rest e k p. tt)
    (λ waits a rest e k p. (tt, h (reply_to plan s.branch at f a) a.wait rest))

act_leaves : (w g : ℕ → Bool) (s : State) (plan : Layout) (at : Address) (f : ℕ) (size : WordSize) (m : Move) → ((y : ℕ) → w y ≡ false → reads_into m y ≡ false) → Leaves w g s (act plan at f size m s)
act_leaves w g s plan at f size no_data h = cycle_leaves w g s plan at f moved.None s.answers (λ r. ends) (λ r wait rest. record { variables = λ y e. refl; registers = λ q e. refl })
act_leaves w g s plan at f size (into x) h =
    cycle_leaves w g s plan at f moved.In s.answers (λ r t. ends (with_variable x (kept (sized size (width plan at f)) r) t))
    (λ r wait rest. same_written w g x (kept (sized size (width plan at f)) r) s (after_cycle at f r wait rest s) h (record { variables = λ y e. refl; registers = λ q e. refl }))
act_leaves w g s plan at f size (from e) h =
    let send : ℕ → Action = λ v t. cycle plan at f (moved.Out v) t.answers (λ r. ends) t in
    given_leaves w g s (value e s.variables) (λ v. unless_wrong (fits_size size v) (send v)) (λ v.
    unless_leaves w g s (fits_size size v) (send v) (cycle_leaves w g s plan at f (moved.Out v) s.answers (λ r. ends) (λ r wait rest. record { variables = λ y e. refl; registers = λ q e. refl })))

-- keeping a word of a transfer changes neither
word_kept : (w g : ℕ → Bool) (o : Option (List ℕ)) (bits : ℕ) (r : Reply) (s t : State) → Same w g s t → Same w g s (keep_word o bits r t)
word_kept w g None bits r s t h =
    cond_both r.q (with_word (kept bits r) t) t (λ u. Same w g s u) (λ e. record { variables = h.variables; registers = h.registers }) (λ e. h)
word_kept w g (Some ws) bits r s t h = h

transfer_leaves : (w g : ℕ → Bool) (s : State) (plan : Layout) (f : ℕ) (o : Option (List ℕ)) (next_address : NextAddress) (x : ℕ) → ((y : ℕ) → w y ≡ false → nat_eq y x ≡ false) → Leaves w g s (transfer_to plan f o next_address x s)
transfer_leaves w g s plan f o next_address x h =
    transfer_meets step AnyPiece AnyStop (Left w g s) plan f o next_address (λ qs t. ends (with_variable x (tally qs) t)) (λ u qs t. Same w g s t)
    (record {
      no_word = λ u qs t at i e k. tt;
      no_crate = λ u qs t at i e k. tt;
      no_answer = λ u qs t at i e k. tt;
      no_wait = λ u qs t at waits a rest i e k l m. tt;
      keeps = λ u qs t at d waits a rest i e k l m n.
          let r : Reply = reply_to plan t.branch at f a in
          let v : State = after_cycle at f r a.wait rest t in
          let one : Same w g s (keep_word o (width plan at f) r v) = word_kept w g o (width plan at f) r s v (record { variables = i.variables; registers = i.registers }) in
          (tt, record { variables = one.variables; registers = one.registers });
    })
    (λ u qs t i e. same_written w g x (tally qs) s t h i) s.answers tt [] s refl (same_self w g s)

module _ (c : Context) (n : ℕ) where
  -- the turns of a `for`
  abbrev Wrote : ℕ → Block → ℕ → Bool
  Wrote x body y = nat_eq y x || block_writes body y

  all_turns : (x : ℕ) (body : Block) (s : State) → ((t : State) → Leaves (block_writes body) (block_sets body) t (block_meaning c n body t)) → (m first last : ℕ) → Leaves (Wrote x body) (block_sets body) s (for_from m n x first last (block_meaning c n body) s)
  all_turns x body s each zero first last = same_self (Wrote x body) (block_sets body) s
  all_turns x body s each (suc m) first last =
      let w : ℕ → Bool = Wrote x body in
      let g : ℕ → Bool = block_sets body in
      counts_meet step AnyPiece AnyStop (Left w g s) x last (block_meaning c n body) (λ u k v t. Same w g s t) (λ u k v t i. tt)
      (λ u k v t i. leaves_from (block_writes body) g w g s (for_state x v t) (block_meaning c n body (for_state x v t))
      (λ y f. (or_parts (nat_eq y x) (block_writes body y) f).1) (λ r f. f)
      (same_for_state w g x v s t (same_written w g x v s t (λ y f. (or_parts (nat_eq y x) (block_writes body y) f).0) i)) (each (for_state x v t)))
      (λ u v t i. same_written w g x last s t (λ y f. (or_parts (nat_eq y x) (block_writes body y) f).0) i) (suc m) n tt first s (same_self w g s)

  mutual
    pub statement_leaves : (st : Statement) (s : State) → Leaves (writes st) (sets st) s (effect c n st s)
    statement_leaves (assign spot x e) s =
        let w : ℕ → Bool = writes (assign spot x e) in
        let g : ℕ → Bool = sets (assign spot x e) in
        given_leaves w g s (value e s.variables) (λ v t. ends (with_variable x v t)) (λ v. same_written w g x v s s (λ y e. e) (same_self w g s))
    statement_leaves (set_register spot r e1 e2 e3) s =
        let w : ℕ → Bool = writes (set_register spot r e1 e2 e3) in
        let g : ℕ → Bool = sets (set_register spot r e1 e2 e3) in
        let third : ℕ → ℕ → ℕ → Action = λ k m a t. ends (with_register r (address k m a) t) in
        let second : ℕ → ℕ → Action = λ k m. given (value e3 s.variables) (third k m) in
        let first : ℕ → Action = λ k. given (value e2 s.variables) (second k) in
        given_leaves w g s (value e1 s.variables) first (λ k.
        given_leaves w g s (value e2 s.variables) (second k) (λ m.
        given_leaves w g s (value e3 s.variables) (third k m) (λ a.
        record { variables = λ y e. refl; registers = λ q e. set_other r q (Some (address k m a)) s.registers e })))
    statement_leaves (single spot size f r move) s =
        given_leaves (writes (single spot size f r move)) (sets (single spot size f r move)) s (s.registers r) (λ at. act c.plan at f size move) (λ at.
        act_leaves (writes (single spot size f r move)) (sets (single spot size f r move)) s c.plan at f size move (λ y e. e))
    statement_leaves (address_scan spot f r1 r2 max x) s =
        let w : ℕ → Bool = writes (address_scan spot f r1 r2 max x) in
        let g : ℕ → Bool = sets (address_scan spot f r1 r2 max x) in
        let go : Address → Address → ℕ → Action = λ a b l. transfer_to c.plan f None (scan_next a b l) x in
        let third : Address → Address → ℕ → Action = λ a b l. unless_wrong (nat_eq a.crate_no b.crate_no) (go a b l) in
        let second : Address → Address → Action = λ a b. given (value max s.variables) (third a b) in
        given_leaves w g s (s.registers r1) (λ a. given (s.registers r2) (second a)) (λ a.
        given_leaves w g s (s.registers r2) (second a) (λ b.
        given_leaves w g s (value max s.variables) (third a b) (λ l.
        unless_leaves w g s (nat_eq a.crate_no b.crate_no) (go a b l) (transfer_leaves w g s c.plan f None (scan_next a b l) x (λ y e. e)))))
    statement_leaves (q_stop spot f r t max x) s =
        let w : ℕ → Bool = writes (q_stop spot f r t max x) in
        let g : ℕ → Bool = sets (q_stop spot f r t max x) in
        let second : Option (List ℕ) → Address → ℕ → Action = λ table at l. transfer_to c.plan f table (q_stop_next at l) x in
        let first : Option (List ℕ) → Address → Action = λ table at. given (value max s.variables) (second table at) in
        given_leaves w g s (sent c t) (λ table. given (s.registers r) (first table)) (λ table.
        given_leaves w g s (s.registers r) (first table) (λ at.
        given_leaves w g s (value max s.variables) (second table at) (λ l. transfer_leaves w g s c.plan f table (q_stop_next at l) x (λ y e. e))))
    statement_leaves (q_repeat spot f r t max limit x) s =
        let w : ℕ → Bool = writes (q_repeat spot f r t max limit x) in
        let g : ℕ → Bool = sets (q_repeat spot f r t max limit x) in
        let third : Option (List ℕ) → Address → ℕ → ℕ → Action = λ table at l m. transfer_to c.plan f table (q_repeat_next at l m) x in
        let second : Option (List ℕ) → Address → ℕ → Action = λ table at l. given (value limit s.variables) (third table at l) in
        let first : Option (List ℕ) → Address → Action = λ table at. given (value max s.variables) (second table at) in
        given_leaves w g s (sent c t) (λ table. given (s.registers r) (first table)) (λ table.
        given_leaves w g s (s.registers r) (first table) (λ at.
        given_leaves w g s (value max s.variables) (second table at) (λ l.
        given_leaves w g s (value limit s.variables) (third table at l) (λ m. transfer_leaves w g s c.plan f table (q_repeat_next at l m) x (λ y e. e)))))
    statement_leaves (put spot e) s =
        given_leaves (writes (put spot e)) (sets (put spot e)) s (value e s.variables) (λ v t. ends (with_word v t)) (λ v. record { variables = λ y e. refl; registers = λ r e. refl })
    statement_leaves (crate_call spot which e) s =
        let w : ℕ → Bool = writes (crate_call spot which e) in
        let g : ℕ → Bool = sets (crate_call spot which e) in
        given_leaves w g s (value e s.variables) (λ d. act c.plan (crate_address which d) (crate_function which) Full no_data) (λ d.
        act_leaves w g s c.plan (crate_address which d) (crate_function which) Full no_data (λ y e. refl))
    statement_leaves (lam_call spot which l) s =
        let w : ℕ → Bool = writes (lam_call spot which l) in
        let g : ℕ → Bool = sets (lam_call spot which l) in
        given_leaves w g s (slice_get c.lams l) (λ at. act c.plan at (lam_function which) Full no_data) (λ at.
        act_leaves w g s c.plan at (lam_function which) Full no_data (λ y e. refl))
    statement_leaves (choose spot test a) s =
        decide_meets step AnyPiece AnyStop (Left (block_writes a) (block_sets a) s) tt (truth test s.variables s.q s.x) (block_meaning c n a) ends s (λ e. tt)
        (λ e. block_leaves a s) (λ e. same_self (block_writes a) (block_sets a) s)
    statement_leaves (choose_else spot test a b) s =
        let w : ℕ → Bool = writes (choose_else spot test a b) in
        let g : ℕ → Bool = sets (choose_else spot test a b) in
        decide_meets step AnyPiece AnyStop (Left w g s) tt (truth test s.variables s.q s.x) (block_meaning c n a) (block_meaning c n b) s (λ e. tt)
        (λ e. leaves_from (block_writes a) (block_sets a) w g s s (block_meaning c n a s)
        (λ y f. (or_parts (block_writes a y) (block_writes b y) f).0) (λ r f. (or_parts (block_sets a r) (block_sets b r) f).0) (same_self w g s) (block_leaves a s))
        (λ e. leaves_from (block_writes b) (block_sets b) w g s s (block_meaning c n b s)
        (λ y f. (or_parts (block_writes a y) (block_writes b y) f).1) (λ r f. (or_parts (block_sets a r) (block_sets b r) f).1) (same_self w g s) (block_leaves b s))
    statement_leaves (for_ spot x e1 e2 keeps body) s =
        let w : ℕ → Bool = writes (for_ spot x e1 e2 keeps body) in
        let g : ℕ → Bool = block_sets body in
        let second : ℕ → ℕ → Action = λ first last. for_from (last + 1 - first) n x first last (block_meaning c n body) in
        given_leaves w g s (value e1 s.variables) (λ first. given (value e2 s.variables) (second first)) (λ first.
        given_leaves w g s (value e2 s.variables) (second first) (λ last. all_turns x body s (λ t. block_leaves body t) (last + 1 - first) first last))
    statement_leaves (for_each spot x first last body) s = all_turns x body s (λ t. block_leaves body t) (last + 1 - first) first last
    statement_leaves (while_ spot test most m keeps body) s =
        let w : ℕ → Bool = block_writes body in
        let g : ℕ → Bool = block_sets body in
        turns_meet step AnyPiece AnyStop (Left w g s) test (block_meaning c n body) (λ u k t. Same w g s t) (λ u k t i e. tt) (λ u t i e. tt)
        (λ u k t i e. leaves_from w g w g s (stepped t) (block_meaning c n body (stepped t)) (λ y f. f) (λ r f. f)
        (record { variables = i.variables; registers = i.registers }) (block_leaves body (stepped t)))
        (λ u k t i e. i) n tt s (same_self w g s)
    statement_leaves (locked spot e body) s =
        let w : ℕ → Bool = block_writes body in
        let g : ℕ → Bool = block_sets body in
        let held : ℕ → Action = λ d u. then_do (block_meaning c n body u) (release d) in
        let go : ℕ → ℕ → Action = λ d waits t. take_lock d waits (t.branch d).locked (held d) t in
        given_leaves w g s (value e s.variables) (λ d. given (crate_waits c.plan d) (go d)) (λ d.
        given_leaves w g s (crate_waits c.plan d) (go d) (λ waits.
        lock_meets step AnyPiece AnyStop (Left w g s) tt d waits (s.branch d).locked (held d) s (λ l. tt) (λ l. tt) (λ a rest l p. tt)
        (λ a rest l i p. (
          tt,
          then_meets step AnyPiece AnyStop (Left w g s) (Left w g s) tt (block_meaning c n body (after_lock d a.wait rest s)) (release d)
              (leaves_from w g w g s (after_lock d a.wait rest s) (block_meaning c n body (after_lock d a.wait rest s)) (λ y f. f) (λ r f. f)
              (record { variables = λ y f. refl; registers = λ r f. refl }) (block_leaves body (after_lock d a.wait rest s)))
              (λ u t h. (tt, record { variables = h.variables; registers = h.registers })),
        ))))
    statement_leaves (call spot p es) s =
        let w : ℕ → Bool = writes (call spot p es) in
        let g : ℕ → Bool = sets (call spot p es) in
        given_leaves w g s (slice_get c.routines p) (λ r. given (values es s.variables) (λ vs. enter (r n) vs)) (λ r.
        given_leaves w g s (values es s.variables) (λ vs. enter (r n) vs) (λ vs.
        enter_meets step AnyPiece AnyStop (Left w g s) tt (r n) vs s
        (any_end (λ u t. Same w g s (record t { variables = s.variables; registers = s.registers })) _ (λ t. record { variables = λ y e. refl; registers = λ q e. refl }))))

    pub block_leaves : (b : Block) (s : State) → Leaves (block_writes b) (block_sets b) s (block_meaning c n b s)
    block_leaves done s = same_self (block_writes done) (block_sets done) s
    block_leaves (next st rest) s =
        let w : ℕ → Bool = block_writes (next st rest) in
        let g : ℕ → Bool = block_sets (next st rest) in
        then_meets step AnyPiece AnyStop (Left w g s) (Left w g s) tt (effect c n st (stepped s)) (block_meaning c n rest)
        (leaves_from (writes st) (sets st) w g s (stepped s) (effect c n st (stepped s))
        (λ y f. (or_parts (writes st y) (block_writes rest y) f).0) (λ r f. (or_parts (sets st r) (block_sets rest r) f).0)
        (record { variables = λ y f. refl; registers = λ r f. refl }) (statement_leaves st (stepped s)))
        (λ u t h. leaves_from (block_writes rest) (block_sets rest) w g s t (block_meaning c n rest t)
        (λ y f. (or_parts (writes st y) (block_writes rest y) f).1) (λ r f. (or_parts (sets st r) (block_sets rest r) f).1) h (block_leaves rest t))

-- What is known at the head of a loop holds where each turn begins.

pub write_at : {A : Type 0} (d : A) (xs : List A) (i j : ℕ) (v : A) → get_or (write d xs i v) j d ≡ cond (nat_eq j i) v (get_or xs j d)
write_at d xs i j v =
    cond_both (nat_eq j i) v (get_or xs j d) (λ z. get_or (write d xs i v) j d ≡ z)
    (λ e. ap (λ m. get_or (write d xs i v) m d) (eqb-true j i e) ∙ read_same d xs i v)
    (λ e. read_other d xs i j v (eqb-false j i e))

one_or_other : {A : Type 0} (a b : Bool) (x y : A) → cond b x (cond a x y) ≡ cond (a || b) x y
one_or_other true true x y = refl
one_or_other true false x y = refl
one_or_other false true x y = refl
one_or_other false false x y = refl

moved_range : (m : Move) (k : Facts) (y : ℕ) → range_at (forget_move m k).ranges y ≡ cond (reads_into m y) any_range (range_at k.ranges y)
moved_range no_data k y = refl
moved_range (into x) k y = write_at (only 0) k.ranges x y any_range
moved_range (from e) k y = refl

moved_register : (m : Move) (k : Facts) (r : ℕ) → region_at (forget_move m k).registers r ≡ region_at k.registers r
moved_register no_data k r = refl
moved_register (into x) k r = refl
moved_register (from e) k r = refl

-- two forgettings, one after the other
forgotten_twice : {A : Type 0} (a b : Bool) (x y u v : A) → u ≡ cond b x v → v ≡ cond a x y → u ≡ cond (a || b) x y
forgotten_twice a b x y u v h k = h ∙ (ap (λ z. cond b x z) k ∙ one_or_other a b x y)

forgotten_first : {A : Type 0} (a b : Bool) (x y u v : A) → u ≡ cond a x v → v ≡ cond b x y → u ≡ cond (a || b) x y
forgotten_first true b x y u v h k = h
forgotten_first false b x y u v h k = h ∙ k

mutual
  pub forget_range : (st : Statement) (k : Facts) (y : ℕ) → range_at (forget st k).ranges y ≡ cond (writes st y) any_range (range_at k.ranges y)
  forget_range (assign spot x e) k y = write_at (only 0) k.ranges x y any_range
  forget_range (set_register spot r c n a) k y = refl
  forget_range (single spot size f r move) k y = moved_range move k y
  forget_range (address_scan spot f r1 r2 max x) k y = write_at (only 0) k.ranges x y any_range
  forget_range (q_stop spot f r t max x) k y = write_at (only 0) k.ranges x y any_range
  forget_range (q_repeat spot f r t max limit x) k y = write_at (only 0) k.ranges x y any_range
  forget_range (put spot e) k y = refl
  forget_range (crate_call spot which e) k y = refl
  forget_range (lam_call spot which l) k y = refl
  forget_range (choose spot test a) k y = forget_block_range a k y
  forget_range (choose_else spot test a b) k y =
      forgotten_twice (block_writes a y) (block_writes b y) any_range (range_at k.ranges y) (range_at (forget_block b (forget_block a k)).ranges y)
      (range_at (forget_block a k).ranges y) (forget_block_range b (forget_block a k) y) (forget_block_range a k y)
  forget_range (for_ spot x e1 e2 keeps body) k y =
      forgotten_first (nat_eq y x) (block_writes body y) any_range (range_at k.ranges y) (range_at (forget_variable x (forget_block body k)).ranges y)
      (range_at (forget_block body k).ranges y) (write_at (only 0) (forget_block body k).ranges x y any_range) (forget_block_range body k y)
  forget_range (for_each spot x v last body) k y =
      forgotten_first (nat_eq y x) (block_writes body y) any_range (range_at k.ranges y) (range_at (forget_variable x (forget_block body k)).ranges y)
      (range_at (forget_block body k).ranges y) (write_at (only 0) (forget_block body k).ranges x y any_range) (forget_block_range body k y)
  forget_range (while_ spot test most m keeps body) k y = forget_block_range body k y
  forget_range (locked spot e body) k y = forget_block_range body k y
  forget_range (call spot p es) k y = refl

  pub forget_block_range : (b : Block) (k : Facts) (y : ℕ) → range_at (forget_block b k).ranges y ≡ cond (block_writes b y) any_range (range_at k.ranges y)
  forget_block_range done k y = refl
  forget_block_range (next st rest) k y =
      forgotten_twice (writes st y) (block_writes rest y) any_range (range_at k.ranges y) (range_at (forget_block rest (forget st k)).ranges y)
      (range_at (forget st k).ranges y) (forget_block_range rest (forget st k) y) (forget_range st k y)

mutual
  forget_register_at : (st : Statement) (k : Facts) (r : ℕ) → region_at (forget st k).registers r ≡ cond (sets st r) None (region_at k.registers r)
  forget_register_at (assign spot x e) k r = refl
  forget_register_at (set_register spot g c n a) k r = write_at None k.registers g r None
  forget_register_at (single spot size f g move) k r = moved_register move k r
  forget_register_at (address_scan spot f r1 r2 max x) k r = refl
  forget_register_at (q_stop spot f g t max x) k r = refl
  forget_register_at (q_repeat spot f g t max limit x) k r = refl
  forget_register_at (put spot e) k r = refl
  forget_register_at (crate_call spot which e) k r = refl
  forget_register_at (lam_call spot which l) k r = refl
  forget_register_at (choose spot test a) k r = forget_block_register a k r
  forget_register_at (choose_else spot test a b) k r =
      forgotten_twice (block_sets a r) (block_sets b r) None (region_at k.registers r) (region_at (forget_block b (forget_block a k)).registers r)
      (region_at (forget_block a k).registers r) (forget_block_register b (forget_block a k) r) (forget_block_register a k r)
  forget_register_at (for_ spot x e1 e2 keeps body) k r = forget_block_register body k r
  forget_register_at (for_each spot x v last body) k r = forget_block_register body k r
  forget_register_at (while_ spot test most m keeps body) k r = forget_block_register body k r
  forget_register_at (locked spot e body) k r = forget_block_register body k r
  forget_register_at (call spot p es) k r = refl

  forget_block_register : (b : Block) (k : Facts) (r : ℕ) → region_at (forget_block b k).registers r ≡ cond (block_sets b r) None (region_at k.registers r)
  forget_block_register done k r = refl
  forget_block_register (next st rest) k r =
      forgotten_twice (sets st r) (block_sets rest r) None (region_at k.registers r) (region_at (forget_block rest (forget st k)).registers r)
      (region_at (forget st k).registers r) (forget_block_register rest (forget st k) r) (forget_register_at st k r)

-- each kept variable is in its range
abbrev pub InKeeps : List Keep → Variables → Type 0
InKeeps [] env = Unit {0}
InKeeps (q ∷ qs) env = IsWithin (kept_range q) (env q.variable) × InKeeps qs env

inside_within : (r s : Interval) (v : ℕ) → is_inside r s ≡ true → IsWithin r v → IsWithin s v
inside_within r s v e w =
    let p = and_parts (nat_le s.lo r.lo) (nat_le r.hi s.hi) e in
    let low : s.lo ≤ r.lo = leb-true s.lo r.lo p.0 in
    let high : r.hi ≤ s.hi = leb-true r.hi s.hi p.1 in
    let l = w.low in
    let h = w.high in
    record { low = omega arith; high = omega arith }

pub in_keeps : (around : Place) (qs : List Keep) (k : Facts) (s : State) → keeps_hold qs k ≡ true → Inside around k s → InKeeps qs s.variables
in_keeps around [] k s e i = tt
in_keeps around (q ∷ qs) k s e i =
    let p = and_parts (is_inside (range_at k.ranges q.variable) (kept_range q)) (keeps_hold qs k) e in
    (inside_within (range_at k.ranges q.variable) (kept_range q) (s.variables q.variable) p.0 (i.variables.each q.variable), in_keeps around qs k s p.1 i)

pub in_keeps_after : (around : Place) (qs : List Keep) (k : Known) (s : State) → keeps_hold_after qs k ≡ true → Reaches around k s → InKeeps qs s.variables
in_keeps_after around qs None s e r = absurd r
in_keeps_after around qs (Some k) s e r = in_keeps around qs k s e r

-- a variable at the head, which is as at the entry where the body does not write it
pub head_each : (body : Block) (qs : List Keep) (k : Facts) (before env : Variables) (y : ℕ) → IsWithin (range_at k.ranges y) (before y) → env y ≤ greatest → (block_writes body y ≡ false → env y ≡ before y) → InKeeps qs env → IsWithin (range_at (head body qs k).ranges y) (env y)
head_each body [] k before env y w small same kept =
    subst (λ r. IsWithin r (env y)) (sym (forget_block_range body k y))
    (cond_both (block_writes body y) any_range (range_at k.ranges y) (λ r. IsWithin r (env y))
    (λ e. record { low = omega arith; high = omega arith })
    (λ e. subst (IsWithin (range_at k.ranges y)) (sym (same e)) w))
head_each body (q ∷ qs) k before env y w small same kept =
    subst (λ r. IsWithin r (env y)) (sym (write_at (only 0) (head body qs k).ranges q.variable y (kept_range q)))
    (cond_both (nat_eq y q.variable) (kept_range q) (range_at (head body qs k).ranges y) (λ r. IsWithin r (env y))
    (λ e. subst (λ z. IsWithin (kept_range q) (env z)) (sym (eqb-true y q.variable e)) kept.0)
    (λ e. head_each body qs k before env y w small same kept.1))

keeps_registers : (qs : List Keep) (k : Facts) → (with_keeps qs k).registers ≡ k.registers
keeps_registers [] k = refl
keeps_registers (q ∷ qs) k = keeps_registers qs k

-- a register at the head
pub head_register : (body : Block) (qs : List Keep) (k : Facts) (before now : Registers) (r : ℕ) → IsSetInside (region_at k.registers r) (before r) → (block_sets body r ≡ false → now r ≡ before r) → IsSetInside (region_at (head body qs k).registers r) (now r)
head_register body qs k before now r i same =
    subst (λ gs. IsSetInside (region_at gs r) (now r)) (sym (keeps_registers qs (forget_block body k)))
    (subst (λ g. IsSetInside g (now r)) (sym (forget_block_register body k r))
    (cond_both (block_sets body r) None (region_at k.registers r) (λ g. IsSetInside g (now r))
    (λ e. tt)
    (λ e. subst (IsSetInside (region_at k.registers r)) (sym (same e)) i)))

pub reaches_small : (around : Place) (k : Known) (s : State) → Reaches around k s → (y : ℕ) → s.variables y ≤ greatest
reaches_small around None s r y = absurd r
reaches_small around (Some k) s r y = r.variables.small y

-- What the turns of loops have in common: what is known where one begins, and what they cost.

-- at an end, what the rules promise and what is left alone
pub meets_both : (plan : Layout) (P : Unit {0} → Stop → State → Type 0) (Q R : Unit {0} → State → Type 0) (b : Behaviour State) → Meets step_of_sound (SafePiece plan) P Q tt b → Meets step AnyPiece AnyStop R tt b → Meets step_of_sound (SafePiece plan) P (λ x t. Q x t × R x t) tt b
meets_both plan P Q R (does p b) h k = (h.0, meets_both plan P Q R b h.1 k.1)
meets_both plan P Q R (ends t) h k = (h, k)
meets_both plan P Q R (stops w t) h k = h

-- what holds of all but the place that is changed, and of what it is changed to
pub changed_here : {X Y : Type 0} (P : X → Y → Type 0) (d : X) (xs : List X) (f : ℕ → Y) (i j : ℕ) (v : X) (w : Y) → P v w → (nat_eq j i ≡ false → P (get_or xs j d) (f j)) → P (get_or (write d xs i v) j d) (set_at i w f j)
changed_here P d xs f i j v w new old =
    cond_both (nat_eq j i) w (f j) (P (get_or (write d xs i v) j d))
    (λ e. subst (λ k. P (get_or (write d xs i v) k d) w) (sym (eqb-true j i e)) (subst (λ x. P x w) (sym (read_same d xs i v)) new))
    (λ e. subst (λ x. P x (f j)) (sym (read_other d xs i j v (eqb-false j i e))) (old e))

-- what holds between the turns of a loop that may write w and set what its body sets
pub record Between (around : Place) (w : ℕ → Bool) (body : Block) (qs : List Keep) (s t : State) : Type 0 where
  pub same : Same w (block_sets body) s t
  pub small : (y : ℕ) → t.variables y ≤ greatest
  pub locks : AreLocked around t.branch
  pub kept : InKeeps qs t.variables

pub inside_head : (around : Place) (body : Block) (qs : List Keep) (k : Facts) (s t : State) → Inside around k s → Between around (block_writes body) body qs s t → Inside around (head body qs k) t
inside_head around body qs k s t i b = record {
  variables = record {
    each = λ y. head_each body qs k s.variables t.variables y (i.variables.each y) (b.small y) (b.same.variables y) b.kept;
    small = b.small;
  };
  registers = λ r. head_register body qs k s.registers t.registers r (i.registers r) (b.same.registers r);
  locks = b.locks;
}

both_false : (a b : Bool) → a ≡ false → b ≡ false → (a || b) ≡ false
both_false true b e f = e
both_false false b e f = f

-- the same with a variable that the loop itself sets
pub inside_set : (around : Place) (x v : ℕ) (r : Interval) (body : Block) (qs : List Keep) (k : Facts) (s t : State) → Inside around k s → Between around (λ y. nat_eq y x || block_writes body y) body qs s t → IsWithin r v → v ≤ greatest → Inside around (with_range x r (head body qs k)) (with_variable x v t)
inside_set around x v r body qs k s t i b w le = record {
  variables = record {
    each = λ y. changed_here IsWithin (only 0) (head body qs k).ranges t.variables x y r v w (λ other.
        head_each body qs k s.variables t.variables y (i.variables.each y) (b.small y)
        (λ e. b.same.variables y (both_false (nat_eq y x) (block_writes body y) other e)) b.kept);
    small = λ y. cond_both (nat_eq y x) v (t.variables y) (λ n. n ≤ greatest) (λ e. le) (λ e. b.small y);
  };
  registers = λ r'. head_register body qs k s.registers t.registers r' (i.registers r') (b.same.registers r');
  locks = b.locks;
}

-- a statement's step alone is paid by a loop of any turns
pub paid_begun : (d : ℕ) (c : Bounds) (s : State) → Paid (loop_costs d c) s (stepped s)
paid_begun d c s = record { cycles = omega arith; words = omega arith; steps = omega arith; are_words = λ w. w; answers = omega arith; easy = λ w. w }

pub paid_turns : (d e : ℕ) (c : Bounds) (s t : State) → d ≤ e → Paid (loop_costs d c) s t → Paid (loop_costs e c) s t
paid_turns d e c s t le p =
    let cycles = mul-le d c.cycles e c.cycles le (omega arith) in
    let words = mul-le d c.words e c.words le (omega arith) in
    let steps = mul-le d (1 + c.steps) e (1 + c.steps) le (omega arith) in
    record { cycles = omega (arith, p.cycles); words = omega (arith, p.words); steps = omega (arith, p.steps); are_words = p.are_words; answers = omega (arith, p.answers); easy = p.easy }

-- the state where a turn's body begins has made a step, and counts what the one before has
pub record Begins (t b : State) : Type 0 where
  pub cost : b.cost ≡ t.cost
  pub words : b.words ≡ t.words
  pub steps : b.steps ≡ t.steps + 1
  pub answers : b.answers ≡ t.answers

-- one turn more
pub paid_turn : (d : ℕ) (c : Bounds) (s t b u : State) → Paid (loop_costs d c) s t → Begins t b → Paid c b u → Paid (loop_costs (d + 1) c) s u
paid_turn d c s t b u p g q = record {
  cycles = omega (arith, p.cycles, g.cost, q.cycles);
  words = omega (arith, p.words, words, q.words);
  steps = omega (arith, p.steps, g.steps, q.steps);
  are_words = λ h. q.are_words (subst AreWords (sym g.words) (p.are_words h));
  answers = omega (arith, p.answers, answers, q.answers);
  easy = λ z. q.easy (subst AreEasy (sym g.answers) (p.easy z));
}
  where
    words : length b.words ≡ length t.words
    words = ap length g.words

    answers : length b.answers ≡ length t.answers
    answers = ap length g.answers

-- a stop in a turn
pub stopped_turn : (d e : ℕ) (c : Bounds) (w : Stop) (s t b u : State) → d + 1 ≤ e → Paid (loop_costs d c) s t → Begins t b → Stopped c w b u → Stopped (loop_costs e c) w s u
stopped_turn d e c w s t b u le p g q =
    let more = mul-le (d + 1) (1 + c.steps) e (1 + c.steps) le (omega arith) in
    let answers : length b.answers ≡ length t.answers = ap length g.answers in
    record {
      of_answers = q.of_answers;
      paid = paid_turns (d + 1) e c s u le (paid_turn d c s t b u p g q.paid);
      because = λ z. omega (arith, p.answers, answers, more, q.because (subst AreEasy (sym g.answers) (p.easy z)));
    }

pub limit_is_most : (n : ℕ) → most_turns ≤ n → turn_limit ≤ n
unfolding most_turns
limit_is_most n le = le
