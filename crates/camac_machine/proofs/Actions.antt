-- What a statement wants or changes, where it is fine to do it.
use Rattle.std.proofs.Common.{◌≡◌, ℕ, ◌+◌, ◌^◌, ◌<◌, ◌≤◌, List, [], ◌∷◌, ◌++◌, length, set, Option, Some, None, Bool, true, false, refl, sym, ap, subst, ◌∙◌, zero, suc, ◌-◌}
use Rattle.std.specs.Borrow.{Bor}
use Rattle.std.specs.Prelude.{IsSome, slice_get, nat_eq}
use Rattle.camac_func.specs.declared.data.DataMove.{DataMove}
use Rattle.camac_func.specs.declared.data.DataMove.TheVariants as moved
use Rattle.camac_lang.specs.declared.word.CrateCall.{CrateCall}
use Rattle.camac_lang.specs.declared.word.CrateCall.TheVariants as calls
use Rattle.camac_lang.specs.declared.word.LamCall.{LamCall}
use Rattle.camac_lang.specs.declared.word.WordSize.{WordSize}
use Rattle.camac_lang.specs.declared.word.WordSize.TheVariants.{Full}
use Rattle.camac_lang.specs.declared.tree.Stmt.{Stmt}
use Rattle.camac_lang.specs.View.{statements_of}
use Rattle.camac_lang.specs.Tree.{Expression, Condition, Block, done, Move, no_data, into, from, Statement, assign, set_register, single, address_scan, q_stop, q_repeat, put, crate_call, lam_call, choose, choose_else, for_, for_each, while_, locked, call, on_line}
use Rattle.camac_branch.specs.Address.{Address, address}
use Rattle.camac_branch.specs.Allowed.{width}
use Rattle.camac_branch.specs.Branch.{Answer, Reply}
use Rattle.camac_branch.specs.Crates.{branch_of}
use Rattle.camac_branch.specs.Plan.{Layout, crate_waits}
use Rattle.camac_branch.specs.declared.answer.Command.{Command}
use Rattle.camac_esone.specs.Calls.{command_at, crate_address, crate_function, lam_function}
use Rattle.camac_esone.specs.Transfers.{NextAddress, q_stop_next, q_repeat_next, scan_next, tally}
use Rattle.camac_model.specs.State.{State, Variables, Registers, stepped, set_at, with_variable, with_register, with_word}
use Rattle.camac_model.specs.Behaviour.{ends, Action, then_do, given, decide, unless_wrong}
use Rattle.camac_model.specs.Cycle.{cycle, sized, kept, take_lock, release}
use Rattle.camac_model.specs.Fine.{IsWithinBounds, most_turns}
use Rattle.camac_model.specs.Meaning.{act, sent, transfer_to, entered, returned, enter, effect, block_meaning, fits_size, for_turns, for_from, turns}
use Rattle.camac_model.specs.Safe.{IsSafe}
use Rattle.camac_model.specs.Transfer.{transfer}
use Rattle.camac_model.specs.Value.{value, values, truth}
use Rattle.camac_machine.specs.declared.machine.Machine.{Machine}
use Rattle.camac_machine.specs.declared.machine.Pending.TheVariants.{Cycle, Read, Lock}
use Rattle.camac_machine.specs.MachineState.{registers_here, variables_here, context_in, reach, state_of, bounds_of, left_in, free, IsFineHere, FineThen, Awaits}
use Rattle.camac_machine.specs.Rest.{address_of, awaited}
use Rattle.camac_machine.specs.Within.{Reach, StatementFits, Opens}
use Rattle.camac_machine.proofs.Transfers.{transfer_within}
use Rattle.camac_machine.proofs.Procedures.{before, procedure_of_routine}
use Rattle.camac_machine.proofs.Fine.{some_is, blank, fine_given, fine_unless, fine_decide, fine_lock, lock_within, fine_first, keeps_block, keeps_rest, fine_cycle, cycle_steps, fine_word, keeps_for, keeps_turns}

module _ {V D C : ℕ} (h : Machine V D C) where
  abbrev plan : Layout
  plan = h.checked.now.plan

  keeps : (s : State) → IsFineHere h (left_in h s) → IsWithinBounds (bounds_of h) s
  keeps s fine = keeps_rest plan (bounds_of h) h.checked.now.script _ s fine

  act_steps : (at : Address) (f : ℕ) (size : WordSize) (m : Move) (s : State) → s.answers ≡ blank ∷ [] → IsFineHere h (then_do (act plan at f size m s) (left_in h)) → s.steps ≤ (bounds_of h).steps
  act_steps at f size no_data s e fine =
      cycle_steps plan (bounds_of h) at f moved.None (λ r. ends) s (left_in h) (λ r t k. (keeps t k).steps)
      (subst (λ l. IsFineHere h (then_do (cycle plan at f moved.None l (λ r. ends) s) (left_in h))) e fine)
  act_steps at f size (into x) s e fine =
      let go : Reply → Action = λ r t. ends (with_variable x (kept (sized size (width plan at f)) r) t) in
      cycle_steps plan (bounds_of h) at f moved.In go s (left_in h) (λ r t k. (keeps (with_variable x (kept (sized size (width plan at f)) r) t) k).steps)
      (subst (λ l. IsFineHere h (then_do (cycle plan at f moved.In l go s) (left_in h))) e fine)
  act_steps at f size (from x) s e fine =
      let send' : ℕ → Action = λ v t. cycle plan at f (moved.Out v) t.answers (λ r. ends) t in
      let g = fine_given plan (bounds_of h) (value x s.variables) (λ v. unless_wrong (fits_size size v) (send' v)) s (left_in h) fine in
      let u = fine_unless plan (bounds_of h) (fits_size size g.0) (send' g.0) s (left_in h) g.2 in
      cycle_steps plan (bounds_of h) at f (moved.Out g.0) (λ r. ends) s (left_in h) (λ r t k. (keeps t k).steps)
      (subst (λ l. IsFineHere h (then_do (cycle plan at f (moved.Out g.0) l (λ r. ends) s) (left_in h))) e u.1)

  -- a transfer that can be begun has room for the step
  transfer_steps : (f : ℕ) (table : Option (List ℕ)) (next_address : NextAddress) (x : ℕ) (s : State) → s.answers ≡ [] → IsFineHere h (then_do (transfer_to plan f table next_address x s) (left_in h)) → s.steps ≤ (bounds_of h).steps
  transfer_steps f table next_address x s e fine =
      let over : List Bool → Action = λ qs t. ends (with_variable x (tally qs) t) in
      (transfer_within plan f table next_address over [] (bounds_of h) (left_in h)
      (λ t k. let w = keeps (with_variable x 0 t) k in record { cycles = w.cycles; words = w.words; steps = w.steps; are_words = w.are_words }) s
      (subst (λ l. IsFineHere h (then_do (transfer plan f table next_address over [] l s) (left_in h))) e fine)).steps

  abbrev Does : Statement → Type 0
  Does s = FineThen h (λ c. effect c most_turns s)

  abbrev CanCycle : Address → ℕ → DataMove → Type 0
  CanCycle at f d = IsSome (crate_waits h.checked.now.plan at.crate_no) × IsSafe h.checked.now.plan at f d

  -- the value of an expression
  pub has_value : (e : Expression) (go : ℕ → Action) → IsFineHere h (then_do (given (value e (variables_here h)) go (state_of h [])) (left_in h)) → IsSome (value e (variables_here h))
  has_value e go fine =
      let g = fine_given h.checked.now.plan (bounds_of h) (value e (variables_here h)) go (state_of h []) (left_in h) fine in
      some_is (value e (variables_here h)) g.0 g.1

  -- goes on with a value that is known
  pub known : {A : Type 0} (o : Option A) (v : A) (go : A → Action) (answers : List Answer) → o ≡ Some v → IsFineHere h (then_do (given o go (state_of h answers)) (left_in h)) → IsFineHere h (then_do (go v (state_of h answers)) (left_in h))
  known o v go answers e fine =
      subst (λ p. IsFineHere h (then_do (given p go (state_of h answers)) (left_in h))) e fine

  pub put_fits : (e : Expression) (v : ℕ) → value e (variables_here h) ≡ Some v → Does (put (on_line 0) e) → (length h.words < (bounds_of h).words) × (v < 2 ^ 24)
  put_fits e v is fine =
      fine_word h.checked.now.plan (bounds_of h) h.checked.now.script _ v (state_of h [])
      (known (value e (variables_here h)) v (λ w t. ends (with_word w t)) [] is (fine []))

  -- the register of a single action is set
  pub address_set : (size : WordSize) (f r : ℕ) (m : Move) → Does (single (on_line 0) size f r m) → IsSome (registers_here h r)
  address_set size f r m fine =
      let g = fine_given h.checked.now.plan (bounds_of h) (registers_here h r) (λ at. act h.checked.now.plan at f size m) (state_of h []) (left_in h) (fine []) in
      some_is (registers_here h r) g.0 g.1

  acts : (size : WordSize) (f r : ℕ) (m : Move) (at : Address) (answers : List Answer) → registers_here h r ≡ Some at → Does (single (on_line 0) size f r m) → IsFineHere h (then_do (act h.checked.now.plan at f size m (state_of h answers)) (left_in h))
  acts size f r m at answers is fine =
      known (registers_here h r) at (λ at. act h.checked.now.plan at f size m) answers is (fine answers)

  pub control_can : (size : WordSize) (f r : ℕ) (at : Address) → registers_here h r ≡ Some at → Does (single (on_line 0) size f r no_data) → CanCycle at f moved.None
  control_can size f r at is fine =
      fine_cycle h.checked.now.plan (bounds_of h) at f moved.None (λ r. ends) (state_of h (blank ∷ [])) (left_in h)
      (acts size f r no_data at (blank ∷ []) is fine)

  pub read_can : (size : WordSize) (f r x : ℕ) (at : Address) → registers_here h r ≡ Some at → Does (single (on_line 0) size f r (into x)) → CanCycle at f moved.In
  read_can size f r x at is fine =
      fine_cycle h.checked.now.plan (bounds_of h) at f moved.In (λ r t. ends (with_variable x (kept (sized size (width h.checked.now.plan at f)) r) t)) (state_of h (blank ∷ [])) (left_in h)
      (acts size f r (into x) at (blank ∷ []) is fine)

  abbrev send : WordSize → ℕ → Address → ℕ → Action
  send size f at v t = cycle h.checked.now.plan at f (moved.Out v) t.answers (λ r. ends) t

  pub write_has : (size : WordSize) (f r : ℕ) (e : Expression) (at : Address) → registers_here h r ≡ Some at → Does (single (on_line 0) size f r (from e)) → IsSome (value e (variables_here h))
  write_has size f r e at is fine = has_value e _ (acts size f r (from e) at [] is fine)

  pub write_can : (size : WordSize) (f r : ℕ) (e : Expression) (at : Address) (v : ℕ) → registers_here h r ≡ Some at → value e (variables_here h) ≡ Some v → Does (single (on_line 0) size f r (from e)) → (fits_size size v ≡ true) × CanCycle at f (moved.Out v)
  write_can size f r e at v is val fine =
      let u = fine_unless h.checked.now.plan (bounds_of h) (fits_size size v) (send size f at v) (state_of h (blank ∷ [])) (left_in h)
      (known (value e (variables_here h)) v _ (blank ∷ []) val (acts size f r (from e) at (blank ∷ []) is fine)) in
      (u.0, fine_cycle h.checked.now.plan (bounds_of h) at f (moved.Out v) (λ r. ends) (state_of h (blank ∷ [])) (left_in h) u.1)

  pub control_wants : (size : WordSize) (f r : ℕ) (at : Address) (k : Command) → registers_here h r ≡ Some at → k ≡ command_at at f moved.None → CanCycle at f moved.None → Awaits h (λ c. effect c most_turns (single (on_line 0) size f r no_data)) (Cycle k)
  unfolding awaited
  control_wants size f r at k is e can = rw e (record { awaits = (can.0, tt); goes = λ answers. rw is refl })

  pub read_wants : (size : WordSize) (f r x : ℕ) (at : Address) (k : Command) (bits : ℕ) → registers_here h r ≡ Some at → k ≡ command_at at f moved.In → bits ≡ sized size (width h.checked.now.plan (address_of k) k.f) → x < (reach h).variables → bits ≤ 24 → CanCycle at f moved.In → Awaits h (λ c. effect c most_turns (single (on_line 0) size f r (into x))) (Read k x bits)
  unfolding awaited
  read_wants size f r x at k bits is e b below few can =
      record { awaits = (rw e can.0, (below, few)); goes = λ answers. rw (b, e, is) refl }

  pub write_wants : (size : WordSize) (f r : ℕ) (e : Expression) (at : Address) (v : ℕ) (k : Command) → registers_here h r ≡ Some at → value e (variables_here h) ≡ Some v → k ≡ command_at at f (moved.Out v) → (fits_size size v ≡ true) × CanCycle at f (moved.Out v) → Awaits h (λ c. effect c most_turns (single (on_line 0) size f r (from e))) (Cycle k)
  unfolding awaited
  write_wants size f r e at v k is val q can = rw q (record { awaits = (can.1.0, tt); goes = λ answers. rw (is, val, can.0) refl })

  -- a crate call
  pub crate_has : (which : CrateCall) (e : Expression) → Does (crate_call (on_line 0) which e) → IsSome (value e (variables_here h))
  crate_has which e fine = has_value e _ (fine [])

  pub crate_can : (which : CrateCall) (e : Expression) (v : ℕ) → value e (variables_here h) ≡ Some v → Does (crate_call (on_line 0) which e) → CanCycle (crate_address which v) (crate_function which) moved.None
  crate_can which e v val fine =
      fine_cycle h.checked.now.plan (bounds_of h) (crate_address which v) (crate_function which) moved.None (λ r. ends) (state_of h (blank ∷ [])) (left_in h)
      (known (value e (variables_here h)) v (λ v. act h.checked.now.plan (crate_address which v) (crate_function which) Full no_data) (blank ∷ []) val (fine (blank ∷ [])))

  pub crate_wants : (which : CrateCall) (e : Expression) (v : ℕ) (k : Command) → value e (variables_here h) ≡ Some v → k ≡ command_at (crate_address which v) (crate_function which) moved.None → CanCycle (crate_address which v) (crate_function which) moved.None → Awaits h (λ c. effect c most_turns (crate_call (on_line 0) which e)) (Cycle k)
  unfolding awaited
  crate_wants which e v k val q can = rw q (record { awaits = (can.0, tt); goes = λ answers. rw val refl })

  -- a LAM call
  pub lam_can : (which : LamCall) (l : ℕ) (at : Address) → slice_get (context_in h.checked.now).lams l ≡ Some at → Does (lam_call (on_line 0) which l) → CanCycle at (lam_function which) moved.None
  lam_can which l at is fine =
      fine_cycle h.checked.now.plan (bounds_of h) at (lam_function which) moved.None (λ r. ends) (state_of h (blank ∷ [])) (left_in h)
      (known (slice_get (context_in h.checked.now).lams l) at (λ at. act h.checked.now.plan at (lam_function which) Full no_data) (blank ∷ []) is (fine (blank ∷ [])))

  pub lam_wants : (which : LamCall) (l : ℕ) (at : Address) (k : Command) → slice_get (context_in h.checked.now).lams l ≡ Some at → k ≡ command_at at (lam_function which) moved.None → CanCycle at (lam_function which) moved.None → Awaits h (λ c. effect c most_turns (lam_call (on_line 0) which l)) (Cycle k)
  unfolding awaited
  lam_wants which l at k is q can = rw q (record { awaits = (can.0, tt); goes = λ answers. rw is refl })

  -- the crate of a crate call
  pub crate_of : (which : CrateCall) (v : ℕ) → (crate_address which v).crate_no ≡ v
  crate_of calls.Initialise v = refl
  crate_of calls.Clear v = refl
  crate_of calls.InhibitOn v = refl
  crate_of calls.InhibitOff v = refl
  crate_of calls.TestInhibit v = refl
  crate_of calls.DemandOn v = refl
  crate_of calls.DemandOff v = refl
  crate_of calls.TestDemandOutput v = refl
  crate_of calls.TestDemand v = refl

  -- a variable, a register and a word in the store, and what is left
  pub assign_goes : (x : ℕ) (e : Expression) (v : ℕ) → value e (variables_here h) ≡ Some v → (vs : Variables) → vs ≡ set_at x v (variables_here h) → (answers : List Answer) → left_in h (record (state_of h answers) { variables = vs }) ≡ then_do (effect (context_in h.checked.now) most_turns (assign (on_line 0) x e) (state_of h answers)) (left_in h)
  assign_goes x e v is vs set answers =
      let go : ℕ → Action = λ w t. ends (with_variable x w t) in
      ap (λ g. left_in h (record (state_of h answers) { variables = g })) set
      ∙ ap (λ o. then_do (given o go (state_of h answers)) (left_in h)) (sym is)

  pub put_goes : (e : Expression) (v : ℕ) → value e (variables_here h) ≡ Some v → (ws : List ℕ) → ws ≡ h.words ++ v ∷ [] → (answers : List Answer) → left_in h (record (state_of h answers) { words = ws }) ≡ then_do (effect (context_in h.checked.now) most_turns (put (on_line 0) e) (state_of h answers)) (left_in h)
  put_goes e v is ws added answers =
      let go : ℕ → Action = λ w t. ends (with_word w t) in
      ap (λ l. left_in h (record (state_of h answers) { words = l })) added
      ∙ ap (λ o. then_do (given o go (state_of h answers)) (left_in h)) (sym is)

  pub register_goes : (r : ℕ) (e1 e2 e3 : Expression) (x y z : ℕ) → value e1 (variables_here h) ≡ Some x → value e2 (variables_here h) ≡ Some y → value e3 (variables_here h) ≡ Some z → (rs : Registers) → rs ≡ set_at r (Some (address x y z)) (registers_here h) → (answers : List Answer) → left_in h (record (state_of h answers) { registers = rs }) ≡ then_do (effect (context_in h.checked.now) most_turns (set_register (on_line 0) r e1 e2 e3) (state_of h answers)) (left_in h)
  register_goes r e1 e2 e3 x y z i1 i2 i3 rs set answers =
      let s : State = state_of h answers in
      let third : ℕ → ℕ → ℕ → Action = λ k' m' a' t. ends (with_register r (address k' m' a') t) in
      let second : Option ℕ → ℕ → ℕ → Action = λ o k' m'. given o (third k' m') in
      let first : Option ℕ → Option ℕ → ℕ → Action = λ p o k'. given p (second o k') in
      ap (λ g. left_in h (record s { registers = g })) set
      ∙ ap (λ o. then_do (given o (first (Some y) (Some z)) s) (left_in h)) (sym i1)
      ∙ ap (λ o. then_do (given (value e1 (variables_here h)) (first o (Some z)) s) (left_in h)) (sym i2)
      ∙ ap (λ o. then_do (given (value e1 (variables_here h)) (first (value e2 (variables_here h)) o) s) (left_in h)) (sym i3)

  keeps_block_then : (b : Block) (s : State) → IsFineHere h (then_do (block_meaning (context_in h.checked.now) most_turns b s) (left_in h)) → IsWithinBounds (bounds_of h) s
  keeps_block_then b s fine =
      keeps_block plan (bounds_of h) h.checked.now.script most_turns b s
      (fine_first plan (bounds_of h) (block_meaning (context_in h.checked.now) most_turns b s) (left_in h) (λ t f. keeps t f) fine)

  choose_steps : (test : Condition) (a b : Block) (s : State) → IsFineHere h (then_do (decide (truth test s.variables s.q s.x) (block_meaning (context_in h.checked.now) most_turns a) (block_meaning (context_in h.checked.now) most_turns b) s) (left_in h)) → s.steps ≤ (bounds_of h).steps
  choose_steps test a b s fine = go (truth test s.variables s.q s.x) fine
    where
      go : (o : Option Bool) → IsFineHere h (then_do (decide o (block_meaning (context_in h.checked.now) most_turns a) (block_meaning (context_in h.checked.now) most_turns b) s) (left_in h)) → s.steps ≤ (bounds_of h).steps
      go None f = absurd f.0
      go (Some true) f = (keeps_block_then a s f).steps
      go (Some false) f = (keeps_block_then b s f).steps

  -- a condition has a value
  pub test_has : (test : Condition) (a b : Block) → Does (choose_else (on_line 0) test a b) → IsSome (truth test (variables_here h) h.q h.x)
  test_has test a b fine =
      fine_decide plan (bounds_of h) (truth test (variables_here h) h.q h.x) (block_meaning (context_in h.checked.now) most_turns a) (block_meaning (context_in h.checked.now) most_turns b) (state_of h []) (left_in h) (fine [])

  pub choose_goes : (test : Condition) (a b : Block) (answers : List Answer) → truth test (variables_here h) h.q h.x ≡ Some true → block_meaning (context_in h.checked.now) most_turns a (state_of h answers) ≡ effect (context_in h.checked.now) most_turns (choose_else (on_line 0) test a b) (state_of h answers)
  choose_goes test a b answers e =
      ap (λ o. decide o (block_meaning (context_in h.checked.now) most_turns a) (block_meaning (context_in h.checked.now) most_turns b) (state_of h answers)) (sym e)

  pub choose_other : (test : Condition) (a b : Block) (answers : List Answer) → truth test (variables_here h) h.q h.x ≡ Some false → block_meaning (context_in h.checked.now) most_turns b (state_of h answers) ≡ effect (context_in h.checked.now) most_turns (choose_else (on_line 0) test a b) (state_of h answers)
  choose_other test a b answers e =
      ap (λ o. decide o (block_meaning (context_in h.checked.now) most_turns a) (block_meaning (context_in h.checked.now) most_turns b) (state_of h answers)) (sym e)

  -- a lock
  abbrev inside : ℕ → Block → Action
  inside k body u = then_do (block_meaning (context_in h.checked.now) most_turns body u) (release k)

  abbrev lock_of : ℕ → Block → Action
  lock_of k body = given (crate_waits plan k) (λ waits t. take_lock k waits (t.branch k).locked (inside k body) t)

  pub lock_has : (e : Expression) (body : Block) → Does (locked (on_line 0) e body) → IsSome (value e (variables_here h))
  lock_has e body fine = has_value e _ (fine [])

  pub lock_can : (e : Expression) (body : Block) (k : ℕ) → value e (variables_here h) ≡ Some k → Does (locked (on_line 0) e body) → IsSome (crate_waits plan k) × ((branch_of h.branch k).locked ≡ false)
  lock_can e body k is fine =
      fine_lock plan (bounds_of h) k (inside k body) (state_of h []) (left_in h)
      (known (value e (variables_here h)) k (λ n. lock_of n body) [] is (fine []))

  pub lock_wants : (e : Expression) (body : Bor (List Stmt)) (k : ℕ) → value e (variables_here h) ≡ Some k → (1 ≤ k) × (k ≤ 7) → Opens (reach h) (free h) (statements_of body.now) → IsSome (crate_waits plan k) × ((branch_of h.branch k).locked ≡ false) → Awaits h (λ c. effect c most_turns (locked (on_line 0) e (statements_of body.now))) (Lock k body)
  unfolding awaited
  lock_wants e body k is range opens can =
      record { awaits = (can.0, (can.1, range.0, range.1, opens)); goes = λ answers. rw is refl }

  count_steps : (j x v w : ℕ) (b : Block) (s : State) → IsFineHere h (then_do (for_from j most_turns x v w (block_meaning (context_in h.checked.now) most_turns b) s) (left_in h)) → IsWithinBounds (bounds_of h) s
  count_steps zero x v w b s fine = keeps s fine
  count_steps (suc j) x v w b s fine =
      keeps_for plan (bounds_of h) h.checked.now.script b (suc j) most_turns x v w s
      (fine_first plan (bounds_of h) (for_turns (suc j) most_turns x v w (block_meaning (context_in h.checked.now) most_turns b) s) (left_in h) (λ t f. keeps t f) fine)

  -- a call of a procedure
  pub call_has : (p : ℕ) (es : List Expression) → Does (call (on_line 0) p es) → IsSome (values es (variables_here h))
  call_has p es fine =
      let go : (ℕ → Action) → List ℕ → Action = λ routine. enter (routine most_turns) in
      let g1 = fine_given plan (bounds_of h) (slice_get (context_in h.checked.now).routines p) (λ routine. given (values es (variables_here h)) (go routine)) (state_of h []) (left_in h) (fine []) in
      let g2 = fine_given plan (bounds_of h) (values es (variables_here h)) (go g1.0) (state_of h []) (left_in h) g1.2 in
      some_is (values es (variables_here h)) g2.0 g2.1

  routine_keeps : (p : ℕ) (run : ℕ → Action) → slice_get (context_in h.checked.now).routines p ≡ Some run → (s : State) → IsFineHere h (run most_turns s) → IsWithinBounds (bounds_of h) s
  routine_keeps p run e s fine =
      let q = procedure_of_routine plan h.checked.now.script p run e in
      keeps_block plan (bounds_of h) (before h.checked.now.script p) most_turns q.0.body s (subst (λ r. IsFineHere h (r most_turns s)) q.1 fine)

  call_steps : (p : ℕ) (es : List Expression) → ((answers : List Answer) → IsFineHere h (then_do (effect (context_in h.checked.now) most_turns (call (on_line 0) p es) (stepped (state_of h answers))) (left_in h))) → h.steps + 1 ≤ (bounds_of h).steps
  call_steps p es fine =
      let s : State = stepped (state_of h []) in
      let go : (ℕ → Action) → List ℕ → Action = λ routine. enter (routine most_turns) in
      let g1 = fine_given plan (bounds_of h) (slice_get (context_in h.checked.now).routines p) (λ routine. given (values es (variables_here h)) (go routine)) s (left_in h) (fine []) in
      let g2 = fine_given plan (bounds_of h) (values es (variables_here h)) (go g1.0) s (left_in h) g1.2 in
      let f1 = fine_first plan (bounds_of h) (go g1.0 g2.0 s) (left_in h) (λ t f. keeps t f) g2.2 in
      let f2 = fine_first plan (bounds_of h) (g1.0 most_turns (entered g2.0 s)) (λ t. ends (returned s t)) (λ t k. record { cycles = k.cycles; words = k.words; steps = k.steps; are_words = k.are_words }) f1 in
      (routine_keeps p g1.0 g1.1 (entered g2.0 s) f2).steps

  -- a step has room
  pub begun : (st : Statement) (to : Reach) (d : ℕ) → StatementFits to d st → ((answers : List Answer) → IsFineHere h (then_do (effect (context_in h.checked.now) most_turns st (stepped (state_of h answers))) (left_in h))) → h.steps + 1 ≤ (bounds_of h).steps
  begun (assign spot x e) to d fits fine =
      let g = fine_given plan (bounds_of h) (value e (variables_here h)) (λ w t. ends (with_variable x w t)) (stepped (state_of h [])) (left_in h) (fine []) in
      (keeps (with_variable x g.0 (stepped (state_of h []))) g.2).steps
  begun (set_register spot r e1 e2 e3) to d fits fine =
      let s : State = stepped (state_of h []) in
      let third : ℕ → ℕ → ℕ → Action = λ k' m' a' t. ends (with_register r (address k' m' a') t) in
      let second : ℕ → ℕ → Action = λ k' m'. given (value e3 (variables_here h)) (third k' m') in
      let first : ℕ → Action = λ k'. given (value e2 (variables_here h)) (second k') in
      let g1 = fine_given plan (bounds_of h) (value e1 (variables_here h)) first s (left_in h) (fine []) in
      let g2 = fine_given plan (bounds_of h) (value e2 (variables_here h)) (second g1.0) s (left_in h) g1.2 in
      let g3 = fine_given plan (bounds_of h) (value e3 (variables_here h)) (third g1.0 g2.0) s (left_in h) g2.2 in
      (keeps (with_register r (address g1.0 g2.0 g3.0) s) g3.2).steps
  begun (single spot size f r m) to d fits fine =
      let s : State = stepped (state_of h (blank ∷ [])) in
      let g = fine_given plan (bounds_of h) (registers_here h r) (λ at. act plan at f size m) s (left_in h) (fine (blank ∷ [])) in
      act_steps g.0 f size m s refl g.2
  begun (put spot e) to d fits fine =
      let g = fine_given plan (bounds_of h) (value e (variables_here h)) (λ w t. ends (with_word w t)) (stepped (state_of h [])) (left_in h) (fine []) in
      (keeps (with_word g.0 (stepped (state_of h []))) g.2).steps
  begun (crate_call spot which e) to d fits fine =
      let s : State = stepped (state_of h (blank ∷ [])) in
      let g = fine_given plan (bounds_of h) (value e (variables_here h)) (λ d. act plan (crate_address which d) (crate_function which) Full no_data) s (left_in h) (fine (blank ∷ [])) in
      act_steps (crate_address which g.0) (crate_function which) Full no_data s refl g.2
  begun (lam_call spot which i) to d fits fine =
      let s : State = stepped (state_of h (blank ∷ [])) in
      let g = fine_given plan (bounds_of h) (slice_get (context_in h.checked.now).lams i) (λ at. act plan at (lam_function which) Full no_data) s (left_in h) (fine (blank ∷ [])) in
      act_steps g.0 (lam_function which) Full no_data s refl g.2
  begun (address_scan spot f r1 r2 max x) to d fits fine =
      let s : State = stepped (state_of h []) in
      let go : Address → Address → ℕ → Action = λ first last m. transfer_to plan f None (scan_next first last m) x in
      let third : Address → Address → ℕ → Action = λ first last m. unless_wrong (nat_eq first.crate_no last.crate_no) (go first last m) in
      let second : Address → Address → Action = λ first last. given (value max (variables_here h)) (third first last) in
      let g1 = fine_given plan (bounds_of h) (registers_here h r1) (λ first. given (registers_here h r2) (second first)) s (left_in h) (fine []) in
      let g2 = fine_given plan (bounds_of h) (registers_here h r2) (second g1.0) s (left_in h) g1.2 in
      let g3 = fine_given plan (bounds_of h) (value max (variables_here h)) (third g1.0 g2.0) s (left_in h) g2.2 in
      let g4 = fine_unless plan (bounds_of h) (nat_eq g1.0.crate_no g2.0.crate_no) (go g1.0 g2.0 g3.0) s (left_in h) g3.2 in
      transfer_steps f None (scan_next g1.0 g2.0 g3.0) x s refl g4.1
  begun (q_stop spot f r t max x) to d fits fine =
      let s : State = stepped (state_of h []) in
      let third : Option (List ℕ) → Address → ℕ → Action = λ table at m. transfer_to plan f table (q_stop_next at m) x in
      let second : Option (List ℕ) → Address → Action = λ table at. given (value max (variables_here h)) (third table at) in
      let g1 = fine_given plan (bounds_of h) (sent (context_in h.checked.now) t) (λ table. given (registers_here h r) (second table)) s (left_in h) (fine []) in
      let g2 = fine_given plan (bounds_of h) (registers_here h r) (second g1.0) s (left_in h) g1.2 in
      let g3 = fine_given plan (bounds_of h) (value max (variables_here h)) (third g1.0 g2.0) s (left_in h) g2.2 in
      transfer_steps f g1.0 (q_stop_next g2.0 g3.0) x s refl g3.2
  begun (q_repeat spot f r t max limit x) to d fits fine =
      let s : State = stepped (state_of h []) in
      let fourth : Option (List ℕ) → Address → ℕ → ℕ → Action = λ table at m n. transfer_to plan f table (q_repeat_next at m n) x in
      let third : Option (List ℕ) → Address → ℕ → Action = λ table at m. given (value limit (variables_here h)) (fourth table at m) in
      let second : Option (List ℕ) → Address → Action = λ table at. given (value max (variables_here h)) (third table at) in
      let g1 = fine_given plan (bounds_of h) (sent (context_in h.checked.now) t) (λ table. given (registers_here h r) (second table)) s (left_in h) (fine []) in
      let g2 = fine_given plan (bounds_of h) (registers_here h r) (second g1.0) s (left_in h) g1.2 in
      let g3 = fine_given plan (bounds_of h) (value max (variables_here h)) (third g1.0 g2.0) s (left_in h) g2.2 in
      let g4 = fine_given plan (bounds_of h) (value limit (variables_here h)) (fourth g1.0 g2.0 g3.0) s (left_in h) g3.2 in
      transfer_steps f g1.0 (q_repeat_next g2.0 g3.0 g4.0) x s refl g4.2
  begun (choose spot test a) to d fits fine = choose_steps test a done (stepped (state_of h [])) (fine [])
  begun (choose_else spot test a b) to d fits fine = choose_steps test a b (stepped (state_of h [])) (fine [])
  begun (for_ spot x e1 e2 ks body) to d fits fine =
      let s : State = stepped (state_of h []) in
      let b : Action = block_meaning (context_in h.checked.now) most_turns body in
      let to : ℕ → Action = λ w. given (value e2 (variables_here h)) (λ u. for_from (u + 1 - w) most_turns x w u b) in
      let g1 = fine_given plan (bounds_of h) (value e1 (variables_here h)) to s (left_in h) (fine []) in
      let g2 = fine_given plan (bounds_of h) (value e2 (variables_here h)) (λ u. for_from (u + 1 - g1.0) most_turns x g1.0 u b) s (left_in h) g1.2 in
      (count_steps (g2.0 + 1 - g1.0) x g1.0 g2.0 body s g2.2).steps
  begun (for_each spot x v last body) to d fits fine = (count_steps (last + 1 - v) x v last body (stepped (state_of h [])) (fine [])).steps
  begun (while_ spot test m k ks body) to d fits fine =
      let s : State = stepped (state_of h []) in
      let b : Action = block_meaning (context_in h.checked.now) most_turns body in
      (keeps_turns plan (bounds_of h) h.checked.now.script body test most_turns s
      (fine_first plan (bounds_of h) (turns most_turns test b s) (left_in h) (λ t f. keeps t f) (fine []))).steps
  begun (locked spot e body) to d fits fine =
      let s : State = stepped (state_of h []) in
      let g = fine_given plan (bounds_of h) (value e (variables_here h)) (λ k. lock_of k body) s (left_in h) (fine []) in
      (lock_within plan (bounds_of h) g.0 (inside g.0 body) s (left_in h) refl g.2).steps
  begun (call spot p es) to d fits fine = call_steps p es fine
