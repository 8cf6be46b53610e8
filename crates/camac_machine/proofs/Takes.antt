-- What an answer does to a machine that wants it.
use Rattle.std.proofs.Common.{◌≡◌, ℕ, ◌+◌, ◌^◌, ◌%◌, ◌<◌, ◌≤◌, List, [], ◌∷◌, Bool, true, false, Option, Some, None, refl, sym, ap, subst, ◌∙◌, arith}
use Rattle.std.proofs.lemmas.Bool.{false≢true}
use Rattle.std.specs.Prelude.{IsSome, unwrap_or, if◌then◌else◌}
use Rattle.camac_lang.specs.View.{statements_of}
use Rattle.camac_func.specs.declared.data.DataMove.{DataMove}
use Rattle.camac_branch.specs.Address.{Address}
use Rattle.camac_branch.specs.Branch.{Branch, Answer, Reply, reply_to, branch_after}
use Rattle.camac_branch.specs.Crates.{Crates, branch_of, is_permitted}
use Rattle.camac_branch.specs.Plan.{Layout, crate_waits}
use Rattle.camac_branch.specs.declared.answer.Command.{Command}
use Rattle.camac_branch.specs.declared.answer.CycleDone.{CycleDone}
use Rattle.camac_branch.specs.declared.answer.Overrun.{Overrun}
use Rattle.camac_crate.specs.Lock.{permitted}
use Rattle.camac_model.specs.State.{State, missed_with, with_variable}
use Rattle.camac_model.specs.Behaviour.{Behaviour, does, ends, stops, short, overrun, cycled, lock_taken, Action, then_do, given}
use Rattle.camac_model.specs.Cycle.{too_long, answered, outcome, follow, make_cycle, after_cycle, cycle, kept, take_lock, after_lock, release}
use Rattle.camac_model.specs.Fine.{most_turns}
use Rattle.camac_model.specs.Meaning.{block_meaning}
use Rattle.camac_model.specs.Value.{greatest}
use Rattle.camac_model.proofs.Locks.{cycle_locks}
use Rattle.camac_machine.specs.declared.machine.Machine.{Machine}
use Rattle.camac_machine.specs.declared.machine.Pending.{Pending}
use Rattle.camac_machine.specs.declared.item.Item.TheVariants as item
use Rattle.camac_machine.specs.declared.machine.Pending.TheVariants.{Cycle, Read, Lock, Transfer, Pause}
use Rattle.camac_machine.specs.MachineState.{reach, with_value, context_in, opens_in, pending_of, made, state_of, bounds_of, left_in, stands, IsFineHere, HasRoom, IsPending, Makes, IsRefused, Takes, Overruns}
use Rattle.camac_esone.specs.Transfers.{tally}
use Rattle.camac_machine.specs.Course.{left_at, words_from, words_sent}
use Rattle.camac_machine.specs.Rest.{address_of, awaited, follows, rest_in}
use Rattle.camac_machine.proofs.Fine.{keeps_rest}
use Rattle.camac_machine.proofs.Locks.{held_along, among_along}
use Rattle.camac_machine.proofs.Scopes.{opens_written, room_written, state_written}
use Rattle.camac_machine.proofs.Transfers.{transfer_waits}

pub same_done : (d : CycleDone) (k : Command) (r : Reply) (w : ℕ) → d.command ≡ k → d.reply ≡ r → d.wait ≡ w → d ≡ record { command = k; reply = r; wait = w }
same_done d k r w e1 e2 e3 = rw (← e1, ← e2, ← e3) refl

pub same_made : {V D C : ℕ} (h : Machine V D C) (b : Crates) (d e : CycleDone) (n m : ℕ) → e ≡ d → n ≡ e.wait → m ≡ missed_with e.reply.x h.missed
    → ◌≡◌ {A = Machine V D C} (record h { branch = b; q = e.reply.q; x = e.reply.x; cost = h.cost + (1 + n); missed = m }) (record h { branch = b; q = d.reply.q; x = d.reply.x; cost = h.cost + (1 + d.wait); missed = missed_with d.reply.x h.missed })
same_made h b d e n m s p q = rw (p, q, s) refl

few_missed : (x : Bool) (m c n : ℕ) → m ≤ 65535 → m ≤ c → (missed_with x m ≤ 65535) × (missed_with x m ≤ c + (1 + n))
few_missed true m c n h k = (h, omega arith)
few_missed false m c n h k = (omega arith, omega arith)

module _ (plan : Layout) (at : Address) (f : ℕ) (d : DataMove) (go : Reply → Action) (s : State) (a : Answer) (answers : List Answer) (planned : IsSome (crate_waits plan at.crate_no)) where
  goes : (o : Option ℕ) → IsSome o → permitted (s.branch at.crate_no).locked (unwrap_or o 0) a.wait ≡ true → follow at.crate_no (outcome o (s.branch at.crate_no).locked (a ∷ answers)) (make_cycle plan at f d go) s ≡ make_cycle plan at f d go a answers s
  goes None h p = absurd (false≢true h)
  goes (Some w) h p = ap (λ t. follow at.crate_no (if t then answered a answers else too_long a.wait) (make_cycle plan at f d go) s) p

  halts : (o : Option ℕ) → IsSome o → permitted (s.branch at.crate_no).locked (unwrap_or o 0) a.wait ≡ false → follow at.crate_no (outcome o (s.branch at.crate_no).locked (a ∷ answers)) (make_cycle plan at f d go) s ≡ stops (overrun at.crate_no a.wait) s
  halts None h p = absurd (false≢true h)
  halts (Some w) h p = ap (λ t. follow at.crate_no (if t then answered a answers else too_long a.wait) (make_cycle plan at f d go) s) p

  -- a cycle whose wait is permitted, and one whose wait is not
  pub cycle_goes : is_permitted plan s.branch at.crate_no a.wait ≡ true → cycle plan at f d (a ∷ answers) go s ≡ make_cycle plan at f d go a answers s
  cycle_goes p = goes (crate_waits plan at.crate_no) planned p

  pub cycle_halts : is_permitted plan s.branch at.crate_no a.wait ≡ false → cycle plan at f d (a ∷ answers) go s ≡ stops (overrun at.crate_no a.wait) s
  cycle_halts p = halts (crate_waits plan at.crate_no) planned p

module _ {V D C : ℕ} (h : Machine V D C) (k : Command) (a : Answer) (planned : IsSome (crate_waits h.checked.now.plan k.c)) (G : List Answer → Reply → Action) where
  abbrev action : List Answer → Behaviour State
  action answers = cycle h.checked.now.plan (address_of k) k.f k.mv (a ∷ answers) (G answers) (state_of h (a ∷ answers))

  abbrev reply : Reply
  reply = reply_to h.checked.now.plan (branch_of h.branch) (address_of k) k.f a

  abbrev later : List Answer → State
  later answers = after_cycle (address_of k) k.f reply a.wait answers (state_of h (a ∷ answers))

  taken : (answers : List Answer) → is_permitted h.checked.now.plan (branch_of h.branch) k.c a.wait ≡ true → then_do (action answers) (left_in h) ≡ does (cycled (address_of k) k.f k.mv reply a.wait) (then_do (G answers reply (later answers)) (left_in h))
  taken answers p =
      ap (λ b. then_do b (left_in h)) (cycle_goes h.checked.now.plan (address_of k) k.f k.mv (G answers) (state_of h (a ∷ answers)) a answers planned p)

  -- what follows it is fine
  pub fine_taken : ((answers : List Answer) → IsFineHere h (then_do (action answers) (left_in h))) → is_permitted h.checked.now.plan (branch_of h.branch) k.c a.wait ≡ true → (answers : List Answer) → IsFineHere h (then_do (G answers reply (later answers)) (left_in h))
  fine_taken fine p answers =
      let ok = subst (λ b. IsFineHere h b) (taken answers p) (fine answers) in ok.1

  pub refused : (answers : List Answer) → is_permitted h.checked.now.plan (branch_of h.branch) k.c a.wait ≡ false → then_do (action answers) (left_in h) ≡ stops (overrun k.c a.wait) (state_of h (a ∷ answers))
  refused answers p =
      ap (λ b. then_do b (left_in h)) (cycle_halts h.checked.now.plan (address_of k) k.f k.mv (G answers) (state_of h (a ∷ answers)) a answers planned p)

  -- its cost has room
  pub cost_fits : ((answers : List Answer) → IsFineHere h (then_do (action answers) (left_in h))) → ((t : State) → IsFineHere h (then_do (G [] reply t) (left_in h)) → t.cost ≤ (bounds_of h).cycles) → (bounds_of h).cycles ≤ greatest → is_permitted h.checked.now.plan (branch_of h.branch) k.c a.wait ≡ true → h.cost + (1 + a.wait) < 2 ^ 32
  cost_fits fine keeps most p =
      let c : h.cost + (1 + a.wait) ≤ (bounds_of h).cycles = keeps (later []) (fine_taken fine p []) in omega (arith, c, most)

  pub goes_on : (d : CycleDone) (answers : List Answer) → is_permitted h.checked.now.plan (branch_of h.branch) k.c a.wait ≡ true → d ≡ record { command = k; reply = reply; wait = a.wait } → then_do (action answers) (left_in h) ≡ does (made d) (then_do (G answers d.reply (after_cycle (address_of k) k.f d.reply d.wait answers (state_of h (a ∷ answers)))) (left_in h))
  goes_on d answers p e =
      taken answers p
      ∙ ap (λ (x : CycleDone). does (made x) (then_do (G answers x.reply (after_cycle (address_of k) k.f x.reply x.wait answers (state_of h (a ∷ answers)))) (left_in h))) (sym e)

-- the room after a cycle
pub room_after : {V D C : ℕ} (h : Machine V D C) (k : Command) (b : Crates) (q x : Bool) (w : ℕ) → branch_of b ≡ branch_after (address_of k) k.f (branch_of h.branch) → HasRoom h → HasRoom (record h { branch = b; q = q; x = x; cost = h.cost + (1 + w); missed = missed_with x h.missed })
room_after h k b q x w e r =
    let few = few_missed x h.missed h.cost w r.few_missed r.missed in
    let same : (c : ℕ) → (branch_of b c).locked ≡ (branch_of h.branch c).locked = λ c. ap (λ (d : Branch). (d c).locked) e ∙ (cycle_locks (branch_of h.branch) (address_of k) k.f).at c in
    let among = among_along (branch_of h.branch) (branch_of b) 7 same in
    let room = r.unlocks in
    record {
      variables = r.variables;
      registers = r.registers;
      fits = r.fits;
      scope = r.scope;
      blocks = r.blocks;
      words = r.words;
      steps = r.steps;
      cycles = r.cycles;
      few_missed = few.0;
      missed = few.1;
      locks = held_along (branch_of h.branch) (branch_of b) (opens_in h) same r.locks;
      unlocks = omega (arith, room, among);
    }

module _ {V D C : ℕ} (h new : Machine V D C) (k : Command) (a : Answer) (d : CycleDone) (room : HasRoom h) (planned : IsSome (crate_waits h.checked.now.plan k.c)) (m : Makes h k a d new) where
  abbrev after : Machine V D C
  after = record h { branch = new.branch; q = d.reply.q; x = d.reply.x; cost = h.cost + (1 + d.wait); missed = missed_with d.reply.x h.missed }

  state_after : (answers : List Answer) → state_of after answers ≡ after_cycle (address_of k) k.f d.reply d.wait answers (state_of h (a ∷ answers))
  state_after answers = ap (λ b. record (state_of after answers) { branch = b }) m.branch

  pub takes_cycle : Takes h (Cycle k) a (item.Cycle d) new
  unfolding awaited follows
  takes_cycle =
      subst (λ n. Takes h (Cycle k) a (item.Cycle d) n) (sym m.same) (record {
        room = room_after h k new.branch d.reply.q d.reply.x d.wait m.branch room;
        checked = refl;
        service = refl;
        begun = refl;
        unlocks = refl;
        steps = omega arith;
        few = omega arith;
        can_follow = tt;
        goes = λ answers.
            goes_on h k a planned (λ l r t. ends t) d answers m.permitted m.done
            ∙ ap (λ s. does (made d) (left_in h s)) (sym (state_after answers));
      })

  pub takes_read : (x bits : ℕ) (last : Machine V D C) → x < (reach h).variables → last ≡ with_value new x (d.reply.word % 2 ^ bits) → Takes h (Read k x bits) a (item.Cycle d) last
  unfolding awaited follows
  takes_read x bits last below e =
      let v : ℕ = d.reply.word % 2 ^ bits in
      let n : Machine V D C = with_value after x v in
      let same : last ≡ n = e ∙ ap (λ (g : Machine V D C). with_value g x v) m.same in
      let r : HasRoom after = room_after h k new.branch d.reply.q d.reply.x d.wait m.branch room in
      subst (λ n. Takes h (Read k x bits) a (item.Cycle d) n) (sym same) (record {
        room = room_written after x v r;
        checked = refl;
        service = refl;
        begun = refl;
        unlocks = refl;
        steps = omega arith;
        few = omega arith;
        can_follow = tt;
        goes = λ answers.
            goes_on h k a planned (λ l r t. ends (with_variable x (kept bits r) t)) d answers m.permitted m.done
            ∙ ap (λ s. does (made d) (left_in h s)) (sym (state_written after x v below r answers ∙ ap (with_variable x v) (state_after answers)))
            ∙ ap (λ os. does (made d) (rest_in (context_in h.checked.now) os (state_of n answers))) (opens_written after x v r);
      })

first_short : (plan : Layout) (at : Address) (f : ℕ) (d : DataMove) (go : Reply → Action) (s : State) (o : Option ℕ) → IsSome o → follow at.crate_no (outcome o (s.branch at.crate_no).locked []) (make_cycle plan at f d go) s ≡ stops short s
first_short plan at f d go s None h = absurd (false≢true h)
first_short plan at f d go s (Some w) h = refl

lock_short : (k : ℕ) (body : Action) (s : State) (o : Option ℕ) → s.answers ≡ [] → (s.branch k).locked ≡ false → IsSome o → given o (λ waits t. take_lock k waits (t.branch k).locked body t) s ≡ stops short s
lock_short k body s None e f h = absurd (false≢true h)
lock_short k body s (Some w) e f h =
    ap (λ l. take_lock k w l body s) f
    ∙ ap (λ rest. follow k (outcome (Some w) false rest) (λ a rest t. does (lock_taken k a.wait) (body (after_lock k a.wait rest t))) s) e

-- what is wanted is short without an answer
pub waits_first : {V D C : ℕ} (h : Machine V D C) (w : Pending) → IsPending h w → awaited (context_in h.checked.now) (pending_of w) (state_of h []) ≡ stops short (state_of h [])
unfolding awaited
waits_first h (Cycle k) p = first_short h.checked.now.plan (address_of k) k.f k.mv (λ r. ends) (state_of h []) (crate_waits h.checked.now.plan k.c) p.0
waits_first h (Read k x bits) p =
    first_short h.checked.now.plan (address_of k) k.f k.mv (λ r t. ends (with_variable x (kept bits r) t)) (state_of h []) (crate_waits h.checked.now.plan k.c) p.0
waits_first h (Lock k body) p =
    lock_short k (λ u. then_do (block_meaning (context_in h.checked.now) most_turns (statements_of body.now) u) (release k)) (state_of h []) (crate_waits h.checked.now.plan k) refl p.1.0 p.0
waits_first h (Transfer w) p =
    let n : ℕ = (left_at w.course).tally in
    transfer_waits h.checked.now.plan w.command.f (words_from n (words_sent w.table)) (left_at w.course).next_address (λ rs u. ends (with_variable w.tally (n + tally rs) u)) [] (address_of w.command) w.command.mv p.1.1 p.1.2 (state_of h [])
    ∙ first_short h.checked.now.plan (address_of w.command) w.command.f w.command.mv (λ r. stops short) (state_of h []) (crate_waits h.checked.now.plan w.command.c) p.0
waits_first h Pause p = absurd p.0

module _ {V D C : ℕ} (h : Machine V D C) (k : Command) (a : Answer) where
  pub cycle_cost : IsPending h (Cycle k) → ((answers : List Answer) → IsFineHere h (stands (Some (Cycle k)) h answers)) → (bounds_of h).cycles ≤ greatest → is_permitted h.checked.now.plan (branch_of h.branch) k.c a.wait ≡ true → h.cost + (1 + a.wait) < 2 ^ 32
  unfolding awaited
  cycle_cost p fine most =
      cost_fits h k a p.0 (λ l r t. ends t) (λ answers. fine (a ∷ answers)) (λ t f. (keeps_rest h.checked.now.plan (bounds_of h) h.checked.now.script _ t f).cycles) most

  pub read_cost : (x bits : ℕ) → IsPending h (Read k x bits) → ((answers : List Answer) → IsFineHere h (stands (Some (Read k x bits)) h answers)) → (bounds_of h).cycles ≤ greatest → is_permitted h.checked.now.plan (branch_of h.branch) k.c a.wait ≡ true → h.cost + (1 + a.wait) < 2 ^ 32
  unfolding awaited
  read_cost x bits p fine most =
      cost_fits h k a p.0 (λ l r t. ends (with_variable x (kept bits r) t)) (λ answers. fine (a ∷ answers)) (λ t f. (keeps_rest h.checked.now.plan (bounds_of h) h.checked.now.script _ (with_variable x (kept bits (reply_to h.checked.now.plan (branch_of h.branch) (address_of k) k.f a)) t) f).cycles) most

  pub cycle_overruns : (o : Overrun) → IsPending h (Cycle k) → IsRefused h k.c a.wait o → Overruns h (Cycle k) a o
  unfolding awaited
  cycle_overruns o p r = λ answers.
      refused h k a p.0 (λ l r t. ends t) answers r.refused ∙ ap (λ (x : Overrun). stops (overrun x.c x.wait) (state_of h (a ∷ answers))) (sym r.overrun)

  pub read_overruns : (x bits : ℕ) (o : Overrun) → IsPending h (Read k x bits) → IsRefused h k.c a.wait o → Overruns h (Read k x bits) a o
  unfolding awaited
  read_overruns x bits o p r = λ answers.
      refused h k a p.0 (λ l r t. ends (with_variable x (kept bits r) t)) answers r.refused
      ∙ ap (λ (y : Overrun). stops (overrun y.c y.wait) (state_of h (a ∷ answers))) (sym r.overrun)
