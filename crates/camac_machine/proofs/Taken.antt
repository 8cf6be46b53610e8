-- What an answer does to a machine that wants the lock of a crate.
use Rattle.std.proofs.Common.{◌≡◌, ℕ, ◌+◌, ◌-◌, ◌^◌, ◌<◌, ◌≤◌, List, [], ◌∷◌, ◌++◌, length, map, Bool, true, false, Option, Some, None, refl, sym, ap, subst, ◌∙◌, arith}
use Rattle.std.proofs.lemmas.Bool.{false≢true}
use Rattle.std.proofs.lemmas.List.{length-map, map-append}
use Rattle.std.specs.Borrow.{Bor}
use Rattle.std.specs.Prelude.{IsSome, unwrap_or, if◌then◌else◌}
use Rattle.arrayvec.specs.ArrayVec.{ArrayVec}
use Rattle.camac_lang.specs.declared.tree.Stmt.{Stmt}
use Rattle.camac_lang.specs.Tree.{Block}
use Rattle.camac_lang.specs.View.{statements_of}
use Rattle.camac_branch.specs.Branch.{Branch, Answer, with_lock}
use Rattle.camac_branch.specs.Crates.{branch_of, is_permitted}
use Rattle.camac_branch.specs.Plan.{Layout, crate_waits}
use Rattle.camac_branch.specs.declared.answer.Overrun.{Overrun}
use Rattle.camac_crate.specs.Lock.{permitted}
use Rattle.camac_model.specs.State.{State}
use Rattle.camac_model.specs.Behaviour.{does, stops, overrun, lock_taken, Action, then_do, given}
use Rattle.camac_model.specs.Cycle.{too_long, answered, outcome, follow, take_lock, after_lock, release}
use Rattle.camac_model.specs.Fine.{most_turns}
use Rattle.camac_model.specs.Meaning.{block_meaning}
use Rattle.camac_model.specs.Value.{greatest}
use Rattle.camac_machine.specs.declared.item.Item.TheVariants as item
use Rattle.camac_machine.specs.declared.machine.Frame.{Frame}
use Rattle.camac_machine.specs.declared.machine.Machine.{Machine}
use Rattle.camac_machine.specs.declared.machine.Owner.TheVariants.{Locked}
use Rattle.camac_machine.specs.declared.machine.Pending.TheVariants.{Lock}
use Rattle.camac_machine.specs.MachineState.{context_in, open_in, opens_in, AreHeld, locked_among, reach, state_of, bounds_of, left_in, stands, IsFineHere, HasRoom, IsPending, TakesLock, IsRefused, Takes, Overruns}
use Rattle.camac_machine.specs.Rest.{awaited, follows, owed, Open, rest_in}
use Rattle.camac_machine.specs.Within.{Opens, OpenFit}
use Rattle.camac_machine.proofs.Blocks.{opens_push}
use Rattle.camac_machine.proofs.Fine.{keeps_rest}
use Rattle.camac_machine.proofs.Frames.{left_pushed}
use Rattle.camac_machine.proofs.Locks.{held_taken, among_few}

module _ (k : ℕ) (body : Action) (s : State) (a : Answer) (answers : List Answer) (here : s.answers ≡ a ∷ answers) (is_free : (s.branch k).locked ≡ false) where
  abbrev taken : Answer → List Answer → Action
  taken b rest t = does (lock_taken k b.wait) (body (after_lock k b.wait rest t))

  locks : (o : Option ℕ) (t : Bool) → IsSome o → permitted (s.branch k).locked (unwrap_or o 0) a.wait ≡ t → given o (λ waits u. take_lock k waits (u.branch k).locked body u) s ≡ follow k (if t then answered a answers else too_long a.wait) taken s
  locks None t h p = absurd (false≢true h)
  locks (Some w) t h p =
      ap (λ l. take_lock k w l body s) is_free
      ∙ ap (λ rest. follow k (outcome (Some w) false rest) taken s) here
      ∙ ap (λ u. follow k (if u then answered a answers else too_long a.wait) taken s) (ap (λ l. permitted l w a.wait) (sym is_free) ∙ p)

  pub lock_goes : (plan : Layout) → IsSome (crate_waits plan k) → is_permitted plan s.branch k a.wait ≡ true → given (crate_waits plan k) (λ waits u. take_lock k waits (u.branch k).locked body u) s ≡ does (lock_taken k a.wait) (body (after_lock k a.wait answers s))
  lock_goes plan planned p = locks (crate_waits plan k) true planned p

  pub lock_halts : (plan : Layout) → IsSome (crate_waits plan k) → is_permitted plan s.branch k a.wait ≡ false → given (crate_waits plan k) (λ waits u. take_lock k waits (u.branch k).locked body u) s ≡ stops (overrun k a.wait) s
  lock_halts plan planned p = locks (crate_waits plan k) false planned p

module _ {V D C : ℕ} (h : Machine V D C) (k : ℕ) (body : Bor (List Stmt)) (a : Answer) (ready : IsPending h (Lock k body)) where
  abbrev b : Block
  b = statements_of body.now

  abbrev inside : Action
  inside u = then_do (block_meaning (context_in h.checked.now) most_turns b u) (release k)

  abbrev opened : Frame
  opened = record { rest = body; owner = Locked k }

  abbrev later : List Answer → State
  later answers = after_lock k a.wait answers (state_of h (a ∷ answers))

  -- the block comes first, then the release
  inside_first : (u : State) → then_do (inside u) (left_in h) ≡ rest_in (context_in h.checked.now) (map (open_in h) (h.frames.items ++ opened ∷ [])) u
  unfolding owed
  inside_first u = sym (left_pushed (context_in h.checked.now) (open_in h) h.frames.items opened u)

  goes : (answers : List Answer) → is_permitted h.checked.now.plan (branch_of h.branch) k a.wait ≡ true → stands (Some (Lock k body)) h (a ∷ answers) ≡ does (lock_taken k a.wait) (rest_in (context_in h.checked.now) (map (open_in h) (h.frames.items ++ opened ∷ [])) (later answers))
  unfolding awaited
  goes answers p =
      ap (λ o. then_do o (left_in h)) (lock_goes k inside (state_of h (a ∷ answers)) a answers refl ready.1.0 h.checked.now.plan ready.0 p)
      ∙ ap (does (lock_taken k a.wait)) (inside_first (later answers))

  pub lock_overruns : (o : Overrun) → IsRefused h k a.wait o → Overruns h (Lock k body) a o
  unfolding awaited
  lock_overruns o r = λ answers.
      ap (λ x. then_do x (left_in h)) (lock_halts k inside (state_of h (a ∷ answers)) a answers refl ready.1.0 h.checked.now.plan ready.0 r.refused)
      ∙ ap (λ (x : Overrun). stops (overrun x.c x.wait) (state_of h (a ∷ answers))) (sym r.overrun)

  -- its cost has room
  pub lock_cost : ((answers : List Answer) → IsFineHere h (stands (Some (Lock k body)) h answers)) → (bounds_of h).cycles ≤ greatest → is_permitted h.checked.now.plan (branch_of h.branch) k a.wait ≡ true → h.cost + a.wait < 2 ^ 32
  lock_cost fine most p =
      let ok = subst (λ x. IsFineHere h x) (goes [] p) (fine (a ∷ [])) in
      let within = keeps_rest h.checked.now.plan (bounds_of h) h.checked.now.script _ (later []) ok.1 in
      let c = within.cycles in omega (arith, c, most)

  module _ (mid : Machine V D C) (w : ℕ) (fs : ArrayVec Frame) (room : HasRoom h) (quiet : h.unlocks.items ≡ []) (m : TakesLock h k a.wait w mid) (pushed : fs.items ≡ h.frames.items ++ opened ∷ []) where
    abbrev after : Machine V D C
    after = record h { branch = mid.branch; cost = h.cost + w; frames = fs }

    abbrev os : List Open
    os = opens_in h

    pushed_opens : map (open_in h) fs.items ≡ os ++ open_in h opened ∷ []
    pushed_opens = ap (map (open_in h)) pushed ∙ map-append (open_in h) h.frames.items (opened ∷ [])

    room_taken : HasRoom after
    room_taken =
        let n : D - length h.frames.items ≡ D - length os = ap (λ i. D - i) (sym (length-map h.frames.items (open_in h))) in
        let fit : OpenFit V h.checked.now.script h.scope D (os ++ open_in h opened ∷ []) = opens_push V h.checked.now.script h.scope D os (open_in h opened) room.blocks (subst (λ d. Opens (reach h) d b) n ready.1.3) (ready.1.1, ready.1.2) in
        let held : AreHeld (with_lock k true (branch_of h.branch)) (os ++ open_in h opened ∷ []) = held_taken (branch_of h.branch) os b k ready.1.0 room.locks in
        let few : locked_among (branch_of mid.branch) 7 ≤ 7 = among_few (branch_of mid.branch) 7 in
        let none : length h.unlocks.items ≡ 0 = ap length quiet in
        let more = room.missed in
        record {
          variables = room.variables;
          registers = room.registers;
          fits = room.fits;
          scope = room.scope;
          blocks = subst (OpenFit V h.checked.now.script h.scope D) (sym pushed_opens) fit;
          words = room.words;
          steps = room.steps;
          cycles = room.cycles;
          few_missed = room.few_missed;
          missed = omega (arith, more);
          locks = subst (λ (d : Branch). AreHeld d (map (open_in h) fs.items)) (sym m.branch) (subst (AreHeld (with_lock k true (branch_of h.branch))) (sym pushed_opens) held);
          unlocks = omega (arith, few, none);
        }

    state_taken : (answers : List Answer) → state_of after answers ≡ after_lock k w answers (state_of h (a ∷ answers))
    state_taken answers = ap (λ d. record (state_of after answers) { branch = d }) m.branch

    takes : Takes h (Lock k body) a (item.Lock k w) after
    unfolding follows
    takes = record {
      room = room_taken;
      checked = refl;
      service = refl;
      begun = refl;
      unlocks = refl;
      steps = omega arith;
      few = omega arith;
      can_follow = tt;
      goes = λ answers.
          goes answers m.permitted
          ∙ ap (λ n. does (lock_taken k n) (rest_in (context_in h.checked.now) (map (open_in h) (h.frames.items ++ opened ∷ [])) (after_lock k n answers (state_of h (a ∷ answers))))) (sym m.waited)
          ∙ ap (λ s. does (lock_taken k w) (rest_in (context_in h.checked.now) (map (open_in h) (h.frames.items ++ opened ∷ [])) s)) (sym (state_taken answers))
          ∙ ap (λ (gs : List Frame). does (lock_taken k w) (rest_in (context_in h.checked.now) (map (open_in h) gs) (state_of after answers))) (sym pushed);
    }

    pub takes_lock : Takes h (Lock k body) a (item.Lock k w) (record mid { frames = fs })
    takes_lock = subst (λ n. Takes h (Lock k body) a (item.Lock k w) n) (ap (λ (g : Machine V D C). record g { frames = fs }) (sym m.same)) takes
