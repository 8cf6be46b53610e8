-- Going on after a block that is over.
use Rattle.camac_machine.proofs.Scopes.{opens_written, room_written, variables_written}
use Rattle.camac_machine.proofs.Loops.{fine_as, advances_as}
use Rattle.camac_machine.specs.Within.{OwnerFits, outer, OpenFit}
use Rattle.camac_model.specs.Meaning.{for_turns, turns, block_meaning}
use Rattle.camac_model.specs.Fine.{most_turns}
use Rattle.camac_model.specs.State.{Variables, with_variable}
use Rattle.std.proofs.Common.{◌≡◌, ℕ, ◌+◌, ◌<◌, ◌≤◌, List, [], ◌∷◌, ◌++◌, length, length-append, true, false, refl, sym, ap, subst, ◌∙◌, arith, ◌-◌, suc}
use Rattle.std.proofs.lemmas.List.{length-map}
use Rattle.std.specs.Prelude.{Option, None}
use Rattle.arrayvec.specs.ArrayVec.{ArrayVec}
use Rattle.camac_lang.specs.Tree.{done, Condition, Block}
use Rattle.camac_branch.specs.Branch.{Branch, with_lock, Answer}
use Rattle.camac_branch.specs.Address.{Address}
use Rattle.camac_machine.specs.Store.{variables_in, registers_in, held_at}
use Rattle.camac_machine.specs.declared.scope.Scope.{Scope}
use Rattle.camac_branch.specs.Crates.{Crates, branch_of}
use Rattle.camac_model.specs.Behaviour.{does, lock_released, ends, then_do}
use Rattle.camac_model.specs.Cycle.{after_release}
use Rattle.camac_machine.specs.declared.machine.Machine.{Machine}
use Rattle.camac_machine.specs.MachineState.{with_value, open_in, opens_in, AreHeld, locked_among, state_of, bounds_of, left_in, FineThen, HasRoomFor, HasRoom, Advances, holds, free, reach, context_in}
use Rattle.camac_machine.specs.Rest.{nothing, releases, owed, Owner, Open, for_loop, while_loop, returns, rest_in}
use Rattle.camac_machine.proofs.Blocks.{LastFits, opens_pop}
use Rattle.camac_machine.proofs.Fine.{keeps_rest}
use Rattle.camac_machine.proofs.Locks.{held_pop, held_last, held_released, among_released}
use Rattle.camac_machine.proofs.Rooms.{room_with, advances_by}

module _ {V D C : ℕ} (h : Machine V D C) where
  abbrev os : List Open
  os = opens_in h

  abbrev over : Owner → Open
  over o = record { block = done; owner = o }

  last : (o : Owner) → HasRoomFor h (os ++ over o ∷ []) → LastFits V h.checked.now.script h.scope D os (over o)
  last o r = opens_pop V h.checked.now.script h.scope D os (over o) r.blocks

  pub plain_leaves : HasRoomFor h (os ++ over nothing ∷ []) → Advances 1 h (λ c. owed c nothing) None h
  unfolding owed
  plain_leaves r = advances_by (room_with r r.variables r.registers r.scope (last nothing r).others (held_pop (branch_of h.branch) os (over nothing) (λ c. refl) r.locks) r.unlocks) (omega arith) (omega arith) (λ answers. refl)

  module _ (k : ℕ) (room : HasRoomFor h (os ++ over (releases k) ∷ [])) where
    -- its crate is one of the branch
    pub in_range : (1 ≤ k) × (k ≤ 7)
    in_range = (last (releases k) room).owner

    -- its crate is locked
    pub is_locked : (branch_of h.branch k).locked ≡ true
    is_locked = held_last (branch_of h.branch) os done k room.locks

    one_fewer : locked_among (with_lock k false (branch_of h.branch)) 7 + 1 ≡ locked_among (branch_of h.branch) 7
    one_fewer =
        let range = (last (releases k) room).owner in
        (among_released (branch_of h.branch) k 7 range.0 is_locked).0 range.1

    -- there is room to tell it
    pub one_more : length h.unlocks.items < 7
    one_more =
        let few = room.unlocks in
        let one = one_fewer in omega (arith, few, one)

    -- and for its step
    pub release_steps : FineThen h (λ c. owed c (releases k)) → h.steps + 1 ≤ (bounds_of h).steps
    unfolding owed
    release_steps fine =
        (keeps_rest h.checked.now.plan (bounds_of h) h.checked.now.script _ (after_release k (state_of h [])) (fine []).1).steps

    module _ (b : Crates) (us : ArrayVec ℕ) (freed : branch_of b ≡ with_lock k false (branch_of h.branch)) (released : us.items ≡ h.unlocks.items ++ k ∷ []) where
      abbrev after : Machine V D C
      after = record h { branch = b; steps = h.steps + 1; unlocks = us }

      room_after : HasRoom after
      room_after =
          let few = room.unlocks in
          let one = one_fewer in
          let n : length us.items ≡ length h.unlocks.items + 1 = ap length released ∙ length-append h.unlocks.items (k ∷ []) in
          let among : locked_among (branch_of b) 7 ≡ locked_among (with_lock k false (branch_of h.branch)) 7 = ap (λ (d : Branch). locked_among d 7) freed in
          room_with room room.variables room.registers room.scope (last (releases k) room).others
          (subst (λ (d : Branch). AreHeld d os) (sym freed) (held_released (branch_of h.branch) os done k room.locks)) (omega (arith, few, one, n, among))

      pub lock_leaves : Advances 1 h (λ c. owed c (releases k)) None after
      unfolding owed
      lock_leaves = record {
        room = room_after;
        checked = refl;
        service = refl;
        awaits = tt;
        pace = omega arith;
        few = omega arith;
        released = k ∷ [];
        unlocks = released;
        goes = λ answers. ap (λ (d : Branch). does (lock_released k) (left_in h (record (state_of after answers) { branch = d }))) freed;
      }

  -- a block after which no lock is released
  pub room_left : (o : Owner) → outer h.scope o ≡ h.scope → ((c : ℕ) → holds c o ≡ 0) → HasRoomFor h (os ++ over o ∷ []) → HasRoom h
  room_left o stays none r = room_with r r.variables r.registers r.scope (subst (λ (u : Scope). OpenFit V h.checked.now.script u D os) stays (last o r).others) (held_pop (branch_of h.branch) os (over o) none r.locks) r.unlocks

  pub owner_left : (o : Owner) → HasRoomFor h (os ++ over o ∷ []) → OwnerFits V h.checked.now.script h.scope (free h) o
  owner_left o r = subst (λ n. OwnerFits V h.checked.now.script h.scope n o) (ap (λ n. D - n) (length-map h.frames.items (open_in h))) (last o r).owner

  -- the caller of a procedure goes on
  module _ (p : Scope) (vs : List ℕ) (rs : List (Option Address)) where
    pub return_leaves : vs ≡ held_at p.variables h.variables → rs ≡ held_at p.registers h.registers → HasRoomFor h (os ++ over (returns p vs rs) ∷ []) → Advances 1 h (λ c. owed c (returns p vs rs)) None (record h { scope = p })
    unfolding owed
    return_leaves e f r =
        let l = last (returns p vs rs) r in
        advances_by (room_with r r.variables r.registers l.owner.1 l.others (held_pop (branch_of h.branch) os (over (returns p vs rs)) (λ c. refl) r.locks) r.unlocks) (omega arith) (omega arith)
        (λ answers. ap (λ ws. left_in h (record (state_of h answers) { variables = variables_in ws; registers = registers_in (held_at p.registers h.registers) })) (sym e)
        ∙ ap (λ qs. left_in h (record (state_of h answers) { variables = variables_in vs; registers = registers_in qs })) (sym f))

  -- a `for` goes on
  module _ (x v w n : ℕ) (b : Block) where
    turn_next : v < w → (answers : List Answer) → owed (context_in h.checked.now) (for_loop x v w n b) (state_of h answers) ≡ for_turns (suc (w - (v + 1))) n x (v + 1) w (block_meaning (context_in h.checked.now) most_turns b) (state_of h answers)
    unfolding owed
    turn_next lt answers =
        let e : w - v ≡ suc (w - (v + 1)) = omega (arith, lt) in
        ap (λ k. for_turns k n x (v + 1) w (block_meaning (context_in h.checked.now) most_turns b) (state_of h answers)) e

    turn_last : w ≤ v → (answers : List Answer) → owed (context_in h.checked.now) (for_loop x v w n b) (state_of h answers) ≡ ends (with_variable x w (state_of h answers))
    unfolding owed
    turn_last le answers =
        let e : w - v ≡ 0 = omega (arith, le) in
        ap (λ k. for_turns k n x (v + 1) w (block_meaning (context_in h.checked.now) most_turns b) (state_of h answers)) e

    pub next_fine : v < w → FineThen h (λ c. owed c (for_loop x v w n b)) → FineThen h (λ c. for_turns (suc (w - (v + 1))) n x (v + 1) w (block_meaning c most_turns b))
    next_fine lt fine = fine_as h (λ c. owed c (for_loop x v w n b)) (λ c. for_turns (suc (w - (v + 1))) n x (v + 1) w (block_meaning c most_turns b)) (turn_next lt) fine

    pub next_leaves : v < w → (new : Machine V D C) → Advances 1 h (λ c. for_turns (suc (w - (v + 1))) n x (v + 1) w (block_meaning c most_turns b)) None new → Advances 1 h (λ c. owed c (for_loop x v w n b)) None new
    next_leaves lt new k =
        advances_as h (λ c. for_turns (suc (w - (v + 1))) n x (v + 1) w (block_meaning c most_turns b)) (λ c. owed c (for_loop x v w n b)) None new (λ answers. sym (turn_next lt answers)) k

    pub last_leaves : w ≤ v → x < (reach h).variables → (new : Machine V D C) → new ≡ with_value h x w → HasRoom h → Advances 1 h (λ c. owed c (for_loop x v w n b)) None new
    last_leaves le lt new same r =
        subst (λ m. Advances 1 h (λ c. owed c (for_loop x v w n b)) None m) (sym same)
        (advances_by (room_written h x w r) (omega arith) (omega arith)
        (λ answers. ap (λ os. rest_in (context_in h.checked.now) os (state_of (with_value h x w) answers)) (sym (opens_written h x w r))
        ∙ ap (λ (vs : Variables). left_in h (record (state_of h answers) { variables = vs })) (variables_written h x w lt r)
        ∙ ap (λ b. then_do b (left_in h)) (sym (turn_last le answers))))

  -- a `while` goes on
  module _ (test : Condition) (n : ℕ) (b : Block) where
    pub while_fine : FineThen h (λ c. owed c (while_loop test n b)) → FineThen h (λ c. turns n test (block_meaning c most_turns b))
    unfolding owed
    while_fine fine = fine

    pub while_leaves : (new : Machine V D C) → Advances 1 h (λ c. turns n test (block_meaning c most_turns b)) None new → Advances 1 h (λ c. owed c (while_loop test n b)) None new
    unfolding owed
    while_leaves new k = k
