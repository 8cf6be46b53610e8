-- A service that is left before its end.
use Rattle.std.proofs.Common.{◌≡◌, ℕ, zero, suc, ◌<◌, List, [], ◌∷◌, ◌++◌, length, map, Option, None, false, refl, sym, ap, subst, ◌∙◌, append_assoc, arith}
use Rattle.std.specs.Option.{option_to_list}
use Rattle.std.specs.Prelude.{IsSome}
use Rattle.std.proofs.lemmas.Bool.{false≢true}
use Rattle.std.proofs.lemmas.List.{append-nil, map-append}
use Rattle.arrayvec.specs.ArrayVec.{ArrayVec}
use Rattle.camac_lang.specs.Tree.{done}
use Rattle.camac_branch.specs.Branch.{Branch, with_lock}
use Rattle.camac_branch.specs.Crates.{Crates, branch_of}
use Rattle.camac_machine.specs.declared.machine.Frame.{Frame}
use Rattle.camac_machine.specs.declared.machine.Machine.{Machine}
use Rattle.camac_run.specs.Locks.{lock_of, locks_in}
use Rattle.camac_machine.specs.MachineState.{open_in, opens_in, opens_of, AreHeld, locked_among, HasRoomFor, HasRoom}
use Rattle.camac_machine.specs.Rest.{releases, Open}
use Rattle.camac_machine.specs.Within.{OpenFit}
use Rattle.camac_machine.proofs.Blocks.{opens_pop, opens_push}
use Rattle.camac_machine.proofs.Leaves.{lock_leaves}
use Rattle.camac_machine.proofs.Locks.{held_same, none_held, none_locked}
use Rattle.camac_machine.proofs.Rooms.{room_with, room_kept}

locks_push : (os : List Open) (o : Open) → locks_in (os ++ o ∷ []) ≡ lock_of o.owner ++ locks_in os
locks_push [] o = sym (append-nil (lock_of o.owner))
locks_push (p ∷ os) o = ap (λ (ks : List ℕ). ks ++ lock_of p.owner) (locks_push os o) ∙ append_assoc (lock_of o.owner) (locks_in os) (lock_of p.owner)

among_none : (b : Branch) (n : ℕ) → ((c : ℕ) → (b c).locked ≡ false) → locked_among b n ≡ 0
among_none b zero free = refl
among_none b (suc n) free = rw (free (suc n), among_none b n free) refl

emptied : (fs : List Frame) → (0 < length fs → ⊥) → fs ≡ []
emptied [] none = refl
emptied (f ∷ fs) none = absurd (none (omega arith))

-- none is left where none was popped
pub none_popped : (old new : ArrayVec Frame) (popped : Option Frame) → popped ≡ None → (0 < length old.items → IsSome popped) → old.items ≡ new.items ++ option_to_list popped → (old.items ≡ []) × (new.items ≡ [])
none_popped old new popped e some items =
    let idle : old.items ≡ [] = emptied old.items (λ more. false≢true (subst (λ (o : Option Frame). IsSome o) e (some more))) in
    let same : old.items ≡ new.items = items ∙ ap (λ (o : Option Frame). new.items ++ option_to_list o) e ∙ append-nil new.items in
    (idle, sym same ∙ idle)

module _ {V D C : ℕ} (h : Machine V D C) where
  -- no crate is locked where no block is open
  pub idle_free : h.frames.items ≡ [] → HasRoom h → (c : ℕ) → (branch_of h.branch c).locked ≡ false
  idle_free idle r = none_held (branch_of h.branch) (subst (λ (gs : List Frame). AreHeld (branch_of h.branch) (opens_of h.variables h.registers gs)) idle r.locks)

  -- what is left of a block does not matter
  pub room_over : (os : List Open) (o : Open) → HasRoomFor h (os ++ o ∷ []) → HasRoomFor h (os ++ record { block = done; owner = o.owner } ∷ [])
  room_over os o r =
      let last = opens_pop V h.checked.now.script h.scope D os o r.blocks in
      let over : Open = record { block = done; owner = o.owner } in
      room_with r r.variables r.registers r.scope (opens_push V h.checked.now.script h.scope D os over last.others (last.block.0, tt) last.owner)
      (held_same (branch_of h.branch) os o over (λ c. refl) r.locks) r.unlocks

  -- its lock is released
  pub room_released : (k : ℕ) → HasRoomFor h (opens_in h ++ record { block = done; owner = releases k } ∷ []) → (b : Crates) (us : ArrayVec ℕ) → branch_of b ≡ with_lock k false (branch_of h.branch) → us.items ≡ h.unlocks.items ++ k ∷ [] → HasRoom (record h { branch = b; unlocks = us })
  room_released k r b us freed told = room_kept (lock_leaves h k r b us freed told).room

  -- the locks that are told, and those that are still to be
  pub told_on : (f : Frame) (fs : List Frame) → h.frames.items ≡ fs ++ f ∷ [] → (new : Machine V D C) → opens_in new ≡ map (open_in h) fs → new.unlocks.items ≡ h.unlocks.items ++ lock_of (open_in h f).owner → new.unlocks.items ++ locks_in (opens_in new) ≡ h.unlocks.items ++ locks_in (opens_in h)
  told_on f fs popped new left told =
      let os : List Open = map (open_in h) fs in
      ap (λ (ks : List ℕ). ks ++ locks_in (opens_in new)) told
      ∙ ap (λ (qs : List Open). (h.unlocks.items ++ lock_of (open_in h f).owner) ++ locks_in qs) left
      ∙ append_assoc h.unlocks.items (lock_of (open_in h f).owner) (locks_in os)
      ∙ ap (λ (ks : List ℕ). h.unlocks.items ++ ks) (sym (locks_push os (open_in h f)))
      ∙ ap (λ (qs : List Open). h.unlocks.items ++ locks_in qs) (sym (ap (map (open_in h)) popped ∙ map-append (open_in h) fs (f ∷ [])))

  -- no block is open, and no crate is locked
  pub room_idle : (b : Crates) (fs : ArrayVec Frame) → fs.items ≡ [] → h.frames.items ≡ [] → ((c : ℕ) → (branch_of b c).locked ≡ false) → HasRoom h → HasRoom (record h { frames = fs; branch = b })
  room_idle b fs none idle free r =
      let few = r.unlocks in
      let unlocked = among_none (branch_of b) 7 free in
      room_with r r.variables r.registers r.scope
      (subst (λ (gs : List Frame). OpenFit V h.checked.now.script h.scope D (opens_of h.variables h.registers gs)) (idle ∙ sym none) r.blocks)
      (subst (λ (gs : List Frame). AreHeld (branch_of b) (opens_of h.variables h.registers gs)) (sym none) (none_locked (branch_of b) free)) (omega (arith, few, unlocked))

  -- all locks are told where no block is open
  pub all_told : (locks : List ℕ) → h.frames.items ≡ [] → h.unlocks.items ++ locks_in (opens_in h) ≡ locks → h.unlocks.items ≡ locks
  all_told locks idle told =
      sym (append-nil h.unlocks.items)
      ∙ ap (λ (gs : List Frame). h.unlocks.items ++ locks_in (opens_of h.variables h.registers gs)) (sym idle)
      ∙ told
