-- The next turn of a `for`, which stays in its place.
use Rattle.std.proofs.Common.{◌≡◌, ℕ, suc, ◌+◌, ◌-◌, ◌<◌, ◌≤◌, List, [], ◌∷◌, ◌++◌, length, take, drop, refl, sym, ap, subst, ◌∙◌}
use Rattle.std.specs.Prelude.{None}
use Rattle.arrayvec.specs.ArrayVec.{ArrayVec}
use Rattle.camac_branch.specs.Branch.{Answer}
use Rattle.camac_lang.specs.Tree.{Block, done}
use Rattle.camac_lang.specs.View.{statements_of}
use Rattle.camac_model.specs.Fine.{most_turns}
use Rattle.camac_model.specs.Meaning.{for_turns, block_meaning}
use Rattle.camac_machine.specs.declared.machine.Frame.{Frame}
use Rattle.camac_machine.specs.declared.machine.Machine.{Machine}
use Rattle.camac_machine.specs.declared.machine.Owner.TheVariants.{For}
use Rattle.camac_machine.specs.MachineState.{reach, with_value, state_of, bounds_of, owner_in, opens_in, stands, IsFineHere, FineThen, HasRoomFor, HasRoom, TurnsAgain, LastIsOver, Advances, GoesOn}
use Rattle.camac_machine.specs.Rest.{Owner, owed, left_of}
use Rattle.camac_machine.proofs.Frames.{room_opened, room_popped, goes_popped, advances_soon, fine_along}
use Rattle.camac_machine.proofs.Leaves.{room_left, owner_left, next_fine, next_leaves}
use Rattle.camac_machine.proofs.Lists.{of_whole, longer}
use Rattle.camac_machine.proofs.Loops.{turn_fine, turn_advances}
use Rattle.camac_machine.proofs.Rooms.{room_kept}

-- the frames after a turn was begun in a slice of them
pub turn_whole : (fs gs ws : List Frame) (x v : ℕ) → gs ≡ fs → TurnsAgain gs x v ws → TurnsAgain fs x v (take (length fs) (ws ++ drop (length ws) fs))
turn_whole fs gs ws x v e t = of_whole (λ a b. TurnsAgain a x v b) fs gs ws (ap length t.is ∙ longer t.before _ ∙ sym (longer t.before _) ∙ sym (ap length t.was)) e t

module _ {V D C : ℕ} (h : Machine V D C) (x v : ℕ) (fs : ArrayVec Frame) (t : TurnsAgain h.frames.items x v fs.items) (over : LastIsOver h.frames.items) (room : HasRoom h) (fine : (answers : List Answer) → IsFineHere h (stands None h answers)) where
  abbrev last : Frame
  last = record { rest = t.rest; owner = For x t.current t.last t.turns t.body }

  abbrev again : Frame
  again = record { rest = t.body; owner = For x v t.last (t.turns - 1) t.body }

  abbrev without : Machine V D C
  without = record h { frames = record { items = t.before } }

  abbrev within : Machine V D C
  within = record h { frames = fs }

  abbrev loops : Owner
  loops = owner_in without last.owner

  nothing_left : statements_of t.rest.now ≡ done
  nothing_left = ap statements_of (over t.before last t.was)

  room_over : HasRoomFor without (opens_in without ++ record { block = done; owner = loops } ∷ [])
  room_over = subst (λ (b : Block). HasRoomFor without (opens_in without ++ record { block = b; owner = loops } ∷ [])) nothing_left (room_popped h last without.frames t.was room)

  fine_over : FineThen without (λ c. owed c loops)
  fine_over =
      subst (λ (b : Block). FineThen without (λ c. left_of c (record { block = b; owner = loops }))) nothing_left
      (λ answers. fine_along without h refl refl _ _ (sym (goes_popped h last without.frames t.was (state_of h answers))) (fine answers))

  room_without : HasRoom without
  room_without = room_left without loops refl (λ c. refl) room_over

  pub turn_sets : x < (reach h).variables
  turn_sets = (owner_left without loops room_over).0

  -- with the block whole again
  pub turn_room : HasRoom within
  turn_room = room_opened without again fs t.is room_without (owner_left without loops room_over).1 (owner_left without loops room_over) refl (λ c. refl)

  turn_goes : FineThen without (λ c. for_turns (suc (t.last - v)) t.turns x v t.last (block_meaning c most_turns (statements_of t.body.now)))
  turn_goes =
      subst (λ u. FineThen without (λ c. for_turns (suc (t.last - u)) t.turns x u t.last (block_meaning c most_turns (statements_of t.body.now)))) (sym t.value_is)
      (next_fine without x t.current t.last t.turns (statements_of t.body.now) t.below fine_over)

  -- there is a turn left, and room for its step
  turn_left : (0 < t.turns) × (h.steps + 1 ≤ (bounds_of h).steps)
  turn_left = turn_fine without x v t.last t.turns (statements_of t.body.now) turn_goes

  pub turn_steps : h.steps + 1 ≤ (bounds_of h).steps
  turn_steps = turn_left.1

  module _ (mid : Machine V D C) (same : mid ≡ with_value within x v) (kept : HasRoom mid) where
    abbrev new : Machine V D C
    new = record mid { steps = mid.steps + 1 }

    turns_on : Advances 1 without (λ c. for_turns (suc (t.last - v)) t.turns x v t.last (block_meaning c most_turns (statements_of t.body.now))) None new
    turns_on =
        turn_advances without x v t.last t.turns t.body new turn_sets turn_left.0 room_without
        (ap (λ (m : Machine V D C). record m { steps = m.steps + 1; frames = mid.frames }) same)
        (ap (λ (m : Machine V D C). m.frames.items) same ∙ t.is)
        (room_kept kept)

    leaves_on : Advances 1 without (λ c. owed c loops) None new
    leaves_on =
        next_leaves without x t.current t.last t.turns (statements_of t.body.now) t.below new
        (subst (λ u. Advances 1 without (λ c. for_turns (suc (t.last - u)) t.turns x u t.last (block_meaning c most_turns (statements_of t.body.now))) None new) t.value_is turns_on)

    pub turn_goes_on : GoesOn h None new
    turn_goes_on = record {
      before = t.before;
      last = last;
      was = t.was;
      advances =
          subst (λ (b : Block). Advances 2 without (λ c. left_of c (record { block = b; owner = loops })) None new) (sym nothing_left)
          (advances_soon without (λ c. owed c loops) None new leaves_on);
    }
