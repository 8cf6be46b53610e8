-- The first statement of the innermost block, which is taken off it.
use Rattle.std.proofs.Common.{◌≡◌, ℕ, ◌+◌, ◌-◌, ◌*◌, ◌<◌, List, ◌++◌, length, take, drop, Option, None, refl, sym, ap, ◌∙◌, arith}
use Rattle.std.specs.Borrow.{Bor}
use Rattle.arrayvec.specs.ArrayVec.{ArrayVec}
use Rattle.camac_branch.specs.Branch.{Answer}
use Rattle.camac_lang.specs.declared.tree.Stmt.{Stmt}
use Rattle.camac_lang.specs.View.{statement_of, statements_of}
use Rattle.camac_model.specs.State.{State, stepped}
use Rattle.camac_model.specs.Behaviour.{then_do}
use Rattle.camac_model.specs.Fine.{most_turns}
use Rattle.camac_model.specs.Meaning.{effect}
use Rattle.camac_machine.specs.declared.machine.Frame.{Frame}
use Rattle.camac_machine.specs.declared.machine.Machine.{Machine}
use Rattle.camac_machine.specs.declared.machine.Pending.{Pending}
use Rattle.camac_machine.specs.MachineState.{context_in, state_of, left_in, open_in, reach, stands, IsFineHere, FineThen, HasRoom, TakesFirst, Advances, GoesOn}
use Rattle.camac_machine.specs.Rest.{left_of, says}
use Rattle.camac_machine.specs.Within.{StatementFits}
use Rattle.camac_machine.proofs.Frames.{room_begun, goes_begun, room_popped, goes_popped, fine_along, ready_at, stands_at}
use Rattle.camac_machine.proofs.Lists.{of_whole, longer}
use Rattle.camac_machine.proofs.Rooms.{room_kept}

-- the frames after it was taken in a slice of them
pub first_whole : (fs gs ws : List Frame) (first : Stmt) → gs ≡ fs → TakesFirst gs first ws → TakesFirst fs first (take (length fs) (ws ++ drop (length ws) fs))
first_whole fs gs ws first e t = of_whole (λ a b. TakesFirst a first b) fs gs ws (ap length t.is ∙ longer t.before _ ∙ sym (longer t.before _) ∙ sym (ap length t.was)) e t

module _ {V D C : ℕ} (h : Machine V D C) (first : Stmt) (fs : ArrayVec Frame) (t : TakesFirst h.frames.items first fs.items) where
  abbrev without : Machine V D C
  without = record h { frames = record { items = t.before } }

  abbrev within : Machine V D C
  within = record h { frames = fs }

  goes : (s : State) → then_do (effect (context_in h.checked.now) most_turns (statement_of first) (stepped s)) (left_in within) ≡ then_do (left_of (context_in h.checked.now) (open_in h t.last) s) (left_in without)
  goes s = goes_begun without (record t.last { rest = t.rest }) fs (open_in h t.last) (statement_of first) t.is (ap statements_of t.first_is) refl s

  pub first_room : HasRoom h → HasRoom within × StatementFits (reach h) (D - length fs.items) (statement_of first)
  first_room r = room_begun without (record t.last { rest = t.rest }) fs (open_in h t.last) (statement_of first) t.is (ap statements_of t.first_is) refl (room_popped h t.last without.frames t.was r)

  pub first_fine : ((answers : List Answer) → IsFineHere h (stands None h answers)) → FineThen within (λ c s. effect c most_turns (statement_of first) (stepped s))
  first_fine fine answers = fine_along within h refl refl _ _ (goes (state_of h answers) ∙ sym (goes_popped h t.last without.frames t.was (state_of h answers))) (fine answers)

  pub first_goes : (w : Option Pending) (new : Machine V D C) (b : Option (Bor Stmt)) → Advances 2 within (λ c s. effect c most_turns (statement_of first) (stepped s)) w new → length new.frames.items + 2 * h.steps < 2 * new.steps + length fs.items → GoesOn h w (record new { begun = b })
  first_goes w new b a pace = record {
    before = t.before;
    last = t.last;
    was = t.was;
    advances = record {
      room = room_kept a.room;
      checked = a.checked;
      service = a.service;
      awaits = ready_at new b w a.awaits;
      pace = let n : length fs.items ≡ length t.before + 1 = ap length t.is ∙ longer t.before _ in omega (arith, pace, n);
      few = a.few;
      released = a.released;
      unlocks = a.unlocks;
      goes = λ answers. ap (says a.released) (stands_at new b w answers) ∙ a.goes answers ∙ goes (state_of h answers);
    };
  }
