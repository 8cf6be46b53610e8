-- A service that has gone on for as long as it may.
use Rattle.std.proofs.Common.{◌≡◌, ℕ, ◌+◌, ◌*◌, ◌-◌, ◌<◌, ◌≤◌, List, [], length, subst, ◌∙◌, arith}
use Rattle.std.specs.Prelude.{Option, Some, None, IsSome, IfSome, IfNone}
use Rattle.std.proofs.lemmas.Bool.{false≢true}
use Rattle.camac_branch.specs.Branch.{Answer}
use Rattle.camac_model.specs.Behaviour.{ends, then_do}
use Rattle.camac_model.specs.Value.{greatest}
use Rattle.camac_machine.specs.declared.machine.Machine.{Machine}
use Rattle.camac_machine.specs.declared.machine.Pending.{Pending}
use Rattle.camac_machine.specs.declared.machine.Pending.TheVariants.{Cycle, Read, Lock, Transfer, Pause}
use Rattle.camac_machine.specs.MachineState.{context_in, opens_in, asked, bounds_of, state_of, stands, IsFineHere, HasRoom, IsPending, StandsIn, GoesOn, Settles}
use Rattle.camac_machine.specs.Rest.{rest_in, says}
use Rattle.camac_machine.proofs.Fine.{keeps_rest, fine_says}
use Rattle.camac_machine.proofs.Frames.{goes_further, fine_along, smaller}
use Rattle.camac_machine.proofs.Pauses.{asked_all, stands_paused, steps_fit}
use Rattle.camac_machine.proofs.Takes.{waits_first}

module _ {V D C : ℕ} (h : Machine V D C) where
  -- a service in progress is within its bounds
  waits_within : (w : Pending) → IsPending h w → IsFineHere h (stands (Some w) h []) → h.steps ≤ (bounds_of h).steps
  waits_within w p fine =
      let f = subst (λ b. IsFineHere h (then_do b (rest_in (context_in h.checked.now) (opens_in h)))) (waits_first h w p) fine in f.1.steps

  pub steps_within : (w : Pending) → IfSome (asked (Some w)) (IsPending h) → IsFineHere h (stands (Some w) h []) → h.steps ≤ (bounds_of h).steps
  steps_within (Cycle k) p fine = waits_within (Cycle k) p fine
  steps_within (Read k x bits) p fine = waits_within (Read k x bits) p fine
  steps_within (Lock k body) p fine = waits_within (Lock k body) p fine
  steps_within (Transfer w) p fine = waits_within (Transfer w) p fine
  steps_within Pause p fine =
      (keeps_rest h.checked.now.plan (bounds_of h) h.checked.now.script _ (state_of h []) (subst (λ b. IsFineHere h b) (stands_paused h []) fine)).steps

  -- its steps are numbers of 32 bits
  pub settled_fit : (o : Option Pending) → HasRoom h → IfSome (asked o) (IsPending h) → IsFineHere h (stands o h []) → h.steps ≤ greatest
  settled_fit None room p fine = steps_fit h room fine
  settled_fit (Some w) room p fine =
      let within = steps_within w p fine in
      let most = room.steps in omega (arith, within, most)

-- nothing holds only where something is wanted
none_if_some : {A : Type 0} (o : Option A) (P : Type 0) → IsSome o → IfNone o P
none_if_some None P some = absurd (false≢true some)
none_if_some (Some x) P some = tt

module _ {V D C : ℕ} where
  -- what is left to run stays the same
  pub record StaysAs (start h : Machine V D C) : Type 0 where
    pub room : HasRoom h
    pub checked : h.checked ≡ start.checked
    pub service : h.service ≡ start.service
    pub goes : (answers : List Answer) → says h.unlocks.items (stands None h answers) ≡ stands None start answers

  pub fine_still : {start h : Machine V D C} → StaysAs start h → ((answers : List Answer) → IsFineHere start (stands None start answers)) → (answers : List Answer) → IsFineHere h (stands None h answers)
  fine_still {start = start} {h = h} k fine answers =
      fine_says h.checked.now.plan (bounds_of h) h.unlocks.items _ (fine_along h start k.checked k.service _ _ (k.goes answers) (fine answers))

  module _ {start h new : Machine V D C} (k : StaysAs start h) where
    goes_on : {w : Option Pending} → GoesOn h w new → (answers : List Answer) → says new.unlocks.items (stands w new answers) ≡ stands None start answers
    goes_on {w = w} on answers =
        goes_further h new on.last (record { items = on.before }) on.was on.advances.released on.advances.unlocks w answers (on.advances.goes answers) ∙ k.goes answers

    pub stays_on : GoesOn h None new → StaysAs start new
    stays_on on = record { room = on.advances.room; checked = on.advances.checked ∙ k.checked; service = on.advances.service ∙ k.service; goes = goes_on on }

    pub settles_on : {w : Option Pending} → GoesOn h w new → IsSome w → IfSome w (StandsIn new) → Settles start (λ c. ends) w new
    settles_on {w = w} on some begun = record {
      room = on.advances.room;
      checked = on.advances.checked ∙ k.checked;
      service = on.advances.service ∙ k.service;
      awaits = asked_all w (IsPending new) on.advances.awaits;
      begun = asked_all w (StandsIn new) begun;
      over = none_if_some w _ some;
      goes = goes_on on;
    }

    pub smaller_on : ((answers : List Answer) → IsFineHere start (stands None start answers)) → GoesOn h None new → 2 * ((bounds_of new).steps - new.steps) + length new.frames.items < 2 * ((bounds_of h).steps - h.steps) + length h.frames.items
    smaller_on fine on =
        let within = keeps_rest new.checked.now.plan (bounds_of new) new.checked.now.script _ (state_of new []) (fine_still (stays_on on) fine []) in
        smaller new h (record { items = on.before }) on.last on.advances.checked on.advances.service within.steps on.advances.pace on.was
