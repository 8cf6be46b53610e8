-- A machine that pauses.
use Rattle.std.proofs.Common.{◌≡◌, ℕ, ◌≤◌, [], Bool, true, false, refl, sym, ◌∙◌, arith}
use Rattle.std.proofs.lemmas.Bool.{false≢true}
use Rattle.std.specs.Prelude.{List, Option, Some, None, IfSome, if◌then◌else◌}
use Rattle.camac_branch.specs.Branch.{Answer}
use Rattle.camac_model.specs.Value.{greatest}
use Rattle.camac_machine.specs.declared.machine.Machine.{Machine}
use Rattle.camac_machine.specs.declared.machine.Pending.{Pending}
use Rattle.camac_machine.specs.declared.machine.Pending.TheVariants.{Cycle, Read, Lock, Transfer, Pause}
use Rattle.camac_machine.specs.MachineState.{pending_of, is_paused_at, asked, bounds_of, state_of, stands, IsFineHere, HasRoom, IsPending}
use Rattle.camac_machine.specs.Rest.{is_pause, awaited}
use Rattle.camac_machine.proofs.Fine.{keeps_rest}

-- what is known of what is wanted is known of what an answer is wanted for
pub asked_all : (o : Option Pending) (P : Pending → Type 0) → IfSome o P → IfSome (asked o) P
asked_all None P p = tt
asked_all (Some w) P p = go (is_pause (pending_of w))
  where
    go : (b : Bool) → IfSome (if b then None else Some w) P
    go true = tt
    go false = p

pub asked_of : (w : Pending) (P : Pending → Type 0) → is_pause (pending_of w) ≡ false → IfSome (asked (Some w)) P → P w
asked_of w P = go (is_pause (pending_of w))
  where
    go : (b : Bool) → b ≡ false → IfSome (if b then None else Some w) P → P w
    go true e p = absurd (false≢true (sym e))
    go false e p = p

-- a service that pauses has nothing else to wait for
pub paused_is : (o : Option Pending) → is_paused_at o ≡ true → o ≡ Some Pause
paused_is None e = absurd (false≢true e)
paused_is (Some (Cycle k)) e = absurd (false≢true e)
paused_is (Some (Read k x bits)) e = absurd (false≢true e)
paused_is (Some (Lock k body)) e = absurd (false≢true e)
paused_is (Some (Transfer w)) e = absurd (false≢true e)
paused_is (Some Pause) e = refl

-- where an answer is wanted, it does not pause
pub never_pauses : {V D C : ℕ} (h : Machine V D C) (o : Option Pending) → IfSome o (IsPending h) → is_paused_at o ≡ false
never_pauses h None p = refl
never_pauses h (Some (Cycle k)) p = refl
never_pauses h (Some (Read k x bits)) p = refl
never_pauses h (Some (Lock k body)) p = refl
never_pauses h (Some (Transfer w)) p = refl
never_pauses h (Some Pause) p = absurd p.0

pub pauses_never : {A : Type 0} (b : Bool) → b ≡ false → b ≡ true → A
pauses_never b e f = absurd (false≢true (sym e ∙ f))

module _ {V D C : ℕ} (h : Machine V D C) where
  -- what is left of a service that pauses is what is left of its blocks
  pub stands_paused : (answers : List Answer) → stands (Some Pause) h answers ≡ stands None h answers
  unfolding awaited
  stands_paused answers = refl

  -- its steps are numbers of 32 bits
  pub steps_fit : HasRoom h → IsFineHere h (stands None h []) → h.steps ≤ greatest
  steps_fit room fine =
      let within = (keeps_rest h.checked.now.plan (bounds_of h) h.checked.now.script _ (state_of h []) fine).steps in
      let most = room.steps in omega (arith, within, most)
