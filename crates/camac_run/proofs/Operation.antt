-- What a machine wants its next answer for, whatever that is.
use Rattle.std.proofs.Common.{◌≡◌, ◌∙◌, ℕ, zero, suc, ◌+◌, ◌<◌, List, [], ◌∷◌, Bool, true, false, Option, Some, None, refl, sym, subst, ap, arith, inr}
use Rattle.std.proofs.Math.Dec.{eqb-suc-zero, leb-suc-zero, leb-zero}
use Rattle.std.proofs.lemmas.Bool.{false≢true, le-leb}
use Rattle.std.specs.Prelude.{◌≤◌, ◌||◌, IsSome, IfSome, is_some, nat_le, unwrap_or, if◌then◌else◌}
use Rattle.camac_lang.specs.View.{statements_of}
use Rattle.camac_branch.specs.Branch.{Answer, Branch, Reply}
use Rattle.camac_branch.specs.Crates.{branch_of, is_permitted}
use Rattle.camac_branch.specs.Plan.{Layout, crate_waits}
use Rattle.camac_branch.specs.Allowed.{width}
use Rattle.camac_branch.specs.declared.answer.Command.{Command}
use Rattle.camac_branch.specs.Crates.{Crates}
use Rattle.camac_branch.specs.declared.answer.Overrun.{Overrun}
use Rattle.camac_crate.specs.Lock.{permitted}
use Rattle.camac_esone.specs.Transfers.{tally}
use Rattle.camac_model.specs.State.{State, stepped, with_variable}
use Rattle.camac_model.specs.Behaviour.{Behaviour, Piece, demanded, cycled, lock_taken, lock_released, event_left, does, ends, stops, short, overrun, wrong, more, Action, then_do, given}
use Rattle.camac_model.specs.Fine.{Bounds, IsFine}
use Rattle.camac_model.specs.Headline.{Locked}
use Rattle.camac_model.specs.Safe.{IsSafePiece}
use Rattle.camac_model.specs.Cycle.{cycle, kept, take_lock, release}
use Rattle.camac_model.specs.Fine.{most_turns}
use Rattle.camac_model.specs.Meaning.{block_meaning}
use Rattle.camac_model.specs.Transfer.{keep_word, transfer}
use Rattle.camac_machine.specs.Course.{left_at, words_from, words_sent}
use Rattle.camac_machine.specs.MachineState.{context_in, left_in, stands, state_of, pending_of, is_paused_at, asked, IsPending, IsFineHere, bounds_of, bit_at}
use Rattle.camac_machine.specs.Rest.{is_pause, address_of, awaited, onward, served}
use Rattle.camac_run.specs.Runner.{rest}
use Rattle.camac_run.specs.Sound.{runner_state}
use Rattle.camac_run.specs.Operation.{Begins, IsWaiting, Waits, Wants, operation, operation_of, quiet_answer}
use Rattle.camac_run.specs.Requested.{IsSafeRequest, held_in}
use Rattle.camac_run.specs.Waits.{GoesOnUpTo, is_made, waits_of}
use Rattle.camac_run.specs.declared.progress.Wanted.{Wanted}
use Rattle.camac_run.specs.declared.progress.Wanted.TheVariants as wanted
use Rattle.camac_machine.specs.declared.machine.Machine.{Machine}
use Rattle.camac_machine.specs.declared.machine.Pending.{Pending}
use Rattle.camac_machine.specs.declared.machine.Pending.TheVariants.{Cycle, Read, Lock, Transfer, Pause}
use Rattle.camac_run.proofs.Told.{rest_short, rest_over}
use Rattle.camac_machine.proofs.Pauses.{asked_of}
use Rattle.camac_machine.proofs.Takes.{cycle_goes, cycle_halts}
use Rattle.camac_machine.proofs.Taken.{lock_goes, lock_halts}
use Rattle.camac_machine.proofs.Transfers.{transfer_goes}

-- no wait is always permitted
pub some_wait : (l : Bool) (waits w : ℕ) → permitted l waits w ≡ false → 0 < w
some_wait l waits zero h = absurd (false≢true (sym h))
some_wait l waits (suc n) h = omega arith

pub not_some : {A : Type 0} (o : Option A) → is_some o ≡ false → o ≡ None
not_some None h = refl
not_some (Some x) h = absurd (false≢true (sym h))

-- the answer is used for this operation, which is made exactly if this is so
abbrev Uses : {A : Type 0} → Wanted → Answer → Bool → Behaviour A → Type 0
Uses o a p b = Begins o a b × (is_made b ≡ p)

uses_then : {A B : Type 0} (o : Wanted) (a : Answer) (p : Bool) (b : Behaviour A) (go : A → Behaviour B) → Uses o a p b → Uses o a p (then_do b go)
uses_then o a p (does q b) go h = h
uses_then o a p (ends x) go h = absurd h.0
uses_then o a p (stops w s) go h = h

-- whether a wait is permitted before an operation
abbrev is_allowed : Layout → Branch → Wanted → ℕ → Bool
is_allowed plan b wanted.Demand w = true
is_allowed plan b (wanted.Cycle k) w = is_permitted plan b k.c w
is_allowed plan b (wanted.Lock c) w = is_permitted plan b c w

permitted_is : (l : Bool) (waits w : ℕ) → permitted l waits w ≡ nat_le w (if l then 0 else waits)
permitted_is true waits zero = refl
permitted_is true waits (suc n) = ap (λ t. t || false) (eqb-suc-zero n) ∙ sym (leb-suc-zero n)
permitted_is false waits zero = sym (leb-zero waits)
permitted_is false waits (suc n) = ap (λ t. t || nat_le (suc n) waits) (eqb-suc-zero n)

module _ (plan : Layout) (k : Command) (go : Reply → Action) (s : State) (a : Answer) (answers : List Answer) (planned : IsSome (crate_waits plan k.c)) where
  cycle_by : (p : Bool) → is_permitted plan s.branch k.c a.wait ≡ p → Uses (wanted.Cycle k) a p (cycle plan (address_of k) k.f k.mv (a ∷ answers) go s)
  cycle_by true p = subst (Uses (wanted.Cycle k) a true) (sym (cycle_goes plan (address_of k) k.f k.mv go s a answers planned p)) (refl, refl)
  cycle_by false p =
      subst (Uses (wanted.Cycle k) a false) (sym (cycle_halts plan (address_of k) k.f k.mv go s a answers planned p))
      ((refl, refl, some_wait (s.branch k.c).locked (unwrap_or (crate_waits plan k.c) 0) a.wait p), refl)

  cycle_uses : Uses (wanted.Cycle k) a (is_permitted plan s.branch k.c a.wait) (cycle plan (address_of k) k.f k.mv (a ∷ answers) go s)
  cycle_uses = cycle_by (is_permitted plan s.branch k.c a.wait) refl

module _ (plan : Layout) (c : ℕ) (body : Action) (s : State) (a : Answer) (answers : List Answer) (here : s.answers ≡ a ∷ answers) (is_free : (s.branch c).locked ≡ false) (planned : IsSome (crate_waits plan c)) where
  lock_by : (p : Bool) → is_permitted plan s.branch c a.wait ≡ p → Uses (wanted.Lock c) a p (given (crate_waits plan c) (λ waits t. take_lock c waits (t.branch c).locked body t) s)
  lock_by true p = subst (Uses (wanted.Lock c) a true) (sym (lock_goes c body s a answers here is_free plan planned p)) (refl, refl)
  lock_by false p =
      subst (Uses (wanted.Lock c) a false) (sym (lock_halts c body s a answers here is_free plan planned p))
      ((refl, refl, some_wait (s.branch c).locked (unwrap_or (crate_waits plan c) 0) a.wait p), refl)

  lock_uses : Uses (wanted.Lock c) a (is_permitted plan s.branch c a.wait) (given (crate_waits plan c) (λ waits t. take_lock c waits (t.branch c).locked body t) s)
  lock_uses = lock_by (is_permitted plan s.branch c a.wait) refl

module _ {V D C : ℕ} (h : Machine V D C) (a : Answer) (answers : List Answer) where
  first_uses : (w : Pending) → IfSome (asked (Some w)) (IsPending h)
      → IfSome (operation w) (λ o. Uses o a (is_allowed h.checked.now.plan (branch_of h.branch) o a.wait) (awaited (context_in h.checked.now) (pending_of w) (state_of h (a ∷ answers))))
  unfolding awaited
  first_uses (Cycle k) p = cycle_uses h.checked.now.plan k (λ r. ends) (state_of h (a ∷ answers)) a answers p.0
  first_uses (Read k x bits) p =
      cycle_uses h.checked.now.plan k (λ r t. ends (with_variable x (kept bits r) t)) (state_of h (a ∷ answers)) a answers p.0
  first_uses (Lock c body) p =
      lock_uses h.checked.now.plan c (λ u. then_do (block_meaning (context_in h.checked.now) most_turns (statements_of body.now) u) (release c)) (state_of h (a ∷ answers)) a answers refl p.1.0 p.0
  first_uses (Transfer w) p =
      let n : ℕ = (left_at w.course).tally in
      let plan : Layout = h.checked.now.plan in
      let words : Option (List ℕ) = words_from n (words_sent w.table) in
      let finish : List Bool → Action = λ rs u. ends (with_variable w.tally (n + tally rs) u) in
      subst (Uses (wanted.Cycle w.command) a (is_permitted plan (branch_of h.branch) w.command.c a.wait))
      (sym (transfer_goes plan w.command.f words (left_at w.course).next_address finish [] (address_of w.command) w.command.mv p.1.1 p.1.2 a answers (state_of h (a ∷ answers))))
      (cycle_uses plan w.command (λ r t'. transfer plan w.command.f words (left_at w.course).next_address finish (r.q ∷ []) answers (stepped (keep_word words (width plan (address_of w.command) w.command.f) r t'))) (state_of h (a ∷ answers)) a answers p.0)
  first_uses Pause p = tt

  module _ (w : Pending) (o : Wanted) (wants : operation w ≡ Some o) (p : IfSome (asked (Some w)) (IsPending h)) where
    stands_uses : Uses o a (is_allowed h.checked.now.plan (branch_of h.branch) o a.wait) (stands (Some w) h (a ∷ answers))
    stands_uses =
        let first = first_uses w p in
        let f = rw wants at first in
        uses_then o a (is_allowed h.checked.now.plan (branch_of h.branch) o a.wait) (awaited (context_in h.checked.now) (pending_of w) (state_of h (a ∷ answers))) (left_in h) f

    rest_uses : Uses o a (is_allowed h.checked.now.plan (branch_of h.branch) o a.wait) (served (context_in h.checked.now) h.checked.now.script.services (bit_at h.checked.now h.service) (stands (Some w) h (a ∷ answers)))
    unfolding served
    rest_uses = uses_then o a (is_allowed h.checked.now.plan (branch_of h.branch) o a.wait) (stands (Some w) h (a ∷ answers)) _ stands_uses

  module _ (fed n : ℕ) (has : Bool) (o : Option Overrun) (d : Crates) (m : ℕ) where
    -- an answer that is wanted is used for what is wanted
    pub wanted_uses : (pending : Option Pending) (w : Pending) (x : Wanted) → operation w ≡ Some x → pending ≡ Some w → IfSome (asked pending) (IsPending h)
        → Uses x a (is_allowed h.checked.now.plan (branch_of h.branch) x a.wait) (rest (runner_state h pending fed n has o d m) (a ∷ answers))
    wanted_uses pending w x wants e p = let q : IfSome (asked (Some w)) (IsPending h) = rw e at p in rw e (rest_uses w x wants q)

    -- and where no service is in progress, for a graded-L operation
    pub idle_uses : (pending : Option Pending) → pending ≡ None → Uses wanted.Demand a true (rest (runner_state h pending fed n has o d m) (a ∷ answers))
    unfolding onward
    idle_uses pending e = rw e (refl, refl)

-- ---- what is wanted may be made

safe_piece : (plan : Layout) (held : Locked) (p : Piece) → IsSafePiece plan p → ((c : ℕ) → operation_of p ≡ Some (wanted.Lock c) → held c ≡ false) → IfSome (operation_of p) (IsSafeRequest plan held)
safe_piece plan held (demanded n v) h free = tt
safe_piece plan held (cycled at f d r w) h free = h
safe_piece plan held (lock_taken c w) h free = (h, free c refl)
safe_piece plan held (lock_released c) h free = tt
safe_piece plan held (event_left e) h free = tt

begun_safe : (plan : Layout) (held : Locked) (k : Bounds) (o : Wanted) (b : Behaviour State) → Begins o quiet_answer b → IsFine plan k b → ((c : ℕ) → o ≡ wanted.Lock c → held c ≡ false) → IsSafeRequest plan held o
begun_safe plan held k o (does p b) h f free =
    let s : IfSome (operation_of p) (IsSafeRequest plan held) = safe_piece plan held p f.0 (λ c e. free c (some_same o (wanted.Lock c) (sym h ∙ e))) in
    (rw h at s)
  where
    some_same : (x y : Wanted) → Some x ≡ Some y → x ≡ y
    some_same x y e = cc
begun_safe plan held k o (ends x) h f free = absurd h
begun_safe plan held k o (stops short s) h f free = absurd h
begun_safe plan held k o (stops (overrun c w) s) h f free = let no : 0 < 0 = h.2 in absurd (omega (arith, no))
begun_safe plan held k o (stops wrong s) h f free = absurd h
begun_safe plan held k o (stops more s) h f free = absurd h

-- what is wanted tells whether it pauses
awake_of : (w : Pending) (x : Wanted) → operation w ≡ Some x → is_pause (pending_of w) ≡ false
awake_of (Cycle k) x e = refl
awake_of (Read k y bits) x e = refl
awake_of (Lock k body) x e = refl
awake_of (Transfer w) x e = refl
awake_of Pause x e = absurd (cc)

pauses_of : (w : Pending) → operation w ≡ None → is_pause (pending_of w) ≡ true
pauses_of (Cycle k) e = absurd (cc)
pauses_of (Read k x bits) e = absurd (cc)
pauses_of (Lock k body) e = absurd (cc)
pauses_of (Transfer w) e = absurd (cc)
pauses_of Pause e = refl

pub none_paused : (w : Pending) → is_pause (pending_of w) ≡ true → operation w ≡ None
none_paused (Cycle k) e = absurd (false≢true e)
none_paused (Read k x bits) e = absurd (false≢true e)
none_paused (Lock k body) e = absurd (false≢true e)
none_paused (Transfer w) e = absurd (false≢true e)
none_paused Pause e = refl

wanted_of : (w : Pending) → is_pause (pending_of w) ≡ false → (x : Wanted) × (operation w ≡ Some x)
wanted_of (Cycle k) e = (wanted.Cycle k, refl)
wanted_of (Read k x bits) e = (wanted.Cycle k, refl)
wanted_of (Lock k body) e = (wanted.Lock k, refl)
wanted_of (Transfer w) e = (wanted.Cycle w.command, refl)
wanted_of Pause e = absurd (false≢true (sym e))

-- a lock that is wanted is of a free crate
free_lock : {V D C : ℕ} (h : Machine V D C) (w : Pending) (pending : Option Pending) (fed n : ℕ) (has : Bool) (o : Option Overrun) (d : Crates) (m : ℕ) → IsPending h w → (c : ℕ) → operation w ≡ Some (wanted.Lock c)
    → held_in (runner_state h pending fed n has o d m) c ≡ false
free_lock h (Cycle k) pending fed n has o d m p c e = absurd (cc)
free_lock h (Read k x bits) pending fed n has o d m p c e = absurd (cc)
free_lock h (Lock k body) pending fed n has o d m p c e = let same : k ≡ c = cc in subst (λ j. held_in (runner_state h pending fed n has o d m) j ≡ false) same p.1.0
free_lock h (Transfer w) pending fed n has o d m p c e = absurd (cc)
free_lock h Pause pending fed n has o d m p c e = absurd p.0

pub can_send : {V D C : ℕ} (h : Machine V D C) (w : Pending) (pending : Option Pending) (fed n : ℕ) (has : Bool) (o : Option Overrun) (d : Crates) (m : ℕ) → pending ≡ Some w → IfSome (asked pending) (IsPending h)
    → IfSome pending (λ v. (answers : List Answer) → IsFineHere h (stands (Some v) h answers)) → IfSome (operation w) (IsSafeRequest h.checked.now.plan (held_in (runner_state h pending fed n has o d m)))
can_send h w pending fed n has o d m e p fine = go (operation w) refl
  where
    q : IfSome (asked (Some w)) (IsPending h)
    q = rw e at p

    f : (answers : List Answer) → IsFineHere h (stands (Some w) h answers)
    f = rw e at fine

    go : (x : Option Wanted) → operation w ≡ x → IfSome x (IsSafeRequest h.checked.now.plan (held_in (runner_state h pending fed n has o d m)))
    go None is = tt
    go (Some x) is =
        begun_safe h.checked.now.plan (held_in (runner_state h pending fed n has o d m)) (bounds_of h) x (stands (Some w) h (quiet_answer ∷ []))
        (stands_uses h quiet_answer [] w x is q).0 (f (quiet_answer ∷ []))
        (λ c same. free_lock h w pending fed n has o d m (asked_of w (IsPending h) (awake_of w x is) q) c (is ∙ ap Some same))

-- a runner whose waits were all permitted wants an answer, unless it pauses
module _ {V D C : ℕ} (h : Machine V D C) (fed n : ℕ) (has : Bool) (o : Option Overrun) (d : Crates) (m : ℕ) (first : o ≡ None) where
  wants_this : (pending : Option Pending) (w : Pending) (x : Wanted) → operation w ≡ Some x → pending ≡ Some w → IfSome (asked pending) (IsPending h) → Wants (runner_state h pending fed n has o d m) (Some x)
  wants_this pending w x wants e p = (
    first,
    subst (λ (b : Behaviour (Unit {0})). Waits b) (sym (rest_short h pending w fed n has o d m e (ap is_paused_at e ∙ awake_of w x wants) p)) tt,
    λ a answers. (wanted_uses h a answers fed n has o d m pending w x wants e p).0,
  )

  pub wants_some : (pending : Option Pending) (w : Pending) → pending ≡ Some w → IfSome (asked pending) (IsPending h) → Wants (runner_state h pending fed n has o d m) (operation w)
  wants_some pending w e p = go (operation w) refl
    where
      go : (x : Option Wanted) → operation w ≡ x → Wants (runner_state h pending fed n has o d m) x
      go None is = inr (ap is_paused_at e ∙ pauses_of w is)
      go (Some x) is = wants_this pending w x is e p

  pub wants_none : (pending : Option Pending) → pending ≡ None → Wants (runner_state h pending fed n has o d m) (Some wanted.Demand)
  wants_none pending e = (
    first,
    subst (λ (b : Behaviour (Unit {0})). Waits b) (sym (rest_over h pending fed n has o d m e)) tt,
    λ a answers. (idle_uses h a answers fed n has o d m pending e).0,
  )

  pub is_waiting : (pending : Option Pending) → is_paused_at pending ≡ false → IfSome (asked pending) (IsPending h) → IsWaiting (runner_state h pending fed n has o d m)
  is_waiting None awake p = (wanted.Demand, wants_none None refl)
  is_waiting (Some w) awake p = let x = wanted_of w awake in (x.0, wants_this (Some w) w x.0 x.1 refl p)

-- a wait is permitted up to the longest one
module _ {V D C : ℕ} (h : Machine V D C) (fed n : ℕ) (has : Bool) (o : Option Overrun) (d : Crates) (m : ℕ) where
  allowed_is : (pending : Option Pending) (x : Wanted) (w : ℕ) → w ≤ 15 → is_allowed h.checked.now.plan (branch_of h.branch) x w ≡ nat_le w (waits_of (runner_state h pending fed n has o d m) x)
  allowed_is pending wanted.Demand w few = sym (le-leb w 15 few)
  allowed_is pending (wanted.Cycle k) w few = permitted_is (branch_of h.branch k.c).locked (unwrap_or (crate_waits h.checked.now.plan k.c) 0) w
  allowed_is pending (wanted.Lock c) w few = permitted_is (branch_of h.branch c).locked (unwrap_or (crate_waits h.checked.now.plan c) 0) w

  pub goes_up_to : (pending : Option Pending) (w : Pending) → pending ≡ Some w → IfSome (asked pending) (IsPending h)
      → IfSome (operation w) (λ x. GoesOnUpTo (runner_state h pending fed n has o d m) (waits_of (runner_state h pending fed n has o d m) x))
  goes_up_to pending w e p = go (operation w) refl
    where
      go : (x : Option Wanted) → operation w ≡ x → IfSome x (λ y. GoesOnUpTo (runner_state h pending fed n has o d m) (waits_of (runner_state h pending fed n has o d m) y))
      go None is = tt
      go (Some x) is = λ a answers few. (wanted_uses h a answers fed n has o d m pending w x is e p).1 ∙ allowed_is pending x a.wait few

  pub idle_up_to : (pending : Option Pending) → pending ≡ None → GoesOnUpTo (runner_state h pending fed n has o d m) 15
  idle_up_to pending e = λ a answers few. (idle_uses h a answers fed n has o d m pending e).1 ∙ sym (le-leb a.wait 15 few)
