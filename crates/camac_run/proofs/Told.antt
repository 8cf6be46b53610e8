-- What an answer told of a runner, and what is left.
use Rattle.std.proofs.Common.{◌≡◌, ℕ, ◌+◌, ◌<◌, ◌≤◌, List, [], ◌∷◌, length, Option, Some, None, Bool, true, false, refl, sym, ap, subst, ◌∙◌, arith}
use Rattle.std.specs.Prelude.{slice_get, option_map, IfSome, IfNone, OnSome, IsTrue, IsSomeAnd, not}
use Rattle.std.specs.Borrow.{Bor}
use Rattle.std.proofs.lemmas.Bool.{false≢true}
use Rattle.camac_lang.specs.Scope.{is_well_formed}
use Rattle.camac_lang.specs.Tree.{Service, spot_of}
use Rattle.camac_lang.specs.View.{statement_of}
use Rattle.camac_lang.specs.declared.tree.Stmt.{Stmt}
use Rattle.camac_branch.specs.Crates.{Crates, branch_of}
use Rattle.camac_branch.specs.Branch.{Answer}
use Rattle.arrayvec.specs.ArrayVec.{ArrayVec}
use Rattle.camac_branch.specs.declared.answer.Overrun.{Overrun}
use Rattle.camac_rules.specs.Checked.{CheckedScript, IsChecked}
use Rattle.camac_lang.specs.Fits.{fits}
use Rattle.camac_model.specs.State.{State}
use Rattle.camac_model.specs.Behaviour.{Behaviour, ends, stops, short, Action, then_do}
use Rattle.camac_model.specs.Fine.{IsFine, most_turns}
use Rattle.camac_model.specs.Meaning.{Context}
use Rattle.camac_model.specs.Run.{service_meaning}
use Rattle.camac_machine.specs.declared.item.Item.{Item}
use Rattle.camac_machine.specs.declared.machine.Machine.{Machine}
use Rattle.camac_machine.specs.declared.machine.Pending.{Pending}
use Rattle.camac_machine.specs.declared.machine.Pending.TheVariants as pending
use Rattle.camac_machine.specs.declared.machine.Pending.TheVariants.{Cycle, Read, Lock, Pause}
use Rattle.camac_machine.specs.MachineState.{bounds_at, bounds_of, opens_in, locked_among, context_in, state_of, left_in, stands, pending_of, after_pending, asked, is_paused_at, FineThen, IsFineHere, HasRoom, IsPending, IsOperationOf, StandsIn, Takes, Settles, Serves, Left, bit_at, event_here}
use Rattle.camac_machine.specs.Rest.{is_pause, is_paused, is_asking, follows, rest_in, says, served}
use Rattle.camac_run.specs.Place.{IsPlace}
use Rattle.camac_run.specs.declared.place.Place.{Place}
use Rattle.camac_run.specs.Runner.{RunnerState, rest, last_words_in, with_event, steps_before, steps_made, KeepsLimit, NeverPauses}
use Rattle.camac_run.specs.Sound.{runner_state, IsSound}
use Rattle.camac_machine.proofs.Bounds.{fine_at}
use Rattle.camac_machine.proofs.Fine.{fine_says}
use Rattle.camac_machine.proofs.Frames.{fine_along}
use Rattle.camac_machine.proofs.Locks.{among_few}
use Rattle.camac_run.proofs.Serving.{served_says, served_stops, onward_over}
use Rattle.camac_machine.proofs.Courses.{pause_alone}
use Rattle.camac_machine.proofs.Pauses.{asked_of, stands_paused}
use Rattle.camac_machine.proofs.Rooms.{room_with}
use Rattle.camac_machine.proofs.Settled.{steps_within}
use Rattle.camac_machine.proofs.Takes.{waits_first}

-- what is so is so where something is wanted
pub each_some : {A : Type 0} (o : Option A) (P : Type 0) → P → IfSome o (λ w. P)
each_some None P p = tt
each_some (Some w) P p = p

not_true : (b : Bool) → not b ≡ true → b ≡ false
not_true true e = absurd (false≢true e)
not_true false e = refl

-- where it does not pause, an answer is wanted
pub asked_is : (o : Option Pending) (w : Pending) (P : Pending → Type 0) → o ≡ Some w → is_paused_at o ≡ false → IfSome (asked o) P → P w
asked_is o w P e awake p =
    let a = rw e at awake in
    let q = rw e at p in
    asked_of w P a q

module _ {V D C : ℕ} where
  -- the event of a service that is over is told and counted, and nothing else changes
  module _ (new : Machine V D C) (next' : Option Pending) (event : Option Left) (fed n : ℕ) (has : Bool) (o : Option Overrun) (d : Crates) (m : ℕ) (s : RunnerState) where
    abbrev pub IsCounted : Type 0
    IsCounted = IfNone (option_map pending_of next') ((event ≡ Some (event_here new (n + 1))) × (s ≡ record (runner_state new next' fed n has o d m) { events = n + 1; has_event = true }))

    abbrev pub IsAsBefore : Type 0
    IsAsBefore = OnSome (option_map pending_of next') ((event ≡ None) × (s ≡ record (runner_state new next' fed n has o d m) { has_event = false }))

  -- where nothing is wanted the event is told, and else what is left is that of the machine
  pub told : (new : Machine V D C) (next' : Option Pending) (event : Option Left) (fed n : ℕ) (has : Bool) (o : Option Overrun) (d : Crates) (m : ℕ) (s : RunnerState) (answers : List Answer)
      → IfNone next' (new.frames.items ≡ []) → IsCounted new next' event fed n has o d m s → IsAsBefore new next' event fed n has o d m s
      → served (context_in new.checked.now) new.checked.now.script.services (bit_at new.checked.now new.service) (stands next' new answers) ≡ with_event event (last_words_in s) (rest s answers)
  unfolding served rest_in
  told new None event fed n has o d m s answers f a b = rw (f, a.0, a.1) refl
  told new (Some w) event fed n has o d m s answers f a b = rw (b.0, b.1) refl

  pub counted : (new : Machine V D C) (next' : Option Pending) (event : Option Left) (fed n : ℕ) (has : Bool) (o : Option Overrun) (d : Crates) (m : ℕ) (s : RunnerState)
      → new.missed ≤ new.cost → IsCounted new next' event fed n has o d m s → IsAsBefore new next' event fed n has o d m s
      → IfNone event (s.events ≡ n) × IfSome event (λ e. (e.0 ≡ n + 1) × (s.events ≡ e.0) × (e.2.missed ≤ e.2.cycles)) × IfNone event (last_words_in s ≡ []) × (s.fed ≡ fed) × (s.overrun ≡ o) × (s.checked ≡ new.checked.now) × IfSome s.pending (λ w. s.at_demand ≡ d) × IfSome event (λ e. s.pending ≡ None)
  counted new None event fed n has o d m s few a b = rw (a.0, a.1) (tt, (refl, refl, few), tt, refl, refl, refl, tt, refl)
  counted new (Some w) event fed n has o d m s few a b = rw (b.0, b.1) (refl, tt, refl, refl, refl, refl, refl, tt)

  -- a machine whose releases are told
  pub room_told : (h : Machine V D C) (none : ArrayVec ℕ) → none.items ≡ [] → HasRoom h → HasRoom (record h { unlocks = none })
  room_told h none e r =
      let few : locked_among (branch_of h.branch) 7 ≤ 7 = among_few (branch_of h.branch) 7 in
      let n : length none.items ≡ 0 = ap length e in room_with r r.variables r.registers r.scope r.blocks r.locks (omega (arith, few, n))

  pub sound_after : (old new : Machine V D C) (none : ArrayVec ℕ) (before next' : Option Pending) (fed later count i : ℕ) (d e' : Crates) → none.items ≡ [] → IsSound old before fed count d → count < later → later ≤ 4294967295 → IfSome next' (λ w. (c : ℕ) → (branch_of e' c).locked ≡ false)
      → HasRoom new → new.checked ≡ old.checked → new.service ≡ i → i < length old.checked.now.script.services → IfSome (asked next') (IsPending new) → IfSome (asked next') (StandsIn new) → IfNone next' (new.frames.items ≡ [])
      → ((answers : List Answer) → IsFineHere new (stands next' new answers)) → IsSound (record new { unlocks = none }) next' later count e'
  sound_after old new none before next' fed later count i d e' quiet s few most free room e service below is_next begun over fine = record {
    room = room_told new none quiet room;
    quiet = quiet;
    checked = subst (λ (b : Bor CheckedScript). IsChecked b.now) (sym e) s.checked;
    formed = subst (λ (b : Bor CheckedScript). IsTrue (is_well_formed b.now.script)) (sym e) s.formed;
    fits = subst (λ (b : Bor CheckedScript). fits b.now.script V D C ≡ true) (sym e) s.fits;
    awaits = ready (asked next') is_next;
    begun = still (asked next') begun;
    idle = over;
    service = there next';
    fine = is_fine next' fine;
    free = free;
    events = omega (arith, few);
    most = most;
    under = each_some next' (count < later) few;
  }
    where
      there : (o : Option Pending) → IfSome o (λ w. new.service < length new.checked.now.script.services)
      there None = tt
      there (Some w) =
          subst (λ (b : Bor CheckedScript). new.service < length b.now.script.services) (sym e)
          (subst (λ j. j < length old.checked.now.script.services) (sym service) below)

      ready : (o : Option Pending) → IfSome o (IsPending new) → IfSome o (IsPending (record new { unlocks = none }))
      ready None f = tt
      ready (Some (Cycle k)) f = f
      ready (Some (Read k x bits)) f = f
      ready (Some (Lock k body)) f = f
      ready (Some (pending.Transfer w)) f = f
      ready (Some Pause) f = f

      still : (o : Option Pending) → IfSome o (StandsIn new) → IfSome o (StandsIn (record new { unlocks = none }))
      still None f = tt
      still (Some w) f = f

      is_fine : (o : Option Pending) → ((answers : List Answer) → IsFineHere new (stands o new answers)) → IfSome o (λ w. (answers : List Answer) → IsFineHere (record new { unlocks = none }) (stands (Some w) (record new { unlocks = none }) answers))
      is_fine None f = tt
      is_fine (Some w) f = f

  -- the same where the service was left
  pub sound_idle : (old new : Machine V D C) (none : ArrayVec ℕ) (before : Option Pending) (fed count : ℕ) (d : Crates) → none.items ≡ [] → IsSound old before fed count d
      → HasRoom new → new.checked ≡ old.checked → new.frames.items ≡ [] → IsSound (record new { unlocks = none }) None fed count d
  sound_idle old new none before fed count d quiet s room e idle = record {
    room = room_told new none quiet room;
    quiet = quiet;
    checked = subst (λ (b : Bor CheckedScript). IsChecked b.now) (sym e) s.checked;
    formed = subst (λ (b : Bor CheckedScript). IsTrue (is_well_formed b.now.script)) (sym e) s.formed;
    fits = subst (λ (b : Bor CheckedScript). fits b.now.script V D C ≡ true) (sym e) s.fits;
    awaits = tt;
    begun = tt;
    idle = idle;
    service = tt;
    fine = tt;
    free = tt;
    events = s.events;
    most = s.most;
    under = tt;
  }

  along_told : (new : Machine V D C) (ck : Bor CheckedScript) (i bit : ℕ) (next' : Option Pending) (event : Option Left) (fed n : ℕ) (has : Bool) (o : Option Overrun) (d : Crates) (m : ℕ) (s : RunnerState) (answers : List Answer)
      → new.checked ≡ ck → new.service ≡ i → bit_at ck.now i ≡ bit
      → IfNone next' (new.frames.items ≡ []) → IsCounted new next' event fed n has o d m s → IsAsBefore new next' event fed n has o d m s
      → served (context_in ck.now) ck.now.script.services bit (stands next' new answers) ≡ with_event event (last_words_in s) (rest s answers)
  along_told new ck i bit next' event fed n has o d m s answers e1 e2 e3 f a b =
      ap (λ k. served (context_in ck.now) ck.now.script.services k (stands next' new answers)) (sym e3)
      ∙ ap (λ j. served (context_in ck.now) ck.now.script.services (bit_at ck.now j) (stands next' new answers)) (sym e2)
      ∙ ap (λ (z : Bor CheckedScript). served (context_in z.now) z.now.script.services (bit_at z.now new.service) (stands next' new answers)) (sym e1)
      ∙ told new next' event fed n has o d m s answers f a b

  -- the same along what an answer leaves as it was
  pub told_along : (new : Machine V D C) (ck : Bor CheckedScript) (i bit : ℕ) (next' : Option Pending) (event : Option Left) (fed n : ℕ) (has : Bool) (o : Option Overrun) (d : Crates) (m : ℕ) (s : RunnerState) (answers : List Answer)
      → new.checked ≡ ck → new.service ≡ i → bit_at ck.now i ≡ bit
      → IfNone next' (new.frames.items ≡ []) → IsCounted new next' event fed n has o d m s → IsAsBefore new next' event fed n has o d m s
      → (us : List ℕ) → served (context_in ck.now) ck.now.script.services bit (says us (stands next' new answers)) ≡ says us (with_event event (last_words_in s) (rest s answers))
  told_along new ck i bit next' event fed n has o d m s answers e1 e2 e3 f a b us =
      served_says (context_in ck.now) ck.now.script.services bit us (stands next' new answers)
      ∙ ap (says us) (along_told new ck i bit next' event fed n has o d m s answers e1 e2 e3 f a b)

  fine_told : (new : Machine V D C) (b : Behaviour State) → IsFineHere new (says new.unlocks.items b) → IsFineHere new b
  fine_told new b f = fine_says new.checked.now.plan (bounds_of new) new.unlocks.items b f

  -- a service that is called is fine
  pub serve_fine : (old new : Machine V D C) (i : ℕ) (v : Service) (next' : Option Pending) → IsChecked old.checked.now → slice_get old.checked.now.script.services i ≡ Some v → Serves old i v next' new → (answers : List Answer) → IsFineHere new (stands next' new answers)
  serve_fine old new i v next' checked there s answers =
      let k = old.checked.now in
      let meaning = service_meaning (context_in k) most_turns v (branch_of old.branch) answers in
      let fine : IsFine k.plan (bounds_at k i) meaning = fine_at k k.bounds k.script.services i v (record { cycles = 0; words = 0; steps = 0 }) checked.services there most_turns (omega arith) (branch_of old.branch) answers in
      fine_told new (stands next' new answers)
      (fine_along new (record old { service = i }) s.checked s.service (says new.unlocks.items (stands next' new answers)) meaning (s.goes answers) fine)

  -- an answer that is taken leaves the statement
  pub stays_in : (old mid : Machine V D C) (o : Option Pending) → mid.begun ≡ old.begun → mid.checked ≡ old.checked → IfSome o (StandsIn old) → IfSome o (StandsIn mid)
  stays_in old mid None e f s = tt
  stays_in old mid (Some w) e f s =
      let P : Option (Bor Stmt) → Bor CheckedScript → Type 0 = λ o k. IsSomeAnd o (λ (b : Bor Stmt). IsOperationOf (context_in k.now) (pending_of w) (statement_of b.now)) in
      subst (λ o. P o mid.checked) (sym e) (subst (λ k. P old.begun k) (sym f) s)

  -- what is left after an answer that was taken is fine
  pub take_fine : (old mid : Machine V D C) (w : Pending) (a : Answer) (d : Item) → ((answers : List Answer) → IsFineHere old (stands (Some w) old answers)) → Takes old w a d mid → FineThen mid (λ c. follows c (pending_of w))
  take_fine old mid w a d fine t answers =
      let b = then_do (follows (context_in mid.checked.now) (pending_of w) (state_of mid answers)) (left_in mid) in
      let all = subst (λ x. IsFineHere old x) (t.goes answers) (fine (a ∷ answers)) in
      fine_along mid old t.checked t.service b b refl all.1

  -- a pause leaves what is left
  pub pause_goes : (h : Machine V D C) (answers : List Answer) → stands (Some Pause) h answers ≡ then_do (after_pending (context_in h.checked.now) (Some Pause) (state_of h answers)) (left_in h)
  pause_goes h answers = stands_paused h answers ∙ ap (λ b. then_do b (left_in h)) (sym (pause_alone h answers))

  pub pause_fine : (h : Machine V D C) → ((answers : List Answer) → IsFineHere h (stands (Some Pause) h answers)) → FineThen h (λ c. after_pending c (Some Pause))
  pause_fine h fine answers = subst (λ b. IsFineHere h b) (pause_goes h answers) (fine answers)

  pub settle_fine : (mid new : Machine V D C) (go : Context → Action) (next' : Option Pending) → FineThen mid go → Settles mid go next' new → (answers : List Answer) → IsFineHere new (stands next' new answers)
  settle_fine mid new go next' fine s answers =
      fine_told new (stands next' new answers)
      (fine_along new mid s.checked s.service (says new.unlocks.items (stands next' new answers)) (then_do (go (context_in mid.checked.now) (state_of mid answers)) (left_in mid)) (s.goes answers) (fine answers))

  -- where a service is in progress, a statement was begun in it, which is the place
  pub begun_some : (h : Machine V D C) (pending : Option Pending) → is_asking (option_map pending_of pending) ≡ true → IfSome (asked pending) (StandsIn h) → h.begun ≡ None → ⊥
  begun_some h None some s f = absurd (false≢true some)
  begun_some h (Some w) some s f =
      let t = asked_of w (StandsIn h) (not_true (is_pause (pending_of w)) some) s in
      let u = rw f at t in u

  pub is_place : (h : Machine V D C) (pending : Option Pending) (b : Bor Stmt) (fed n : ℕ) (has : Bool) (o : Option Overrun) (d : Crates) (m : ℕ) (place : Place) → is_asking (option_map pending_of pending) ≡ true → h.begun ≡ Some b → IfSome (asked pending) (StandsIn h) → place.service ≡ h.service → place.line ≡ (spot_of (statement_of b.now)).line
      → IsPlace (runner_state h pending fed n has o d m) place
  is_place h None b fed n has o d m place some f s p q = absurd (false≢true some)
  is_place h (Some w) b fed n has o d m place some f s p q =
      let t = asked_of w (StandsIn h) (not_true (is_pause (pending_of w)) some) s in
      let u = rw f at t in
      record { service = p; line = rw f (q, u) }

  -- with no answer, a run is short in the service in progress, or over
  pub rest_short : (h : Machine V D C) (pending : Option Pending) (w : Pending) (fed n : ℕ) (has : Bool) (o : Option Overrun) (d : Crates) (m : ℕ) → pending ≡ Some w → is_paused_at pending ≡ false → IfSome (asked pending) (IsPending h) → rest (runner_state h pending fed n has o d m) [] ≡ stops short (state_of h [])
  rest_short h pending w fed n has o d m e awake p =
      let q : IsPending h w = asked_is pending w (IsPending h) e awake p in
      let c = context_in h.checked.now in
      rw e (ap (λ b. served c h.checked.now.script.services (bit_at h.checked.now h.service) (then_do b (rest_in c (opens_in h)))) (waits_first h w q)
      ∙ served_stops c h.checked.now.script.services (bit_at h.checked.now h.service) short (state_of h []))

  pub rest_over : (h : Machine V D C) (pending : Option Pending) (fed n : ℕ) (has : Bool) (o : Option Overrun) (d : Crates) (m : ℕ) → pending ≡ None → rest (runner_state h pending fed n has o d m) [] ≡ ends tt
  rest_over h pending fed n has o d m e = rw e (onward_over (context_in h.checked.now) h.checked.now.script.services (branch_of h.branch))

pub along_some : {A B : Type 0} (o : Option A) (x y z : B) → y ≡ z → IfSome o (λ w. x ≡ y) → IfSome o (λ w. x ≡ z)
along_some None x y z e f = tt
along_some (Some w) x y z e f = f ∙ e

pub below_along : {V D C : ℕ} (new : Machine V D C) (ck : Bor CheckedScript) (i : ℕ) → new.checked ≡ ck → new.service ≡ i → i < length ck.now.script.services → new.service < length new.checked.now.script.services
below_along new ck i e1 e2 h =
    subst (λ (z : Bor CheckedScript). new.service < length z.now.script.services) (sym e1) (subst (λ j. j < length ck.now.script.services) (sym e2) h)

pub none_wanted : {A B : Type 0} (f : A → B) (o : Option A) → option_map f o ≡ None → o ≡ None
none_wanted f None e = refl
none_wanted f (Some a) e = absurd (cc)

-- a runner that only counts
pub sound_counted : {V D C : ℕ} (h : Machine V D C) (pending : Option Pending) (fed n : ℕ) (d : Crates) (fed' n' : ℕ)
    → IsSound h pending fed n d → n' ≤ fed' → fed' ≤ 4294967295 → IfSome pending (λ w. n' < fed') → IsSound h pending fed' n' d
sound_counted h pending fed n d fed' n' inv few most under = record {
  room = inv.room;
  quiet = inv.quiet;
  checked = inv.checked;
  formed = inv.formed;
  fits = inv.fits;
  awaits = inv.awaits;
  begun = inv.begun;
  idle = inv.idle;
  service = inv.service;
  fine = inv.fine;
  free = inv.free;
  events = few;
  most = most;
  under = under;
}

-- what is so is so where nothing is there
pub each_none : {A : Type 0} (o : Option A) (P : Type 0) → P → IfNone o P
each_none None P p = p
each_none (Some w) P p = tt

-- the limit after steps that were made
pub keeps_limit : {V D C : ℕ} (old : RunnerState) (new : Machine V D C) (next' : Option Pending) (event : Option Left) (fed n : ℕ) (has : Bool) (o : Option Overrun) (d : Crates) (m : ℕ) (s : RunnerState)
    → HasRoom new → m ≡ old.limit → (is_paused_at next' ≡ true → steps_before old.pending old + old.limit < new.steps) → new.steps ≤ steps_before old.pending old + old.limit + 3
    → IfSome (asked next') (IsPending new) → ((answers : List Answer) → IsFineHere new (stands next' new answers))
    → IsCounted new next' event fed n has o d m s → IsAsBefore new next' event fed n has o d m s → KeepsLimit old s
keeps_limit old new None event fed n has o d m s room same late soon p fine a b =
    rw (a.1) (record {
      limit = same;
      late = λ e. absurd (false≢true e);
      soon = each_none old.overrun (new.steps ≤ steps_before old.pending old + old.limit + 3) soon;
      within = λ e. absurd (false≢true e);
      least = λ e. absurd (false≢true e);
    })
keeps_limit old new (Some w) event fed n has o d m s room same late soon p fine a b =
    rw (b.1) (record {
      limit = same;
      late = late;
      soon = each_none old.overrun (new.steps ≤ steps_before old.pending old + old.limit + 3) soon;
      within = λ e. steps_within new w p (fine []);
      least = λ e. room.steps;
    })

-- one that does not pause keeps it
pub keeps_awake : (old new : RunnerState) → new.limit ≡ old.limit → is_paused new.pending ≡ false → IfNone old.overrun (steps_made new.pending new ≤ steps_before old.pending old + old.limit + 3) → KeepsLimit old new
keeps_awake old new same awake soon = record {
  limit = same;
  late = λ e. absurd (false≢true (sym awake ∙ e));
  soon = soon;
  within = λ e. absurd (false≢true (sym awake ∙ e));
  least = λ e. absurd (false≢true (sym awake ∙ e));
}

-- with no limit it never pauses
pub never_again : (old new : RunnerState) → KeepsLimit old new → NeverPauses old → NeverPauses new
never_again old new k never = record { limit = k.limit ∙ never.limit; awake = go (is_paused new.pending) refl }
  where
    go : (b : Bool) → is_paused new.pending ≡ b → is_paused new.pending ≡ false
    go false e = e
    go true e =
        let late = k.late e in
        let within = k.within e in
        let least = k.least e in
        let most = never.limit in
        absurd (omega (arith, late, within, least, most))
