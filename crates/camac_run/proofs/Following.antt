-- What comes next, whatever is answered.
use Rattle.std.proofs.Common.{append_assoc, ◌≡◌, ◌∙◌, ℕ, zero, suc, ◌<◌, ◌≤◌, List, [], ◌∷◌, ◌++◌, length, length-set, take, map, get_or, set, get_or-set_same, get_or-set_other, eq-eqb, Bool, true, false, Option, Some, None, inl, inr, refl, sym, ap, subst, arith}
use Rattle.std.proofs.lemmas.Bool.{false≢true, cases_eq, cases_lt, ne_eqb}
use Rattle.std.proofs.lemmas.List.{get_or_past}
use Rattle.std.proofs.Math.Path.{fun_ext}
use Rattle.std.specs.Prelude.{◌⊎◌, IsSome, IfNone, IfSome}
use Rattle.camac_branch.specs.Branch.{Answer, Reply, reply_to}
use Rattle.camac_branch.specs.Crates.{Crates, is_permitted}
use Rattle.camac_branch.specs.Plan.{Layout, crate_waits}
use Rattle.camac_branch.specs.declared.answer.Command.{Command}
use Rattle.camac_branch.specs.declared.answer.Overrun.{Overrun}
use Rattle.camac_lang.specs.declared.word.WordSize.{WordSize}
use Rattle.camac_model.specs.Behaviour.{Behaviour, does, ends, stops, overrun, Piece, cycled, lock_taken, lock_released, event_left, Action, then_do, given}
use Rattle.camac_model.specs.Cycle.{outcome, follow, after_cycle, after_lock, cycle, kept, make_cycle, release, take_lock}
use Rattle.camac_model.specs.Fine.{Bounds, IsFine, most_turns}
use Rattle.camac_model.specs.Meaning.{Context, block_meaning}
use Rattle.camac_model.specs.Run.{event_of}
use Rattle.camac_model.specs.State.{State, Variables, set_at, with_variable}
use Rattle.camac_model.proofs.Runs.{then_assoc}
use Rattle.camac_machine.specs.MachineState.{Left, bit_at, bounds_of, context_in, left_in, pending_of, registers_here, variables_here, stands, state_of, piece_of, IsFineHere}
use Rattle.camac_machine.specs.Rest.{address_of, Operation, makes, reads, locks, transfers, pauses, awaited, is_paused, says, served, onward}
use Rattle.camac_machine.specs.declared.item.Item.{Item}
use Rattle.camac_machine.specs.declared.machine.Machine.{Machine}
use Rattle.camac_machine.specs.declared.machine.Pending.{Pending}
use Rattle.camac_machine.proofs.Fine.{fine_follow, fine_lock, some_is}
use Rattle.camac_machine.proofs.Taken.{lock_goes, lock_halts}
use Rattle.camac_machine.proofs.Takes.{cycle_goes, cycle_halts}
use Rattle.camac_run.specs.Ahead.{Does, Releases, AreAhead, IsAhead, BeginningsAreAhead, AheadIsMade, FirstIsWanted, Follow, NextOf, Plays, releases_first}
use Rattle.camac_run.specs.Holds.{event_pieces}
use Rattle.camac_run.specs.Operation.{Begins, Waits, Wants, crate_of, operation_of, past_first}
use Rattle.camac_run.specs.Runner.{RunnerState, rest, with_event, last_words_in, GoesOn}
use Rattle.camac_run.specs.Size.{FirstHasSize, HasSize, size_in}
use Rattle.camac_run.specs.Sound.{runner_state}
use Rattle.camac_run.specs.Sure.{Knows, After, goes_on_with, on, one_operation, LeadsTo}
use Rattle.camac_run.specs.Transfer.{MakesThen, cycle_after, first_q, left_by}
use Rattle.camac_run.specs.declared.member.Member.{Member}
use Rattle.camac_run.specs.declared.member.Member.TheVariants as member
use Rattle.camac_run.specs.declared.progress.Wanted.{Wanted}
use Rattle.camac_run.specs.declared.progress.Wanted.TheVariants as wanted
use Rattle.camac_run.proofs.Operation.{some_wait}

-- ---- what follows from being ahead

-- by whether there is one
pub both_cases : {A : Type 0} (o : Option A) (P : Type 0) (Q : A → Type 0) → (o ≡ None → P) → ((v : A) → o ≡ Some v → Q v) → IfNone o P × IfSome o Q
both_cases None P Q none some = (none refl, tt)
both_cases (Some v) P Q none some = (tt, some v refl)

-- where what is left after the last cycle of a block is otherwise, too
module _ {A : Type 0} (IsSo IsToo : (List Answer → Behaviour A) → Type 0) (also : (run : List Answer → Behaviour A) → IsSo run → IsToo run) (cycle' : List Bool → Option Command) where
  pub makes_along : (used : List Answer) (qs : List Bool) (run : List Answer → Behaviour A) → MakesThen IsSo cycle' qs used run → MakesThen IsToo cycle' qs used run
  makes_along [] qs run h = both_cases (cycle' qs) _ _ (λ e. also run (rw e at h.0)) (λ k e. rw e at h.1)
  makes_along (a ∷ used) qs run h =
      (both_cases (cycle' qs) (Unit {0}) _ (λ e. tt) (λ k e. let its = rw e at h in λ answers q is. makes_along used (qs ++ q ∷ []) (λ later. past_first (run (a ∷ later))) (its answers q is))).1

beginning : {A : Type 0} (n : ℕ) (os : List Member) (run : List Answer → Behaviour A) → AreAhead os run → AreAhead (take n os) run
beginning zero os run h = tt
beginning (suc n) [] run h = tt
beginning (suc n) (member.Makes o size ∷ os) run h =
    (h.0, λ a answers. ((h.1 a answers).0, λ d. beginning n os (λ later. past_first (run (a ∷ later))) ((h.1 a answers).1 d)))
beginning (suc n) (member.Block b ∷ os) run h =
    (h.0, λ used. makes_along (AreAhead os) (AreAhead (take n os)) (λ r. beginning n os r) (cycle_after (left_by b)) used [] run (h.1 used))
beginning (suc n) (member.Release c ∷ os) run h = (h.0, beginning n os (λ answers. past_first (run answers)) h.1)

pub beginnings_are_ahead : BeginningsAreAhead
beginnings_are_ahead h n os a = beginning n os (rest h) a

pub first_is_wanted : FirstIsWanted
first_is_wanted h (member.Makes o size) os first a = (first, a.0, λ b answers. (a.1 b answers).0)
first_is_wanted h (member.Block b) os first a = let its = rw a.0.first at (a.1 []).1 in (first, its.0, its.1)
first_is_wanted h (member.Release c) os first a = a.0

-- where they are ahead, and the first one is no release, nothing was told
pub quiet_between : (os : List Member) (unlocks : List ℕ) (event : Option Left) (words : List ℕ) (run : List Answer → Behaviour (Unit {0})) → releases_first os ≡ false → AreAhead os (λ later. says unlocks (with_event event words (run later)))
    → AreAhead os run × (0 < length os → (unlocks ≡ []) × (event ≡ None))
quiet_between [] unlocks event words run first h = (tt, λ n. absurd (omega (arith, n)))
quiet_between (member.Makes o size ∷ os) [] None words run first h = (h, λ n. (refl, refl))
quiet_between (member.Makes o size ∷ os) [] (Some e) words run first h = absurd h.0
quiet_between (member.Makes o size ∷ os) (k ∷ ks) event words run first h = absurd h.0
quiet_between (member.Block b ∷ os) [] None words run first h = (h, λ n. (refl, refl))
quiet_between (member.Block b ∷ os) [] (Some e) words run first h = let no = rw h.0.first at (h.1 []).1 in absurd no.0
quiet_between (member.Block b ∷ os) (k ∷ ks) event words run first h = let no = rw h.0.first at (h.1 []).1 in absurd no.0
quiet_between (member.Release c ∷ os) unlocks event words run first h = absurd (false≢true (sym first))

-- ---- what is told of a list

waits_or_releases : {A : Type 0} (c : ℕ) (run : Behaviour A) → Waits run → Releases c run → ⊥
waits_or_releases c (does p b) waits releases = absurd waits
waits_or_releases c (ends x) waits releases = absurd releases
waits_or_releases c (stops w s) waits releases = absurd releases

module _ (new : RunnerState) where
  -- what this run tells is as any list says that it has ahead
  abbrev IsTold : (List Answer → Behaviour (Unit {0})) → List Piece → Type 0
  IsTold run told = (os : List Member) → AreAhead os run → Follow os told new

  abbrev LeftIn : List Member → (List Bool → Option Command) → List Bool → Type 0
  LeftIn os cycle' qs = (used : List Answer) → MakesThen (AreAhead os) cycle' qs used (rest new)

  abbrev FollowIn : List Member → (List Bool → Option Command) → List Bool → List Piece → Type 0
  FollowIn os cycle' qs told = NextOf (λ ps. Follow os ps new) (LeftIn os cycle') cycle' qs told

  -- in the midst of a block, too
  abbrev IsToldIn : (List Answer → Behaviour (Unit {0})) → List Piece → Type 0
  IsToldIn run told =
      (os : List Member) (cycle' : List Bool → Option Command) (qs : List Bool) → ((used : List Answer) → MakesThen (AreAhead os) cycle' qs used run) → FollowIn os cycle' qs told

  told_none : IsTold (rest new) []
  told_none [] h = tt
  told_none (member.Makes o size ∷ os) h = h
  told_none (member.Block b ∷ os) h = h.1
  told_none (member.Release c ∷ os) h = h

  -- a piece that takes no answer comes first
  module _ (p : Piece) (later : List Answer → Behaviour (Unit {0})) (told : List Piece) (others : IsTold later told) where
    abbrev silent : List Answer → Behaviour (Unit {0})
    silent answers = does p (later answers)

    silent_in_block : (os : List Member) (cycle' : List Bool → Option Command) (qs : List Bool) → (AreAhead os silent → Follow os (p ∷ told) new) → ((used : List Answer) → MakesThen (AreAhead os) cycle' qs used silent) → FollowIn os cycle' qs (p ∷ told)
    silent_in_block os cycle' qs follows h = both_cases (cycle' qs) _ _ (λ e. follows (rw e at (h []).0)) (λ k e. let no = rw e at (h []).1 in absurd no.0)

    silent_told : IsTold silent (p ∷ told)
    silent_told [] h = tt
    silent_told (member.Makes o size ∷ os) h = absurd h.0
    silent_told (member.Block b ∷ os) h = silent_in_block os (cycle_after (left_by b)) [] (silent_told os) h.1
    silent_told (member.Release c ∷ os) h = (h.0 [], others os h.1)

    silent_told_in : IsToldIn silent (p ∷ told)
    silent_told_in os cycle' qs h = silent_in_block os cycle' qs (silent_told os) h

  -- an operation comes first
  module _ (a : Answer) (p : Piece) (run later : List Answer → Behaviour (Unit {0})) (waits : Waits (run [])) (first : (answers : List Answer) → run (a ∷ answers) ≡ does p (later answers)) (told : List Piece) (others : IsTold later told) (others_in : IsToldIn later told) where
    past_it : (λ answers. past_first (run (a ∷ answers))) ≡ later
    past_it = fun_ext (λ answers. ap past_first (first answers))

    made_in_block : (os : List Member) (cycle' : List Bool → Option Command) (qs : List Bool) → (AreAhead os run → Follow os (p ∷ told) new) → ((used : List Answer) → MakesThen (AreAhead os) cycle' qs used run) → FollowIn os cycle' qs (p ∷ told)
    made_in_block os cycle' qs follows h = both_cases (cycle' qs) _ _ (λ e. follows (rw e at (h []).0)) (λ k e.
        let its = rw e at (h []).1 in (
          subst (λ (b : Behaviour (Unit {0})). Begins (wanted.Cycle k) a b) (first []) (its.1 a []),
          λ q is. others_in os cycle' (qs ++ q ∷ []) (λ used.
              let further = rw e at (h (a ∷ used)) in
              subst (λ (r : List Answer → Behaviour (Unit {0})). MakesThen (AreAhead os) cycle' (qs ++ q ∷ []) used r) past_it (further [] q (ap first_q (first []) ∙ is))),
        ))

    made_told : IsTold run (p ∷ told)
    made_told [] h = tt
    made_told (member.Makes o size ∷ os) h = (
      subst (λ (b : Behaviour (Unit {0})). Begins o a b) (first []) (h.1 a []).0,
      others os (subst (λ (r : List Answer → Behaviour (Unit {0})). AreAhead os r) past_it ((h.1 a []).1 (subst (λ (b : Behaviour (Unit {0})). Does b) (sym (first [])) tt))),
    )
    made_told (member.Block b ∷ os) h = made_in_block os (cycle_after (left_by b)) [] (made_told os) h.1
    made_told (member.Release c ∷ os) h = absurd (waits_or_releases c (run []) waits (h.0 []))

    made_told_in : IsToldIn run (p ∷ told)
    made_told_in os cycle' qs h = made_in_block os cycle' qs (made_told os) h

  module _ (mid : RunnerState) (words : List ℕ) (told : List Piece) (others : IsTold (rest mid) told) (others_in : IsToldIn (rest mid) told) where
    abbrev event_later : Option Left → List Answer → Behaviour (Unit {0})
    event_later event answers = with_event event words (rest mid answers)

    event_told : (event : Option Left) → IsTold (event_later event) (event_pieces event words ++ told)
    event_told None = others
    event_told (Some e) = silent_told _ (rest mid) told others

    event_told_in : (event : Option Left) → IsToldIn (event_later event) (event_pieces event words ++ told)
    event_told_in None = others_in
    event_told_in (Some e) = silent_told_in _ (rest mid) told others

    released_told : (unlocks : List ℕ) (event : Option Left) → IsTold (λ answers. says unlocks (event_later event answers)) (map lock_released unlocks ++ (event_pieces event words ++ told))
    released_told [] event = event_told event
    released_told (k ∷ ks) event = silent_told (lock_released k) (λ answers. says ks (event_later event answers)) (map lock_released ks ++ (event_pieces event words ++ told)) (released_told ks event)

    released_told_in : (unlocks : List ℕ) (event : Option Left) → IsToldIn (λ answers. says unlocks (event_later event answers)) (map lock_released unlocks ++ (event_pieces event words ++ told))
    released_told_in [] event = event_told_in event
    released_told_in (k ∷ ks) event = silent_told_in (lock_released k) (λ answers. says ks (event_later event answers)) (map lock_released ks ++ (event_pieces event words ++ told)) (released_told ks event)

  -- what is played is told so
  played : (answers : List Answer) (old : RunnerState) (told : List Piece) → old.overrun ≡ None → Plays old answers told new → (new.overrun ≡ None) × IsTold (rest old) told × IsToldIn (rest old) told
  played [] old told first plays = (
    subst (λ (h : RunnerState). h.overrun ≡ None) (sym plays.1) first,
    subst (λ (h : RunnerState). IsTold (rest h) told) plays.1 (subst (IsTold (rest new)) (sym plays.0) told_none),
    subst (λ (h : RunnerState). IsToldIn (rest h) told) plays.1 (subst (IsToldIn (rest new)) (sym plays.0) (λ os cycle' qs h. h)),
  )
  played (a ∷ answers) old told first plays =
      let item : Item = plays.1 in let unlocks : List ℕ = plays.2 in let event : Option Left = plays.3 in let mid : RunnerState = plays.4 in let others : List Piece = plays.5 in
      let g : GoesOn old a item unlocks event mid = plays.6 in
      let words : List ℕ = last_words_in mid in
      let later : List Answer → Behaviour (Unit {0}) = λ answers. says unlocks (with_event event words (rest mid answers)) in
      let rest_told : List Piece = map lock_released unlocks ++ (event_pieces event words ++ others) in
      let is : told ≡ piece_of item ∷ rest_told = plays.7 ∙ ap (λ ps. piece_of item ∷ ps) (append_assoc (map lock_released unlocks) (event_pieces event words) others) in
      let after = played answers mid others g.overrun plays.8 in
      let further = released_told mid words others after.1 after.2 unlocks event in
      let further_in = released_told_in mid words others after.1 after.2 unlocks event in (
        after.0,
        subst (IsTold (rest old)) (sym is) (made_told a (piece_of item) (rest old) later plays.0.1.1 g.goes rest_told further further_in),
        subst (IsToldIn (rest old)) (sym is) (made_told_in a (piece_of item) (rest old) later plays.0.1.1 g.goes rest_told further further_in),
      )

pub ahead_is_made : AheadIsMade
ahead_is_made old new os answers told first h plays = let its = played new answers old told first plays in (its.0, its.1 os h)

-- ---- a cycle, and what comes after it

-- with this answer it goes on so
goes_on : {A : Type 0} (o : Wanted) (a : Answer) (os : List Member) (run later : List Answer → Behaviour A) (p : Piece) → ((answers : List Answer) → run (a ∷ answers) ≡ does p (later answers)) → operation_of p ≡ Some o → AreAhead os later
    → (answers : List Answer) → Begins o a (run (a ∷ answers)) × (Does (run (a ∷ answers)) → AreAhead os (λ l. past_first (run (a ∷ l))))
goes_on {A} o a os run later p e is h answers = (
  subst (λ (b : Behaviour A). Begins o a b) (sym (e answers)) is,
  λ d. subst (λ (r : List Answer → Behaviour A). AreAhead os r) (sym (fun_ext (λ l. ap past_first (e l)))) h,
)

-- or its wait stops it
halts : {A : Type 0} (o : Wanted) (a : Answer) (os : List Member) (run : List Answer → Behaviour A) (c : ℕ) (at : List Answer → State) → ((answers : List Answer) → run (a ∷ answers) ≡ stops (overrun c a.wait) (at answers)) → crate_of o ≡ Some c → 0 < a.wait
    → (answers : List Answer) → Begins o a (run (a ∷ answers)) × (Does (run (a ∷ answers)) → AreAhead os (λ l. past_first (run (a ∷ l))))
halts {A} o a os run c at e is some answers = (
  subst (λ (b : Behaviour A). Begins o a b) (sym (e answers)) (is, refl, some),
  λ d. absurd (subst (λ (b : Behaviour A). Does b) (e answers) d),
)

pub short_waits : {A : Type 0} (c : ℕ) (o : Option ℕ) (l : Bool) (m : Answer → List Answer → Action) (s : State) (go : State → Behaviour A) → IsSome o → Waits (then_do (follow c (outcome o l []) m s) go)
short_waits c None l m s go h = absurd (false≢true h)
short_waits c (Some w) l m s go h = tt

-- a cycle whose reply sets a variable at most
module _ {A : Type 0} (plan : Layout) (bounds : Bounds) (k : Command) (keep : Reply → State → State) (s : State) (go : State → Behaviour A) (left : Action) (os : List Member) where
  abbrev made : List Answer → Behaviour State
  made answers = cycle plan (address_of k) k.f k.mv answers (λ r t. ends (keep r t)) (on answers s)

  abbrev run : List Answer → Behaviour A
  run answers = then_do (made answers) go

  module _ (apart : (r : Reply) (t : State) (answers : List Answer) → keep r (on answers t) ≡ on answers (keep r t)) (fine : (answers : List Answer) → IsFine plan bounds (then_do (made answers) left))
      (then_ahead : (r : Reply) (t : State) → t.registers ≡ s.registers → t.variables ≡ s.variables → ((answers : List Answer) → IsFine plan bounds (left (on answers (keep r t)))) → AreAhead os (λ answers. go (on answers (keep r t)))) where
    planned : IsSome (crate_waits plan k.c)
    planned =
        let g = fine_follow plan bounds k.c (crate_waits plan k.c) (s.branch k.c).locked [] (make_cycle plan (address_of k) k.f k.mv (λ r t. ends (keep r t))) (on [] s) left (fine []) in
        some_is (crate_waits plan k.c) g.0 g.1

    by_wait : (a : Answer) (p : Bool) → is_permitted plan s.branch k.c a.wait ≡ p → (answers : List Answer) → Begins (wanted.Cycle k) a (run (a ∷ answers)) × (Does (run (a ∷ answers)) → AreAhead os (λ l. past_first (run (a ∷ l))))
    by_wait a true p =
        let reply : Reply = reply_to plan s.branch (address_of k) k.f a in
        let after : State = after_cycle (address_of k) k.f reply a.wait [] s in
        let piece : Piece = cycled (address_of k) k.f k.mv reply a.wait in
        let first : (answers : List Answer) → made (a ∷ answers) ≡ does piece (ends (on answers (keep reply after))) =
        λ answers. cycle_goes plan (address_of k) k.f k.mv (λ r t. ends (keep r t)) (on (a ∷ answers) s) a answers planned p ∙ ap (λ u. does piece (ends u)) (apart reply after answers) in
        goes_on (wanted.Cycle k) a os run (λ answers. go (on answers (keep reply after))) piece
        (λ answers. ap (λ (b : Behaviour State). then_do b go) (first answers)) refl
        (then_ahead reply after refl refl (λ answers. (subst (λ (b : Behaviour State). IsFine plan bounds (then_do b left)) (first answers) (fine (a ∷ answers))).1))
    by_wait a false p =
        halts (wanted.Cycle k) a os run k.c (λ answers. on (a ∷ answers) s)
        (λ answers. ap (λ (b : Behaviour State). then_do b go) (cycle_halts plan (address_of k) k.f k.mv (λ r t. ends (keep r t)) (on (a ∷ answers) s) a answers planned p))
        refl (some_wait (s.branch k.c).locked _ a.wait p)

    cycle_ahead : (size : WordSize) → AreAhead (member.Makes (wanted.Cycle k) size ∷ os) run
    cycle_ahead size = (short_waits k.c (crate_waits plan k.c) (s.branch k.c).locked _ (on [] s) go planned, λ a. by_wait a (is_permitted plan s.branch k.c a.wait) refl)

-- a lock, and what it holds
module _ {A : Type 0} (plan : Layout) (bounds : Bounds) (k : ℕ) (body : Action) (s : State) (go : State → Behaviour A) (left : Action) (os : List Member) where
  abbrev taken : List Answer → Behaviour State
  taken answers = given (crate_waits plan k) (λ waits t. take_lock k waits (t.branch k).locked body t) (on answers s)

  abbrev runs : List Answer → Behaviour A
  runs answers = then_do (taken answers) go

  module _ (fine : (answers : List Answer) → IsFine plan bounds (then_do (taken answers) left))
      (then_ahead : (t : State) → t.registers ≡ s.registers → t.variables ≡ s.variables → ((answers : List Answer) → IsFine plan bounds (then_do (body (on answers t)) left)) → AreAhead os (λ answers. then_do (body (on answers t)) go)) where
    ready : IsSome (crate_waits plan k) × ((s.branch k).locked ≡ false)
    ready = fine_lock plan bounds k body (on [] s) left (fine [])

    by_its_wait : (a : Answer) (p : Bool) → is_permitted plan s.branch k a.wait ≡ p → (answers : List Answer) → Begins (wanted.Lock k) a (runs (a ∷ answers)) × (Does (runs (a ∷ answers)) → AreAhead os (λ l. past_first (runs (a ∷ l))))
    by_its_wait a true p =
        let after : State = after_lock k a.wait [] s in
        let first : (answers : List Answer) → taken (a ∷ answers) ≡ does (lock_taken k a.wait) (body (on answers after)) =
        λ answers. lock_goes k body (on (a ∷ answers) s) a answers refl ready.1 plan ready.0 p in
        goes_on (wanted.Lock k) a os runs (λ answers. then_do (body (on answers after)) go) (lock_taken k a.wait)
        (λ answers. ap (λ (b : Behaviour State). then_do b go) (first answers)) refl
        (then_ahead after refl refl (λ answers. (subst (λ (b : Behaviour State). IsFine plan bounds (then_do b left)) (first answers) (fine (a ∷ answers))).1))
    by_its_wait a false p =
        halts (wanted.Lock k) a os runs k (λ answers. on (a ∷ answers) s)
        (λ answers. ap (λ (b : Behaviour State). then_do b go) (lock_halts k body (on (a ∷ answers) s) a answers refl ready.1 plan ready.0 p))
        refl (some_wait (s.branch k).locked _ a.wait p)

    its_wait : (o : Option ℕ) → IsSome o → Waits (then_do (given o (λ waits t. take_lock k waits (t.branch k).locked body t) (on [] s)) go)
    its_wait None h = absurd (false≢true h)
    its_wait (Some w) h = subst (λ l. Waits (then_do (take_lock k w l body (on [] s)) go)) (sym ready.1) tt

    lock_ahead : (size : WordSize) → AreAhead (member.Makes (wanted.Lock k) size ∷ os) runs
    lock_ahead size = (its_wait (crate_waits plan k) ready.0, λ a. by_its_wait a (is_permitted plan s.branch k a.wait) refl)

-- the same of an operation that is wanted
operation_ahead : {A : Type 0} (c : Context) (bounds : Bounds) (w : Operation) (o : Wanted) (size : WordSize) (s : State) (go : State → Behaviour A) (left : Action) (os : List Member) → one_operation w ≡ Some o
    → ((answers : List Answer) → IsFine c.plan bounds (then_do (awaited c w (on answers s)) left))
    → ((t : State) → t.registers ≡ s.registers → After w s.variables t.variables → ((answers : List Answer) → IsFine c.plan bounds (then_do (goes_on_with c w (on answers t)) left)) → AreAhead os (λ answers. then_do (goes_on_with c w (on answers t)) go))
    → AreAhead (member.Makes o size ∷ os) (λ answers. then_do (awaited c w (on answers s)) go)
unfolding awaited
operation_ahead c bounds (makes j) o size s go left os e fine then_ahead =
    let same : wanted.Cycle j ≡ o = cc in
    subst (λ (i : Wanted). AreAhead (member.Makes i size ∷ os) (λ answers. then_do (awaited c (makes j) (on answers s)) go)) same
    (cycle_ahead c.plan bounds j (λ r t. t) s go left os (λ r t answers. refl) fine (λ r t e1 e2 f. then_ahead t e1 e2 f) size)
operation_ahead c bounds (reads j x bits) o size s go left os e fine then_ahead =
    let same : wanted.Cycle j ≡ o = cc in
    subst (λ (i : Wanted). AreAhead (member.Makes i size ∷ os) (λ answers. then_do (awaited c (reads j x bits) (on answers s)) go)) same
    (cycle_ahead c.plan bounds j (λ r t. with_variable x (kept bits r) t) s go left os (λ r t answers. refl) fine
    (λ r t e1 e2 f. then_ahead (with_variable x (kept bits r) t) e1 (kept bits r, ap (λ (vs : Variables). set_at x (kept bits r) vs) e2) f) size)
operation_ahead c bounds (locks j body) o size s go left os e fine then_ahead =
    let same : wanted.Lock j ≡ o = cc in
    subst (λ (i : Wanted). AreAhead (member.Makes i size ∷ os) (λ answers. then_do (awaited c (locks j body) (on answers s)) go)) same
    (lock_ahead c.plan bounds j (λ u. then_do (block_meaning c most_turns body u) (release j)) s go left os fine then_ahead size)
operation_ahead c bounds (transfers course f table x) o size s go left os e fine then_ahead = absurd (cc)
operation_ahead c bounds pauses o size s go left os e fine then_ahead = absurd (cc)

pub operation_leads : (c : Context) (bounds : Bounds) (w : Operation) (o : Wanted) (size : WordSize) (s : State) (left : Action) (os : List Member) → one_operation w ≡ Some o
    → ((t : State) → t.registers ≡ s.registers → After w s.variables t.variables → LeadsTo c.plan bounds (λ u. then_do (goes_on_with c w u) left) t os) → LeadsTo c.plan bounds (λ u. then_do (awaited c w u) left) s (member.Makes o size ∷ os)
operation_leads c bounds w o size s left os e h fine leave =
    subst (λ (r : List Answer → Behaviour (Unit {0})). AreAhead (member.Makes o size ∷ os) r) (sym (fun_ext (λ answers. then_assoc (awaited c w (on answers s)) left leave)))
    (operation_ahead c bounds w o size s (λ t. then_do (left t) leave) left os e fine
    (λ t r v f.
    subst (λ (r : List Answer → Behaviour (Unit {0})). AreAhead os r) (fun_ext (λ answers. then_assoc (goes_on_with c w (on answers t)) left leave)) (h t r v f leave)))

-- a cycle is all
pub cycle_alone : (c : Context) (w : Operation) (k : Command) → one_operation w ≡ Some (wanted.Cycle k) → (s : State) → goes_on_with c w s ≡ ends s
cycle_alone c (makes j) k e s = refl
cycle_alone c (reads j x bits) k e s = refl
cycle_alone c (locks j body) k e s = absurd (cc)
cycle_alone c (transfers course f table x) k e s = refl
cycle_alone c pauses k e s = refl

-- ---- what is known

-- with one of the values changed
pub knows_set : {A B : Type 0} (seen : A → B) (known : List (Option A)) (all : ℕ → B) (x : ℕ) (o : Option A) (b : B) → Knows seen known all → ((v : A) → o ≡ Some v → b ≡ seen v) → Knows seen (set known x o) (set_at x b all)
knows_set {A} {B} seen known all x o b k h i v e =
    elim (cases_eq i x) [
      | inl same ↦
          elim (cases_lt x (length known)) [
            | inl less ↦
                let it : o ≡ Some v = sym (get_or-set_same known x o None less) ∙ ap (λ j. get_or (set known x o) j None) (sym same) ∙ e in
                rw (same, eq-eqb x x refl) (h v it)
            | inr past ↦
                let none : get_or (set known x o) i None ≡ None = get_or_past (set known x o) i None (rw (length-set, same) past) in
                absurd (none_some v (sym none ∙ e))
          ]
      | inr other ↦ rw (ne_eqb i x other) (k i v (sym (get_or-set_other known x i o None other) ∙ e))
    ]
  where
    none_some : (v : A) → ◌≡◌ {A = Option A} None (Some v) → ⊥
    none_some v e = absurd (cc)

-- ---- what a runner has ahead

module _ {V D C : ℕ} (h : Machine V D C) where
  abbrev ctx : Context
  ctx = context_in h.checked.now

  pub following_ahead : (w : Pending) (o : Wanted) (size : WordSize) (os : List Member) (fed n : ℕ) (has : Bool) (over : Option Overrun) (d : Crates) (limit : ℕ) → one_operation (pending_of w) ≡ Some o → ((answers : List Answer) → IsFineHere h (stands (Some w) h answers))
      → ((t : State) → t.registers ≡ registers_here h → After (pending_of w) (variables_here h) t.variables → LeadsTo h.checked.now.plan (bounds_of h) (λ s. then_do (goes_on_with ctx (pending_of w) s) (left_in h)) t os)
      → AreAhead (member.Makes o size ∷ os) (rest (runner_state h (Some w) fed n has over d limit))
  unfolding served
  following_ahead w o size os fed n has over d limit e fine ahead =
      operation_leads ctx (bounds_of h) (pending_of w) o size (state_of h []) (left_in h) os e ahead fine
      (λ s. does (event_left (event_of (bit_at h.checked.now h.service) s)) (onward ctx h.checked.now.script.services s.branch s.answers))

-- what is wanted is ahead
pub more_ahead : (h : RunnerState) (o p : Wanted) (size was : WordSize) (os : List Member) → Wants h (Some o) → AreAhead (member.Makes p was ∷ os) (rest h) → AreAhead (member.Makes o size ∷ os) (rest h)
more_ahead h o p size was os w m = (w.1, λ a answers. (w.2 a answers, (m.1 a answers).1))

pub alone_ahead : (h : RunnerState) (o : Wanted) (size : WordSize) → Wants h (Some o) → AreAhead (member.Makes o size ∷ []) (rest h)
alone_ahead h o size w = (w.1, λ a answers. (w.2 a answers, λ d. tt))

pub is_ahead : (h : RunnerState) (o : Wanted) (first : Member) (os new : List Member) → Wants h (Some o) → HasSize (size_in h) first → new ≡ first ∷ os → AreAhead (first ∷ os) (rest h) → IsAhead h new
is_ahead h o first os new w size same a =
    let some : 1 ≤ length (first ∷ os) = omega arith in
    let some' : 1 ≤ length new = subst (λ (l : List Member). 1 ≤ length l) (sym same) some in
    record { ahead = subst (λ (l : List Member). AreAhead l (rest h)) (sym same) a; some = rw w.0 (λ awake. some'); none = rw w.0 tt; first = subst (λ (l : List Member). FirstHasSize (size_in h) l) (sym same) size }

pub none_ahead : (h : RunnerState) (new : List Member) → Wants h None → new ≡ [] → IsAhead h new
none_ahead h new w same = record { ahead = subst (λ (l : List Member). AreAhead l (rest h)) (sym same) tt; some = by h.overrun w; none = none_by h.overrun; first = subst (λ (l : List Member). FirstHasSize (size_in h) l) (sym same) tt }
  where
    none_by : (o : Option Overrun) → IfSome o (λ v. new ≡ [])
    none_by None = tt
    none_by (Some v) = same

    by : (o : Option Overrun) → IsSome o ⊎ (is_paused h.pending ≡ true) → IfNone o (is_paused h.pending ≡ false → 1 ≤ length new)
    by (Some v) w = tt
    by None (inl some) = absurd (false≢true some)
    by None (inr paused) = λ awake. absurd (false≢true (sym awake ∙ paused))
