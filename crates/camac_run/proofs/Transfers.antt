-- What is left of a transfer, and the run that makes it.
use Rattle.std.proofs.Common.{◌≡◌, ◌∙◌, ℕ, ◌+◌, List, [], ◌∷◌, ◌++◌, Bool, true, false, Option, Some, None, refl, sym, ap, subst}
use Rattle.std.proofs.Math.Path.{fun_ext}
use Rattle.std.specs.Prelude.{IsSome, IfNone, IfSome, if◌then◌else◌}
use Rattle.camac_func.specs.declared.data.DataMove.{DataMove}
use Rattle.camac_branch.specs.Address.{Address}
use Rattle.camac_branch.specs.Allowed.{width}
use Rattle.camac_branch.specs.Branch.{Answer, Reply, reply_to}
use Rattle.camac_branch.specs.Crates.{Crates, is_permitted}
use Rattle.camac_branch.specs.Plan.{Layout, crate_waits}
use Rattle.camac_branch.specs.declared.answer.Command.{Command}
use Rattle.camac_branch.specs.declared.answer.Overrun.{Overrun}
use Rattle.camac_esone.specs.InProgress.{QRepeatState, QStopState, ScanState, q_repeat_left, q_stop_left, scan_left}
use Rattle.camac_esone.specs.Transfers.{NextAddress, q_repeat_next, q_stop_next, scan_next, tally, when}
use Rattle.camac_model.specs.Behaviour.{Behaviour, does, ends, stops, overrun, short, wrong, cycled, event_left, Action, then_do, given}
use Rattle.camac_model.specs.Cycle.{cycle, kept, make_cycle, after_cycle}
use Rattle.camac_model.specs.Fine.{Bounds, IsFine}
use Rattle.camac_model.specs.Run.{event_of}
use Rattle.camac_model.specs.State.{State, set_at, stepped, with_variable, with_word}
use Rattle.camac_model.specs.Transfer.{transfer_data, keep_word, request, transfer}
use Rattle.camac_model.proofs.Runs.{then_assoc}
use Rattle.camac_machine.specs.Course.{data_of, left_at, words_from, words_sent}
use Rattle.camac_machine.specs.MachineState.{Left, asked, bit_at, bounds_of, context_in, left_in, pending_of, registers_here, stands, state_of, variables_here, IsFineHere, IsPending}
use Rattle.camac_machine.specs.Rest.{address_of, Operation, awaited, onward, says, served}
use Rattle.camac_machine.specs.declared.machine.Machine.{Machine}
use Rattle.camac_machine.specs.declared.machine.Pending.{Pending}
use Rattle.camac_machine.specs.declared.machine.Pending.TheVariants as waits_for
use Rattle.camac_machine.specs.declared.machine.TransferCycle.{TransferCycle}
use Rattle.camac_machine.proofs.Fine.{fine_follow, some_is}
use Rattle.camac_machine.proofs.Takes.{cycle_goes, cycle_halts}
use Rattle.camac_run.specs.Ahead.{AreAhead}
use Rattle.camac_run.specs.Operation.{Begins, Waits, Wants, past_first}
use Rattle.camac_run.specs.Runner.{RunnerState, rest, rest_from, with_event, last_words_in}
use Rattle.camac_run.specs.Sound.{runner_state}
use Rattle.camac_run.specs.Sure.{After, LeadsTo, goes_on_with, on}
use Rattle.camac_run.specs.Transfer.{CanGoOn, IsBlock, IsBlockOf, IsLeft, Leaves, MakesThen, StandsIn, TransfersBegin, TransfersGoOn, command_if, cycle_after, first_q, left_by, next_in, window}
use Rattle.camac_run.specs.declared.member.Member.{Member}
use Rattle.camac_run.specs.declared.member.Member.TheVariants as member
use Rattle.camac_run.specs.declared.progress.Progress.TheVariants as progress
use Rattle.camac_run.specs.declared.progress.Wanted.TheVariants as wanted
use Rattle.camac_run.specs.declared.transfer.ReadBlock.{ReadBlock}
use Rattle.camac_run.specs.declared.transfer.TransferLeft.{TransferLeft}
use Rattle.camac_run.specs.declared.transfer.TransferMode.TheVariants as mode
use Rattle.camac_run.proofs.Following.{both_cases, makes_along, short_waits}
use Rattle.camac_run.proofs.Operation.{some_wait}

-- ---- from answer to answer

module _ (cycle' : List Bool → Option Command) (qs : List Bool) (k : Command) (is : cycle' qs ≡ Some k) (IsSo : (List Answer → Behaviour (Unit {0})) → Type 0) where
  -- nothing but the cycle was told
  pub quiet : (unlocks : List ℕ) (event : Option Left) (words : List ℕ) (run : List Answer → Behaviour (Unit {0})) → ((used : List Answer) → MakesThen IsSo cycle' qs used (λ answers. says unlocks (with_event event words (run answers))))
      → (unlocks ≡ []) × (event ≡ None) × ((used : List Answer) → MakesThen IsSo cycle' qs used run)
  quiet [] None words run h = (refl, refl, h)
  quiet [] (Some e) words run h = let no = rw is at (h []).1 in absurd no.0
  quiet (c ∷ cs) event words run h = let no = rw is at (h []).1 in absurd no.0

  pub wants_next : (h : RunnerState) → h.overrun ≡ None → MakesThen IsSo cycle' qs [] (rest h) → Wants h (Some (wanted.Cycle k))
  wants_next h first makes = let its = rw is at makes.1 in (first, its.0, its.1)

pub transfers_begin : TransfersBegin
transfers_begin h t first is = wants_next (cycle_after t) [] t.first is.block.first (λ run. Unit {0}) h first (is.stands [])

-- a run that stops has the same left
rest_stopped : (w : Option Operation) (h : RunnerState) (o : Overrun) (answers : List Answer) → rest_from w (record h { overrun = Some o }) answers ≡ rest_from w h answers
rest_stopped None h o answers = refl
rest_stopped (Some w) h o answers = refl

pub transfers_go_on : TransfersGoOn
transfers_go_on old new t qs j a (progress.Overrun o) in_it is g = λ used.
    subst (λ (r : List Answer → Behaviour (Unit {0})). MakesThen (λ run. Unit {0}) (cycle_after t) qs used r) (fun_ext (λ answers. rw (g.same, rest_stopped old.pending old o answers) refl)) (in_it used)
transfers_go_on old new t qs j a (progress.Went item unlocks event) in_it is g =
    λ q k reply next.
    let later : List Answer → Behaviour (Unit {0}) = λ answers. says unlocks.items (with_event event (last_words_in new) (rest new answers)) in
    let after : (used : List Answer) → MakesThen (λ run. Unit {0}) (cycle_after t) (qs ++ q ∷ []) used later =
    λ used.
    let its = rw is at (in_it (a ∷ used)) in
    subst (λ (r : List Answer → Behaviour (Unit {0})). MakesThen (λ run. Unit {0}) (cycle_after t) (qs ++ q ∷ []) used r) (fun_ext (λ answers. ap past_first (g.goes answers)))
    (its [] q (ap first_q (g.goes []) ∙ reply)) in
    let its = quiet (cycle_after t) (qs ++ q ∷ []) k next (λ run. Unit {0}) unlocks.items event (last_words_in new) (rest new) after in
    (its.0, its.1, its.2, wants_next (cycle_after t) (qs ++ q ∷ []) k next (λ run. Unit {0}) new g.overrun (its.2 []))

-- ---- the run of a transfer

-- what is kept of a word does not depend on the answers to come
kept_on : (words : Option (List ℕ)) (bits : ℕ) (r : Reply) (t : State) (answers : List Answer) → keep_word words bits r (on answers t) ≡ on answers (keep_word words bits r t)
kept_on (Some table) bits r t answers = refl
kept_on None bits r t answers = by r.q
  where
    by : (q : Bool) → (if q then with_word (kept bits r) (on answers t) else on answers t) ≡ on answers (if q then with_word (kept bits r) t else t)
    by true = refl
    by false = refl

module _ {A : Type 0} (plan : Layout) (bounds : Bounds) (f : ℕ) (words : Option (List ℕ)) (next : NextAddress) (finish : List Bool → Action) (left : Action) (go : State → Behaviour A) (IsSo : (List Answer → Behaviour A) → Type 0) (Is : State → Type 0) where
  abbrev wanted_after : List Bool → Option Command
  wanted_after qs = command_if f (next qs) (transfer_data words qs)

  abbrev cycles : List Bool → State → List Answer → Behaviour State
  cycles qs s answers = transfer plan f words next finish qs answers (on answers s)

  abbrev run : List Bool → State → List Answer → Behaviour A
  run qs s answers = then_do (cycles qs s answers) go

  abbrev IsFineRun : List Bool → State → Type 0
  IsFineRun qs s = (answers : List Answer) → IsFine plan bounds (then_do (cycles qs s answers) left)

  -- at the end
  over : (qs : List Bool) (s : State) (answers : List Answer) → next qs ≡ None → cycles qs s answers ≡ finish qs (on answers s)
  over qs s [] e = ap (λ o. request o (λ at. given (transfer_data words qs) (λ d. cycle plan at f d [] (λ r. stops short))) (finish qs) (on [] s)) e
  over qs s (a ∷ answers) e =
      ap (λ o. request o (λ at. given (transfer_data words qs) (λ d. cycle plan at f d (a ∷ answers) (λ r t. transfer plan f words next finish (qs ++ r.q ∷ []) answers (stepped (keep_word words (width plan at f) r t))))) (finish qs) (on (a ∷ answers) s)) e

  module _ (qs : List Bool) (s : State) (at : Address) (d : DataMove) (there : next qs ≡ Some at) (moves : transfer_data words qs ≡ Some d) where
    abbrev onward_from : List Answer → Reply → Action
    onward_from answers r t = transfer plan f words next finish (qs ++ r.q ∷ []) answers (stepped (keep_word words (width plan at f) r t))

    abbrev command : Command
    command = record { c = at.crate_no; n = at.station; a = at.sub_address; f = f; mv = d }

    is_wanted : wanted_after qs ≡ Some command
    is_wanted = ap (λ o. command_if f o (transfer_data words qs)) there ∙ ap (command_if f (Some at)) moves

    -- it is its cycle first
    short_of : cycles qs s [] ≡ cycle plan at f d [] (λ r. stops short) (on [] s)
    short_of =
        ap (λ o. request o (λ at. given (transfer_data words qs) (λ d. cycle plan at f d [] (λ r. stops short))) (finish qs) (on [] s)) there
        ∙ ap (λ m. given m (λ d. cycle plan at f d [] (λ r. stops short)) (on [] s)) moves

    first_of : (a : Answer) (answers : List Answer) → cycles qs s (a ∷ answers) ≡ cycle plan at f d (a ∷ answers) (onward_from answers) (on (a ∷ answers) s)
    first_of a answers =
        ap (λ o. request o (λ at. given (transfer_data words qs) (λ d. cycle plan at f d (a ∷ answers) (λ r t. transfer plan f words next finish (qs ++ r.q ∷ []) answers (stepped (keep_word words (width plan at f) r t))))) (finish qs) (on (a ∷ answers) s)) there
        ∙ ap (λ m. given m (λ d. cycle plan at f d (a ∷ answers) (onward_from answers)) (on (a ∷ answers) s)) moves

    module _ (fine : IsFineRun qs s) where
      planned : IsSome (crate_waits plan at.crate_no)
      planned =
          let g = fine_follow plan bounds at.crate_no (crate_waits plan at.crate_no) (s.branch at.crate_no).locked [] (make_cycle plan at f d (λ r. stops short)) (on [] s) left (subst (λ (b : Behaviour State). IsFine plan bounds (then_do b left)) short_of (fine [])) in
          some_is (crate_waits plan at.crate_no) g.0 g.1

      waits : Waits (run qs s [])
      waits =
          subst (λ (b : Behaviour State). Waits (then_do b go)) (sym short_of)
          (short_waits at.crate_no (crate_waits plan at.crate_no) (s.branch at.crate_no).locked (make_cycle plan at f d (λ r. stops short)) (on [] s) go planned)

      module _ (a : Answer) where
        abbrev reply : Reply
        reply = reply_to plan s.branch at f a

        abbrev after : State
        after = stepped (keep_word words (width plan at f) reply (after_cycle at f reply a.wait [] s))

        abbrev permits : Bool
        permits = is_permitted plan s.branch at.crate_no a.wait

        makes_it : permits ≡ true → (answers : List Answer) → cycles qs s (a ∷ answers) ≡ does (cycled at f d reply a.wait) (cycles (qs ++ reply.q ∷ []) after answers)
        makes_it p answers =
            first_of a answers ∙ cycle_goes plan at f d (onward_from answers) (on (a ∷ answers) s) a answers planned p
            ∙ ap (λ (t : State). does (cycled at f d reply a.wait) (transfer plan f words next finish (qs ++ reply.q ∷ []) answers (stepped t))) (kept_on words (width plan at f) reply (after_cycle at f reply a.wait [] s) answers)

        stops_it : permits ≡ false → (answers : List Answer) → cycles qs s (a ∷ answers) ≡ stops (overrun at.crate_no a.wait) (on (a ∷ answers) s)
        stops_it p answers = first_of a answers ∙ cycle_halts plan at f d (onward_from answers) (on (a ∷ answers) s) a answers planned p

        fine_after : permits ≡ true → IsFineRun (qs ++ reply.q ∷ []) after
        fine_after p answers = (subst (λ (b : Behaviour State). IsFine plan bounds (then_do b left)) (makes_it p answers) (fine (a ∷ answers))).1

        begins : (p : Bool) → permits ≡ p → (answers : List Answer) → Begins (wanted.Cycle command) a (run qs s (a ∷ answers))
        begins true p answers = subst (λ (b : Behaviour State). Begins (wanted.Cycle command) a (then_do b go)) (sym (makes_it p answers)) refl
        begins false p answers =
            subst (λ (b : Behaviour State). Begins (wanted.Cycle command) a (then_do b go)) (sym (stops_it p answers)) (refl, refl, some_wait (s.branch at.crate_no).locked _ a.wait p)

  module _ (kept : (at : Address) (r : Reply) (wait : ℕ) (s : State) → Is s → Is (stepped (keep_word words (width plan at f) r (after_cycle at f r wait [] s))))
      (ends_so : (qs : List Bool) (s : State) → Is s → ((answers : List Answer) → IsFine plan bounds (then_do (finish qs (on answers s)) left)) → IsSo (λ answers. then_do (finish qs (on answers s)) go)) where
    -- by whether there is a next address, and what is moved
    by_next : (used : List Answer) (qs : List Bool) (s : State) (o : Option Address) (m : Option DataMove) → next qs ≡ o → transfer_data words qs ≡ m → Is s → IsFineRun qs s
        → ((qs' : List Bool) (s' : State) (a : Answer) (rest : List Answer) → used ≡ a ∷ rest → Is s' → IsFineRun qs' s' → MakesThen IsSo wanted_after qs' rest (run qs' s')) → MakesThen IsSo wanted_after qs used (run qs s)
    by_next used qs s None m e e' is fine later = ended used
      where
        none : wanted_after qs ≡ None
        none = ap (λ o. command_if f o (transfer_data words qs)) e

        none_some : (k : Command) → ◌≡◌ {A = Option Command} None (Some k) → ⊥
        none_some k q = absurd (cc)

        ended : (us : List Answer) → MakesThen IsSo wanted_after qs us (run qs s)
        ended [] = both_cases (wanted_after qs) _ _ (λ n.
            subst (λ (r : List Answer → Behaviour A). IsSo r) (sym (fun_ext (λ answers. ap (λ (b : Behaviour State). then_do b go) (over qs s answers e))))
            (ends_so qs s is (λ answers. subst (λ (b : Behaviour State). IsFine plan bounds (then_do b left)) (over qs s answers e) (fine answers))))
            (λ k some. absurd (none_some k (sym none ∙ some)))
        ended (a ∷ us) = rw none tt
    by_next used qs s (Some at) None e e' is fine later = absurd (wrong_is.0)
      where
        wrong_is : IsFine plan bounds (stops wrong (on [] s))
        wrong_is =
            subst (λ (b : Behaviour State). IsFine plan bounds (then_do b left))
            (ap (λ o. request o (λ at. given (transfer_data words qs) (λ d. cycle plan at f d [] (λ r. stops short))) (finish qs) (on [] s)) e
            ∙ ap (λ m. given m (λ d. cycle plan at f d [] (λ r. stops short)) (on [] s)) e')
            (fine [])
    by_next [] qs s (Some at) (Some d) e e' is fine later =
        rw (is_wanted qs s at d e e') (tt, (waits qs s at d e e' fine, λ a answers. begins qs s at d e e' fine a (permits qs s at d e e' fine a) refl answers))
    by_next (a ∷ used) qs s (Some at) (Some d) e e' is fine later = rw (is_wanted qs s at d e e') (λ answers q its. by (permits qs s at d e e' fine a) refl answers q its)
      where
        some_same : (t u : Bool) → Some t ≡ Some u → t ≡ u
        some_same t u e = cc

        none_some : {q : Bool} → ◌≡◌ {A = Option Bool} None (Some q) → ⊥
        none_some q = absurd (cc)

        by : (p : Bool) → permits qs s at d e e' fine a ≡ p → (answers : List Answer) (q : Bool) → first_q (run qs s (a ∷ answers)) ≡ Some q → MakesThen IsSo wanted_after (qs ++ q ∷ []) used (λ later. past_first (run qs s (a ∷ later)))
        by true p answers q its =
            let same : (reply qs s at d e e' fine a).q ≡ q = some_same _ q (sym (ap (λ (b : Behaviour State). first_q (then_do b go)) (makes_it qs s at d e e' fine a p answers)) ∙ its) in
            subst (λ t. MakesThen IsSo wanted_after (qs ++ t ∷ []) used (λ later. past_first (run qs s (a ∷ later)))) same
            (subst (λ (r : List Answer → Behaviour A). MakesThen IsSo wanted_after (qs ++ (reply qs s at d e e' fine a).q ∷ []) used r) (sym (fun_ext (λ answers. ap (λ (b : Behaviour State). past_first (then_do b go)) (makes_it qs s at d e e' fine a p answers))))
            (later _ (after qs s at d e e' fine a) a used refl (kept at (reply qs s at d e e' fine a) a.wait s is) (fine_after qs s at d e e' fine a p)))
        by false p answers q its = absurd (none_some (sym (ap (λ (b : Behaviour State). first_q (then_do b go)) (stops_it qs s at d e e' fine a p answers)) ∙ its))

    pub makes_cycles : (used : List Answer) (qs : List Bool) (s : State) → Is s → IsFineRun qs s → MakesThen IsSo wanted_after qs used (run qs s)
    makes_cycles [] qs s is fine = by_next [] qs s (next qs) (transfer_data words qs) refl refl is fine (λ qs' s' a rest e. absurd (none_more a rest e))
      where
        none_more : (a : Answer) (rest : List Answer) → ◌≡◌ {A = List Answer} [] (a ∷ rest) → ⊥
        none_more a rest e = absurd (cc)
    makes_cycles (a ∷ used) qs s is fine =
        by_next (a ∷ used) qs s (next qs) (transfer_data words qs) refl refl is fine (λ qs' s' b rest e is' fine'. subst (λ us. MakesThen IsSo wanted_after qs' us (run qs' s')) (tail_same a b used rest e) (makes_cycles used qs' s' is' fine'))
      where
        tail_same : (a b : Answer) (us vs : List Answer) → a ∷ us ≡ b ∷ vs → us ≡ vs
        tail_same a b us vs e = cc

-- ---- what a transfer leads to

-- the cycles of a transfer are ahead, and then these
abbrev pub BlockThen : TransferLeft → List Member → (List Answer → Behaviour (Unit {0})) → Type 0
BlockThen t os run = IsBlock t × ((used : List Answer) → MakesThen (AreAhead os) (cycle_after t) [] used run)

-- a word that is kept changes no variable and no register
keeps_store : (words : Option (List ℕ)) (bits : ℕ) (r : Reply) (t : State) → ((keep_word words bits r t).registers ≡ t.registers) × ((keep_word words bits r t).variables ≡ t.variables)
keeps_store (Some table) bits r t = (refl, refl)
keeps_store None bits r t = by r.q
  where
    by : (q : Bool) → ((if q then with_word (kept bits r) t else t).registers ≡ t.registers) × ((if q then with_word (kept bits r) t else t).variables ≡ t.variables)
    by true = (refl, refl)
    by false = (refl, refl)

module _ (plan : Layout) (bounds : Bounds) (f : ℕ) (words : Option (List ℕ)) (next : NextAddress) (x : ℕ) (count : List Bool → ℕ) (left : Action) (s : State) (t : TransferLeft) (os : List Member) (block : IsBlock t) (same : (qs : List Bool) → command_if f (next qs) (transfer_data words qs) ≡ cycle_after t qs) where
  abbrev finish : List Bool → Action
  finish qs u = ends (with_variable x (count qs) u)

  -- its cycles are ahead, and behind them is what is ahead whatever its tally is
  pub transfer_leads : ((u : State) (v : ℕ) → u.registers ≡ s.registers → u.variables ≡ set_at x v s.variables → LeadsTo plan bounds left u os) → ((answers : List Answer) → IsFine plan bounds (then_do (transfer plan f words next finish [] answers (on answers s)) left))
      → (leave : State → Behaviour (Unit {0})) → BlockThen t os (λ answers. then_do (then_do (transfer plan f words next finish [] answers (on answers s)) left) leave)
  transfer_leads h fine leave = (
    block,
    λ used.
        subst (λ (c : List Bool → Option Command). MakesThen (AreAhead os) c [] used whole) (fun_ext same)
        (subst (λ (r : List Answer → Behaviour (Unit {0})). MakesThen (AreAhead os) (λ qs. command_if f (next qs) (transfer_data words qs)) [] used r) (sym (fun_ext (λ answers. then_assoc (transfer plan f words next finish [] answers (on answers s)) left leave)))
        (makes_cycles plan bounds f words next finish left (λ u. then_do (left u) leave) (AreAhead os) IsSame
        (λ at r wait u is. let k = keeps_store words (width plan at f) r (after_cycle at f r wait [] u) in (k.0 ∙ is.0, k.1 ∙ is.1))
        (λ qs u is fine'. h (with_variable x (count qs) u) (count qs) is.0 (ap (set_at x (count qs)) is.1) fine' leave)
        used [] s (refl, refl) fine)),
  )
    where
      whole : List Answer → Behaviour (Unit {0})
      whole answers = then_do (then_do (transfer plan f words next finish [] answers (on answers s)) left) leave

      IsSame : State → Type 0
      IsSame u = (u.registers ≡ s.registers) × (u.variables ≡ s.variables)

-- ---- what a machine has left of it

when_at : (b : Bool) (at x : Address) → when b at ≡ Some x → at ≡ x
when_at true at x e = cc
when_at false at x e = absurd (cc)

module _ (k : Command) (table : Option (List ℕ)) (t : TransferLeft) (first : t.first ≡ k) where
  pub stop_leaves : (h : QStopState) → q_stop_next h.at h.cycles [] ≡ Some (address_of k) → t.mode ≡ mode.QStop → t.cycles ≡ h.cycles → t.words ≡ h.cycles → words_sent t.table ≡ words_from h.tally table → Leaves (q_stop_left h) k table t
  stop_leaves h e is cycles words sends =
      record { next = λ qs. rw (is, first, cycles, ← when_at _ h.at (address_of k) e) refl; first_is = first; sends = sends; most = rw (is, words) cycles }

  pub repeat_leaves : (h : QRepeatState) → q_repeat_next h.at h.words h.cycles [] ≡ Some (address_of k) → t.mode ≡ mode.QRepeat → t.cycles ≡ h.cycles → t.words ≡ h.words → words_sent t.table ≡ words_from h.tally table → Leaves (q_repeat_left h) k table t
  repeat_leaves h e is cycles words sends =
      record { next = λ qs. rw (is, first, cycles, words, ← when_at _ h.at (address_of k) e) refl; first_is = first; sends = sends; most = rw is refl }

  pub scan_leaves : (h : ScanState) → scan_next h.at h.last h.words [] ≡ Some (address_of k) → t.mode ≡ mode.Scan → t.last ≡ h.last → t.cycles ≡ window (address_of k) h.last → t.words ≡ h.words → words_sent t.table ≡ words_from h.tally table → Leaves (scan_left h) k table t
  scan_leaves h e is last cycles words sends =
      record { next = λ qs. rw (is, first, last, words, ← when_at _ h.at (address_of k) e) refl; first_is = first; sends = sends; most = rw (is, first, last) cycles }

module _ {V D C : ℕ} (h : Machine V D C) (w : TransferCycle) (t : TransferLeft) (is : Leaves (left_at w.course) w.command (words_sent w.table) t) where
  same_cycle : (qs : List Bool) → command_if w.command.f ((left_at w.course).next_address qs) (transfer_data (words_from (left_at w.course).tally (words_sent w.table)) qs) ≡ cycle_after t qs
  same_cycle qs =
      ap (λ (o : Option Address). command_if w.command.f o (transfer_data (words_from (left_at w.course).tally (words_sent w.table)) qs)) (sym (is.next qs))
      ∙ ap (λ (ws : Option (List ℕ)). command_if w.command.f (next_in t qs) (transfer_data ws qs)) (sym is.sends)
      ∙ ap (λ (k : Command). command_if k.f (next_in t qs) (transfer_data (words_sent t.table) qs)) (sym is.first_is)

  first_cycle : (left_at w.course).next_address [] ≡ Some (address_of w.command) → data_of w.course (words_sent w.table) ≡ Some w.command.mv → cycle_after t [] ≡ Some t.first
  first_cycle next sends =
      sym (same_cycle [])
      ∙ ap (λ (o : Option Address). command_if w.command.f o (transfer_data (words_from (left_at w.course).tally (words_sent w.table)) [])) next
      ∙ ap (λ (m : Option DataMove). command_if w.command.f (Some (address_of w.command)) m) sends
      ∙ ap Some (sym is.first_is)

  is_block : (left_at w.course).next_address [] ≡ Some (address_of w.command) → data_of w.course (words_sent w.table) ≡ Some w.command.mv → IsBlock t
  is_block next sends = record { first = first_cycle next sends; most = is.most }

  module _ (fed n : ℕ) (has : Bool) (o : Option Overrun) (d : Crates) (limit : ℕ) (fine : (answers : List Answer) → IsFineHere h (stands (Some (waits_for.Transfer w)) h answers)) where
    abbrev its_runner : RunnerState
    its_runner = runner_state h (Some (waits_for.Transfer w)) fed n has o d limit

    abbrev leave : State → Behaviour (Unit {0})
    leave s = does (event_left (event_of (bit_at h.checked.now h.service) s)) (onward (context_in h.checked.now) h.checked.now.script.services s.branch s.answers)

    -- the block, and what is ahead behind it
    block_ahead : (os : List Member) → IsBlock t → ((u : State) → u.registers ≡ registers_here h → After (pending_of (waits_for.Transfer w)) (variables_here h) u.variables → LeadsTo h.checked.now.plan (bounds_of h) (left_in h) u os) → BlockThen t os (rest its_runner)
    unfolding served awaited
    block_ahead os block ahead =
        transfer_leads h.checked.now.plan (bounds_of h) w.command.f (words_from (left_at w.course).tally (words_sent w.table)) (left_at w.course).next_address w.tally (λ qs. (left_at w.course).tally + tally qs) (left_in h) (state_of h []) t os block same_cycle
        (λ u v e e'. ahead u e (v, e')) fine leave

    stands_in : IsBlock t → StandsIn t [] its_runner
    stands_in block used =
        let its = block_ahead [] block (λ u e v f l. tt) in
        makes_along (AreAhead []) (λ run. Unit {0}) (λ run a. tt) (cycle_after t) used [] (rest its_runner) (its.1 used)

-- what a runner has left of it
module _ {V D C : ℕ} (h : Machine V D C) (pending : Option Pending) (w : TransferCycle) (e : pending ≡ Some (waits_for.Transfer w)) (p : IfSome (asked pending) (IsPending h)) (t : TransferLeft) (fed n : ℕ) (has : Bool) (o : Option Overrun) (d : Crates) (limit : ℕ) (fine : IfSome pending (λ v. (answers : List Answer) → IsFineHere h (stands (Some v) h answers))) where
  ready : IsPending h (waits_for.Transfer w)
  ready = let q = rw e at p in q

  pub is_left : Leaves (left_at w.course) w.command (words_sent w.table) t → IsLeft (runner_state h pending fed n has o d limit) t
  is_left is =
      let f = rw e at fine in
      let block : IsBlock t = is_block h w t is ready.1.1 ready.1.2 in
      subst (λ (q : Option Pending). IsLeft (runner_state h q fed n has o d limit) t) (sym e)
      (record { block = block; stands = stands_in h w t is fed n has o d limit f block })

  -- and what it has ahead
  block_behind : (b : ReadBlock) (os : List Member) → t ≡ left_by b → Leaves (left_at w.course) w.command (words_sent w.table) t
      → ((u : State) → u.registers ≡ registers_here h → After (pending_of (waits_for.Transfer w)) (variables_here h) u.variables → LeadsTo h.checked.now.plan (bounds_of h) (λ s. then_do (goes_on_with (context_in h.checked.now) (pending_of (waits_for.Transfer w)) s) (left_in h)) u os)
      → AreAhead (member.Block b ∷ os) (rest (runner_state h pending fed n has o d limit))
  block_behind b os same is ahead =
      let f = rw e at fine in
      let its : BlockThen t os (rest (runner_state h pending fed n has o d limit)) =
      subst (λ (q : Option Pending). BlockThen t os (rest (runner_state h q fed n has o d limit))) (sym e)
      (block_ahead h w t is fed n has o d limit f os (is_block h w t is ready.1.1 ready.1.2) ahead) in
      subst (λ (u : TransferLeft). BlockThen u os (rest (runner_state h pending fed n has o d limit))) same its

module _ {V D C : ℕ} (h : Machine V D C) (pending : Option Pending) where
  -- a transfer that is waited for goes on
  pub can_go_on : (v : Pending) → pending ≡ Some v → IfSome (asked pending) (IsPending h) → CanGoOn v
  can_go_on (waits_for.Cycle k) e p = tt
  can_go_on (waits_for.Read k x bits) e p = tt
  can_go_on (waits_for.Lock c body) e p = tt
  can_go_on (waits_for.Transfer w) e p = let its = rw e at p in its.1.1
  can_go_on waits_for.Pause e p = tt

  -- and if it reads, that is ahead
  pub block_is_ahead : (v : Pending) (b : ReadBlock) (os : List Member) (fed n : ℕ) (has : Bool) (o : Option Overrun) (d : Crates) (limit : ℕ) → pending ≡ Some v → IfSome (asked pending) (IsPending h) → IfSome pending (λ v. (answers : List Answer) → IsFineHere h (stands (Some v) h answers)) → IsBlockOf v b
      → ((u : State) → u.registers ≡ registers_here h → After (pending_of v) (variables_here h) u.variables → LeadsTo h.checked.now.plan (bounds_of h) (λ s. then_do (goes_on_with (context_in h.checked.now) (pending_of v) s) (left_in h)) u os)
      → AreAhead (member.Block b ∷ os) (rest (runner_state h pending fed n has o d limit))
  block_is_ahead (waits_for.Cycle k) b os fed n has o d limit e p fine none ahead = absurd none
  block_is_ahead (waits_for.Read k x bits) b os fed n has o d limit e p fine none ahead = absurd none
  block_is_ahead (waits_for.Lock c body) b os fed n has o d limit e p fine none ahead = absurd none
  block_is_ahead (waits_for.Transfer w) b os fed n has o d limit e p fine is ahead = block_behind h pending w e p (left_by b) fed n has o d limit fine b os refl is ahead
  block_is_ahead waits_for.Pause b os fed n has o d limit e p fine none ahead = absurd none
