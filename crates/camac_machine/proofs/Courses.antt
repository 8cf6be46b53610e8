-- A machine that makes a transfer: its beginning, its cycles and its end.
use Rattle.std.proofs.Common.{◌≡◌, ℕ, ◌+◌, ◌*◌, ◌^◌, ◌<◌, ◌≤◌, List, [], ◌∷◌, length, Option, Some, None, Bool, true, false, refl, sym, ap, subst, ◌∙◌, arith}
use Rattle.std.proofs.lemmas.Bool.{eqb-true, false≢true}
use Rattle.std.proofs.lemmas.List.{append-nil}
use Rattle.std.proofs.lemmas.Option.{none-some}
use Rattle.std.specs.Borrow.{Bor}
use Rattle.std.specs.Prelude.{IsSome, IfSome, IfNone, nat_eq}
use Rattle.camac_func.specs.declared.data.DataMove.{DataMove}
use Rattle.camac_func.specs.declared.data.DataMove.TheVariants as moved
use Rattle.camac_lang.specs.declared.tree.Stmt.{Stmt}
use Rattle.camac_lang.specs.Tree.{Expression, Statement, address_scan, q_stop, q_repeat, on_line}
use Rattle.camac_branch.specs.Address.{Address}
use Rattle.camac_branch.specs.Allowed.{AllowsCommands, width}
use Rattle.camac_branch.specs.Branch.{Answer, Reply}
use Rattle.camac_branch.specs.Crates.{branch_of, is_permitted}
use Rattle.camac_branch.specs.Plan.{Layout, crate_waits}
use Rattle.camac_branch.specs.declared.answer.Command.{Command}
use Rattle.camac_branch.specs.declared.answer.CycleDone.{CycleDone}
use Rattle.camac_branch.specs.declared.answer.Overrun.{Overrun}
use Rattle.camac_esone.specs.Calls.{IsOnBranch}
use Rattle.camac_esone.specs.Progress.{Left, Continues}
use Rattle.camac_esone.specs.Transfers.{NextAddress, when, q_stop_next, q_repeat_next, scan_next, tally}
use Rattle.camac_model.specs.State.{State, stepped, missed_with, with_variable}
use Rattle.camac_model.specs.Behaviour.{does, ends, stops, overrun, Action, then_do, given, unless_wrong}
use Rattle.camac_model.specs.Cycle.{cycle, after_cycle}
use Rattle.camac_model.specs.Fine.{IsWithinBounds, most_turns}
use Rattle.camac_model.specs.Meaning.{Context, sent, transfer_to, effect}
use Rattle.camac_model.specs.Safe.{IsSafe}
use Rattle.camac_model.specs.Transfer.{keep_word, transfer}
use Rattle.camac_model.specs.Value.{value}
use Rattle.camac_machine.specs.declared.item.Item.TheVariants as item
use Rattle.camac_machine.specs.declared.machine.Machine.{Machine}
use Rattle.camac_machine.specs.declared.machine.TransferCycle.{TransferCycle}
use Rattle.camac_machine.specs.declared.machine.Pending.{Pending}
use Rattle.camac_machine.specs.declared.machine.Pending.TheVariants.{Cycle, Read, Lock, Transfer, Pause}
use Rattle.camac_machine.specs.declared.transfer.Course.{Course}
use Rattle.camac_machine.specs.declared.transfer.Course.TheVariants.{Stop, Repeat, Scan}
use Rattle.camac_machine.specs.declared.transfer.Transfer as held
use Rattle.camac_machine.specs.Course.{left_at, stays, words_from, words_sent, data_of, words_after}
use Rattle.camac_machine.specs.MachineState.{variables_here, registers_here, reach, with_value, context_in, state_of, bounds_of, left_in, stands, made, pending_of, after_pending, transferred, IsFineHere, FineThen, HasRoom, IsPending, IsReady, IsWidthOf, StandsIn, Wants, Advances, Proceeds, Settles, Makes, IsRefused, Takes, Overruns}
use Rattle.camac_machine.specs.Rest.{address_of, transfers, awaited, follows, transfer_left, rest_in, says}
use Rattle.camac_machine.proofs.Pauses.{asked_all}
use Rattle.camac_machine.proofs.Actions.{known}
use Rattle.camac_machine.proofs.Commands.{on_branch}
use Rattle.camac_machine.proofs.Fine.{blank, some_is, fine_given, fine_unless, keeps_rest}
use Rattle.camac_machine.proofs.Rooms.{room_kept}
use Rattle.camac_machine.proofs.Scopes.{opens_written, room_written, state_written}
use Rattle.camac_machine.proofs.Frames.{fine_along}
use Rattle.camac_machine.proofs.Loops.{fine_as}
use Rattle.camac_machine.proofs.Takes.{cost_fits, fine_taken, refused, goes_on, room_after}
use Rattle.camac_machine.proofs.Transfers.{transfer_continues, transfer_starts, keep_is, transfer_over, transfer_goes, transfer_within, transfer_can}

-- a transfer that sends no table reads
pub reads_in : (t : Course) (table : Option (Bor (List ℕ))) (d : DataMove) → data_of t (words_sent table) ≡ Some d → IfNone table (d ≡ moved.In)
reads_in t None d e = cc
reads_in t (Some words) d e = tt

-- the next cycle of a transfer
abbrev cycle_at : Command → Option ℕ → Course → Option (Bor (List ℕ)) → ℕ → TransferCycle
cycle_at k kept t table x = record { command = k; kept_width = kept; course = t; table = table; tally = x }

-- a transfer that stays at its address, after a cycle with this Q
module _ (at : Address) where
  stays_when : (b : Bool) (x : Address) → when b x ≡ Some at → (c : Bool) → IfSome (when c x) (λ y. at ≡ y)
  stays_when true x e true = cc
  stays_when true x e false = tt
  stays_when false x e c = absurd (none-some at e)

  pub stays_at : (t later : Course) (q : Bool) → stays t ≡ true → (left_at t).next_address [] ≡ Some at → Continues (left_at t) q (left_at later) → IfSome ((left_at later).next_address []) (λ y. at ≡ y)
  stays_at (Stop h) later q s e c = rw (c.next_address []) (stays_when _ h.at e _)
  stays_at (Repeat h) later q s e c = rw (c.next_address []) (stays_when _ h.at e _)
  stays_at (Scan h) later q s e c = absurd (false≢true s)

module _ {V D C : ℕ} (h : Machine V D C) where
  abbrev plan : Layout
  plan = h.checked.now.plan

  -- at the end the tally is set
  abbrev finish : ℕ → ℕ → List Bool → Action
  finish n x qs t = ends (with_variable x (n + tally qs) t)

  ends_within : (n x : ℕ) (qs : List Bool) (t : State) → IsFineHere h (then_do (finish n x qs t) (left_in h)) → IsWithinBounds (bounds_of h) t
  ends_within n x qs t f =
      let w = keeps_rest plan (bounds_of h) h.checked.now.script _ (with_variable x (n + tally qs) t) f in
      record { cycles = w.cycles; words = w.words; steps = w.steps; are_words = w.are_words }

  -- a transfer that is fine begins within the bounds
  left_within : (f : ℕ) (table : Option (List ℕ)) (left : Left) (x : ℕ) (qs : List Bool) (s : State) → IsFineHere h (then_do (transfer plan f (words_from left.tally table) left.next_address (finish left.tally x) qs [] s) (left_in h)) → IsWithinBounds (bounds_of h) s
  left_within f table left x qs s fine =
      transfer_within plan f (words_from left.tally table) left.next_address (finish left.tally x) qs (bounds_of h) (left_in h) (ends_within left.tally x qs) s fine

  -- its next cycle can be made
  next_can : (t : held.Transfer) (at : Address) → (left_at t.course).next_address [] ≡ Some at → FineThen h (λ c. transferred c t)
      → (d : DataMove) × (data_of t.course (words_sent t.table) ≡ Some d) × IsSome (crate_waits plan at.crate_no) × IsSafe plan at t.function d
  unfolding awaited
  next_can t at e fine =
      let left : Left = left_at t.course in
      transfer_can plan t.function (words_from left.tally (words_sent t.table)) left.next_address (finish left.tally t.tally) [] (bounds_of h) (left_in h) at e (state_of h (blank ∷ [])) (fine (blank ∷ []))

  pub next_at : (t : held.Transfer) → AllowsCommands plan → FineThen h (λ c. transferred c t) → IfSome ((left_at t.course).next_address []) IsOnBranch
  next_at t all fine = go ((left_at t.course).next_address []) refl
    where
      go : (o : Option Address) → (left_at t.course).next_address [] ≡ o → IfSome o IsOnBranch
      go None e = tt
      go (Some at) e = let can = next_can t at e fine in on_branch plan all at t.function can.0 can.3

  pub next_data : (t : held.Transfer) → FineThen h (λ c. transferred c t) → IfSome ((left_at t.course).next_address []) (λ at. IsSome (data_of t.course (words_sent t.table)))
  next_data t fine = go ((left_at t.course).next_address []) refl
    where
      go : (o : Option Address) → (left_at t.course).next_address [] ≡ o → IfSome o (λ at. IsSome (data_of t.course (words_sent t.table)))
      go None e = tt
      go (Some at) e = let can = next_can t at e fine in some_is (data_of t.course (words_sent t.table)) can.0 can.1

  -- a transfer goes on to its next cycle
  pub proceeds_on : (t : held.Transfer) (k : Command) (kept : Option ℕ) → IfSome kept (IsWidthOf plan k) → FineThen h (λ c. transferred c t) → t.tally < (reach h).variables → (left_at t.course).next_address [] ≡ Some (address_of k) → data_of t.course (words_sent t.table) ≡ Some k.mv → k.f ≡ t.function → HasRoom h
      → Proceeds h (λ c. transferred c t) (Some (Transfer (cycle_at k kept t.course t.table t.tally))) h
  proceeds_on t k kept w fine lt e d same r =
      let can = next_can t (address_of k) e fine in
      record {
        room = r;
        same = refl;
        awaits = (can.2, (lt, e, d, w));
        wants = λ answers. ap (λ f. awaited (context_in h.checked.now) (transfers t.course f (words_sent t.table) t.tally) (state_of h answers)) same;
        goes = λ answers. ap (λ f. then_do (awaited (context_in h.checked.now) (transfers t.course f (words_sent t.table) t.tally) (state_of h answers)) (left_in h)) same;
      }

  -- or to its end
  pub proceeds_over : (t : held.Transfer) (new : Machine V D C) → (left_at t.course).next_address [] ≡ None → t.tally < (reach h).variables → new ≡ with_value h t.tally (left_at t.course).tally → HasRoom h → Proceeds h (λ c. transferred c t) None new
  unfolding awaited
  proceeds_over t new e lt same r =
      let left : Left = left_at t.course in
      let x : ℕ = t.tally in
      let n : ℕ = left.tally in
      let all : n ≡ n + tally [] = omega arith in
      subst (λ m. Proceeds h (λ c. transferred c t) None m) (sym same) (record {
        room = room_written h x n r;
        same = refl;
        awaits = tt;
        wants = tt;
        goes = λ answers.
            ap (λ os. rest_in (context_in h.checked.now) os (state_of (with_value h x n) answers)) (sym (opens_written h x n r))
            ∙ ap (left_in h) (state_written h x n lt r answers)
            ∙ ap (λ m. left_in h (with_variable x m (state_of h answers))) all
            ∙ ap (λ b. then_do b (left_in h)) (sym (transfer_over plan t.function (words_from n (words_sent t.table)) left.next_address (finish n x) [] e answers (state_of h answers)));
      })

  -- what is wanted is so by whatever is the same
  wants_along : (go go' : Context → Action) (next' : Option Pending) (new : Machine V D C) → ((answers : List Answer) → go (context_in h.checked.now) (state_of h answers) ≡ go' (context_in h.checked.now) (state_of h answers)) → IfSome next' (Wants h go new) → IfSome next' (Wants h go' new)
  wants_along go go' None new e w = tt
  wants_along go go' (Some v) new e w = λ answers. w answers ∙ e answers

  -- a statement that begins a transfer
  module _ (st : Statement) (t : held.Transfer) (table : Option (List ℕ)) (next_address : NextAddress) (sends : words_sent t.table ≡ table) (starts : left_at t.course ≡ record { next_address = next_address; tally = 0 })
      (is : (answers : List Answer) → effect (context_in h.checked.now) most_turns st (state_of h answers) ≡ transfer_to plan t.function table next_address t.tally (state_of h answers)) where
    begins : (answers : List Answer) → effect (context_in h.checked.now) most_turns st (state_of h answers) ≡ transferred (context_in h.checked.now) t (state_of h answers)
    unfolding awaited
    begins answers =
        is answers
        ∙ sym (transfer_starts plan t.function table next_address t.tally (state_of h answers))
        ∙ ap (λ g. transfer_left plan t.function g (record { next_address = next_address; tally = 0 }) t.tally [] (state_of h answers)) (sym sends)
        ∙ ap (λ l. transfer_left plan t.function (words_sent t.table) l t.tally [] (state_of h answers)) (sym starts)

    pub begins_fine : FineThen h (λ c. effect c most_turns st) → FineThen h (λ c. transferred c t)
    begins_fine fine = fine_as h (λ c. effect c most_turns st) (λ c. transferred c t) begins fine

    pub begins_proceed : (next' : Option Pending) (new : Machine V D C) → Proceeds h (λ c. transferred c t) next' new → Proceeds h (λ c. effect c most_turns st) next' new
    begins_proceed next' new p =
        record {
          room = p.room;
          same = p.same;
          awaits = p.awaits;
          wants = wants_along (λ c. transferred c t) (λ c. effect c most_turns st) next' new (λ answers. sym (begins answers)) p.wants;
          goes = λ answers. p.goes answers ∙ ap (λ b. then_do b (left_in h)) (sym (begins answers));
        }

  has_some : {A : Type 0} (o : Option A) (go : A → Action) → IsFineHere h (then_do (given o go (state_of h [])) (left_in h)) → IsSome o
  has_some o go fine = let g = fine_given plan (bounds_of h) o go (state_of h []) (left_in h) fine in some_is o g.0 g.1

  -- the address scan
  module _ (f r1 r2 : ℕ) (max : Expression) (x : ℕ) (fine : FineThen h (λ c. effect c most_turns (address_scan (on_line 0) f r1 r2 max x))) where
    abbrev scans : Address → Address → ℕ → Action
    scans first last m = unless_wrong (nat_eq first.crate_no last.crate_no) (transfer_to plan f None (scan_next first last m) x)

    abbrev scans_up : Address → Address → Action
    scans_up first last = given (value max (variables_here h)) (scans first last)

    abbrev scans_from : Address → Action
    scans_from first = given (registers_here h r2) (scans_up first)

    pub scan_first : IsSome (registers_here h r1)
    scan_first = has_some (registers_here h r1) scans_from (fine [])

    module _ (first : Address) (is1 : registers_here h r1 ≡ Some first) where
      from_first : IsFineHere h (then_do (scans_from first (state_of h [])) (left_in h))
      from_first = known h (registers_here h r1) first scans_from [] is1 (fine [])

      pub scan_last : IsSome (registers_here h r2)
      scan_last = has_some (registers_here h r2) (scans_up first) from_first

      module _ (last : Address) (is2 : registers_here h r2 ≡ Some last) where
        up_to_last : IsFineHere h (then_do (scans_up first last (state_of h [])) (left_in h))
        up_to_last = known h (registers_here h r2) last (scans_up first) [] is2 from_first

        pub scan_max : IsSome (value max (variables_here h))
        scan_max = has_some (value max (variables_here h)) (scans first last) up_to_last

        module _ (m : ℕ) (is3 : value max (variables_here h) ≡ Some m) where
          same_crate : nat_eq first.crate_no last.crate_no ≡ true
          same_crate =
              (fine_unless plan (bounds_of h) (nat_eq first.crate_no last.crate_no) (transfer_to plan f None (scan_next first last m) x) (state_of h []) (left_in h)
              (known h (value max (variables_here h)) m (scans first last) [] is3 up_to_last)).0

          pub one_crate : first.crate_no ≡ last.crate_no
          one_crate = eqb-true first.crate_no last.crate_no same_crate

          pub scan_goes : (answers : List Answer) → effect (context_in h.checked.now) most_turns (address_scan (on_line 0) f r1 r2 max x) (state_of h answers) ≡ transfer_to plan f None (scan_next first last m) x (state_of h answers)
          scan_goes answers =
              ap (λ o. given o scans_from (state_of h answers)) is1
              ∙ ap (λ o. given o (scans_up first) (state_of h answers)) is2
              ∙ ap (λ o. given o (scans first last) (state_of h answers)) is3
              ∙ ap (λ b. unless_wrong b (transfer_to plan f None (scan_next first last m) x) (state_of h answers)) same_crate

  -- Q-stop
  module _ (f r : ℕ) (g : Option ℕ) (max : Expression) (x : ℕ) (fine : FineThen h (λ c. effect c most_turns (q_stop (on_line 0) f r g max x))) where
    abbrev stops_after : Option (List ℕ) → Address → ℕ → Action
    stops_after table at m = transfer_to plan f table (q_stop_next at m) x

    abbrev stops_at : Option (List ℕ) → Address → Action
    stops_at table at = given (value max (variables_here h)) (stops_after table at)

    abbrev stops_with : Option (List ℕ) → Action
    stops_with table = given (registers_here h r) (stops_at table)

    pub stop_sent : IsSome (sent (context_in h.checked.now) g)
    stop_sent = has_some (sent (context_in h.checked.now) g) stops_with (fine [])

    module _ (table : Option (List ℕ)) (is1 : sent (context_in h.checked.now) g ≡ Some table) where
      with_table : IsFineHere h (then_do (stops_with table (state_of h [])) (left_in h))
      with_table = known h (sent (context_in h.checked.now) g) table stops_with [] is1 (fine [])

      pub stop_set : IsSome (registers_here h r)
      stop_set = has_some (registers_here h r) (stops_at table) with_table

      module _ (at : Address) (is2 : registers_here h r ≡ Some at) where
        pub stop_max : IsSome (value max (variables_here h))
        stop_max =
            has_some (value max (variables_here h)) (stops_after table at)
            (known h (registers_here h r) at (stops_at table) [] is2 with_table)

        pub stop_goes : (m : ℕ) → value max (variables_here h) ≡ Some m → (answers : List Answer) → effect (context_in h.checked.now) most_turns (q_stop (on_line 0) f r g max x) (state_of h answers) ≡ transfer_to plan f table (q_stop_next at m) x (state_of h answers)
        stop_goes m is3 answers =
            ap (λ o. given o stops_with (state_of h answers)) is1
            ∙ ap (λ o. given o (stops_at table) (state_of h answers)) is2
            ∙ ap (λ o. given o (stops_after table at) (state_of h answers)) is3

  -- Q-repeat
  module _ (f r : ℕ) (g : Option ℕ) (max limit : Expression) (x : ℕ) (fine : FineThen h (λ c. effect c most_turns (q_repeat (on_line 0) f r g max limit x))) where
    abbrev q_repeats_up : Option (List ℕ) → Address → ℕ → ℕ → Action
    q_repeats_up table at m n = transfer_to plan f table (q_repeat_next at m n) x

    abbrev q_repeats_for : Option (List ℕ) → Address → ℕ → Action
    q_repeats_for table at m = given (value limit (variables_here h)) (q_repeats_up table at m)

    abbrev q_repeats_at : Option (List ℕ) → Address → Action
    q_repeats_at table at = given (value max (variables_here h)) (q_repeats_for table at)

    abbrev q_repeats_with : Option (List ℕ) → Action
    q_repeats_with table = given (registers_here h r) (q_repeats_at table)

    pub q_repeat_sent : IsSome (sent (context_in h.checked.now) g)
    q_repeat_sent = has_some (sent (context_in h.checked.now) g) q_repeats_with (fine [])

    module _ (table : Option (List ℕ)) (is1 : sent (context_in h.checked.now) g ≡ Some table) where
      of_table : IsFineHere h (then_do (q_repeats_with table (state_of h [])) (left_in h))
      of_table = known h (sent (context_in h.checked.now) g) table q_repeats_with [] is1 (fine [])

      pub q_repeat_set : IsSome (registers_here h r)
      q_repeat_set = has_some (registers_here h r) (q_repeats_at table) of_table

      module _ (at : Address) (is2 : registers_here h r ≡ Some at) where
        at_address : IsFineHere h (then_do (q_repeats_at table at (state_of h [])) (left_in h))
        at_address = known h (registers_here h r) at (q_repeats_at table) [] is2 of_table

        pub q_repeat_max : IsSome (value max (variables_here h))
        q_repeat_max = has_some (value max (variables_here h)) (q_repeats_for table at) at_address

        module _ (m : ℕ) (is3 : value max (variables_here h) ≡ Some m) where
          pub q_repeat_limit : IsSome (value limit (variables_here h))
          q_repeat_limit =
              has_some (value limit (variables_here h)) (q_repeats_up table at m)
              (known h (value max (variables_here h)) m (q_repeats_for table at) [] is3 at_address)

          pub repeat_goes : (n : ℕ) → value limit (variables_here h) ≡ Some n → (answers : List Answer) → effect (context_in h.checked.now) most_turns (q_repeat (on_line 0) f r g max limit x) (state_of h answers) ≡ transfer_to plan f table (q_repeat_next at m n) x (state_of h answers)
          repeat_goes n is4 answers =
              ap (λ o. given o q_repeats_with (state_of h answers)) is1
              ∙ ap (λ o. given o (q_repeats_at table) (state_of h answers)) is2
              ∙ ap (λ o. given o (q_repeats_for table at) (state_of h answers)) is3
              ∙ ap (λ o. given o (q_repeats_up table at m) (state_of h answers)) is4

  -- what goes on at once is begun like any statement
  pub proceeds_advance : (st : Statement) (next' : Option Pending) (new : Machine V D C) → Proceeds (record h { steps = h.steps + 1 }) (λ c. effect c most_turns st) next' new → Advances 2 h (λ c s. effect c most_turns st (stepped s)) next' new
  proceeds_advance st next' new p =
      let steps : new.steps ≡ h.steps + 1 = ap (λ (m : Machine V D C). m.steps) p.same in
      let frames : length new.frames.items ≡ length h.frames.items = ap (λ (m : Machine V D C). length m.frames.items) p.same in
      record {
        room = p.room;
        checked = ap (λ (m : Machine V D C). m.checked) p.same;
        service = ap (λ (m : Machine V D C). m.service) p.same;
        awaits = p.awaits;
        pace = omega (arith, steps, frames);
        few = omega (arith, steps);
        released = [];
        unlocks = ap (λ (m : Machine V D C). m.unlocks.items) p.same ∙ sym (append-nil h.unlocks.items);
        goes = p.goes;
      }

  pub proceeds_pace : (st : Statement) (next' : Option Pending) (new : Machine V D C) → Proceeds (record h { steps = h.steps + 1 }) (λ c. effect c most_turns st) next' new → length new.frames.items + 2 * h.steps < 2 * new.steps + length h.frames.items
  proceeds_pace st next' new p =
      let steps : new.steps ≡ h.steps + 1 = ap (λ (m : Machine V D C). m.steps) p.same in
      let frames : length new.frames.items ≡ length h.frames.items = ap (λ (m : Machine V D C). length m.frames.items) p.same in
      omega (arith, steps, frames)

  -- what is left after a cycle is the transfer after its Q
  module _ (k : Command) (kept : Option ℕ) (t later : Course) (table : Option (Bor (List ℕ))) (x : ℕ) (c : Continues (left_at t) h.q (left_at later)) where
    abbrev pub further : held.Transfer
    further = record { course = later; function = k.f; table = table; tally = x }

    follows_on : (answers : List Answer) → follows (context_in h.checked.now) (pending_of (Transfer (cycle_at k kept t table x))) (state_of h answers) ≡ transferred (context_in h.checked.now) further (state_of h answers)
    unfolding awaited follows
    follows_on answers = transfer_continues plan k.f (words_sent table) (left_at t) (left_at later) x h.q (state_of h answers) c

    pub further_fine : FineThen h (λ c. follows c (pending_of (Transfer (cycle_at k kept t table x)))) → FineThen h (λ c. transferred c further)
    further_fine fine = fine_as h (λ c. follows c (pending_of (Transfer (cycle_at k kept t table x)))) (λ c. transferred c further) follows_on fine

    pub further_proceeds : (next' : Option Pending) (new : Machine V D C) → Proceeds h (λ c. transferred c further) next' new → Proceeds h (λ c. after_pending c (Some (Transfer (cycle_at k kept t table x)))) next' new
    further_proceeds next' new p =
        record {
          room = p.room;
          same = p.same;
          awaits = p.awaits;
          wants = wants_along (λ c. transferred c further) (λ c. after_pending c (Some (Transfer (cycle_at k kept t table x)))) next' new (λ answers. sym (follows_on answers)) p.wants;
          goes = λ answers. p.goes answers ∙ ap (λ b. then_do b (left_in h)) (sym (follows_on answers));
        }

    -- its cycle after it moved on
    module _ (moved' : TransferCycle) (same : moved' ≡ record (cycle_at k kept later table x) { command = moved'.command; kept_width = moved'.kept_width }) (ready : IsReady h (Transfer (cycle_at k kept t table x))) (room : HasRoom h) (fine : FineThen h (λ c. follows c (pending_of (Transfer (cycle_at k kept t table x))))) where
      width_stays : (new : Option ℕ) → moved'.command.f ≡ k.f → IfSome new (λ w. (kept ≡ Some w) × (address_of moved'.command ≡ address_of k)) → IfSome new (IsWidthOf plan moved'.command)
      width_stays None e all = tt
      width_stays (Some w) e all =
          let is : IfSome (Some w) (IsWidthOf plan k) = subst (λ o. IfSome o (IsWidthOf plan k)) all.0 ready.3 in
          (is.0 ∙ sym (ap (λ at. width plan at moved'.command.f) all.1 ∙ ap (λ f. width plan (address_of k) f) e), is.1)

      pub moves_on : (left_at later).next_address [] ≡ Some (address_of moved'.command) → data_of later (words_sent table) ≡ Some moved'.command.mv → moved'.command.f ≡ k.f → IfSome moved'.kept_width (λ w. (kept ≡ Some w) × (address_of moved'.command ≡ address_of k))
          → Proceeds h (λ c. after_pending c (Some (Transfer (cycle_at k kept t table x)))) (Some (Transfer moved')) h
      moves_on next sends e all =
          subst (λ w. Proceeds h (λ c. after_pending c (Some (Transfer (cycle_at k kept t table x)))) (Some (Transfer w)) h) (sym same)
          (further_proceeds _ h (proceeds_on further moved'.command moved'.kept_width (width_stays moved'.kept_width e all) (further_fine fine) ready.0 next sends e room))

      pub moves_over : (n : ℕ) (new : Machine V D C) → (left_at later).next_address [] ≡ None → n ≡ (left_at moved'.course).tally → new ≡ with_value h moved'.tally n → Proceeds h (λ c. after_pending c (Some (Transfer (cycle_at k kept t table x)))) None new
      moves_over n new none counts is =
          further_proceeds None new (proceeds_over further new none ready.0
          (is ∙ ap (λ y. with_value h y n) (ap (λ (w : TransferCycle). w.tally) same) ∙ ap (λ m. with_value h x m) (counts ∙ ap (λ (w : TransferCycle). (left_at w.course).tally) same)) room)

  -- what goes on at once, whatever it is
  module _ (go : Context → Action) (mid : Machine V D C) (quiet : h.unlocks.items ≡ []) where
    pub mid_quiet : (next' : Option Pending) → Proceeds h go next' mid → mid.unlocks.items ≡ []
    mid_quiet next' p = ap (λ (m : Machine V D C). m.unlocks.items) p.same ∙ quiet

    -- it wants an answer
    pub wants_settles : (next' : Option Pending) → IsSome next' → IfSome next' (StandsIn mid) → Proceeds h go next' mid → Settles h go next' mid
    wants_settles None some s p = absurd (false≢true some)
    wants_settles (Some w) some s p = record {
      room = p.room;
      checked = ap (λ (m : Machine V D C). m.checked) p.same;
      service = ap (λ (m : Machine V D C). m.service) p.same;
      awaits = asked_all (Some w) (IsPending mid) p.awaits;
      begun = asked_all (Some w) (StandsIn mid) s;
      over = tt;
      goes = λ answers. ap (λ us. says us (stands (Some w) mid answers)) (mid_quiet (Some w) p) ∙ p.goes answers;
    }

    -- or is over, and the blocks go on
    pub over_fine : FineThen h go → Proceeds h go None mid → (answers : List Answer) → IsFineHere mid (stands None mid answers)
    over_fine fine p answers =
        fine_along mid h (ap (λ (m : Machine V D C). m.checked) p.same) (ap (λ (m : Machine V D C). m.service) p.same) (stands None mid answers) _ (p.goes answers) (fine answers)

    pub over_settles : (next' : Option Pending) (new : Machine V D C) → Proceeds h go None mid → Settles mid (λ c. ends) next' new → Settles h go next' new
    over_settles next' new p s = record {
      room = s.room;
      checked = s.checked ∙ ap (λ (m : Machine V D C). m.checked) p.same;
      service = s.service ∙ ap (λ (m : Machine V D C). m.service) p.same;
      awaits = s.awaits;
      begun = s.begun;
      over = s.over;
      goes = λ answers. s.goes answers ∙ p.goes answers;
    }

  -- nothing of the statement is left
  module _ (w : Pending) (nothing : (answers : List Answer) → follows (context_in h.checked.now) (pending_of w) (state_of h answers) ≡ ends (state_of h answers)) where
    pub alone_proceeds : HasRoom h → Proceeds h (λ c. after_pending c (Some w)) None h
    alone_proceeds r = record { room = r; same = refl; awaits = tt; wants = tt; goes = λ answers. ap (λ b. then_do b (left_in h)) (sym (nothing answers)) }

  pub cycle_alone : (k : Command) (answers : List Answer) → follows (context_in h.checked.now) (pending_of (Cycle k)) (state_of h answers) ≡ ends (state_of h answers)
  unfolding follows
  cycle_alone k answers = refl

  pub read_alone : (k : Command) (x bits : ℕ) (answers : List Answer) → follows (context_in h.checked.now) (pending_of (Read k x bits)) (state_of h answers) ≡ ends (state_of h answers)
  unfolding follows
  read_alone k x bits answers = refl

  pub lock_alone : (k : ℕ) (body : Bor (List Stmt)) (answers : List Answer) → follows (context_in h.checked.now) (pending_of (Lock k body)) (state_of h answers) ≡ ends (state_of h answers)
  unfolding follows
  lock_alone k body answers = refl

  pub pause_alone : (answers : List Answer) → follows (context_in h.checked.now) (pending_of Pause) (state_of h answers) ≡ ends (state_of h answers)
  unfolding follows
  pause_alone answers = refl

-- a cycle of a transfer
module _ {V D C : ℕ} (h : Machine V D C) (k : Command) (kept : Option ℕ) (t : Course) (table : Option (Bor (List ℕ))) (x : ℕ) (a : Answer) (p : IsPending h (Transfer (cycle_at k kept t table x))) where
  abbrev left : Left
  left = left_at t

  abbrev words_left : Option (List ℕ)
  words_left = words_from left.tally (words_sent table)

  abbrev bits : ℕ
  bits = width h.checked.now.plan (address_of k) k.f

  abbrev over : List Bool → Action
  over = finish h left.tally x

  abbrev G : List Answer → Reply → Action
  G answers r u = transfer h.checked.now.plan k.f words_left left.next_address over (r.q ∷ []) answers (stepped (keep_word words_left bits r u))

  goes_first : (answers : List Answer) → awaited (context_in h.checked.now) (pending_of (Transfer (cycle_at k kept t table x))) (state_of h (a ∷ answers)) ≡ cycle h.checked.now.plan (address_of k) k.f k.mv (a ∷ answers) (G answers) (state_of h (a ∷ answers))
  unfolding awaited
  goes_first answers = transfer_goes h.checked.now.plan k.f words_left left.next_address over [] (address_of k) k.mv p.1.1 p.1.2 a answers (state_of h (a ∷ answers))

  within_after : (r : Reply) (u : State) → IsFineHere h (then_do (G [] r u) (left_in h)) → IsWithinBounds (bounds_of h) (stepped (record u { words = words_after (words_sent table) bits r u.words }))
  within_after r u fine =
      left_within h k.f (words_sent table) left x (r.q ∷ []) (stepped (record u { words = words_after (words_sent table) bits r u.words }))
      (subst (λ (v : State). IsFineHere h (then_do (transfer h.checked.now.plan k.f words_left left.next_address over (r.q ∷ []) [] (stepped v)) (left_in h))) (keep_is left.tally (words_sent table) bits r u) fine)

  pub transfer_overruns : (o : Overrun) → IsRefused h k.c a.wait o → Overruns h (Transfer (cycle_at k kept t table x)) a o
  transfer_overruns o r = λ answers.
      ap (λ b. then_do b (left_in h)) (goes_first answers)
      ∙ refused h k a p.0 G answers r.refused
      ∙ ap (λ (y : Overrun). stops (overrun y.c y.wait) (state_of h (a ∷ answers))) (sym r.overrun)

  module _ (fine : (answers : List Answer) → IsFineHere h (stands (Some (Transfer (cycle_at k kept t table x))) h answers)) (room : HasRoom h) where
    cycle_fine : (answers : List Answer) → IsFineHere h (then_do (cycle h.checked.now.plan (address_of k) k.f k.mv (a ∷ answers) (G answers) (state_of h (a ∷ answers))) (left_in h))
    cycle_fine answers = subst (λ b. IsFineHere h (then_do b (left_in h))) (goes_first answers) (fine (a ∷ answers))

    pub transfer_cost : is_permitted h.checked.now.plan (branch_of h.branch) k.c a.wait ≡ true → h.cost + (1 + a.wait) < 2 ^ 32
    transfer_cost permitted = cost_fits h k a p.0 G cycle_fine (λ u f. (within_after _ u f).cycles) room.cycles permitted

    module _ (mid : Machine V D C) (d : CycleDone) (m : Makes h k a d mid) where
      abbrev kept_words : Machine V D C → CycleDone → List ℕ
      kept_words n e = words_after (words_sent table) (width n.checked.now.plan (address_of e.command) e.command.f) e.reply n.words

      both_within : (length (kept_words h d) ≤ (bounds_of h).words) × (h.steps + 1 ≤ (bounds_of h).steps)
      both_within =
          let w = within_after _ _ (fine_taken h k a p.0 G cycle_fine m.permitted []) in
          subst (λ (e : CycleDone). (length (kept_words h e) ≤ (bounds_of h).words) × (h.steps + 1 ≤ (bounds_of h).steps)) (sym m.done) (w.words, w.steps)

      pub width_kept : IfSome kept (IsWidthOf mid.checked.now.plan d.command)
      width_kept =
          subst (λ (n : Machine V D C). IfSome kept (IsWidthOf n.checked.now.plan d.command)) (sym m.same)
          (subst (λ (e : CycleDone). IfSome kept (IsWidthOf h.checked.now.plan e.command)) (sym m.done) p.1.3)

      same_words : kept_words mid d ≡ kept_words h d
      same_words = ap (λ (n : Machine V D C). kept_words n d) m.same

      pub put_fits : length (kept_words mid d) ≤ C
      put_fits = let w = both_within.0 in let most = room.words in let e = ap length same_words in omega (arith, w, most, e)

      module _ (last : Machine V D C) (same : last ≡ record mid { words = last.words }) where
        last_steps : last.steps ≡ h.steps
        last_steps = ap (λ (n : Machine V D C). n.steps) same ∙ ap (λ (n : Machine V D C). n.steps) m.same

        pub step_fits : last.steps + 1 < 2 ^ 32
        step_fits = let w = both_within.1 in let most = room.steps in omega (arith, w, most, last_steps)

        abbrev after : Machine V D C
        after = record h { branch = mid.branch; q = d.reply.q; x = d.reply.x; cost = h.cost + (1 + d.wait); missed = missed_with d.reply.x h.missed }

        abbrev final : Machine V D C
        final = record after { words = last.words; steps = h.steps + 1 }

        same_final : ◌≡◌ {A = Machine V D C} (record last { steps = last.steps + 1 }) final
        same_final =
            ap (λ (n : Machine V D C). record n { steps = n.steps + 1 }) same
            ∙ ap (λ (n : Machine V D C). record n { words = last.words; steps = n.steps + 1 }) m.same

        pub takes_transfer : last.words ≡ kept_words mid d → Takes h (Transfer (cycle_at k kept t table x)) a (item.Cycle d) (record last { steps = last.steps + 1 })
        unfolding follows
        takes_transfer e =
            let ws : last.words ≡ words_after (words_sent table) bits d.reply h.words =
            e ∙ same_words ∙ ap (λ (c : Command). words_after (words_sent table) (width h.checked.now.plan (address_of c) c.f) d.reply h.words) (ap (λ (n : CycleDone). n.command) m.done) in
            subst (λ n. Takes h (Transfer (cycle_at k kept t table x)) a (item.Cycle d) n) (sym same_final) (record {
              room = room_kept (room_after h k mid.branch d.reply.q d.reply.x d.wait m.branch room);
              checked = refl;
              service = refl;
              begun = refl;
              unlocks = refl;
              steps = omega arith;
              few = omega arith;
              can_follow = p.1;
              goes = λ answers.
                  let made' : State = after_cycle (address_of k) k.f d.reply d.wait answers (state_of h (a ∷ answers)) in
                  ap (λ b. then_do b (left_in h)) (goes_first answers)
                  ∙ goes_on h k a p.0 G d answers m.permitted m.done
                  ∙ ap (λ (u : State). does (made d) (then_do (transfer h.checked.now.plan k.f words_left left.next_address over (d.reply.q ∷ []) answers (stepped u)) (left_in h)))
                  (keep_is left.tally (words_sent table) bits d.reply made'
                  ∙ ap (λ us. record made' { words = us }) (sym ws)
                  ∙ ap (λ b. record made' { branch = b; words = last.words }) (sym m.branch));
            })
