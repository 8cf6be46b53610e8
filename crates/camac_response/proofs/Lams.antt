-- Calls and look-at-mes: each call is of the lowest bit, and for a look-at-me that was raised.
use Rattle.std.proofs.Common.{◌≡◌, ℕ, ◌+◌, ◌<◌, ◌≤◌, List, Option, Some, None, Bool, true, false, refl, sym, ◌∙◌, ap, subst, arith, ◌⊎◌, inl, inr, length, get_or, map, zero, suc, [], ◌∷◌}
use Rattle.std.proofs.lemmas.Bool.{and_parts, eq-eqb, eqb-true, ltb-true, ltb-false, true≢false}
use Rattle.std.proofs.lemmas.Option.{same_Some, slice_get-map, slice_get-get_or, slice_get_past}
use Rattle.std.specs.Prelude.{◌||◌, ◌&&◌, nat_eq, nat_lt, slice_get, option_and_then, if◌then◌else◌, option_map}
use Rattle.camac_branch.specs.Address.{Address, address}
use Rattle.camac_branch.specs.Branch.{IsSet, Answer, Branch, pattern_of, start}
use Rattle.camac_branch.specs.Plan.{Layout, IsPlan}
use Rattle.camac_model.specs.Behaviour.{Piece, demanded, cycled, lock_taken, lock_released, event_left, does}
use Rattle.camac_model.specs.Headline.{nothing, RunsSafely, no_count}
use Rattle.camac_model.specs.Meaning.{lam_address, context}
use Rattle.camac_model.specs.Fine.{Bounds}
use Rattle.camac_model.specs.Moments.{Watch, Holds, Any, AnyStop, Meets}
use Rattle.camac_model.specs.Run.{the_run, Chosen, service_bit, service_for, service_meaning, event_of, serve, rounds}
use Rattle.camac_model.specs.State.{State, fresh}
use Rattle.camac_model.specs.Demands.{IsAsked, IsCalled}
use Rattle.camac_model.proofs.Rules.{then_meets}
use Rattle.camac_model.proofs.Kept.{IsStepwise, Still, script_keeps}
use Rattle.camac_model.proofs.Rounds.{meets_mapped}
use Rattle.camac_model.proofs.Demands.{demands_call_services}
use Rattle.camac_response_times.specs.declared.source.Source.{Source}
use Rattle.camac_response_times.specs.Response.{is_up_to, StartsBy}
use Rattle.camac_response.specs.Modules.{Raises, Pauses, paused, IsOnce, AreApart, Clock, at_start, clock_after, waits_watch}
use Rattle.camac_response.specs.Lams.{Clears, Moods, Lams, of_lam, clears, may_clear, IsAskedAgain, ServesWell, ClearsNoOther, Wires, first_wires, clears_now, cleared_by, wires_after, AtOperation, AtCycle, IsOfLams, IsQuiet}
use Rattle.camac_response.specs.Laws.{CallsLowest, IsLowest, AreSources, LowestAreCalled}
use Rattle.camac_response.proofs.Answers.{one_more_at}
use Rattle.camac_lang.specs.declared.script.Lam.{Lam}
use Rattle.camac_lang.specs.View.{lam_of}
use Rattle.camac_lang.specs.Tree.{Script, Service}

-- Where services clear their own look-at-mes and hide none, a call is for a look-at-me that was raised, and one that was raised stays until it is answered.

-- What the law of look-at-mes needs of an operation, by the numbers of calls: it follows from what services and modules do.

-- An operation with this pattern and this call, which is made at this clock after a pause of so many cycles: of services up to the bit.
pub record IsRaised (ts : List Source) (raises : Raises) (g pause : ℕ) (y : Clock) (pattern : ℕ) (v : Option ℕ) : Type 0 where
  -- the branch is left alone only as long as no look-at-me is up
  pub quiet : (i : ℕ) (t : Source) → slice_get ts i ≡ Some t → is_up_to g t ≡ true → 1 ≤ pause → y.time ≤ raises i (y.calls i)
  -- a service is called only once its look-at-me was raised
  pub raised : (i : ℕ) (t : Source) → v ≡ Some i → slice_get ts i ≡ Some t → is_up_to g t ≡ true → raises i (y.calls i) ≤ y.time
  -- a look-at-me that was raised earlier and is not answered yet is in the pattern
  pub stays : (i : ℕ) (t : Source) → slice_get ts i ≡ Some t → is_up_to g t ≡ true → raises i (y.calls i) < y.time → IsSet pattern t.bit
  pub once : IsOnce ts g y.stretch v

abbrev pub AreRaised : List Source → Raises → Pauses → (bit : ℕ) → Clock → Piece → Type 0
AreRaised ts raises pauses g y (demanded p v) = IsRaised ts raises g (pauses y.operations) (paused (pauses y.operations) y) p v
AreRaised ts raises pauses g y (cycled at f d r w) = Unit {0}
AreRaised ts raises pauses g y (lock_taken c w) = Unit {0}
AreRaised ts raises pauses g y (lock_released c) = Unit {0}
AreRaised ts raises pauses g y (event_left e) = Unit {0}

-- this holds along a run
abbrev pub raised_watch : List Source → Raises → Pauses → (bit : ℕ) → Watch Clock (Unit {0})
raised_watch ts raises pauses g =
    record { step = clock_after ts pauses g; at_piece = AreRaised ts raises pauses g; at_stop = AnyStop; at_end = Any }

-- so each look-at-me is answered in time, and none waits longer
abbrev pub RaisedAreAnswered : Type 0
RaisedAreAnswered =
    (plan : Layout) → IsPlan plan → (script : Script) (ks : List Bounds) → RunsSafely plan script ks → (ts : List Source) → AreSources plan script ks ts
    → (s : ℕ) (source : Source) → slice_get ts s ≡ Some source → (start : ℕ) → StartsBy ts source start
    → (raises : Raises) → AreApart ts source.bit raises → (pauses : Pauses) → (answers : List Answer)
    → Holds (raised_watch ts raises pauses source.bit) at_start (the_run plan script answers)
    → Holds (waits_watch ts raises pauses s source start) at_start (the_run plan script answers)

-- Where a LAM stands by its number, as the definitions see it and as the code does.

abbrev pub at : List Lam → ℕ → Option Address
at ls i = slice_get (map lam_address (map lam_of ls)) i

found : (ls : List Lam) (i : ℕ) (o : Option Lam) → slice_get ls i ≡ o → at ls i ≡ option_map lam_address (option_map lam_of o)
found ls i o e = slice_get-map lam_address (map lam_of ls) i ∙ ap (option_map lam_address) (slice_get-map lam_of ls i ∙ ap (option_map lam_of) e)

pub lam_there : (ls : List Lam) (i : ℕ) (l : Lam) (a : ℕ) → i < length ls → l ≡ get_or ls i l → a ≡ l.sub_address → at ls i ≡ Some (address l.crate_no l.station a)
lam_there ls i l a lt is same =
    found ls i (Some l) (slice_get-get_or ls i l lt ∙ ap (λ x. Some x) (sym is)) ∙ ap (λ s. Some (address l.crate_no l.station s)) (sym same)

pub no_lam : (ls : List Lam) (i : ℕ) → length ls ≤ i → at ls i ≡ None
no_lam ls i le = found ls i None (slice_get_past ls i le)

-- the service that was called last, or another one
by_call : (o : Option ℕ) (i : ℕ) (P : Type 0) → (o ≡ Some i → P) → ((o ≡ Some i → ⊥) → P) → P
by_call None i P own other = other (λ e. absurd (cc))
by_call (Some j) i P own other = go (nat_eq j i) refl
  where
    go : (b : Bool) → nat_eq j i ≡ b → P
    go true e = own (ap Some (eqb-true j i e))
    go false e = other (λ same. true≢false (sym (eq-eqb j i (same_Some j i same)) ∙ e))

pub by_bool : (b : Bool) (P : Type 0) → (b ≡ true → P) → (b ≡ false → P) → P
by_bool true P if_true if_false = if_true refl
by_bool false P if_true if_false = if_false refl

pub or_false : (a b : Bool) → (a || b) ≡ false → (a ≡ false) × (b ≡ false)
or_false true b e = absurd (cc)
or_false false b e = (refl, e)

or_rest : (a b : Bool) → (a || b) ≡ true → b ≡ false → a ≡ true
or_rest true b e f = refl
or_rest false b e f = absurd (true≢false (sym e ∙ f))

first_false : (a b : Bool) → (a || b) ≡ false → a ≡ false
first_false a b e = (or_false a b e).0

pub or_first : (a b : Bool) → a ≡ true → (a || b) ≡ true
or_first true b e = refl
or_first false b e = absurd (cc)

-- what clears a look-at-me may clear it
cleared_may : (by_plan : Clears) (o : Option Address) (at : Address) (f : ℕ) → of_lam (λ lam. clears by_plan lam at f) o ≡ true → of_lam (λ lam. may_clear by_plan lam at f) o ≡ true
cleared_may by_plan None at f e = e
cleared_may by_plan (Some lam) at f e = or_first (clears by_plan lam at f) _ e

kept_not : (by_plan : Clears) (o : Option Address) (at : Address) (f : ℕ) → of_lam (λ lam. may_clear by_plan lam at f) o ≡ false → of_lam (λ lam. clears by_plan lam at f) o ≡ false
kept_not by_plan None at f e = e
kept_not by_plan (Some lam) at f e = first_false (clears by_plan lam at f) _ e

neither : (a b c : Bool) → a ≡ false → b ≡ false → (a || (b && c)) ≡ false
neither true b c e e' = absurd (cc)
neither false true c e e' = absurd (cc)
neither false false c e e' = refl

-- what clears it now may clear it
some_way : (a b c : Bool) → (a ≡ true → b ≡ true) → (a || (b && c)) ≡ true → b ≡ true
some_way true b c h e = h refl
some_way false b c h e = (and_parts b c e).0

-- a command that does not clear it, or comes before it was raised, leaves it
cleared_none : (c : Bool) (raised : ℕ → ℕ) (n k : ℕ) → c ≡ false → cleared_by c raised n k ≡ k
cleared_none true raised n k e = absurd (cc)
cleared_none false raised n k e = refl

cleared_early : (c : Bool) (raised : ℕ → ℕ) (n k : ℕ) → n ≤ raised k → cleared_by c raised n k ≡ k
cleared_early false raised n k late = refl
cleared_early true raised n k late = go (nat_lt (raised k) n) refl
  where
    go : (b : Bool) → nat_lt (raised k) n ≡ b → (if b then k + 1 else k) ≡ k
    go true e = let less = ltb-true (raised k) n e in absurd (omega (arith, less, late))
    go false e = refl

cleared_one : (c : Bool) (raised : ℕ → ℕ) (n k : ℕ) → c ≡ true → raised k < n → cleared_by c raised n k ≡ k + 1
cleared_one false raised n k e early = absurd (cc)
cleared_one true raised n k e early = go (nat_lt (raised k) n) refl
  where
    go : (b : Bool) → nat_lt (raised k) n ≡ b → (if b then k + 1 else k) ≡ k + 1
    go true e = refl
    go false e = let most = ltb-false (raised k) n e in absurd (omega (arith, most, early))

module _ (ts : List Source) (lams : Lams) (by_plan : Clears) (moods : Moods) (raises : Raises) (pauses : Pauses) (g : ℕ) where
  -- the call in progress has not cleared its look-at-me yet, or has
  abbrev Own : Wires → ℕ → Type 0
  Own x i = ((x.cleared i + 1 ≡ x.clock.calls i) × (raises i (x.cleared i) ≤ x.clock.time)) ⊎ (x.cleared i ≡ x.clock.calls i)

  -- Each call has cleared one look-at-me, but for the last one, which may not have cleared its own yet.
  pub record Agrees (x : Wires) : Type 0 where
    pub others : (i : ℕ) (t : Source) → slice_get ts i ≡ Some t → is_up_to g t ≡ true → (x.book.called ≡ Some i → ⊥) → x.cleared i ≡ x.clock.calls i
    pub next : (i : ℕ) (t : Source) → slice_get ts i ≡ Some t → is_up_to g t ≡ true → x.book.called ≡ Some i → x.next i ≡ x.clock.calls i
    pub own : (i : ℕ) (t : Source) → slice_get ts i ≡ Some t → is_up_to g t ≡ true → x.book.called ≡ Some i → Own x i
    pub closed : (i : ℕ) (t : Source) → slice_get ts i ≡ Some t → is_up_to g t ≡ true → x.book.called ≡ Some i → x.book.has_cleared ≡ true → x.cleared i ≡ x.clock.calls i

  -- where the branch is asked again, each call has
  settled : (x : Wires) → Agrees x → IsAskedAgain ts lams g x.book → (i : ℕ) (t : Source) → slice_get ts i ≡ Some t → is_up_to g t ≡ true → x.cleared i ≡ x.clock.calls i
  settled x h care i t at up =
      by_call x.book.called i (x.cleared i ≡ x.clock.calls i) (λ e. h.closed i t at up e (care.cleared i t at up e)) (h.others i t at up)

  -- the service that is called has its bit in the pattern
  asked : (p j : ℕ) → IsLowest ts p j → (i : ℕ) (t : Source) → slice_get ts i ≡ Some t → j ≡ i → IsSet p t.bit
  asked p j lowest i t at e =
      let same : lowest.source ≡ t = same_Some lowest.source t (sym lowest.numbered ∙ ap (slice_get ts) e ∙ at) in
      subst (λ u. IsSet p u.bit) same lowest.asked

  -- what the law of look-at-mes asks of an operation
  raised_at : (x : Wires) (p : ℕ) (v : Option ℕ) → Agrees x → IsAskedAgain ts lams g x.book → IsOnce ts g (paused (pauses x.clock.operations) x.clock).stretch v
      → IsOfLams ts lams raises g x (paused (pauses x.clock.operations) x.clock) p → IsQuiet ts raises g x (pauses x.clock.operations) (paused (pauses x.clock.operations) x.clock)
      → ((i : ℕ) (t : Source) → v ≡ Some i → slice_get ts i ≡ Some t → IsSet p t.bit)
      → IsRaised ts raises g (pauses x.clock.operations) (paused (pauses x.clock.operations) x.clock) p v
  raised_at x p v h care once r quiet in_pattern =
      let n : ℕ = (paused (pauses x.clock.operations) x.clock).time in
      record {
        quiet = λ i t at up pause. subst (λ k. n ≤ raises i k) (settled x h care i t at up) (quiet i t at up pause);
        raised = λ i t e at up. subst (λ k. raises i k ≤ n) (settled x h care i t at up) (r.only i t at up (in_pattern i t e at));
        stays = λ i t at up less. r.up i t at up (care.shown i t at up) (subst (λ k. raises i k < n) (sym (settled x h care i t at up)) less);
        once = once;
      }

  after_none : (x : Wires) (p : ℕ) → Agrees x → IsAskedAgain ts lams g x.book → Agrees (wires_after ts lams by_plan moods raises pauses g x (demanded p None))
  after_none x p h care = record {
    others = λ i t at up not. settled x h care i t at up;
    next = λ i t at up e. absurd (cc);
    own = λ i t at up e. absurd (cc);
    closed = λ i t at up e yes. absurd (cc);
  }

  after_call : (x : Wires) (p j : ℕ) → Agrees x → IsAskedAgain ts lams g x.book → IsLowest ts p j
      → IsOfLams ts lams raises g x (paused (pauses x.clock.operations) x.clock) p
      → Agrees (wires_after ts lams by_plan moods raises pauses g x (demanded p (Some j)))
  after_call x p j h care lowest r = record {
    others = λ i t at up not. one_more_at j x.clock.calls i (λ n. x.cleared i ≡ n) (λ e. absurd (not (ap Some (sym e)))) (settled x h care i t at up);
    next = λ i t at up e.
        let own : nat_eq i j ≡ true = eq-eqb i j (sym (same_Some j i e)) in
        let one : x.cleared i ≡ x.clock.calls i = settled x h care i t at up in
        ap (λ b. if b then x.cleared i + 1 else x.next i) own ∙ ap (λ n. n + 1) one ∙ sym (ap (λ b. if b then x.clock.calls i + 1 else x.clock.calls i) own);
    own = λ i t at up e.
        let own : nat_eq i j ≡ true = eq-eqb i j (sym (same_Some j i e)) in
        let one : x.cleared i ≡ x.clock.calls i = settled x h care i t at up in
        inl (ap (λ n. n + 1) one ∙ sym (ap (λ b. if b then x.clock.calls i + 1 else x.clock.calls i) own), r.only i t at up (asked p j lowest i t at (same_Some j i e)));
    closed = λ i t at up e yes. absurd (cc);
  }

  -- while a service is in progress, its module raises no look-at-me before the end of a cycle that may clear its own
  abbrev pub RaisesLate : Wires → Address → (function wait : ℕ) → Type 0
  RaisesLate x at f w =
      (i : ℕ) (t : Source) → slice_get ts i ≡ Some t → is_up_to g t ≡ true → x.book.called ≡ Some i → of_lam (λ lam. may_clear by_plan lam at f) (lams i) ≡ true
      → x.clock.time + (1 + w) ≤ raises i (x.next i)

  after_cycle : (x : Wires) (at : Address) (f w : ℕ) → Agrees x → ClearsNoOther ts lams by_plan g x.book at f → RaisesLate x at f w
      → (x' : Wires) → x'.clock.time ≡ x.clock.time + (1 + w) → x'.clock.calls ≡ x.clock.calls → x'.book.called ≡ x.book.called
      → x'.book.has_cleared ≡ (x.book.has_cleared || of_lam (λ lam. clears by_plan lam at f) (option_and_then lams x.book.called)) → x'.next ≡ x.next
      → ((i : ℕ) → x'.cleared i ≡ cleared_by (clears_now lams by_plan moods at f (x.clock.time + (1 + w)) i) (raises i) (x.clock.time + (1 + w)) (x.cleared i)) → Agrees x'
  after_cycle x at f w h care r x' time calls called has next cleared = record {
    others = λ i t it up not.
        let none = not_now i (care i t it up (λ e. not (called ∙ e))) in
        cleared i ∙ cleared_none (now i) (raises i) n (x.cleared i) none ∙ h.others i t it up (λ e. not (called ∙ e)) ∙ sym (calls_at i);
    next = λ i t it up e. ap (λ k. k i) next ∙ h.next i t it up (sym called ∙ e) ∙ sym (calls_at i);
    own = λ i t it up e. let e' : x.book.called ≡ Some i = sym called ∙ e in goes_on i t it up e' (h.own i t it up e') (now i) refl;
    closed = λ i t it up e yes.
        let e' : x.book.called ≡ Some i = sym called ∙ e in
        by_bool (test i) (x'.cleared i ≡ x'.clock.calls i)
        (λ clear. done_now i t it up e' (or_first (test i) _ clear) (h.own i t it up e'))
        (λ clear.
        let done = h.closed i t it up e' (or_rest x.book.has_cleared (test i) (sym (has_at i e') ∙ yes) clear) in
        by_bool (now i) (x'.cleared i ≡ x'.clock.calls i) (λ clear'. done_now i t it up e' clear' (inr done))
        (λ clear'. cleared i ∙ cleared_none (now i) (raises i) n (x.cleared i) clear' ∙ done ∙ sym (calls_at i)));
  }
    where
      n : ℕ
      n = x.clock.time + (1 + w)

      test : ℕ → Bool
      test i = of_lam (λ lam. clears by_plan lam at f) (lams i)

      may : ℕ → Bool
      may i = of_lam (λ lam. may_clear by_plan lam at f) (lams i)

      now : ℕ → Bool
      now i = test i || (may i && moods i n)

      not_now : (i : ℕ) → may i ≡ false → now i ≡ false
      not_now i e = neither (test i) (may i) (moods i n) (kept_not by_plan (lams i) at f e) e

      calls_at : (i : ℕ) → x'.clock.calls i ≡ x.clock.calls i
      calls_at i = ap (λ k. k i) calls

      has_at : (i : ℕ) → x.book.called ≡ Some i → x'.book.has_cleared ≡ (x.book.has_cleared || test i)
      has_at i e = has ∙ ap (λ o. x.book.has_cleared || of_lam (λ lam. clears by_plan lam at f) (option_and_then lams o)) e

      -- the module raises no other look-at-me before the end of this cycle
      late : (i : ℕ) (t : Source) → slice_get ts i ≡ Some t → is_up_to g t ≡ true → x.book.called ≡ Some i → now i ≡ true → n ≤ raises i (x.clock.calls i)
      late i t it up e clear = subst (λ k. n ≤ raises i k) (h.next i t it up e) (r i t it up e (some_way (test i) (may i) (moods i n) (cleared_may by_plan (lams i) at f) clear))

      -- where it clears the look-at-me, that is cleared, once
      done_now : (i : ℕ) (t : Source) → slice_get ts i ≡ Some t → is_up_to g t ≡ true → x.book.called ≡ Some i → now i ≡ true → Own x i → x'.cleared i ≡ x'.clock.calls i
      done_now i t it up e clear (inl before) =
          let most : raises i (x.cleared i) ≤ x.clock.time = before.1 in
          let early : raises i (x.cleared i) < n = omega (arith, most) in
          cleared i ∙ cleared_one (now i) (raises i) n (x.cleared i) clear early ∙ before.0 ∙ sym (calls_at i)
      done_now i t it up e clear (inr done) =
          cleared i ∙ cleared_early (now i) (raises i) n (x.cleared i) (subst (λ k. n ≤ raises i k) (sym done) (late i t it up e clear)) ∙ done ∙ sym (calls_at i)

      goes_on : (i : ℕ) (t : Source) → slice_get ts i ≡ Some t → is_up_to g t ≡ true → x.book.called ≡ Some i → Own x i → (b : Bool) → now i ≡ b → Own x' i
      goes_on i t it up e own true clear = inr (done_now i t it up e clear own)
      goes_on i t it up e (inl before) false clear =
          let same : x'.cleared i ≡ x.cleared i = cleared i ∙ cleared_none (now i) (raises i) n (x.cleared i) clear in
          let most : raises i (x.cleared i) ≤ x.clock.time = before.1 in
          let later : raises i (x.cleared i) ≤ x'.clock.time = omega (arith, most, time) in
          inl (ap (λ k. k + 1) same ∙ before.0 ∙ sym (calls_at i), subst (λ k. raises i k ≤ x'.clock.time) (sym same) later)
      goes_on i t it up e (inr done) false clear =
          inr (cleared i ∙ cleared_none (now i) (raises i) n (x.cleared i) clear ∙ done ∙ sym (calls_at i))

  -- a piece that clears nothing
  after_other : (x x' : Wires) → Agrees x → x.clock.time ≤ x'.clock.time → x'.clock.calls ≡ x.clock.calls → x'.book ≡ x.book → x'.next ≡ x.next → ((i : ℕ) → x'.cleared i ≡ x.cleared i) → Agrees x'
  after_other x x' h time calls book next cleared = record {
    others = λ i t at up not. cleared i ∙ h.others i t at up (λ e. not (ap (λ b. b.called) book ∙ e)) ∙ sym (ap (λ k. k i) calls);
    next = λ i t at up e. ap (λ k. k i) next ∙ h.next i t at up (sym (ap (λ b. b.called) book) ∙ e) ∙ sym (ap (λ k. k i) calls);
    own = λ i t at up e. as_before i (h.own i t at up (sym (ap (λ b. b.called) book) ∙ e));
    closed = λ i t at up e yes.
        cleared i ∙ h.closed i t at up (sym (ap (λ b. b.called) book) ∙ e) (sym (ap (λ b. b.has_cleared) book) ∙ yes) ∙ sym (ap (λ k. k i) calls);
  }
    where
      as_before : (i : ℕ) → Own x i → Own x' i
      as_before i (inl before) =
          let most : raises i (x.cleared i) ≤ x.clock.time = before.1 in
          let later : raises i (x.cleared i) ≤ x'.clock.time = omega (arith, most, time) in
          inl (ap (λ k. k + 1) (cleared i) ∙ before.0 ∙ sym (ap (λ k. k i) calls), subst (λ k. raises i k ≤ x'.clock.time) (sym (cleared i)) later)
      as_before i (inr done) = inr (cleared i ∙ done ∙ sym (ap (λ k. k i) calls))

  abbrev pub Once : Wires → Piece → Type 0
  Once = AtOperation pauses (λ x d y p v. IsOnce ts g y.stretch v)

  abbrev pub Shown : Wires → Piece → Type 0
  Shown = AtOperation pauses (λ x d y p v. IsOfLams ts lams raises g x y p)

  abbrev pub Alone : Wires → Piece → Type 0
  Alone = AtOperation pauses (λ x d y p v. IsQuiet ts raises g x d y)

  pub step : (x : Wires) (p : Piece) → Agrees x → CallsLowest ts nothing p → ServesWell ts lams by_plan g x.book p → Once x p → AtCycle RaisesLate x p → Shown x p → Alone x p
      → AreRaised ts raises pauses g x.clock p × Agrees (wires_after ts lams by_plan moods raises pauses g x p)
  step x (demanded p None) h lowest care once again r quiet = (raised_at x p None h care once r quiet (λ i t e at. absurd (cc)), after_none x p h care)
  step x (demanded p (Some j)) h lowest care once again r quiet =
      (raised_at x p (Some j) h care once r quiet (λ i t e at. asked p j lowest i t at (same_Some j i e)), after_call x p j h care lowest r)
  step x (cycled at f d q w) h lowest care once again r quiet =
      (tt, after_cycle x at f w h care again (wires_after ts lams by_plan moods raises pauses g x (cycled at f d q w)) refl refl refl refl refl (λ i. refl))
  step x (lock_taken c w) h lowest care once again r quiet =
      (tt, after_other x (wires_after ts lams by_plan moods raises pauses g x (lock_taken c w)) h (omega arith) refl refl refl (λ i. refl))
  step x (lock_released c) h lowest care once again r quiet =
      (tt, after_other x (wires_after ts lams by_plan moods raises pauses g x (lock_released c)) h (omega arith) refl refl refl (λ i. refl))
  step x (event_left e) h lowest care once again r quiet =
      (tt, after_other x (wires_after ts lams by_plan moods raises pauses g x (event_left e)) h (omega arith) refl refl refl (λ i. refl))

  pub agrees_first : Agrees first_wires
  agrees_first = record {
    others = λ i t at up not. refl;
    next = λ i t at up e. absurd (cc);
    own = λ i t at up e. absurd (cc);
    closed = λ i t at up e yes. absurd (cc);
  }

-- Each operation of a run calls the service of the lowest bit in its pattern.

-- two lists that are the same where mapped have the same places
pub same_at : {A B C : Type 0} (f : A → C) (g : B → C) (xs : List A) (ys : List B) → map f xs ≡ map g ys → (i : ℕ) (y : B) → slice_get ys i ≡ Some y → (x : A) × (slice_get xs i ≡ Some x) × (f x ≡ g y)
same_at f g [] [] e i y at = absurd (cc)
same_at f g (w ∷ xs) [] e i y at = absurd (cc)
same_at f g [] (v ∷ ys) e i y at = absurd (cc)
same_at f g (w ∷ xs) (v ∷ ys) e zero y at =
    let same : v ≡ y = same_Some v y at in
    let heads : f w ≡ g v = cc in
    (w, refl, heads ∙ ap g same)
same_at f g (w ∷ xs) (v ∷ ys) e (suc i) y at = let tails : map f xs ≡ map g ys = cc in same_at f g xs ys tails i y at

module _ (plan : Layout) (is_plan : IsPlan plan) (script : Script) (ks : List Bounds) (ts : List Source) (are : AreSources plan script ks ts) where
  -- a source whose bit is in the pattern asks
  asks : (p i : ℕ) (t : Source) → slice_get ts i ≡ Some t → IsSet p t.bit → (v : Chosen) × IsAsked (context plan script) script.services p v × (v.bit ≡ t.bit)
  asks p i t at set =
      let h = same_at (service_bit (context plan script)) (λ u. Some u.bit) script.services ts are.bits i t at in
      (record { number = i; bit = t.bit; service = h.0 }, record { numbered = h.1; bit = h.2; in_pattern = set }, refl)

  lowest_of : (p : ℕ) (o : Option Chosen) → service_for (context plan script) p script.services ≡ o → CallsLowest ts tt (demanded p (option_map (λ v. v.number) o))
  lowest_of p None e =
      let h = demands_call_services plan is_plan script p in
      let none = (h.none.0) e in
      λ i t at set. let a = asks p i t at set in none a.0 a.1
  lowest_of p (Some v) e =
      let h = demands_call_services plan is_plan script p in
      let called : IsCalled (context plan script) script.services p v = (h.called v).0 e in
      let there = same_at (λ t. Some t.bit) (service_bit (context plan script)) ts script.services (sym are.bits) v.number v.service called.asked.numbered in
      let bit : there.0.bit ≡ v.bit = same_Some there.0.bit v.bit (there.2 ∙ called.asked.bit) in
      record {
        source = there.0;
        numbered = there.1;
        asked = subst (IsSet p) (sym bit) called.asked.in_pattern;
        least = λ i t at set.
            let a = asks p i t at set in
            let less = called.least a.0 a.1 in
            let same = a.2 in
            omega (arith, less, same, bit);
      }

  AnyTime : Unit {0} → State → Type 0
  AnyTime u s = Unit {0}

  -- a service has no operation in it
  stepwise : IsStepwise no_count (CallsLowest ts) AnyTime
  unfolding AnyTime
  stepwise = record {
    on_step = λ x s i. tt;
    on_store = λ x env regs s i. tt;
    on_word = λ x w s i. tt;
    on_cycle = λ x at f d r a rest s e i. (tt, tt);
    on_lock = λ x c a rest s e free i. (tt, tt);
    on_release = λ x c s i. (tt, tt);
  }

  in_service : (u : Unit {0}) (v : Service) (b : Branch) (rest : List Answer) → Meets no_count (CallsLowest ts) AnyStop Any u (service_meaning (context plan script) 65535 v b rest)
  unfolding AnyTime
  in_service u v b rest =
      meets_mapped no_count (CallsLowest ts) (Still no_count (CallsLowest ts) AnyTime) (CallsLowest ts) AnyStop AnyTime Any (λ x p h. h) (λ x w s h. tt) (λ x s h. tt) u (service_meaning (context plan script) 65535 v b rest)
      (script_keeps no_count (CallsLowest ts) AnyTime stepwise plan script v.body 65535 u (fresh b rest) tt)

  in_rounds : (i : ℕ) (b : Branch) (answers : List Answer) → Meets no_count (CallsLowest ts) AnyStop Any nothing (rounds i (context plan script) 65535 script.services b answers)
  in_rounds zero b answers = tt
  in_rounds (suc i) b [] = tt
  in_rounds (suc i) b (a ∷ rest) =
      (lowest_of (pattern_of plan b a.gl) (service_for (context plan script) (pattern_of plan b a.gl) script.services) refl, go (service_for (context plan script) (pattern_of plan b a.gl) script.services) (in_rounds i))
    where
      go : (o : Option Chosen) → ((b' : Branch) (l : List Answer) → Meets no_count (CallsLowest ts) AnyStop Any nothing (rounds i (context plan script) 65535 script.services b' l))
          → Meets no_count (CallsLowest ts) AnyStop Any nothing (serve (context plan script) 65535 o b rest (rounds i (context plan script) 65535 script.services))
      go None ih = ih b rest
      go (Some v) ih =
          then_meets no_count (CallsLowest ts) AnyStop Any Any nothing (service_meaning (context plan script) 65535 v.service b rest)
          (λ s. does (event_left (event_of v.bit s)) (rounds i (context plan script) 65535 script.services s.branch s.answers))
          (in_service nothing v.service b rest) (λ u s h. (tt, ih s.branch s.answers))

pub lowest_are_called : LowestAreCalled
unfolding LowestAreCalled
lowest_are_called plan is_plan script ks ts are answers = in_rounds plan is_plan script ks ts are (length answers) start answers
