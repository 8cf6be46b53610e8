-- Each look-at-me is answered in time, and a service has ended when its module calls again.
use Rattle.std.proofs.Common.{◌≡◌, ℕ, zero, suc, ◌+◌, ◌-◌, ◌*◌, ◌<◌, ◌≤◌, List, Option, Some, None, Bool, true, false, refl, sym, ◌∙◌, ap, subst, arith}
use Rattle.std.proofs.lemmas.Nat.{le-div}
use Rattle.std.proofs.lemmas.Bool.{and_from, le-leb, leb-true, leb-false, ltb-true, ltb-false, true≢false}
use Rattle.std.proofs.lemmas.Option.{same_Some}
use Rattle.std.specs.Prelude.{nat_eq, nat_le, nat_lt, slice_get, if◌then◌else◌, option_map}
use Rattle.camac_branch.specs.Branch.{IsSet, Answer}
use Rattle.camac_branch.specs.Address.{Address}
use Rattle.camac_model.specs.Behaviour.{Piece, demanded, cycled, lock_taken, lock_released, event_left, Behaviour, does, ends, stops, Stop}
use Rattle.camac_model.specs.State.{State}
use Rattle.camac_model.specs.Fine.{Bounds}
use Rattle.camac_model.specs.Moments.{Meets, Any, AnyStop}
use Rattle.camac_model.specs.Headline.{no_count, nothing, Moment, Progress, first_moment, moment_after, InService, StepsFit, CostStays}
use Rattle.camac_model.specs.Run.{the_run}
use Rattle.camac_response_times.specs.declared.source.Source.{Source}
use Rattle.camac_response_times.specs.Response.{calls_within, period, is_up_to, stretch_wants, IsEnough, StartsWithin, StartsBy}
use Rattle.camac_response_times.specs.Rounds.{response, most_rounds}
use Rattle.camac_response_times.proofs.Rounds.{response_starts}
use Rattle.camac_response.specs.Stretch.{no_stretch, one_more, called, calling, AnswersBy, Stretch}
use Rattle.camac_response.specs.Modules.{Raises, Pauses, IsApart, AreApart, Clock, at_start, paused, clock_at, ticked, clock_after, WaitsBy, HasWaited, stretch_at, IsOnce}
use Rattle.camac_response.specs.Laws.{CallsLowest, IsLowest, LowestAreCalled, LookAtMesAreAnswered}
use Rattle.camac_response.specs.Lams.{Clears, Moods, Lams, book_after, ServesWell, Wires, first_wires, wires_after, AtCycle, EndsByRate, RaisesAfter, lams_of}
use Rattle.camac_response.proofs.Answers.{one_more_same, one_more_at, AreCovered, covered, Timed, timed_after, timed_first, piece_in_time, pending_now, IsPending}
use Rattle.camac_response.proofs.Lams.{lowest_are_called, IsRaised, AreRaised, RaisedAreAnswered, Agrees, agrees_first, RaisesLate, Once, Shown, Alone}
use Rattle.camac_response.proofs.Lams as lines

-- Each look-at-me is answered in time, where the modules keep to their rates.

not_less : (a b : ℕ) → (a < b → ⊥) → b ≤ a
not_less a b h = go (nat_lt a b) refl
  where
    go : (l : Bool) → nat_lt a b ≡ l → b ≤ a
    go true e = absurd (h (ltb-true a b e))
    go false e = let le = ltb-false a b e in omega (arith, le)

-- so many calls later
apart_by : (t : ℕ) (raised : ℕ → ℕ) → ((k : ℕ) → raised k + t ≤ raised (k + 1)) → (k n : ℕ) → raised k + n * t ≤ raised (k + n)
apart_by t raised h k zero = let same : k + 0 ≡ k = omega arith in subst (λ j. raised k + 0 * t ≤ raised j) (sym same) (omega arith)
apart_by t raised h k (suc n) =
    let before = apart_by t raised h k n in
    let one = h (k + n) in
    let next : k + n + 1 ≡ k + suc n = omega arith in
    subst (λ j. raised k + suc n * t ≤ raised j) next (omega (arith, before, one))

-- the n-th call after the first of a stretch comes n periods after its begin, or more
raised_by : (every : Option ℕ) (raised : ℕ → ℕ) (base k n : ℕ) → IsApart every raised → (every ≡ None → n ≡ 0) → base ≤ raised k → base + n * period every ≤ raised (k + n)
raised_by None raised base k n apart once from =
    let none : n ≡ 0 = once refl in
    let same : k ≡ k + n = omega (arith, none) in
    subst (λ j. base + n * 0 ≤ raised j) same (omega (arith, from))
raised_by (Some t) raised base k n apart once from = let by = apart_by t raised apart.1 k n in omega (arith, by, from)

-- so it comes at its rate
at_rate : (every : Option ℕ) (raised : ℕ → ℕ) (base k n elapsed : ℕ) → IsApart every raised → (every ≡ None → n ≡ 0) → base ≤ raised k → raised (k + n) ≤ base + elapsed → n + 1 ≤ calls_within every elapsed
at_rate None raised base k n elapsed apart once from to = let none : n ≡ 0 = once refl in omega (arith, none)
at_rate (Some t) raised base k n elapsed apart once from to =
    let by = raised_by (Some t) raised base k n apart once from in
    let room : n * t ≤ elapsed = omega (arith, by, to) in
    let fits = le-div n elapsed t apart.0 room in
    omega (arith, fits)

module _ (ts : List Source) (s : ℕ) (source : Source) (its : slice_get ts s ≡ Some source) (start : ℕ) (raises : Raises) (apart : AreApart ts source.bit raises) where
  -- the stretch has begun `base` cycles after the start of the run, with so many calls before it
  pub record IsBegun (y : Clock) : Type 0 where
    pub base : ℕ
    pub origin : ℕ → ℕ
    pub ticks : y.time ≡ base + y.stretch.elapsed
    pub counted : (i : ℕ) (t : Source) → slice_get ts i ≡ Some t → is_up_to source.bit t ≡ true → y.calls i ≡ origin i + y.stretch.calls i
    pub from : (i : ℕ) (t : Source) → slice_get ts i ≡ Some t → is_up_to source.bit t ≡ true → base ≤ raises i (origin i)
    pub once : (i : ℕ) (t : Source) → slice_get ts i ≡ Some t → is_up_to source.bit t ≡ true → t.every ≡ None → y.stretch.calls i ≤ 1
    pub kept : y.stretch.kept ≡ true
    pub serves : y.stretch.serving ≡ Some s → 1 ≤ y.stretch.calls s

  up_itself : is_up_to source.bit source ≡ true
  up_itself = le-leb source.bit source.bit (omega arith)

  -- outside of a stretch
  pub begins : (time operations : ℕ) (calls : ℕ → ℕ) (v : Option ℕ) → ((i : ℕ) (t : Source) → slice_get ts i ≡ Some t → is_up_to source.bit t ≡ true → time ≤ raises i (calls i)) → (v ≡ Some s → ⊥)
      → IsBegun (record { time = time; operations = operations; calls = calls; stretch = no_stretch v })
  begins time operations calls v from other = record {
    base = time;
    origin = calls;
    ticks = omega arith;
    counted = λ i t at up. omega arith;
    from = from;
    once = λ i t at up none. omega arith;
    kept = refl;
    serves = λ e. absurd (other e);
  }

  one_called : (d : ℕ) (y : Clock) (p i : ℕ) (t : Source) → IsBegun y → IsRaised ts raises source.bit d y p (Some i) → slice_get ts i ≡ Some t → is_up_to source.bit t ≡ true
      → IsBegun (record { time = y.time; operations = y.operations + 1; calls = one_more i y.calls; stretch = called i t y.stretch })
  one_called d y p i t h r at up = record {
    base = h.base;
    origin = h.origin;
    ticks = let ticks = h.ticks in omega (arith, ticks);
    counted = λ j u at_j up_j. both j (h.counted j u at_j up_j);
    from = h.from;
    once = λ j u at_j up_j none.
        one_more_at i y.stretch.calls j (λ n. n ≤ 1)
        (λ e. let first = r.once u (ap (slice_get ts) (sym e) ∙ at_j) up_j none in let same : y.stretch.calls j ≡ y.stretch.calls i = ap y.stretch.calls e in omega (arith, first, same))
        (h.once j u at_j up_j none);
    kept = and_from y.stretch.kept (nat_le (y.stretch.calls i + 1) (calls_within t.every y.stretch.elapsed)) h.kept (le-leb (y.stretch.calls i + 1) (calls_within t.every y.stretch.elapsed) rate);
    serves = λ e.
        let own : i ≡ s = same_Some i s e in
        let one = one_more_same i y.stretch.calls in
        subst (λ j. 1 ≤ one_more i y.stretch.calls j) own (omega (arith, one));
  }
    where
      both : (j : ℕ) → y.calls j ≡ h.origin j + y.stretch.calls j → one_more i y.calls j ≡ h.origin j + one_more i y.stretch.calls j
      both j e = go (nat_eq j i)
        where
          go : (b : Bool) → (if b then y.calls j + 1 else y.calls j) ≡ h.origin j + (if b then y.stretch.calls j + 1 else y.stretch.calls j)
          go true = omega (arith, e)
          go false = e

      rate : y.stretch.calls i + 1 ≤ calls_within t.every y.stretch.elapsed
      rate =
          let count = h.counted i t at up in
          let ticks = h.ticks in
          let raised : raises i (y.calls i) ≤ y.time = r.raised i t refl at up in
          let raised' : raises i (h.origin i + y.stretch.calls i) ≤ y.time = subst (λ j. raises i j ≤ y.time) count raised in
          at_rate t.every (raises i) h.base (h.origin i) (y.stretch.calls i) y.stretch.elapsed (apart i t at up) (r.once t at up) (h.from i t at up) (omega (arith, raised', ticks))

  none_passed : (d : ℕ) (y : Clock) (p : ℕ) (v : Option ℕ) → IsRaised ts raises source.bit d y p v → (i : ℕ) (t : Source) → slice_get ts i ≡ Some t → is_up_to source.bit t ≡ true → (IsSet p t.bit → ⊥) → y.time ≤ raises i (y.calls i)
  none_passed d y p v r i t at up not = not_less (raises i (y.calls i)) y.time (λ l. not (r.stays i t at up l))

  one_demanded : (d : ℕ) (y : Clock) (p i : ℕ) → IsBegun y → IsRaised ts raises source.bit d y p (Some i) → IsLowest ts p i → (o : Option Source) → slice_get ts i ≡ o
      → IsBegun (record { time = y.time; operations = y.operations + 1; calls = one_more i y.calls; stretch = calling source.bit i o y.stretch })
  one_demanded d y p i h r lowest None e = let there = lowest.numbered in absurd (cc)
  one_demanded d y p i h r lowest (Some t) e = go (is_up_to source.bit t) refl
    where
      go : (b : Bool) → is_up_to source.bit t ≡ b → IsBegun (record { time = y.time; operations = y.operations + 1; calls = one_more i y.calls; stretch = if b then called i t y.stretch else no_stretch (Some i) })
      go true up = one_called d y p i t h r e up
      go false up =
          begins y.time (y.operations + 1) (one_more i y.calls) (Some i)
          (λ j u at_j up_j.
          one_more_at i y.calls j (λ n. y.time ≤ raises j n)
          (λ same. let one : t ≡ u = same_Some t u (sym e ∙ ap (slice_get ts) (sym same) ∙ at_j) in absurd (true≢false (sym up_j ∙ ap (is_up_to source.bit) (sym one) ∙ up)))
          (none_passed d y p (Some i) r j u at_j up_j (λ set.
          let one : lowest.source ≡ t = same_Some lowest.source t (sym lowest.numbered ∙ e) in
          let bit : lowest.source.bit ≡ t.bit = ap (λ z. z.bit) one in
          let less = lowest.least j u at_j set in
          let low = leb-true u.bit source.bit up_j in
          let high = leb-false t.bit source.bit up in
          absurd (omega (arith, bit, less, low, high)))))
          (λ same.
          let own : i ≡ s = same_Some i s same in
          let one : t ≡ source = same_Some t source (sym e ∙ ap (slice_get ts) own ∙ its) in
          true≢false (sym up_itself ∙ ap (is_up_to source.bit) (sym one) ∙ up))

  longer_begun : (y : Clock) (d : ℕ) → IsBegun y → IsBegun (record { time = y.time + d; operations = y.operations; calls = y.calls; stretch = record y.stretch { elapsed = y.stretch.elapsed + d } })
  longer_begun y d h = record {
    base = h.base;
    origin = h.origin;
    ticks = let ticks = h.ticks in omega (arith, ticks);
    counted = h.counted;
    from = h.from;
    once = h.once;
    kept = h.kept;
    serves = h.serves;
  }

  -- a pause begins anew
  begun_paused : (d : ℕ) (y : Clock) → ((i : ℕ) (t : Source) → slice_get ts i ≡ Some t → is_up_to source.bit t ≡ true → 1 ≤ d → y.time + d ≤ raises i (y.calls i)) → IsBegun y → IsBegun (paused d y)
  begun_paused zero y quiet h = record {
    base = h.base;
    origin = h.origin;
    ticks = let ticks = h.ticks in omega (arith, ticks);
    counted = h.counted;
    from = h.from;
    once = h.once;
    kept = h.kept;
    serves = h.serves;
  }
  begun_paused (suc d) y quiet h =
      begins (y.time + suc d) y.operations y.calls None (λ i t at up. quiet i t at up (omega arith)) (λ e. absurd (cc))

  -- what is asked of a piece at this clock
  abbrev AskedOf : (d : ℕ) → Clock → Piece → Type 0
  AskedOf d y (demanded p v) = IsRaised ts raises source.bit d y p v
  AskedOf d y (cycled at f e q w) = Unit {0}
  AskedOf d y (lock_taken c w) = Unit {0}
  AskedOf d y (lock_released c) = Unit {0}
  AskedOf d y (event_left e) = Unit {0}

  begun_after : (d : ℕ) (y : Clock) (p : Piece) → IsBegun y → CallsLowest ts nothing p → AskedOf d y p → IsBegun (ticked ts source.bit y p)
  begun_after d y (demanded p None) h lowest r = begins y.time (y.operations + 1) y.calls None (λ i t at up. none_passed d y p None r i t at up (lowest i t at)) (λ e. absurd (cc))
  begun_after d y (demanded p (Some i)) h lowest r = one_demanded d y p i h r lowest (slice_get ts i) refl
  begun_after d y (cycled a f e q w) h lowest r = longer_begun y (1 + w) h
  begun_after d y (lock_taken c w) h lowest r = longer_begun y w h
  begun_after d y (lock_released c) h lowest r =
      record { base = h.base; origin = h.origin; ticks = let ticks = h.ticks in omega (arith, ticks); counted = h.counted; from = h.from; once = h.once; kept = h.kept; serves = h.serves }
  begun_after d y (event_left e) h lowest r =
      record { base = h.base; origin = h.origin; ticks = let ticks = h.ticks in omega (arith, ticks); counted = h.counted; from = h.from; once = h.once; kept = h.kept; serves = λ b. absurd (cc) }

  -- the call is in time
  call_waits : (d : ℕ) (y : Clock) (p i : ℕ) → IsBegun y → IsRaised ts raises source.bit d y p (Some i) → IsBegun (ticked ts source.bit y (demanded p (Some i)))
      → AnswersBy ts s source start y.stretch (demanded p (Some i)) → Some i ≡ Some s → y.time ≤ raises s (y.calls s) + start
  call_waits d y p i h r after answers e =
      let own : i ≡ s = same_Some i s e in
      let is : calling source.bit i (slice_get ts i) y.stretch ≡ called s source y.stretch =
      ap (λ j. calling source.bit j (slice_get ts j) y.stretch) own ∙ ap (λ t. calling source.bit s t y.stretch) its ∙ ap (λ b. if b then called s source y.stretch else no_stretch (Some s)) up_itself in
      let in_time = (answers e).within after.kept in
      let calls : (calling source.bit i (slice_get ts i) y.stretch).calls s ≡ y.stretch.calls s + 1 = ap (λ z. z.calls s) is ∙ one_more_same s y.stretch.calls in
      let earlier : (calling source.bit i (slice_get ts i) y.stretch).calls s - 1 ≡ y.stretch.calls s = omega (arith, calls) in
      let elapsed : (calling source.bit i (slice_get ts i) y.stretch).elapsed ≡ y.stretch.elapsed = ap (λ z. z.elapsed) is in
      let most : (calling source.bit i (slice_get ts i) y.stretch).elapsed ≤ y.stretch.calls s * period source.every + start = subst (λ n. (calling source.bit i (slice_get ts i) y.stretch).elapsed ≤ n * period source.every + start) earlier in_time in
      let first : source.every ≡ None → y.stretch.calls s ≡ 0 = λ none. subst (λ j. y.stretch.calls j ≡ 0) own (r.once source (ap (slice_get ts) own ∙ its) up_itself none) in
      let raised = raised_by source.every (raises s) h.base (h.origin s) (y.stretch.calls s) (apart s source its up_itself) first (h.from s source its up_itself) in
      let count = h.counted s source its up_itself in
      let raised' : h.base + y.stretch.calls s * period source.every ≤ raises s (y.calls s) = subst (λ j. h.base + y.stretch.calls s * period source.every ≤ raises s j) (sym count) raised in
      let ticks = h.ticks in
      omega (arith, elapsed, most, raised', ticks)

  -- a moment of the service is in time
  service_waits : (y : Clock) (d : ℕ) → IsBegun y → y.stretch.serving ≡ Some s → y.stretch.elapsed + d ≤ (y.stretch.calls s - 1) * period source.every + (start + source.cycles)
      → y.time + d ≤ raises s (y.calls s - 1) + (start + source.cycles)
  service_waits y d h serving in_time =
      let pos = h.serves serving in
      let first : source.every ≡ None → y.stretch.calls s - 1 ≡ 0 = λ none. (let one = h.once s source its up_itself none in omega (arith, one)) in
      let raised = raised_by source.every (raises s) h.base (h.origin s) (y.stretch.calls s - 1) (apart s source its up_itself) first (h.from s source its up_itself) in
      let count = h.counted s source its up_itself in
      let last : h.origin s + (y.stretch.calls s - 1) ≡ y.calls s - 1 = omega (arith, count, pos) in
      let raised' : h.base + (y.stretch.calls s - 1) * period source.every ≤ raises s (y.calls s - 1) = subst (λ j. h.base + (y.stretch.calls s - 1) * period source.every ≤ raises s j) last raised in
      let ticks = h.ticks in
      omega (arith, in_time, raised', ticks)

  waits_at : (d : ℕ) (y : Clock) (p : Piece) → IsBegun y → IsBegun (ticked ts source.bit y p) → AskedOf d y p → AnswersBy ts s source start y.stretch p → WaitsBy raises s source start y p
  waits_at d y (demanded p None) h after r a = λ e. absurd (cc)
  waits_at d y (demanded p (Some i)) h after r a = call_waits d y p i h r after a
  waits_at d y (cycled at f e q w) h after r a = λ e. service_waits y (1 + w) h e ((a e).within h.kept)
  waits_at d y (lock_taken c w) h after r a = λ e. service_waits y w h e ((a e).within h.kept)
  waits_at d y (lock_released c) h after r a =
      λ e. let now = (a e).within h.kept in let most = service_waits y 0 h e (omega (arith, now)) in omega (arith, most)
  waits_at d y (event_left v) h after r a =
      λ e. let now = (a e).within h.kept in let most = service_waits y 0 h e (omega (arith, now)) in omega (arith, most)

  pub begun_first : IsBegun (record { time = 0; operations = 0; calls = λ i. 0; stretch = no_stretch None })
  begun_first = begins 0 0 (λ i. 0) None (λ i t at up. omega arith) (λ e. absurd (cc))

  -- as long as the next look-at-me is not answered, it has not waited too long: one that can have no call in the longest stretch is not raised yet
  pends : (longest : ℕ) (y : Clock) → IsBegun y → IsPending s source longest start y.stretch → HasWaited raises s source start y
  pends longest y h p first passed = go source.every refl
    where
      raised : h.base + y.stretch.calls s * period source.every ≤ raises s (y.calls s)
      raised =
          let count = h.counted s source its up_itself in
          let by = raised_by source.every (raises s) h.base (h.origin s) (y.stretch.calls s) (apart s source its up_itself) first (h.from s source its up_itself) in
          subst (λ j. h.base + y.stretch.calls s * period source.every ≤ raises s j) (sym count) by

      soon : y.stretch.calls s < calls_within source.every longest → y.time ≤ raises s (y.calls s) + start
      soon few = let by = raised in let early = p.soon h.kept few in let ticks = h.ticks in omega (arith, by, early, ticks)

      late : (t : ℕ) → source.every ≡ Some t → (l : Bool) → nat_le (y.stretch.calls s * t) longest ≡ l → y.time ≤ raises s (y.calls s) + start
      late t e true l =
          let least : IsApart (Some t) (raises s) = subst (λ o. IsApart o (raises s)) e (apart s source its up_itself) in
          let fits = le-div (y.stretch.calls s) longest t least.0 (leb-true (y.stretch.calls s * t) longest l) in
          let few : y.stretch.calls s < calls_within (Some t) longest = omega (arith, fits) in
          soon (subst (λ o. y.stretch.calls s < calls_within o longest) (sym e) few)
      late t e false l =
          let by : h.base + y.stretch.calls s * t ≤ raises s (y.calls s) = subst (λ o. h.base + y.stretch.calls s * period o ≤ raises s (y.calls s)) e raised in
          let over = leb-false (y.stretch.calls s * t) longest l in
          let short = p.ended h.kept in
          let ticks = h.ticks in
          absurd (omega (arith, by, over, short, ticks, passed))

      go : (o : Option ℕ) → source.every ≡ o → y.time ≤ raises s (y.calls s) + start
      go None e = let none = first e in soon (subst (λ o. y.stretch.calls s < calls_within o longest) (sym e) (omega (arith, none)))
      go (Some t) e = late t e (nat_le (y.stretch.calls s * t) longest) refl

  -- along a run in which the costs of services stay
  module _ (ks : List Bounds) (cover : AreCovered ks ts)
      (own : (i j : ℕ) (t u : Source) → slice_get ts i ≡ Some t → slice_get ts j ≡ Some u → t.bit ≡ u.bit → i ≡ j)
      (longest : ℕ) (holds : IsEnough (stretch_wants ts source.bit) longest)
      (starts : (n : ℕ) → 1 ≤ n → n ≤ calls_within source.every longest → StartsWithin ts source n ((n - 1) * period source.every + start))
      (pauses : Pauses) where
    abbrev Known : Option Progress → Clock → Type 0
    Known o y = Timed ks ts cover own s source its longest holds o y.stretch

    -- the service in progress before a pause; there is none after it
    abbrev before_pause : ℕ → Option Progress → Option Progress
    before_pause zero o = o
    before_pause (suc d) o = None

    known_paused : (d : ℕ) (o : Option Progress) (y : Clock) → Known o y → Known (before_pause d o) (paused d y)
    known_paused zero o y t = t
    known_paused (suc d) o y t = timed_first ks ts cover own s source its longest holds

    abbrev Waited : Clock → Type 0
    Waited y = HasWaited raises s source start y

    waited : (o : Option Progress) (y : Clock) → IsBegun y → Known o y → Waited y
    waited o y h t = pends longest y h (pending_now ks ts cover own s source its longest holds start starts o y.stretch t)

    -- a piece at this clock
    on : (d : ℕ) (m : Moment) (y : Clock) (p : Piece) → IsBegun y → Known m.progress y → CostStays ks m p → CallsLowest ts nothing p → AskedOf d y p
        → WaitsBy raises s source start y p × (IsBegun (ticked ts source.bit y p) × Known (moment_after m p).progress (ticked ts source.bit y p))
    on d m y p h t c l r =
        let after = begun_after d y p h l r in
        let known = timed_after ks ts cover own s source its longest holds m y.stretch p t c in
        let answers : AnswersBy ts s source start y.stretch p = piece_in_time ks ts cover own s source its longest holds start starts m y.stretch p t known c in
        (waits_at d y p h after r answers, (after, known))

    -- a piece of a run, after the pause before it
    pub step : (m : Moment) (y : Clock) (p : Piece) → IsBegun y → Known m.progress y → CostStays ks m p → CallsLowest ts nothing p → AreRaised ts raises pauses source.bit y p
        → WaitsBy raises s source start (clock_at pauses y p) p × (IsBegun (clock_after ts pauses source.bit y p) × Known (moment_after m p).progress (clock_after ts pauses source.bit y p))
    step m y (demanded p v) h t c l r =
        let d : ℕ = pauses y.operations in
        on d (record m { progress = before_pause d m.progress }) (paused d y) (demanded p v) (begun_paused d y r.quiet h) (known_paused d m.progress y t) c l r
    step m y (cycled a f d q w) h t c l r = on 0 m y (cycled a f d q w) h t c l tt
    step m y (lock_taken k w) h t c l r = on 0 m y (lock_taken k w) h t c l tt
    step m y (lock_released k) h t c l r = on 0 m y (lock_released k) h t c l tt
    step m y (event_left e) h t c l r = on 0 m y (event_left e) h t c l tt

    walk : {A : Type 0} (P : Moment → Stop → State → Type 0) (Q : Moment → A → Type 0) (m : Moment) (y : Clock) (b : Behaviour A) → IsBegun y → Known m.progress y
        → Meets moment_after (CostStays ks) P Q m b
        → Meets no_count (CallsLowest ts) AnyStop Any nothing b
        → Meets (clock_after ts pauses source.bit) (AreRaised ts raises pauses source.bit) AnyStop Any y b
        → Meets (clock_after ts pauses source.bit) (λ z p. Waited z × WaitsBy raises s source start (clock_at pauses z p) p) (λ z w t. Waited z) (λ z u. Waited z) y b
    walk P Q m y (does p b) h t c l r =
        let n = step m y p h t c.0 l.0 r.0 in
        ((waited m.progress y h t, n.0), walk P Q (moment_after m p) (clock_after ts pauses source.bit y p) b n.1.0 n.1.1 c.1 l.1 r.1)
    walk P Q m y (ends a) h t c l r = waited m.progress y h t
    walk P Q m y (stops w z) h t c l r = waited m.progress y h t

pub raised_are_answered : RaisedAreAnswered
unfolding LowestAreCalled
raised_are_answered plan is_plan script ks safe ts are s source its start by raises apart pauses answers modules =
    let cover : AreCovered ks ts = covered ks ts are.cycles in
    walk ts s source its start raises apart ks cover are.apart by.longest by.enough by.starts pauses
    (λ m w z. InService ks m (StepsFit z)) Any (first_moment answers) at_start (the_run plan script answers)
    (begun_first ts s source its start raises apart) (timed_first ks ts cover are.apart s source its by.longest by.enough)
    (safe.cost_within answers) (lowest_are_called plan is_plan script ks ts are answers) modules

-- A service whose E is at most its T has ended when its module calls again: so modules raise a look-at-me again only after its service has cleared it.

-- a service ends by its rate, or it does not
by_rate : (ts : List Source) (t : Source) (P : Type 0) → (EndsByRate ts t → P) → ((EndsByRate ts t → ⊥) → P) → P
by_rate ts t P early late = go (response ts t) refl t.every refl
  where
    go : (o : Option ℕ) → response ts t ≡ o → (e : Option ℕ) → t.every ≡ e → P
    go None found e given = late (λ h. let none = sym h.found ∙ found in absurd (cc))
    go (Some start) found None given = late (λ h. let none = sym h.given ∙ given in absurd (cc))
    go (Some start) found (Some rate) given = compared (nat_le (start + t.cycles) rate) refl
      where
        compared : (b : Bool) → nat_le (start + t.cycles) rate ≡ b → P
        compared true e = early (record { start = start; rate = rate; found = found; given = given; less = leb-true (start + t.cycles) rate e })
        compared false e =
            late (λ h.
            let same_start : h.start ≡ start = same_Some h.start start (sym h.found ∙ found) in
            let same_rate : h.rate ≡ rate = same_Some h.rate rate (sym h.given ∙ given) in
            let over = leb-false (start + t.cycles) rate e in
            let less = h.less in
            absurd (omega (arith, same_start, same_rate, over, less)))

-- A stretch of a lower bit lies in one of a greater.
abbrev pub LiesIn : Stretch → Stretch → Type 0
LiesIn z x = (j : ℕ) → z.calls j ≤ x.calls j

more_calls : (i : ℕ) (a b : ℕ → ℕ) (j : ℕ) → a j ≤ b j → one_more i a j ≤ one_more i b j
more_calls i a b j h = go (nat_eq j i)
  where
    go : (c : Bool) → (if c then a j + 1 else a j) ≤ (if c then b j + 1 else b j)
    go true = omega (arith, h)
    go false = h

lies_paused : (d : ℕ) (z x : Stretch) → LiesIn z x → LiesIn (stretch_at d z) (stretch_at d x)
lies_paused zero z x h = h
lies_paused (suc d) z x h = λ j. omega arith

-- this clock with the stretch of a lower bit
abbrev own_clock : Clock → Stretch → Clock
own_clock y z = record y { stretch = z }

module _ (ts : List Source) (pauses : Pauses) (g : ℕ) (t : Source) (up : is_up_to g t ≡ true) where
  pub up_more : (u : Source) → is_up_to t.bit u ≡ true → is_up_to g u ≡ true
  up_more u below =
      let first = leb-true t.bit g up in
      let second = leb-true u.bit t.bit below in
      le-leb u.bit g (omega (arith, first, second))

  lies_called : (i : ℕ) (o : Option Source) (z x : Stretch) → LiesIn z x → LiesIn (calling t.bit i o z) (calling g i o x)
  lies_called i None z x h j = omega arith
  lies_called i (Some u) z x h j = go (is_up_to t.bit u) refl
    where
      go : (b : Bool) → is_up_to t.bit u ≡ b → (if b then called i u z else no_stretch (Some i)).calls j ≤ (if is_up_to g u then called i u x else no_stretch (Some i)).calls j
      go true below = subst (λ c. one_more i z.calls j ≤ (if c then called i u x else no_stretch (Some i)).calls j) (sym (up_more u below)) (more_calls i z.calls x.calls j (h j))
      go false above = omega arith

  same_clock : (y : Clock) (z : Stretch) (p : Piece) → clock_after ts pauses t.bit (own_clock y z) p ≡ own_clock (clock_after ts pauses g y p) (clock_after ts pauses t.bit (own_clock y z) p).stretch
  same_clock y z (demanded p v) = refl
  same_clock y z (cycled at f d r w) = refl
  same_clock y z (lock_taken c w) = refl
  same_clock y z (lock_released c) = refl
  same_clock y z (event_left e) = refl

  lies_after : (y : Clock) (z : Stretch) (p : Piece) → LiesIn z y.stretch → LiesIn (clock_after ts pauses t.bit (own_clock y z) p).stretch (clock_after ts pauses g y p).stretch
  lies_after y z (demanded p None) h = λ j. omega arith
  lies_after y z (demanded p (Some i)) h =
      let d : ℕ = pauses y.operations in
      lies_called i (slice_get ts i) (stretch_at d z) (stretch_at d y.stretch) (lies_paused d z y.stretch h)
  lies_after y z (cycled at f d r w) h = h
  lies_after y z (lock_taken c w) h = h
  lies_after y z (lock_released c) h = h
  lies_after y z (event_left e) h = h

  once_below : (z x : Stretch) (v : Option ℕ) → LiesIn z x → IsOnce ts g x v → IsOnce ts t.bit z v
  once_below z x None h once = tt
  once_below z x (Some i) h once = λ u at below none. let most = h i in let none_yet = once u at (up_more u below) none in omega (arith, most, none_yet)

  raised_below : (raises : Raises) (y : Clock) (z : Stretch) (p : Piece) → LiesIn z y.stretch → AreRaised ts raises pauses g y p → AreRaised ts raises pauses t.bit (own_clock y z) p
  raised_below raises y z (demanded p v) h r =
      let d : ℕ = pauses y.operations in
      record {
        quiet = λ i u at below. r.quiet i u at (up_more u below);
        raised = λ i u e at below. r.raised i u e at (up_more u below);
        stays = λ i u at below. r.stays i u at (up_more u below);
        once = once_below (stretch_at d z) (stretch_at d y.stretch) v (lies_paused d z y.stretch h) r.once;
      }
  raised_below raises y z (cycled at f d a w) h r = tt
  raised_below raises y z (lock_taken c w) h r = tt
  raised_below raises y z (lock_released c) h r = tt
  raised_below raises y z (event_left e) h r = tt

module _ (ts : List Source) (lams : Lams) (by_plan : Clears) (moods : Moods) (raises : Raises) (pauses : Pauses) (g : ℕ) (apart : AreApart ts g raises)
    (ks : List Bounds) (cover : AreCovered ks ts) (own : (i j : ℕ) (t u : Source) → slice_get ts i ≡ Some t → slice_get ts j ≡ Some u → t.bit ≡ u.bit → i ≡ j) where
  abbrev after : Wires → Piece → Wires
  after x p = wires_after ts lams by_plan moods raises pauses g x p

  -- a service that ends by its rate, by the clock of its own bit
  module _ (i : ℕ) (t : Source) (its : slice_get ts i ≡ Some t) (up : is_up_to g t ≡ true) (fits : EndsByRate ts t) where
    abbrev by : StartsBy ts t fits.start
    by = response_starts ts t most_rounds fits.start fits.found

    abbrev apart_below : AreApart ts t.bit raises
    apart_below j u at below = apart j u at (up_more ts pauses g t up u below)

    pub record Follows (m : Moment) (x : Wires) : Type 0 where
      pub stretch : Stretch
      pub begun : IsBegun ts i t its fits.start raises apart_below (own_clock x.clock stretch)
      pub known : Timed ks ts cover own i t its by.longest by.enough m.progress stretch
      pub lies : LiesIn stretch x.clock.stretch
      pub serves : (j : ℕ) → stretch.serving ≡ Some j → x.book.called ≡ Some j

    abbrev own_after : (m : Moment) (x : Wires) → Piece → Follows m x → Clock
    own_after m x p h = clock_after ts pauses t.bit (own_clock x.clock h.stretch) p

    -- a piece, by that clock
    step_again : (m : Moment) (x : Wires) (p : Piece) (h : Follows m x) → CostStays ks m p → CallsLowest ts nothing p → AreRaised ts raises pauses t.bit (own_clock x.clock h.stretch) p
        → WaitsBy raises i t fits.start (clock_at pauses (own_clock x.clock h.stretch) p) p
        × (IsBegun ts i t its fits.start raises apart_below (own_after m x p h)
        × Timed ks ts cover own i t its by.longest by.enough (moment_after m p).progress (own_after m x p h).stretch)
    step_again m x p h c l r =
        step ts i t its fits.start raises apart_below ks cover own by.longest by.enough by.starts pauses m (own_clock x.clock h.stretch) p h.begun h.known c l r

    serves_after : (m : Moment) (x : Wires) (p : Piece) (h : Follows m x) → (own_after m x p h).stretch.serving ≡ option_map (λ q. q.service) (moment_after m p).progress
        → (j : ℕ) → (own_after m x p h).stretch.serving ≡ Some j → (after x p).book.called ≡ Some j
    serves_after m x (demanded p None) h same j e = absurd (cc)
    serves_after m x (demanded p (Some k)) h same j e = sym same ∙ e
    serves_after m x (cycled at f d r w) h same j e = h.serves j e
    serves_after m x (lock_taken k w) h same j e = h.serves j e
    serves_after m x (lock_released k) h same j e = h.serves j e
    serves_after m x (event_left v) h same j e = absurd (cc)

    follows_after : (m : Moment) (x : Wires) (p : Piece) → Follows m x → CostStays ks m p → CallsLowest ts nothing p → AreRaised ts raises pauses g x.clock p → Follows (moment_after m p) (after x p)
    follows_after m x p h c l r =
        let n = step_again m x p h c l (raised_below ts pauses g t up raises x.clock h.stretch p h.lies r) in
        record {
          stretch = (own_after m x p h).stretch;
          begun = subst (IsBegun ts i t its fits.start raises apart_below) (same_clock ts pauses g t up x.clock h.stretch p) n.1.0;
          known = n.1.1;
          lies = lies_after ts pauses g t up x.clock h.stretch p h.lies;
          serves = serves_after m x p h n.1.1.same;
        }

    follows_first : (answers : List Answer) → Follows (first_moment answers) first_wires
    follows_first answers = record {
      stretch = no_stretch None;
      begun = begun_first ts i t its fits.start raises apart_below;
      known = timed_first ks ts cover own i t its by.longest by.enough;
      lies = λ j. omega arith;
      serves = λ j e. absurd (cc);
    }

    -- it has ended when its module calls again
    abbrev Ended : Wires → Address → (function wait : ℕ) → Type 0
    Ended x at f w = x.book.called ≡ Some i → x.clock.time + (1 + w) ≤ raises i (x.clock.calls i)

    ended : (m : Moment) (x : Wires) (p : Piece) → Follows m x → CostStays ks m p → AtCycle Ended x p
    ended m x (demanded p v) h c = tt
    ended m x (lock_taken k w) h c = tt
    ended m x (lock_released k) h c = tt
    ended m x (event_left e) h c = tt
    ended m x (cycled at f d r w) h c =
        λ called. let n = step_again m x (cycled at f d r w) h c tt tt in
        let serving : h.stretch.serving ≡ Some c.progress.service = n.1.1.same ∙ ap (option_map (λ q. q.service)) c.is_in_progress in
        let is : c.progress.service ≡ i = same_Some c.progress.service i (sym (h.serves c.progress.service serving) ∙ called) in
        let serves : h.stretch.serving ≡ Some i = serving ∙ ap Some is in
        let soon : x.clock.time + (1 + w) ≤ raises i (x.clock.calls i - 1) + (fits.start + t.cycles) = n.0 serves in
        let rate : IsApart (Some fits.rate) (raises i) = subst (λ o. IsApart o (raises i)) fits.given (apart i t its up) in
        let later = rate.1 (x.clock.calls i - 1) in
        let some = h.begun.serves serves in
        let count = h.begun.counted i t its (le-leb t.bit t.bit (omega arith)) in
        let last : x.clock.calls i - 1 + 1 ≡ x.clock.calls i = omega (arith, some, count) in
        let later' : raises i (x.clock.calls i - 1) + fits.rate ≤ raises i (x.clock.calls i) = subst (λ k. raises i (x.clock.calls i - 1) + fits.rate ≤ raises i k) last later in
        let less = fits.less in
        omega (arith, soon, later', less)

  abbrev AllFollow : Moment → Wires → Type 0
  AllFollow m x = (i : ℕ) (t : Source) (its : slice_get ts i ≡ Some t) (up : is_up_to g t ≡ true) (fits : EndsByRate ts t) → Follows i t its up fits m x

  late_at : (m : Moment) (x : Wires) (p : Piece) → Agrees ts lams by_plan moods raises pauses g x → AllFollow m x → CostStays ks m p
      → AtCycle (RaisesAfter ts lams by_plan raises g) x p → AtCycle (RaisesLate ts lams by_plan moods raises pauses g) x p
  late_at m x (demanded p v) h all c again = tt
  late_at m x (cycled at f d r w) h all c again =
      λ i t its up called may. by_rate ts t (x.clock.time + (1 + w) ≤ raises i (x.next i))
      (λ fits. subst (λ k. x.clock.time + (1 + w) ≤ raises i k) (sym (h.next i t its up called)) (ended i t its up fits m x (cycled at f d r w) (all i t its up fits) c called))
      (λ not. again i t its up not called may)
  late_at m x (lock_taken k w) h all c again = tt
  late_at m x (lock_released k) h all c again = tt
  late_at m x (event_left e) h all c again = tt

  abbrev Each : (Wires → Piece → Type 0) → Wires → Behaviour (Unit {0}) → Type 0
  Each says x b = Meets (wires_after ts lams by_plan moods raises pauses g) says AnyStop Any x b

  walk_again : (P : Moment → Stop → State → Type 0) (Q : Moment → Unit {0} → Type 0) (m : Moment) (x : Wires) (b : Behaviour (Unit {0})) → Agrees ts lams by_plan moods raises pauses g x → AllFollow m x
      → Meets moment_after (CostStays ks) P Q m b → Meets no_count (CallsLowest ts) AnyStop Any nothing b
      → Meets (book_after lams by_plan) (ServesWell ts lams by_plan g) AnyStop Any x.book b
      → Each (Once ts lams by_plan moods raises pauses g) x b → Each (AtCycle (RaisesAfter ts lams by_plan raises g)) x b
      → Each (Shown ts lams by_plan moods raises pauses g) x b → Each (Alone ts lams by_plan moods raises pauses g) x b
      → Meets (clock_after ts pauses g) (AreRaised ts raises pauses g) AnyStop Any x.clock b
  walk_again P Q m x (does p b) h all c l care once again r quiet =
      let n = lines.step ts lams by_plan moods raises pauses g x p h l.0 care.0 once.0 (late_at m x p h all c.0 again.0) r.0 quiet.0 in (
        n.0,
        walk_again P Q (moment_after m p) (after x p) b n.1 (λ i t its up fits. follows_after i t its up fits m x p (all i t its up fits) c.0 l.0 n.0) c.1 l.1 care.1 once.1 again.1 r.1 quiet.1,
      )
  walk_again P Q m x (ends v) h all c l care once again r quiet = tt
  walk_again P Q m x (stops w v) h all c l care once again r quiet = tt

pub look_at_mes_are_answered : LookAtMesAreAnswered
unfolding LookAtMesAreAnswered LowestAreCalled
look_at_mes_are_answered plan is_plan script ks safe ts are s source its start by by_plan moods raises pauses answers care keep =
    let cover : AreCovered ks ts = covered ks ts are.cycles in
    let lams : Lams = lams_of script in
    raised_are_answered plan is_plan script ks safe ts are s source its start by raises keep.rates.every pauses answers
    (walk_again ts lams by_plan moods raises pauses source.bit keep.rates.every ks cover are.apart (λ m w z. InService ks m (StepsFit z)) Any (first_moment answers) first_wires
    (the_run plan script answers) (agrees_first ts lams by_plan moods raises pauses source.bit)
    (λ i t at up fits. follows_first ts lams by_plan moods raises pauses source.bit keep.rates.every ks cover are.apart i t at up fits answers)
    (safe.cost_within answers) (lowest_are_called plan is_plan script ks ts are answers) care keep.rates.once keep.again keep.shown keep.alone)
