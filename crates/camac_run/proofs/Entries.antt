-- The events of a run of a checked script have a spelling, and are no more than its answers.
use Rattle.std.proofs.Common.{◌≡◌, ℕ, ◌+◌, ◌<◌, ◌≤◌, ◌^◌, List, [], ◌∷◌, length, Option, Some, None, Bool, true, false, refl, ap, subst, arith}
use Rattle.std.specs.Prelude.{slice_get, min, zero, suc}
use Rattle.std.specs.List.{AllByRecursion}
use Rattle.camac_lang.specs.Tree.{Service}
use Rattle.camac_branch.specs.Plan.{Layout}
use Rattle.camac_event.specs.Spelling.{IsEvent}
use Rattle.camac_event.specs.declared.event.Version.TheVariants.{Two}
use Rattle.camac_model.specs.State.{State}
use Rattle.camac_model.specs.Behaviour.{Behaviour, does, ends, stops, Stop, Event, Piece, demanded, cycled, lock_taken, lock_released, event_left, pieces, without_x, uses}
use Rattle.camac_model.specs.Fine.{Bounds, AreWords}
use Rattle.camac_model.specs.Headline.{Moment, Progress, moment_after, InService, WordsFit, EventFits, EventCost, CostStays, IsWithinHeading, AreWithinHeadings}
use Rattle.camac_model.specs.Laws.{Usage, none_used, used_with, EventsTell}
use Rattle.camac_model.specs.Moments.{Meets}
use Rattle.camac_run.specs.Headline.{entry_of, entries_in}
use Rattle.camac_run.proofs.Bits.{BitsFit}

abbrev Run : Type 0
Run = Behaviour (Unit {0})

heading : (plan : Layout) (ks : List Bounds) (vs : List Service) (i : ℕ) (k : Bounds) → AreWithinHeadings plan ks vs → slice_get ks i ≡ Some k → (v : Service) × (slice_get vs i ≡ Some v) × IsWithinHeading plan k v
heading plan [] vs i k h e = absurd (cc)
heading plan (l ∷ ks) [] i k h e = absurd h
heading plan (l ∷ ks) (v ∷ vs) zero k h e = let same : l ≡ k = cc in (v, refl, subst (λ z. IsWithinHeading plan z v) same h.0)
heading plan (l ∷ ks) (v ∷ vs) (suc i) k h e = heading plan ks vs i k h.1 e

words_below : (ws : List ℕ) → AreWords ws → AllByRecursion (λ w. w < 2 ^ 24) ws
words_below [] h = tt
words_below (w ∷ ws) h = (h.0, words_below ws h.1)

pub record IsUsage (u : Usage) : Type 0 where
  pub at_most : u.missed ≤ u.cycles

pub no_usage : IsUsage none_used
no_usage = record { at_most = omega arith }

one_missed : (x : Bool) → without_x x ≤ 1
one_missed true = omega arith
one_missed false = omega arith

used_on : (u : Usage) (p : Piece) → IsUsage u → IsUsage (used_with u p)
used_on u (demanded p v) h = record { at_most = omega arith }
used_on u (cycled at f d r w) h =
    let one = one_missed r.x in
    let le = h.at_most in
    record { at_most = omega arith }
used_on u (lock_taken c w) h = let le = h.at_most in record { at_most = omega arith }
used_on u (lock_released c) h = h
used_on u (event_left e) h = h

module _ (plan : Layout) (ks : List Bounds) (vs : List Service) (small : plan.buffer ≤ 4096) (within : AreWithinHeadings plan ks vs)
    (numbers : (i : ℕ) (v : Service) → slice_get vs i ≡ Some v → v.cycles ≤ 4294967295) (P P' : Moment → Stop → State → Type 0) (Q Q' : Moment → Unit {0} → Type 0) where
  count_fits : (m : Moment) (words : List ℕ) → InService ks m (WordsFit words) → length words ≤ 4096
  count_fits m words h =
      let v = heading plan ks vs h.progress.service h.bounds within h.are_its in
      let most = h.holds.most in
      let words' = v.2.words in
      let buffer = v.2.buffer in
      omega arith

  cycles_fit : (m : Moment) (e : Event) → InService ks m (EventCost e) → e.cycles ≤ 4294967295
  cycles_fit m e h =
      let v = heading plan ks vs h.progress.service h.bounds within h.are_its in
      let most = h.holds.most in
      let counted = h.holds.counted in
      let cycles = v.2.cycles in
      let top = numbers h.progress.service v.0 v.1 in
      omega arith

  event_fits : (m : Moment) (u : Usage) (e : Event) → IsUsage u → InService ks m (WordsFit e.words) → InService ks m (EventCost e) → (e.cycles ≡ u.cycles) × (e.missed ≡ min 65535 u.missed) → (1 ≤ e.bit) × (e.bit ≤ 24) → IsEvent Two (entry_of e)
  event_fits m u e used words cost tells bit =
      let cycles = cycles_fit m e cost in
      let count = count_fits m e.words words in
      let le = used.at_most in
      let same = tells.0 in
      let missed = tells.1 in
      record {
        gl_low = bit.0;
        gl_high = bit.1;
        usage = omega arith;
        usage_fits = (omega arith, omega arith);
        count = count;
        words = words_below e.words words.holds.are_words;
      }

  pub entries_fit : (b : Run) (m : Moment) (u : Usage) → IsUsage u → Meets moment_after (EventFits ks) P Q m b → Meets moment_after (CostStays ks) P' Q' m b → EventsTell u (pieces b) → BitsFit (pieces b) → AllByRecursion (IsEvent Two) (entries_in b)
  entries_fit (does (demanded p v) b) m u used words cost tells bits = entries_fit b (moment_after m (demanded p v)) (used_with u (demanded p v)) (used_on u (demanded p v) used) words.1 cost.1 tells.1 bits.1
  entries_fit (does (cycled at f d r w) b) m u used words cost tells bits = entries_fit b (moment_after m (cycled at f d r w)) (used_with u (cycled at f d r w)) (used_on u (cycled at f d r w) used) words.1 cost.1 tells.1 bits.1
  entries_fit (does (lock_taken c w) b) m u used words cost tells bits = entries_fit b (moment_after m (lock_taken c w)) (used_with u (lock_taken c w)) (used_on u (lock_taken c w) used) words.1 cost.1 tells.1 bits.1
  entries_fit (does (lock_released c) b) m u used words cost tells bits = entries_fit b (moment_after m (lock_released c)) u used words.1 cost.1 tells.1 bits.1
  entries_fit (does (event_left e) b) m u used words cost tells bits =
      (event_fits m u e used words.0 cost.0 tells.0 bits.0, entries_fit b (moment_after m (event_left e)) u used words.1 cost.1 tells.1 bits.1)
  entries_fit (ends v) m u used words cost tells bits = tt
  entries_fit (stops w s) m u used words cost tells bits = tt

abbrev in_progress : Option Progress → ℕ
in_progress None = 0
in_progress (Some g) = 1

one_in : (o : Option Progress) → in_progress o ≤ 1
one_in None = omega arith
one_in (Some g) = omega arith

module _ (ks : List Bounds) (P : Moment → Stop → State → Type 0) (Q : Moment → Unit {0} → Type 0) where
  -- each event is that of a service, which was called at an answer of its own
  pub few : (b : Run) (m : Moment) → Meets moment_after (EventFits ks) P Q m b → length (entries_in b) ≤ uses (pieces b) + in_progress m.progress
  few (does (demanded p v) b) m h =
      let n = moment_after m (demanded p v) in
      let ih = few b n h.1 in
      let one = one_in n.progress in
      omega arith
  few (does (cycled at f d r w) b) m h =
      let n = moment_after m (cycled at f d r w) in
      let ih = few b n h.1 in
      let one = one_in n.progress in
      omega arith
  few (does (lock_taken c w) b) m h =
      let n = moment_after m (lock_taken c w) in
      let ih = few b n h.1 in
      let one = one_in n.progress in
      omega arith
  few (does (lock_released c) b) m h =
      let ih = few b (moment_after m (lock_released c)) h.1 in
      omega arith
  few (does (event_left e) b) m h =
      let ih = few b (moment_after m (event_left e)) h.1 in
      let one : in_progress m.progress ≡ 1 = ap in_progress h.0.is_in_progress in
      omega arith
  few (ends v) m h = omega arith
  few (stops w s) m h = omega arith
