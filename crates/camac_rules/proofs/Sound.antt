-- What the rules promise of a behaviour, and how the promises of parts join.
use Rattle.std.proofs.Common.{◌≡◌, ℕ, ◌+◌, ◌^◌, ◌<◌, ◌≤◌, List, [], ◌∷◌, ◌++◌, length, true, Some, None, ◌∙◌, arith}
use Rattle.camac_branch.specs.Branch.{Answer}
use Rattle.camac_branch.specs.Plan.{Layout}
use Rattle.camac_model.specs.Moments.{Meets}
use Rattle.camac_model.specs.State.{State, stepped}
use Rattle.camac_model.specs.Behaviour.{Piece, Behaviour, does, ends, stops, Stop, Action, then_do}
use Rattle.camac_model.specs.Safe.{IsSafePiece}
use Rattle.camac_model.specs.Fine.{Bounds, AreWords, IsOfAnswers, most_turns}
use Rattle.camac_model.proofs.Rules.{then_meets}
use Rattle.camac_rules.specs.Known.{Known}
use Rattle.camac_rules.specs.Costs.{no_costs, plus, Verdict}
use Rattle.camac_rules.specs.Addresses.{is_among}
use Rattle.camac_rules.proofs.Stores.{Place, Reaches}

-- answers without waits, which are permitted everywhere
abbrev pub AreEasy : List Answer → Type 0
AreEasy [] = Unit {0}
AreEasy (a ∷ rest) = (a.wait ≡ 0) × AreEasy rest

-- what a stretch of a service can cost, from a state to another; it uses no more answers than it makes steps
pub record Paid (c : Bounds) (s t : State) : Type 0 where
  pub cycles : t.cost ≤ s.cost + c.cycles
  pub words : length t.words ≤ length s.words + c.words
  pub steps : t.steps ≤ s.steps + c.steps
  pub are_words : AreWords s.words → AreWords t.words
  pub answers : length s.answers ≤ length t.answers + c.steps
  pub easy : AreEasy s.answers → AreEasy t.answers

-- the variables of the loops around are as before
abbrev pub Untouched : Place → State → State → Type 0
Untouched around s t = (x : ℕ) → is_among x around.fixed ≡ true → t.variables x ≡ s.variables x

pub record Ended (around : Place) (after : Known) (c : Bounds) (s t : State) : Type 0 where
  pub reaches : Reaches around after t
  pub paid : Paid c s t
  pub untouched : Untouched around s t

pub record Stopped (c : Bounds) (w : Stop) (s t : State) : Type 0 where
  pub of_answers : IsOfAnswers w
  pub paid : Paid c s t
  -- without waits it stops only where answers lack
  pub because : AreEasy s.answers → length s.answers < c.steps

-- nothing is counted from the pieces
abbrev pub step : Unit {0} → Piece → Unit {0}
step x p = tt

abbrev pub SafePiece : Layout → Unit {0} → Piece → Type 0
SafePiece plan x p = IsSafePiece plan p

abbrev pub StopsWell : Bounds → State → Unit {0} → Stop → State → Type 0
StopsWell c s x w t = Stopped c w s t

abbrev pub EndsWell : Place → Known → Bounds → State → Unit {0} → State → Type 0
EndsWell around after c s x t = Ended around after c s t

-- each cycle is safe, stops are those of the answers, and at each end and stop no more is paid than the costs
abbrev pub Sound : Layout → Place → Known → Bounds → State → Behaviour State → Type 0
Sound plan around after c s b = Meets step (SafePiece plan) (StopsWell c s) (EndsWell around after c s) tt b

-- from every state that is known, and for every bound on the turns of a loop that is large enough
pub record SoundFor (plan : Layout) (around : Place) (k : Known) (run : ℕ → Action) (v : Verdict) : Type 0 where
  pub each : (n : ℕ) → most_turns ≤ n → (s : State) → Reaches around k s → Sound plan around v.after v.costs s (run n s)

pub words_push : (ws : List ℕ) (v : ℕ) → v < 2 ^ 24 → AreWords ws → AreWords (ws ++ v ∷ [])
words_push [] v h a = (h, tt)
words_push (w ∷ ws) v h a = (a.0, words_push ws v h a.1)

pub paid_nothing : (s : State) → Paid no_costs s s
paid_nothing s = record { cycles = omega arith; words = omega arith; steps = omega arith; are_words = λ h. h; answers = omega arith; easy = λ h. h }

pub paid_then : (c d : Bounds) (s t u : State) → Paid c s t → Paid d t u → Paid (plus c d) s u
paid_then c d s t u h k = record {
  cycles = omega (arith, h.cycles, k.cycles);
  words = omega (arith, h.words, k.words);
  steps = omega (arith, h.steps, k.steps);
  are_words = λ w. k.are_words (h.are_words w);
  answers = omega (arith, h.answers, k.answers);
  easy = λ e. k.easy (h.easy e);
}

paid_first : (c d : Bounds) (s t : State) → Paid c s t → Paid (plus c d) s t
paid_first c d s t h = record {
  cycles = omega (arith, h.cycles);
  words = omega (arith, h.words);
  steps = omega (arith, h.steps);
  are_words = h.are_words;
  answers = omega (arith, h.answers);
  easy = h.easy;
}

pub untouched_then : (around : Place) (s t u : State) → Untouched around s t → Untouched around t u → Untouched around s u
untouched_then around s t u h k x e = k x e ∙ h x e

-- more may hold at stops and at ends
pub meets_more : (plan : Layout) (P R : Unit {0} → Stop → State → Type 0) (Q T : Unit {0} → State → Type 0) (b : Behaviour State) → ((w : Stop) (t : State) → P tt w t → R tt w t) → ((t : State) → Q tt t → T tt t) → Meets step (SafePiece plan) P Q tt b → Meets step (SafePiece plan) R T tt b
meets_more plan P R Q T (does p b) f g h = (h.0, meets_more plan P R Q T b f g h.1)
meets_more plan P R Q T (ends t) f g h = g t h
meets_more plan P R Q T (stops w t) f g h = f w t h

-- one part and then another
pub sound_then : (plan : Layout) (around : Place) (mid after : Known) (c d : Bounds) (s : State) (b : Behaviour State) (go : Action) → Sound plan around mid c s b → ((t : State) → Reaches around mid t → Sound plan around after d t (go t)) → Sound plan around after (plus c d) s (then_do b go)
sound_then plan around mid after c d s b go h k =
    then_meets step (SafePiece plan) (StopsWell (plus c d) s) (EndsWell around mid c s) (EndsWell around after (plus c d) s) tt b go
    (meets_more plan (StopsWell c s) (StopsWell (plus c d) s) (EndsWell around mid c s) (EndsWell around mid c s) b
    (λ w t e. record { of_answers = e.of_answers; paid = paid_first c d s t e.paid; because = λ z. omega (arith, e.because z) }) (λ t e. e) h)
    (λ x t e. meets_more plan (StopsWell d t) (StopsWell (plus c d) s) (EndsWell around after d t) (EndsWell around after (plus c d) s) (go t)
    (λ w u f. record { of_answers = f.of_answers; paid = paid_then c d s t u e.paid f.paid; because = λ z. omega (arith, e.paid.answers, f.because (e.paid.easy z)) })
    (λ u f. record { reaches = f.reaches; paid = paid_then c d s t u e.paid f.paid; untouched = untouched_then around s t u e.untouched f.untouched })
    (k t e.reaches))

pub stepped_reaches : (around : Place) (k : Known) (s : State) → Reaches around k s → Reaches around k (stepped s)
stepped_reaches around None s h = h
stepped_reaches around (Some k) s h = record { variables = h.variables; registers = h.registers; locks = h.locks }

-- a part after the statement's own step; less may be known, and more may be paid
pub sound_begun : (plan : Layout) (around : Place) (k mid after : Known) (c d : Bounds) (s : State) (go : Action) → Reaches around k s → ((t : State) → Reaches around k t → Sound plan around mid c t (go t)) → ((t : State) → Reaches around mid t → Reaches around after t) → c.cycles ≤ d.cycles → c.words ≤ d.words → 1 + c.steps ≤ d.steps → Sound plan around after d s (go (stepped s))
sound_begun plan around k mid after c d s go r h known cycles words steps =
    meets_more plan (StopsWell c (stepped s)) (StopsWell d s) (EndsWell around mid c (stepped s)) (EndsWell around after d s) (go (stepped s))
    (λ w t e. record { of_answers = e.of_answers; paid = begun t e.paid; because = λ z. omega (arith, e.because z) })
    (λ t e. record { reaches = known t e.reaches; paid = begun t e.paid; untouched = e.untouched })
    (h (stepped s) (stepped_reaches around k s r))
  where
    begun : (t : State) → Paid c (stepped s) t → Paid d s t
    begun t p = record {
      cycles = omega (arith, p.cycles);
      words = omega (arith, p.words);
      steps = omega (arith, p.steps);
      are_words = p.are_words;
      answers = omega (arith, p.answers);
      easy = p.easy;
    }
