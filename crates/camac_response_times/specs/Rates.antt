-- What a response comes to: it is the least that can be said, it is no less than what may be in progress, its end is in the longest stretch, and
-- at lower rates no response is greater.
use Rattle.std.specs.Prelude.{◌≡◌, ℕ, ◌+◌, ◌≤◌, List, [], ◌∷◌, Option, Some, None, slice_get}
use Rattle.camac_response_times.specs.declared.source.Source.{Source}
use Rattle.camac_response_times.specs.Response.{before, stretch_wants, start_wants, IsEnough, StartsBy}
use Rattle.camac_response_times.specs.declared.search.Settled.{Settled}
use Rattle.camac_response_times.specs.Rounds.{settle, response_in, longest_in, most_cycles}

-- what is found answers, and nothing less does
pub record IsLeastStart (ts : List Source) (s : Source) (start : ℕ) : Type 0 where
  pub starts : StartsBy ts s start
  pub least : (other : ℕ) → StartsBy ts s other → start ≤ other

unfoldable pub ResponsesAreLeast : Type 0
ResponsesAreLeast = (ts : List Source) (s : Source) (rounds start : ℕ) → response_in ts s rounds ≡ Some start → IsLeastStart ts s start

-- a call may have to wait for the service in progress
abbrev pub ResponsesWait : Type 0
ResponsesWait = (ts : List Source) (s : Source) (start : ℕ) → StartsBy ts s start → before s.bit ts ≤ start

-- the longest stretch that is found is enough for all that is wanted within it, and nothing less is
pub record IsLeastStretch (ts : List Source) (s : Source) (most : ℕ) : Type 0 where
  pub enough : IsEnough (stretch_wants ts s.bit) most
  pub least : (other : ℕ) → IsEnough (stretch_wants ts s.bit) other → most ≤ other
  pub fits : most ≤ most_cycles

abbrev pub StretchesAreLeast : Type 0
StretchesAreLeast = (ts : List Source) (s : Source) (rounds most : ℕ) → longest_in ts s rounds ≡ Some most → IsLeastStretch ts s most

-- the end of a service is in the longest stretch, so its number is within the limit too
abbrev pub ResponsesFit : Type 0
ResponsesFit =
    (ts : List Source) (i : ℕ) (s : Source) → slice_get ts i ≡ Some s → (rounds start most : ℕ) → response_in ts s rounds ≡ Some start → longest_in ts s rounds ≡ Some most
    → (start + s.cycles ≤ most) × (most ≤ most_cycles)

-- the second rate is no higher than the first: its calls come no sooner, or once
abbrev pub IsNoHigher : Option ℕ → Option ℕ → Type 0
IsNoHigher None None = Unit {0}
IsNoHigher None (Some b) = ⊥
IsNoHigher (Some a) None = Unit {0}
IsNoHigher (Some a) (Some b) = (1 ≤ a) × (a ≤ b)

-- the same services, at rates that are no higher, with bounds that are no greater
pub record IsEasier (t u : Source) : Type 0 where
  pub bit : t.bit ≡ u.bit
  pub cycles : u.cycles ≤ t.cycles
  pub every : IsNoHigher t.every u.every

abbrev pub AreEasier : List Source → List Source → Type 0
AreEasier [] [] = Unit {0}
AreEasier [] (u ∷ us) = ⊥
AreEasier (t ∷ ts) [] = ⊥
AreEasier (t ∷ ts) (u ∷ us) = IsEasier t u × AreEasier ts us

-- then no stretch is longer, no call comes later, and what answered answers
pub record GrowsNot (ts us : List Source) (t u : Source) : Type 0 where
  pub stretch : (e : ℕ) → stretch_wants us u.bit e ≤ stretch_wants ts t.bit e
  pub start : (n e : ℕ) → start_wants us u n e ≤ start_wants ts t n e
  pub response : (start : ℕ) → StartsBy ts t start → StartsBy us u start
  -- so what is found is no greater, in however many rounds
  pub longest : (r r' : ℕ) (z z' : Settled) → settle (stretch_wants ts t.bit) r 0 ≡ Some z → settle (stretch_wants us u.bit) r' 0 ≡ Some z' → z'.cycles ≤ z.cycles
  pub first : (n r r' : ℕ) (z z' : Settled) → settle (start_wants ts t n) r 0 ≡ Some z → settle (start_wants us u n) r' 0 ≡ Some z' → z'.cycles ≤ z.cycles
  pub found : (r r' start start' : ℕ) → response_in ts t r ≡ Some start → response_in us u r' ≡ Some start' → start' ≤ start

abbrev pub LowerRatesEase : Type 0
LowerRatesEase = (ts us : List Source) → AreEasier ts us → (t u : Source) → IsEasier t u → GrowsNot ts us t u
