-- What a response comes to, and what is answered for a service.
use Rattle.std.proofs.Common.{◌≡◌, ℕ, zero, suc, ◌+◌, ◌-◌, ◌*◌, ◌/◌, ◌≤◌, List, [], ◌∷◌, Option, Some, None, Bool, true, false, refl, sym, ◌∙◌, ap, subst, arith, ◌^◌, ◌<◌}
use Rattle.std.proofs.Math.Nat.{le_trans, le-div_iff_mul-le, div-mul-le_self}
use Rattle.std.proofs.lemmas.Nat.{mul-le}
use Rattle.std.proofs.lemmas.Bool.{le-leb, le-ltb, ltb-true}
use Rattle.std.proofs.lemmas.Option.{same_Some}
use Rattle.std.specs.Prelude.{max, nat_le, nat_lt, option_map, slice_get, if◌then◌else◌, option_and_then, nat_eq}
use Rattle.camac_response_times.specs.declared.source.Source.{Source}
use Rattle.camac_response_times.specs.Response.{calls_within, period, before, called_within, is_up_to, is_below, stretch_wants, start_wants, IsEnough, StartsBy}
use Rattle.camac_response_times.specs.declared.search.Settled.{Settled}
use Rattle.camac_response_times.specs.Rounds.{settle, greatest_wait, most_cycles, response, most_rounds, response_in}
use Rattle.camac_response_times.specs.Rates.{ResponsesAreLeast, ResponsesWait, IsLeastStretch, StretchesAreLeast, ResponsesFit, IsNoHigher, IsEasier, AreEasier, LowerRatesEase}
use Rattle.camac_response_times.specs.Found.{answer, answer_with, gathered, is_meant, within}
use Rattle.camac_response_times.specs.declared.search.Wanted.{Wanted}
use Rattle.camac_response_times.proofs.Rounds.{Monotone, settled, holding, stretch_mono, start_mono, response_starts, response_least}

-- What a response comes to.

pub responses_are_least : ResponsesAreLeast
unfolding ResponsesAreLeast
responses_are_least ts s r start is = record { starts = response_starts ts s r start is; least = λ other by. response_least ts s r start other is by }

once_at_least : (every : Option ℕ) (e : ℕ) → 1 ≤ calls_within every e
once_at_least None e = omega arith
once_at_least (Some t) e = omega arith

pub responses_wait : ResponsesWait
responses_wait ts s start by =
    let at = by.starts 1 (omega arith) (once_at_least s.every by.longest) in
    let holds = at.enough in
    let within = at.within in
    omega (arith, holds, within)

-- the calls of a service and those of services of a lower bit are among those up to its bit
part_below : (up below : Bool) (x : ℕ) → (below ≡ true → up ≡ true) → (if below then x else 0) ≤ (if up then x else 0)
part_below true true x h = omega arith
part_below true false x h = omega arith
part_below false true x h = let e : false ≡ true = h refl in absurd (cc)
part_below false false x h = omega arith

part_own : (up below : Bool) (x : ℕ) → up ≡ true → below ≡ false → (if below then x else 0) + x ≤ (if up then x else 0)
part_own true false x u b = omega arith
part_own true true x u b = absurd (cc)
part_own false below x u b = absurd (cc)

below_up : (g : ℕ) (t : Source) → is_below g t ≡ true → is_up_to g t ≡ true
below_up g t is = let less = ltb-true t.bit g is in le-leb t.bit g (omega (arith, less))

below_called : (g e : ℕ) (ts : List Source) → called_within (is_below g) e ts ≤ called_within (is_up_to g) e ts
below_called g e [] = omega arith
below_called g e (t ∷ ts) =
    let here = part_below (is_up_to g t) (is_below g t) (calls_within t.every e * t.cycles) (below_up g t) in
    let rest = below_called g e ts in
    omega (arith, here, rest)

own_called : (s : Source) (e : ℕ) (ts : List Source) (i : ℕ) → slice_get ts i ≡ Some s → called_within (is_below s.bit) e ts + calls_within s.every e * s.cycles ≤ called_within (is_up_to s.bit) e ts
own_called s e [] i at = absurd (cc)
own_called s e (t ∷ ts) zero at = subst (λ u. called_within (is_below s.bit) e (u ∷ ts) + calls_within s.every e * s.cycles ≤ called_within (is_up_to s.bit) e (u ∷ ts)) (sym (same_Some t s at)) own
  where
    own : called_within (is_below s.bit) e (s ∷ ts) + calls_within s.every e * s.cycles ≤ called_within (is_up_to s.bit) e (s ∷ ts)
    own =
        let here = part_own (is_up_to s.bit s) (is_below s.bit s) (calls_within s.every e * s.cycles) (le-leb s.bit s.bit (omega arith)) (le-ltb s.bit s.bit (omega arith)) in
        let rest = below_called s.bit e ts in
        omega (arith, here, rest)
own_called s e (t ∷ ts) (suc i) at =
    let here = part_below (is_up_to s.bit t) (is_below s.bit t) (calls_within t.every e * t.cycles) (below_up s.bit t) in
    let rest = own_called s e ts i at in
    omega (arith, here, rest)

module _ (ts : List Source) (i : ℕ) (s : Source) (at : slice_get ts i ≡ Some s) (longest : ℕ) (still : stretch_wants ts s.bit longest ≡ longest) where
  -- without one call the longest stretch is enough for what is wanted before the n-th
  one_left : (n : ℕ) → 1 ≤ n → n ≤ calls_within s.every longest → (s.cycles ≤ longest) × IsEnough (start_wants ts s n) (longest - s.cycles)
  one_left n low high =
      let own = own_called s longest ts i at in
      let less = start_mono ts s n (longest - s.cycles) longest (omega arith) in
      let own_before = mul-le (n - 1 + 1) s.cycles (calls_within s.every longest) s.cycles (omega (arith, low, high)) (omega arith) in
      (omega (arith, own, own_before, still), omega (arith, own, less, own_before, still))

  waits_fit : (k n r most start : ℕ) → 1 ≤ n → n + k ≤ calls_within s.every longest + 1 → greatest_wait ts s k n r most ≡ Some start → most + s.cycles ≤ longest → start + s.cycles ≤ longest
  waits_fit zero n r most start low high is le = let same : most ≡ start = same_Some most start is in omega (arith, same, le)
  waits_fit (suc k) n r most start low high is le =
      go (settle (start_wants ts s n) r 0) refl (λ r' most' e le'. waits_fit k (n + 1) r' most' start (omega arith) (omega (arith, high)) e le') is
    where
      go : (o : Option Settled) → settle (start_wants ts s n) r 0 ≡ o → ((r' most' : ℕ) → greatest_wait ts s k (n + 1) r' most' ≡ Some start → most' + s.cycles ≤ longest → start + s.cycles ≤ longest)
          → elim o [ None ↦ None | Some z ↦ greatest_wait ts s k (n + 1) z.rounds (max most (z.cycles - (n - 1) * period s.every)) ] ≡ Some start → start + s.cycles ≤ longest
      go None e ih is' = absurd (cc)
      go (Some z) e ih is' =
          let found = settled (start_wants ts s n) (start_mono ts s n) r 0 z e in
          let left = one_left n low (omega (arith, high)) in
          let small = left.0 in
          let first = found.least (longest - s.cycles) (omega arith) left.1 in
          ih z.rounds (max most (z.cycles - (n - 1) * period s.every)) is' (omega (arith, le, first, small))

pub responses_fit : ResponsesFit
responses_fit ts i s at r start most is found_most = go (settle (stretch_wants ts s.bit) r 0) refl is found_most
  where
    go : (o : Option Settled) → settle (stretch_wants ts s.bit) r 0 ≡ o → elim o [ None ↦ None | Some z ↦ greatest_wait ts s (calls_within s.every z.cycles) 1 z.rounds 0 ] ≡ Some start
        → option_map (λ y. y.cycles) o ≡ Some most → (start + s.cycles ≤ most) × (most ≤ most_cycles)
    go None e is' same = absurd (cc)
    go (Some z) e is' same =
        let found = settled (stretch_wants ts s.bit) (stretch_mono ts s.bit) r 0 z e in
        let some = one_left ts i s at z.cycles found.still 1 (omega arith) (once_at_least s.every z.cycles) in
        let small = some.0 in
        let fit = waits_fit ts i s at z.cycles found.still (calls_within s.every z.cycles) 1 z.rounds 0 start (omega arith) (omega arith) is' (omega (arith, small)) in
        let at_most : z.cycles ≡ most = same_Some z.cycles most same in
        let within = found.fits in
        (omega (arith, fit, at_most), omega (arith, within, at_most))

pub stretches_are_least : StretchesAreLeast
stretches_are_least ts s r most is = go (settle (stretch_wants ts s.bit) r 0) refl is
  where
    go : (o : Option Settled) → settle (stretch_wants ts s.bit) r 0 ≡ o → option_map (λ y. y.cycles) o ≡ Some most → IsLeastStretch ts s most
    go None e same = absurd (cc)
    go (Some z) e same =
        let found = settled (stretch_wants ts s.bit) (stretch_mono ts s.bit) r 0 z e in
        let at_most : z.cycles ≡ most = same_Some z.cycles most same in
        subst (IsLeastStretch ts s) at_most (record {
          enough = holding (stretch_wants ts s.bit) z.cycles found.still;
          least = λ other h. found.least other (omega arith) h;
          fits = found.fits;
        })

-- lower rates
div_less : (a b e : ℕ) → 1 ≤ a → a ≤ b → e / b ≤ e / a
div_less a b e pos le =
    let down = div-mul-le_self e b in
    let more = mul-le (e / b) a (e / b) b (omega arith) le in
    (le-div_iff_mul-le (omega (arith, pos))).1 (omega (arith, down, more))

fewer_calls : (x y : Option ℕ) (e : ℕ) → IsNoHigher x y → calls_within y e ≤ calls_within x e
fewer_calls None None e h = omega arith
fewer_calls None (Some b) e h = absurd h
fewer_calls (Some a) None e h = omega arith
fewer_calls (Some a) (Some b) e h = let less = div_less a b e h.0 h.1 in omega (arith, less)

-- n - 1 periods are no shorter, or the n-th call does not come
longer_periods : (x y : Option ℕ) (n e : ℕ) → IsNoHigher x y → n ≤ calls_within y e → (n - 1) * period x ≤ (n - 1) * period y
longer_periods None None n e h few = omega arith
longer_periods None (Some b) n e h few = absurd h
longer_periods (Some a) None n e h few = let none : n - 1 ≡ 0 = omega (arith, few) in subst (λ m. m * a ≤ m * 0) (sym none) (omega arith)
longer_periods (Some a) (Some b) n e h few = mul-le (n - 1) a (n - 1) b (omega arith) h.1

part_easier : (b c : Bool) (x y : ℕ) → b ≡ c → x ≤ y → (if b then x else 0) ≤ (if c then y else 0)
part_easier true true x y e h = h
part_easier false false x y e h = omega arith
part_easier true false x y e h = absurd (cc)
part_easier false true x y e h = absurd (cc)

part_before : (b c : Bool) (x y : ℕ) → b ≡ c → x ≤ y → (if b then 0 else x) ≤ (if c then 0 else y)
part_before true true x y e h = omega arith
part_before false false x y e h = h
part_before true false x y e h = absurd (cc)
part_before false true x y e h = absurd (cc)

before_less : (g h : ℕ) → g ≡ h → (ts us : List Source) → AreEasier ts us → before h us ≤ before g ts
before_less g h same [] [] all = omega arith
before_less g h same [] (u ∷ us) all = absurd all
before_less g h same (t ∷ ts) [] all = absurd all
before_less g h same (t ∷ ts) (u ∷ us) all =
    let tests : is_up_to h u ≡ is_up_to g t = ap (λ b. nat_le b h) (sym all.0.bit) ∙ ap (λ z. nat_le t.bit z) (sym same) in
    let here = part_before (is_up_to h u) (is_up_to g t) u.cycles t.cycles tests all.0.cycles in
    let rest = before_less g h same ts us all.1 in
    omega (arith, here, rest)

called_less : (p q : Source → Bool) (e : ℕ) → ((t u : Source) → IsEasier t u → q u ≡ p t) → (ts us : List Source) → AreEasier ts us → called_within q e us ≤ called_within p e ts
called_less p q e same [] [] all = omega arith
called_less p q e same [] (u ∷ us) all = absurd all
called_less p q e same (t ∷ ts) [] all = absurd all
called_less p q e same (t ∷ ts) (u ∷ us) all =
    let less = mul-le (calls_within u.every e) u.cycles (calls_within t.every e) t.cycles (fewer_calls t.every u.every e all.0.every) all.0.cycles in
    let here = part_easier (q u) (p t) (calls_within u.every e * u.cycles) (calls_within t.every e * t.cycles) (same t u all.0) less in
    let rest = called_less p q e same ts us all.1 in
    omega (arith, here, rest)

module _ (ts us : List Source) (all : AreEasier ts us) (t u : Source) (one : IsEasier t u) where
  stretch_less : (e : ℕ) → stretch_wants us u.bit e ≤ stretch_wants ts t.bit e
  stretch_less e =
      let first = before_less t.bit u.bit one.bit ts us all in
      let rest = called_less (is_up_to t.bit) (is_up_to u.bit) e (λ v w h. ap (λ b. nat_le b u.bit) (sym h.bit) ∙ ap (λ z. nat_le v.bit z) (sym one.bit)) ts us all in
      omega (arith, first, rest)

  start_less : (n e : ℕ) → start_wants us u n e ≤ start_wants ts t n e
  start_less n e =
      let first = before_less t.bit u.bit one.bit ts us all in
      let own = mul-le (n - 1) u.cycles (n - 1) t.cycles (omega arith) one.cycles in
      let rest = called_less (is_below t.bit) (is_below u.bit) e (λ v w h. ap (λ b. nat_lt b u.bit) (sym h.bit) ∙ ap (λ z. nat_lt v.bit z) (sym one.bit)) ts us all in
      omega (arith, first, own, rest)

  response_less : (start : ℕ) → StartsBy ts t start → StartsBy us u start
  response_less start by = record {
    longest = by.longest;
    enough = le_trans (stretch_less by.longest) by.enough;
    starts = λ n low high.
        let at = by.starts n low (le_trans high (fewer_calls t.every u.every by.longest one.every)) in
        let within = at.within in
        let longer = longer_periods t.every u.every n by.longest one.every high in
        record { first = at.first; enough = le_trans (start_less n at.first) at.enough; within = omega (arith, within, longer) };
  }

  less_settled : (w w' : ℕ → ℕ) → Monotone w → Monotone w' → ((e : ℕ) → w' e ≤ w e) → (r r' : ℕ) (z z' : Settled) → settle w r 0 ≡ Some z → settle w' r' 0 ≡ Some z' → z'.cycles ≤ z.cycles
  less_settled w w' mono mono' less r r' z z' is is' =
      let found = settled w mono r 0 z is in
      let still = found.still in
      let easier = less z.cycles in
      (settled w' mono' r' 0 z' is').least z.cycles (omega arith) (omega (arith, still, easier))

pub lower_rates_ease : LowerRatesEase
lower_rates_ease ts us all t u one = record {
  stretch = stretch_less ts us all t u one;
  start = start_less ts us all t u one;
  response = response_less ts us all t u one;
  longest = less_settled ts us all t u one (stretch_wants ts t.bit) (stretch_wants us u.bit) (stretch_mono ts t.bit) (stretch_mono us u.bit) (stretch_less ts us all t u one);
  first = λ n. less_settled ts us all t u one (start_wants ts t n) (start_wants us u n) (start_mono ts t n) (start_mono us u n) (start_less ts us all t u one n);
  found = λ r r' start start' is is'. response_least us u r' start' start is' (response_less ts us all t u one start (response_starts ts t r start is));
}

-- The answer for a service, from what the search gives.

-- The search by rounds, step by step.

-- what services want beside so much
abbrev pub wants : (first bit : ℕ) → (own : Bool) → List Source → ℕ → ℕ
wants first g own ts e = first + called_within (is_meant g own) e ts

-- a number that does not stand still is put in again
pub round_on : (w : ℕ → ℕ) (left e n : ℕ) → 1 ≤ left → Some n ≡ within (w e) → nat_eq n e ≡ false → settle w left e ≡ settle w (left - 1) n
round_on w zero e n one is not = absurd (omega (arith, one))
round_on w (suc r) e n one is not = go (nat_le (w e) most_cycles) is
  where
    go : (fits : Bool) → Some n ≡ (if fits then Some (w e) else None) → elim fits [ true ↦ elim (nat_eq (w e) e) [ true ↦ Some (record { cycles = e; rounds = r }) | false ↦ settle w r (w e) ] | false ↦ None ] ≡ settle w (suc r - 1) n
    go false is' = absurd (cc)
    go true is' =
        let same : n ≡ w e = same_Some n (w e) is' in
        let one_less : r ≡ suc r - 1 = omega arith in
        ap (λ b. elim b [ true ↦ Some (record { cycles = e; rounds = r }) | false ↦ settle w r (w e) ]) (ap (λ x. nat_eq x e) (sym same) ∙ not) ∙ ap (settle w r) (sym same)
        ∙ ap (λ i. settle w i n) one_less

-- what wants as much settles alike
pub settle_alike : (v w : ℕ → ℕ) → ((e : ℕ) → v e ≡ w e) → (r e : ℕ) → settle v r e ≡ settle w r e
settle_alike v w same zero e = refl
settle_alike v w same (suc r) e =
    ap (λ n. elim (nat_le n most_cycles) [ true ↦ elim (nat_eq n e) [ true ↦ Some (record { cycles = e; rounds = r }) | false ↦ settle v r n ] | false ↦ None ]) (same e)
    ∙ ap (λ o. elim (nat_le (w e) most_cycles) [ true ↦ elim (nat_eq (w e) e) [ true ↦ Some (record { cycles = e; rounds = r }) | false ↦ o ] | false ↦ None ]) (settle_alike v w same r (w e))

-- services that are laid out want as much
pub laid_out : (first g : ℕ) (own : Bool) (ts : List Source) (w : Wanted) → ((e : ℕ) → gathered e w ≡ called_within (is_meant g own) e ts) → (r : ℕ) → settle (λ e. first + gathered e w) r 0 ≡ settle (wants first g own ts) r 0
laid_out first g own ts w same r = settle_alike (λ e. first + gathered e w) (wants first g own ts) (λ e. ap (λ n. first + n) (same e)) r 0

module _ (ts : List Source) (s : Source) where
  -- the n-th call is next, and what is left gives the whole
  pub record IsAt (whole : Option ℕ) (calls n left start first every : ℕ) : Type 0 where
    pub from : 1 ≤ n
    pub most : n ≤ calls + 1
    pub few : calls ≤ 2 ^ 32
    pub blocked : first ≡ before s.bit ts
    pub blocked_fits : first < 2 ^ 32
    pub apart : every ≡ period s.every
    pub apart_fits : every < 2 ^ 32
    pub rest : whole ≡ greatest_wait ts s (calls + 1 - n) n left start

  pub found_some : (rounds : ℕ) (z : Settled) → settle (stretch_wants ts s.bit) rounds 0 ≡ Some z → response_in ts s rounds ≡ greatest_wait ts s (calls_within s.every z.cycles) 1 z.rounds 0
  found_some rounds z e =
      ap (λ o. elim o [ None ↦ None | Some z ↦ greatest_wait ts s (calls_within s.every z.cycles) 1 z.rounds 0 ]) e

  one_call : (k n left start : ℕ) (j : ℕ) → j ≡ suc k → greatest_wait ts s j n left start ≡ elim (settle (start_wants ts s n) left 0) [ None ↦ None | Some z ↦ greatest_wait ts s k (n + 1) z.rounds (max start (z.cycles - (n - 1) * period s.every)) ]
  one_call k n left start j e = ap (λ i. greatest_wait ts s i n left start) e

  pub next_none : (calls n left start : ℕ) → n ≤ calls → settle (start_wants ts s n) left 0 ≡ None → greatest_wait ts s (calls + 1 - n) n left start ≡ None
  next_none calls n left start le e =
      one_call (calls - n) n left start (calls + 1 - n) (omega (arith, le))
      ∙ ap (λ o. elim o [ None ↦ None | Some z ↦ greatest_wait ts s (calls - n) (n + 1) z.rounds (max start (z.cycles - (n - 1) * period s.every)) ]) e

  pub next_some : (calls n left start : ℕ) (z : Settled) → n ≤ calls → settle (start_wants ts s n) left 0 ≡ Some z → greatest_wait ts s (calls + 1 - n) n left start ≡ greatest_wait ts s (calls + 1 - (n + 1)) (n + 1) z.rounds (max start (z.cycles - (n - 1) * period s.every))
  next_some calls n left start z le e =
      one_call (calls - n) n left start (calls + 1 - n) (omega (arith, le))
      ∙ ap (λ o. elim o [ None ↦ None | Some z ↦ greatest_wait ts s (calls - n) (n + 1) z.rounds (max start (z.cycles - (n - 1) * period s.every)) ]) e
      ∙ ap (λ i. greatest_wait ts s i (n + 1) z.rounds (max start (z.cycles - (n - 1) * period s.every))) (omega (arith, le))

  pub at_end : (calls n left start : ℕ) → calls < n → greatest_wait ts s (calls + 1 - n) n left start ≡ Some start
  at_end calls n left start less = let none : calls + 1 - n ≡ 0 = omega (arith, less) in ap (λ i. greatest_wait ts s i n left start) none

  -- what the n-th call wants, from parts that are known
  wanted_by : (first cycles n left : ℕ) → first ≡ before s.bit ts → cycles ≡ s.cycles → settle (wants (first + (n - 1) * cycles) s.bit false ts) left 0 ≡ settle (start_wants ts s n) left 0
  wanted_by first cycles n left f c =
      ap (λ x. settle (wants (x + (n - 1) * cycles) s.bit false ts) left 0) f ∙ ap (λ x. settle (wants (before s.bit ts + (n - 1) * x) s.bit false ts) left 0) c

  pub gives_none : (whole : Option ℕ) (calls n left start first cycles every : ℕ) → IsAt whole calls n left start first every → cycles ≡ s.cycles → n ≤ calls
      → None ≡ settle (wants (first + (n - 1) * cycles) s.bit false ts) left 0 → whole ≡ None
  gives_none whole calls n left start first cycles every v c le e =
      v.rest ∙ next_none calls n left start le (sym (wanted_by first cycles n left v.blocked c) ∙ sym e)

  pub goes_on : (whole : Option ℕ) (calls n left start first cycles every wait most : ℕ) (z : Settled) → IsAt whole calls n left start first every → cycles ≡ s.cycles → n ≤ calls
      → Some z ≡ settle (wants (first + (n - 1) * cycles) s.bit false ts) left 0 → wait ≡ z.cycles - (n - 1) * every → most ≡ max start wait → IsAt whole calls (n + 1) z.rounds most first every
  goes_on whole calls n left start first cycles every wait most z v c le e w m =
      let from = v.from in
      let greater : most ≡ max start (z.cycles - (n - 1) * period s.every) = m ∙ ap (max start) (w ∙ ap (λ x. z.cycles - (n - 1) * x) v.apart) in
      record {
        from = omega (arith, from);
        most = omega (arith, le);
        few = v.few;
        blocked = v.blocked;
        blocked_fits = v.blocked_fits;
        apart = v.apart;
        apart_fits = v.apart_fits;
        rest = v.rest
            ∙ next_some calls n left start z le (sym (wanted_by first cycles n left v.blocked c) ∙ sym e)
            ∙ ap (greatest_wait ts s (calls + 1 - (n + 1)) (n + 1) z.rounds) (sym greater);
      }

pub no_stretch : (ts : List Source) (s : Source) → settle (stretch_wants ts s.bit) most_rounds 0 ≡ None → answer ts s ≡ None
no_stretch ts s e = ap (λ o. option_and_then (λ most. option_map (answer_with s most) (response ts s)) (option_map (λ z. z.cycles) o)) e

module _ (ts : List Source) (s : Source) (blocked : ℕ) (is : blocked ≡ before s.bit ts) where
  pub in_stretch : (r : ℕ) → settle (wants blocked s.bit true ts) r 0 ≡ settle (stretch_wants ts s.bit) r 0
  in_stretch r = ap (λ b. settle (wants b s.bit true ts) r 0) is

  pub no_stretch_found : settle (wants blocked s.bit true ts) most_rounds 0 ≡ None → answer ts s ≡ None
  no_stretch_found e = no_stretch ts s (sym (in_stretch most_rounds) ∙ e)

  module _ (z : Settled) (found : settle (wants blocked s.bit true ts) most_rounds 0 ≡ Some z) where
    pub by_calls : response ts s ≡ greatest_wait ts s (calls_within s.every z.cycles) 1 z.rounds 0
    by_calls = found_some ts s most_rounds z (sym (in_stretch most_rounds) ∙ found)

    pub by_stretch : answer ts s ≡ option_map (answer_with s z.cycles) (greatest_wait ts s (calls_within s.every z.cycles) 1 z.rounds 0)
    by_stretch =
        ap (λ o. option_and_then (λ most. option_map (answer_with s most) (response ts s)) (option_map (λ y. y.cycles) o)) (sym (in_stretch most_rounds) ∙ found)
        ∙ ap (option_map (answer_with s z.cycles)) by_calls

    pub fits : (i start : ℕ) → slice_get ts i ≡ Some s → greatest_wait ts s (calls_within s.every z.cycles) 1 z.rounds 0 ≡ Some start → start + s.cycles ≤ most_cycles
    fits i start at e =
        let both = responses_fit ts i s at most_rounds start z.cycles (by_calls ∙ e) (ap (option_map (λ y. y.cycles)) (sym (in_stretch most_rounds) ∙ found)) in
        let in_stretch = both.0 in
        let within = both.1 in
        omega (arith, in_stretch, within)
