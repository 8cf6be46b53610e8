-- What services want within some cycles, and what is found by rounds: the least that is enough.
use Rattle.std.proofs.Common.{◌≡◌, ◌≢◌, ℕ, zero, suc, ◌+◌, ◌-◌, ◌*◌, ◌<◌, ◌≤◌, List, [], ◌∷◌, Option, Some, None, Bool, true, false, refl, sym, ◌∙◌, ap, subst, inl, inr, arith, ◌/◌}
use Rattle.std.specs.Prelude.{max, nat_eq, nat_le, slice_get, if◌then◌else◌}
use Rattle.std.proofs.Math.Nat.{le_trans, le-div_iff_mul-le, div-mul-le_self, div-zero}
use Rattle.std.proofs.lemmas.Nat.{mul-le}
use Rattle.std.proofs.lemmas.Bool.{eqb-true, leb-true, cases_eq}
use Rattle.std.proofs.lemmas.Option.{same_Some}
use Rattle.camac_response_times.specs.declared.source.Source.{Source}
use Rattle.camac_response_times.specs.Response.{calls_within, period, called_within, is_up_to, is_below, stretch_wants, start_wants, IsEnough, StartsWithin, StartsBy, before}
use Rattle.camac_response_times.specs.declared.search.Settled.{Settled}
use Rattle.camac_response_times.specs.Rounds.{settle, greatest_wait, response_in, most_cycles}

div_mono : (t a b : ℕ) → a ≤ b → a / t ≤ b / t
div_mono zero a b h = let none = div-zero a in omega (arith, none)
div_mono (suc t) a b h = (le-div_iff_mul-le (omega arith)).1 (le_trans (div-mul-le_self a (suc t)) h)

-- more cycles, no fewer calls
pub calls_mono : (every : Option ℕ) (a b : ℕ) → a ≤ b → calls_within every a ≤ calls_within every b
calls_mono None a b h = omega arith
calls_mono (Some t) a b h = let less = div_mono t a b h in omega (arith, less)

pub part_le : (b : Bool) (x y : ℕ) → (b ≡ true → x ≤ y) → (if b then x else 0) ≤ (if b then y else 0)
part_le true x y h = h refl
part_le false x y h = omega arith

-- a service of a greater bit takes no more cycles than may be in progress before
pub before_most : (g : ℕ) (ts : List Source) (i : ℕ) (t : Source) → slice_get ts i ≡ Some t → is_up_to g t ≡ false → t.cycles ≤ before g ts
before_most g [] i t at is = absurd (cc)
before_most g (u ∷ ts) zero t at is =
    let same : u ≡ t = same_Some u t at in
    let not : is_up_to g u ≡ false = ap (is_up_to g) same ∙ is in
    let cycles : u.cycles ≡ t.cycles = ap (λ z. z.cycles) same in
    let whole : (if is_up_to g u then 0 else u.cycles) ≡ u.cycles = ap (λ b. if b then 0 else u.cycles) not in
    omega (arith, cycles, whole)
before_most g (u ∷ ts) (suc i) t at is = let rest = before_most g ts i t at is in omega (arith, rest)

abbrev pub Monotone : (ℕ → ℕ) → Type 0
Monotone w = (a b : ℕ) → a ≤ b → w a ≤ w b

-- what is found stands still, and is no greater than any number that is enough and that the search has not passed
pub record IsSettled (wants : ℕ → ℕ) (e : ℕ) (z : Settled) : Type 0 where
  pub still : wants z.cycles ≡ z.cycles
  pub fits : z.cycles ≤ most_cycles
  pub least : (p : ℕ) → e ≤ p → IsEnough wants p → z.cycles ≤ p

pub settled : (wants : ℕ → ℕ) → Monotone wants → (r e : ℕ) (z : Settled) → settle wants r e ≡ Some z → IsSettled wants e z
settled wants mono zero e z is = absurd (cc)
settled wants mono (suc r) e z is =
    go (nat_le (wants e) most_cycles) (nat_eq (wants e) e) refl refl (settled wants mono r (wants e) z) is
  where
    go : (fits same : Bool) → nat_le (wants e) most_cycles ≡ fits → nat_eq (wants e) e ≡ same
        → (settle wants r (wants e) ≡ Some z → IsSettled wants (wants e) z)
        → elim fits [ true ↦ elim same [ true ↦ Some (record { cycles = e; rounds = r }) | false ↦ settle wants r (wants e) ] | false ↦ None ] ≡ Some z → IsSettled wants e z
    go false same f s ih is' = absurd (cc)
    go true true f s ih is' =
        let one : record { cycles = e; rounds = r } ≡ z = same_Some (record { cycles = e; rounds = r }) z is' in
        let at : e ≡ z.cycles = ap (λ y. y.cycles) one in
        let stands : wants e ≡ e = eqb-true (wants e) e s in
        let small = leb-true (wants e) most_cycles f in
        record {
          still = ap wants (sym at) ∙ stands ∙ at;
          fits = omega (arith, small, stands, at);
          least = λ p le h. omega (arith, le, at);
        }
    go true false f s ih is' =
        let rest = ih is' in
        record { still = rest.still; fits = rest.fits; least = λ p le h. rest.least p (le_trans (mono e p le) h) h }

-- more cycles, no less is wanted
called_mono : (m : Source → Bool) (ts : List Source) (a b : ℕ) → a ≤ b → called_within m a ts ≤ called_within m b ts
called_mono m [] a b h = omega arith
called_mono m (t ∷ ts) a b h =
    let here = part_le (m t) (calls_within t.every a * t.cycles) (calls_within t.every b * t.cycles) (λ is. mul-le (calls_within t.every a) t.cycles (calls_within t.every b) t.cycles (calls_mono t.every a b h) (omega arith)) in
    let rest = called_mono m ts a b h in
    omega (arith, here, rest)

pub stretch_mono : (ts : List Source) (g : ℕ) → Monotone (stretch_wants ts g)
stretch_mono ts g a b h = let more = called_mono (is_up_to g) ts a b h in omega (arith, more)

pub start_mono : (ts : List Source) (s : Source) (n : ℕ) → Monotone (start_wants ts s n)
start_mono ts s n a b h = let more = called_mono (is_below s.bit) ts a b h in omega (arith, more)

pub holding : (wants : ℕ → ℕ) (e : ℕ) → wants e ≡ e → IsEnough wants e
holding wants e is = omega (arith, is)

module _ (ts : List Source) (s : Source) where
  -- k calls from the n-th on come within the wait that is found, which is no less than `most`
  pub record AreIn (k n most start : ℕ) : Type 0 where
    pub no_less : most ≤ start
    pub starts : (m : ℕ) → n ≤ m → m < n + k → StartsWithin ts s m ((m - 1) * period s.every + start)

  pub waits_in : (k n r most start : ℕ) → greatest_wait ts s k n r most ≡ Some start → AreIn k n most start
  waits_in zero n r most start is =
      let same : most ≡ start = same_Some most start is in
      record { no_less = omega (arith, same); starts = λ m low high. absurd (omega (arith, low, high)) }
  waits_in (suc k) n r most start is =
      go (settle (start_wants ts s n) r 0) refl (λ r' most' e. waits_in k (n + 1) r' most' start e) is
    where
      go : (o : Option Settled) → settle (start_wants ts s n) r 0 ≡ o → ((r' most' : ℕ) → greatest_wait ts s k (n + 1) r' most' ≡ Some start → AreIn k (n + 1) most' start)
          → elim o [ None ↦ None | Some z ↦ greatest_wait ts s k (n + 1) z.rounds (max most (z.cycles - (n - 1) * period s.every)) ] ≡ Some start → AreIn (suc k) n most start
      go None e ih is' = absurd (cc)
      go (Some z) e ih is' =
          let found = settled (start_wants ts s n) (start_mono ts s n) r 0 z e in
          let rest = ih z.rounds (max most (z.cycles - (n - 1) * period s.every)) is' in
          let less = rest.no_less in
          record {
            no_less = omega (arith, less);
            starts = λ m low high. elim (cases_eq m n) [
              | inl same ↦ subst (λ j. StartsWithin ts s j ((j - 1) * period s.every + start)) (sym same)
                  (record { first = z.cycles; enough = holding (start_wants ts s n) z.cycles found.still; within = omega (arith, less) })
              | inr other ↦ let apart : m ≢ n = other in rest.starts m (omega (arith, low, apart)) (omega (arith, high))
            ];
          }

  pub response_starts : (r start : ℕ) → response_in ts s r ≡ Some start → StartsBy ts s start
  response_starts r start is = go (settle (stretch_wants ts s.bit) r 0) refl is
    where
      go : (o : Option Settled) → settle (stretch_wants ts s.bit) r 0 ≡ o → elim o [ None ↦ None | Some z ↦ greatest_wait ts s (calls_within s.every z.cycles) 1 z.rounds 0 ] ≡ Some start → StartsBy ts s start
      go None e is' = absurd (cc)
      go (Some z) e is' =
          let found = settled (stretch_wants ts s.bit) (stretch_mono ts s.bit) r 0 z e in
          let all = waits_in (calls_within s.every z.cycles) 1 z.rounds 0 start is' in
          record {
            longest = z.cycles;
            enough = holding (stretch_wants ts s.bit) z.cycles found.still;
            starts = λ n low high. all.starts n low (omega (arith, high));
          }

  -- it is the least number of which that can be said
  waits_least : (k n r most start other : ℕ) → greatest_wait ts s k n r most ≡ Some start → most ≤ other
      → ((m : ℕ) → n ≤ m → m < n + k → StartsWithin ts s m ((m - 1) * period s.every + other)) → start ≤ other
  waits_least zero n r most start other is le by = let same : most ≡ start = same_Some most start is in omega (arith, same, le)
  waits_least (suc k) n r most start other is le by =
      go (settle (start_wants ts s n) r 0) refl (λ r' most' e le'. waits_least k (n + 1) r' most' start other e le' (λ m low high. by m (omega (arith, low)) (omega (arith, high)))) is
    where
      go : (o : Option Settled) → settle (start_wants ts s n) r 0 ≡ o → ((r' most' : ℕ) → greatest_wait ts s k (n + 1) r' most' ≡ Some start → most' ≤ other → start ≤ other)
          → elim o [ None ↦ None | Some z ↦ greatest_wait ts s k (n + 1) z.rounds (max most (z.cycles - (n - 1) * period s.every)) ] ≡ Some start → start ≤ other
      go None e ih is' = absurd (cc)
      go (Some z) e ih is' =
          let found = settled (start_wants ts s n) (start_mono ts s n) r 0 z e in
          let at = by n (omega arith) (omega arith) in
          let first = found.least at.first (omega arith) at.enough in
          let within = at.within in
          ih z.rounds (max most (z.cycles - (n - 1) * period s.every)) is' (omega (arith, le, first, within))

  pub response_least : (r start other : ℕ) → response_in ts s r ≡ Some start → StartsBy ts s other → start ≤ other
  response_least r start other is by = go (settle (stretch_wants ts s.bit) r 0) refl is
    where
      go : (o : Option Settled) → settle (stretch_wants ts s.bit) r 0 ≡ o → elim o [ None ↦ None | Some z ↦ greatest_wait ts s (calls_within s.every z.cycles) 1 z.rounds 0 ] ≡ Some start → start ≤ other
      go None e is' = absurd (cc)
      go (Some z) e is' =
          let found = settled (stretch_wants ts s.bit) (stretch_mono ts s.bit) r 0 z e in
          let few = calls_mono s.every z.cycles by.longest (found.least by.longest (omega arith) by.enough) in
          waits_least (calls_within s.every z.cycles) 1 z.rounds 0 start other is' (omega arith)
          (λ m low high. by.starts m low (omega (arith, high, few)))
