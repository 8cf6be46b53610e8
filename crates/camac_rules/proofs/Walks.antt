-- What a walk over the numbers of a range says of each of them.
use Rattle.std.proofs.Common.{◌≡◌, ℕ, zero, suc, ◌+◌, ◌<◌, ◌≤◌, ◌∷◌, Bool, true, Option, Some, None, map, refl, subst, ⊎_elim, arith}
use Rattle.std.specs.Prelude.{min, max, nat_lt}
use Rattle.std.specs.List.{range_with_len}
use Rattle.std.proofs.lemmas.Bool.{and_parts, cases_lt, ltb-true}
use Rattle.camac_range.specs.Interval.{Interval, hull, IsWithin}
use Rattle.camac_module.specs.Commands.{extremes, least_and_greatest}
use Rattle.camac_rules.specs.Walks.{count_below, all_from, greatest_from, hull_with, hull_from}
use Rattle.camac_rules.specs.Addresses.{all_in}

-- at k or after it
at_or_after : (P : ℕ → Type 0) (k i : ℕ) → k ≤ i → P k → (k + 1 ≤ i → P i) → P i
at_or_after P k i le here after =
    ⊎_elim (λ lt. after (omega arith)) (λ ge. let same : k ≡ i = omega arith in subst P same here) (cases_lt k i)

pub all_from_at : (test : ℕ → Bool) (k n i : ℕ) → all_from test k n ≡ true → k ≤ i → i < k + n → test i ≡ true
all_from_at test k zero i e low high = absurd (omega arith)
all_from_at test k (suc n) i e low high =
    let p = and_parts (test k) (all_from test (k + 1) n) e in
    at_or_after (λ j. test j ≡ true) k i low p.0 (λ after. all_from_at test (k + 1) n i p.1 after (omega arith))

pub all_in_at : (end : ℕ) (r : Interval) (test : ℕ → Bool) (i : ℕ) → all_in end r test ≡ true → IsWithin r i → (i < end) × (test i ≡ true)
all_in_at end r test i e w =
    let p = and_parts (nat_lt r.hi end) (all_from test r.lo (count_below end r)) e in
    let lt : r.hi < end = ltb-true r.hi end p.0 in
    (omega (arith, w.high), all_from_at test r.lo (count_below end r) i p.1 w.low (omega (arith, w.low, w.high)))

pub greatest_from_at : (value : ℕ → ℕ) (k n i : ℕ) → k ≤ i → i < k + n → value i ≤ greatest_from value k n
greatest_from_at value k zero i low high = absurd (omega arith)
greatest_from_at value k (suc n) i low high =
    at_or_after (λ j. value j ≤ greatest_from value k (suc n)) k i low (omega arith)
    (λ after. let h = greatest_from_at value (k + 1) n i after (omega arith) in omega arith)

-- a range that is there, inside another
pub record IsPart (o : Option Interval) (w : Interval) : Type 0 where
  pub part : Interval
  pub is : o ≡ Some part
  pub low : w.lo ≤ part.lo
  pub high : part.hi ≤ w.hi

pub within_part : (o : Option Interval) (v w : Interval) → v.lo ≤ w.lo → w.hi ≤ v.hi → IsPart o w → IsPart o v
within_part o v w low high h = record { part = h.part; is = h.is; low = omega (arith, h.low); high = omega (arith, h.high) }

hull_parts : (o p : Option Interval) (w : Interval) → hull_with o p ≡ Some w → IsPart o w × IsPart p w
hull_parts None p w e = cc
hull_parts (Some r) None w e = cc
hull_parts (Some r) (Some s) w e =
    let same : hull r s ≡ w = cc in
    subst (λ v. IsPart (Some r) v × IsPart (Some s) v) same
    (record { part = r; is = refl; low = omega arith; high = omega arith }, record { part = s; is = refl; low = omega arith; high = omega arith })

pub hull_from_at : (range : ℕ → Option Interval) (k n i : ℕ) (w : Interval) → hull_from range k n ≡ Some w → k ≤ i → i < k + n → IsPart (range i) w
hull_from_at range k zero i w e low high = absurd (omega arith)
hull_from_at range k (suc zero) i w e low high =
    let same : k ≡ i = omega arith in
    subst (λ j. IsPart (range j) w) same (record { part = w; is = e; low = omega arith; high = omega arith })
hull_from_at range k (suc (suc n)) i w e low high =
    let p = hull_parts (range k) (hull_from range (k + 1) (suc n)) w e in
    let rest = p.1 in
    at_or_after (λ j. IsPart (range j) w) k i low p.0
    (λ after. within_part (range i) w rest.part rest.low rest.high (hull_from_at range (k + 1) (suc n) i rest.part rest.is after (omega arith)))

-- a width that is there, from one to another
pub record IsWidth (o : Option ℕ) (low high : ℕ) : Type 0 where
  pub width : ℕ
  pub is : o ≡ Some width
  pub from_low : low ≤ width
  pub to_high : width ≤ high

record AreExtremes (w : ℕ → Option ℕ) (so_far : ℕ × ℕ) (k n : ℕ) (x : ℕ × ℕ) : Type 0 where
  least : x.0 ≤ so_far.0
  greatest : so_far.1 ≤ x.1
  each : (i : ℕ) → k ≤ i → i < k + n → IsWidth (w i) x.0 x.1

extremes_are : (w : ℕ → Option ℕ) (so_far : ℕ × ℕ) (k n : ℕ) (x : ℕ × ℕ) → extremes so_far (map w (range_with_len k n)) ≡ Some x → AreExtremes w so_far k n x
extremes_are w so_far k zero x e =
    let same : so_far ≡ x = cc in
    subst (AreExtremes w so_far k 0) same (record { least = omega arith; greatest = omega arith; each = λ i low high. absurd (omega arith) })
extremes_are w so_far k (suc n) x e =
    go (w k) refl e (λ so_far' f. extremes_are w so_far' (k + 1) n x f)
  where
    go : (o : Option ℕ) → w k ≡ o → extremes so_far (o ∷ map w (range_with_len (k + 1) n)) ≡ Some x → ((so_far' : ℕ × ℕ) → extremes so_far' (map w (range_with_len (k + 1) n)) ≡ Some x → AreExtremes w so_far' (k + 1) n x) → AreExtremes w so_far k (suc n) x
    go None is f ih = cc
    go (Some v) is f ih =
        let h = ih (min so_far.0 v, max so_far.1 v) f in
        record {
          least = omega (arith, h.least);
          greatest = omega (arith, h.greatest);
          each = λ i low high. at_or_after (λ j. IsWidth (w j) x.0 x.1) k i low
              (record { width = v; is = is; from_low = omega (arith, h.least); to_high = omega (arith, h.greatest) })
              (λ after. h.each i after (omega arith));
        }

pub least_and_greatest_at : (w : ℕ → Option ℕ) (k n i : ℕ) (x : ℕ × ℕ) → least_and_greatest (map w (range_with_len k n)) ≡ Some x → k ≤ i → i < k + n → IsWidth (w i) x.0 x.1
least_and_greatest_at w k zero i x e low high = absurd (omega arith)
least_and_greatest_at w k (suc n) i x e low high = go (w k) refl e
  where
    go : (o : Option ℕ) → w k ≡ o → least_and_greatest (o ∷ map w (range_with_len (k + 1) n)) ≡ Some x → IsWidth (w i) x.0 x.1
    go None is f = cc
    go (Some v) is f =
        let h = extremes_are w (v, v) (k + 1) n x f in
        at_or_after (λ j. IsWidth (w j) x.0 x.1) k i low
        (record { width = v; is = is; from_low = h.least; to_high = h.greatest })
        (λ after. h.each i after (omega arith))
