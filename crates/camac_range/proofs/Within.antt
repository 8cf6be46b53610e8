-- Numbers in the intervals that operators, meets, hulls and comparisons give.
use Rattle.std.proofs.Common.{◌≡◌, ℕ, ◌*◌, ◌≤◌, cond, sym, ap, subst, arith, Some, None, ◌-◌, ◌/◌, ◌%◌, ◌<◌, false, ◌+◌, refl, inl, inr, rules, true, ◌∙◌, Option}
use Rattle.std.proofs.Math.Nat.{le_trans, le-div_iff_mul-le, div-mul-le_self, mod-lt, mod-eq_of_lt}
use Rattle.std.proofs.lemmas.Bool.{leb-true, le-leb, cond_both, ltb-true, eqb-true, eqb-false, leb-false, lt-ltb, eq-eqb, ne_eqb, cases_eq, not-true, and_parts}
use Rattle.std.proofs.lemmas.Nat.{mul-le}
use Rattle.std.specs.Prelude.{nat_le, nat_eq, nat_lt, min, max, not}
use Rattle.camac_range.specs.Number.{greatest, in_range, product_of, quotient_of, rest_of, sum_of}
use Rattle.camac_range.specs.Interval.{Interval, interval, IsWithin, only, meet, is_inside, hull}
use Rattle.camac_range.specs.Laws.{HasNumber, IsValueWithin, IsExact, ProductsAreExact, ContainsRests, QuotientsAreExact, RestsAreContained, IsLeft, IsInBoth, Meets, NarrowKeeps, Operator, ContainsValues, SumsAreExact, DifferencesAreExact, MeetIsWhatIsInBoth, OppositeIsNot, TurnedIsSwapped}
use Rattle.camac_range.specs.declared.comparison.Cmp.TheVariants.{Less, AtMost, More, AtLeast, Same, Differs}
use Rattle.camac_range.specs.Narrow.{below, above, without, narrow}
use Rattle.camac_range.specs.declared.comparison.Cmp.{Cmp}
use Rattle.camac_range.specs.Compare.{compared}
use Rattle.camac_range.specs.Operators.{add, sub, div, rem}

-- Products of the numbers of two intervals.

-- a number up to the greatest has itself as its value
in_range-at : (n : ℕ) → n ≤ greatest → in_range n ≡ Some n
in_range-at n h = ap (λ b. cond b (Some n) None) (le-leb n greatest h)

low_end : (r : Interval) → HasNumber r → IsWithin r r.lo
low_end r h = record { low = omega arith; high = h }

high_end : (r : Interval) → HasNumber r → IsWithin r r.hi
high_end r h = record { low = h; high = omega arith }

pub products_exact : ProductsAreExact
products_exact r s hr hs =
    cond_both (nat_le (r.hi * s.hi) greatest) (Some (interval (r.lo * s.lo) (r.hi * s.hi))) None (IsExact product_of r s)
    (λ e. let le : r.hi * s.hi ≤ greatest = leb-true (r.hi * s.hi) greatest e in
    let least : r.lo * s.lo ≤ r.hi * s.hi = mul-le r.lo s.lo r.hi s.hi hr hs in
    record {
      contains = λ v w hv hw. let high : v * w ≤ r.hi * s.hi = mul-le v w r.hi s.hi hv.high hw.high in
          subst (IsValueWithin (interval (r.lo * s.lo) (r.hi * s.hi))) (sym (in_range-at (v * w) (le_trans high le)))
          (record { low = mul-le r.lo s.lo v w hv.low hw.low; high = high });
      lowest = record {
        left = r.lo;
        right = s.lo;
        in_left = low_end r hr;
        in_right = low_end s hs;
        same = in_range-at (r.lo * s.lo) (le_trans least le);
      };
      highest = record {
        left = r.hi;
        right = s.hi;
        in_left = high_end r hr;
        in_right = high_end s hs;
        same = in_range-at (r.hi * s.hi) le;
      };
    })
    (λ e. record {
      left = r.hi;
      right = s.hi;
      in_left = high_end r hr;
      in_right = high_end s hs;
      same = ap (λ b. cond b (Some (r.hi * s.hi)) None) e;
    })

-- Quotients and remainders of the numbers of an interval by one number.

div_mono : (a b d : ℕ) → 0 < d → a ≤ b → a / d ≤ b / d
div_mono a b d pos h = (le-div_iff_mul-le pos).1 (le_trans (div-mul-le_self a d) h)

itself : (d : ℕ) → IsWithin (only d) d
itself d = record { low = omega arith; high = omega arith }

is_same : (d w : ℕ) → IsWithin (only d) w → d ≡ w
is_same d w h = omega (arith, h)

-- a number from 1 divides
divides : (d v : ℕ) → nat_eq d 0 ≡ false → quotient_of v d ≡ Some (v / d)
divides d v e = ap (λ b. cond b None (Some (v / d))) e

leaves : (d v : ℕ) → nat_eq d 0 ≡ false → rest_of v d ≡ Some (v % d)
leaves d v e = ap (λ b. cond b None (Some (v % d))) e

above_zero : (d : ℕ) → nat_eq d 0 ≡ false → 0 < d
above_zero d e = let some : d ≡ 0 → ⊥ = eqb-false d 0 e in omega (arith, some)

quotient_in_bounds : (r : Interval) (d v w : ℕ) → nat_eq d 0 ≡ false → IsWithin r v → IsWithin (only d) w → IsValueWithin (interval (r.lo / d) (r.hi / d)) (quotient_of v w)
quotient_in_bounds r d v w e hv hw =
    let pos : 0 < d = above_zero d e in
    let within : IsWithin (interval (r.lo / d) (r.hi / d)) (v / d)
    = record { low = div_mono r.lo v d pos hv.low; high = div_mono v r.hi d pos hv.high } in
    subst (λ n. IsValueWithin (interval (r.lo / d) (r.hi / d)) (quotient_of v n)) (is_same d w hw)
    (subst (IsValueWithin (interval (r.lo / d) (r.hi / d))) (sym (divides d v e)) within)

pub quotients_exact : QuotientsAreExact
quotients_exact r d h =
    cond_both (nat_eq d 0) None (Some (interval (r.lo / d) (r.hi / d))) (IsExact quotient_of r (only d))
    (λ e. record {
      left = r.hi;
      right = d;
      in_left = record { low = h; high = omega arith };
      in_right = itself d;
      same = ap (λ b. cond b None (Some (r.hi / d))) e;
    })
    (λ e. record {
      contains = λ v w hv hw. quotient_in_bounds r d v w e hv hw;
      lowest = record { left = r.lo; right = d; in_left = record { low = omega arith; high = h }; in_right = itself d; same = divides d r.lo e };
      highest = record { left = r.hi; right = d; in_left = record { low = h; high = omega arith }; in_right = itself d; same = divides d r.hi e };
    })

-- the interval of remainders
rests : Interval → ℕ → Interval
rests r d = cond (nat_lt r.hi d) r (interval 0 (d - 1))

rest_in_bounds : (r : Interval) (d v : ℕ) → 0 < d → IsWithin r v → IsWithin (rests r d) (v % d)
unfolding rests
rest_in_bounds r d v pos hv =
    let lt : v % d < d = mod-lt v pos in
    cond_both (nat_lt r.hi d) r (interval 0 (d - 1)) (λ s. IsWithin s (v % d))
    (λ e. let b : r.hi < d = ltb-true r.hi d e in
    let c : v < d = omega (arith, hv) in
    subst (IsWithin r) (sym (mod-eq_of_lt c)) hv)
    (λ e. record { low = omega arith; high = omega arith })

rest_of_within : (r : Interval) (d v w : ℕ) → nat_eq d 0 ≡ false → IsWithin r v → IsWithin (only d) w → IsValueWithin (rests r d) (rest_of v w)
rest_of_within r d v w e hv hw =
    subst (λ n. IsValueWithin (rests r d) (rest_of v n)) (is_same d w hw)
    (subst (IsValueWithin (rests r d)) (sym (leaves d v e)) (rest_in_bounds r d v (above_zero d e) hv))

pub rests_contained : RestsAreContained
unfolding rests
rests_contained r d =
    cond_both (nat_eq d 0) None (Some (rests r d)) (ContainsRests r d)
    (λ e. eqb-true d 0 e)
    (λ e v w hv hw. rest_of_within r d v w e hv hw)

-- What a comparison leaves of an interval.

-- a property of exactly the numbers that are in both
record IsMeet (P : ℕ → Type 0) (r s : Interval) : Type 0 where
  to : (v : ℕ) → P v → IsInBoth r s v
  from : (v : ℕ) → IsWithin r v → IsWithin s v → P v

meet_left : (P : ℕ → Type 0) (r s : Interval) → IsMeet P r s → IsLeft P (meet r s)
meet_left P r s h =
    cond_both (nat_le (max r.lo s.lo) (min r.hi s.hi)) (Some (interval (max r.lo s.lo) (min r.hi s.hi))) None (IsLeft P)
    (λ e. let le : max r.lo s.lo ≤ min r.hi s.hi = leb-true (max r.lo s.lo) (min r.hi s.hi) e in
    record {
      contains = λ v p. let b = h.to v p in record { low = omega (arith, b.first, b.second); high = omega (arith, b.first, b.second) };
      lowest = h.from (max r.lo s.lo) (record { low = omega arith; high = omega arith }) (record { low = omega arith; high = omega arith });
      highest = h.from (min r.hi s.hi) (record { low = omega arith; high = omega arith }) (record { low = omega arith; high = omega arith });
    })
    (λ e v p. let lt : min r.hi s.hi < max r.lo s.lo = leb-false (max r.lo s.lo) (min r.hi s.hi) e in
    let b = h.to v p in absurd (omega (arith, b.first, b.second)))

-- exactly the numbers of r below n
below_left : (P : ℕ → Type 0) (r : Interval) (n : ℕ) → ((v : ℕ) → P v → IsWithin r v) → ((v : ℕ) → P v → v < n) → ((v : ℕ) → IsWithin r v → v < n → P v) → IsLeft P (below r n)
below_left P r n in_r lt from =
    cond_both (nat_eq n 0) None (meet r (interval 0 (n - 1))) (IsLeft P)
    (λ e v p. let none : n ≡ 0 = eqb-true n 0 e in let k = lt v p in absurd (omega arith))
    (λ e. let some : n ≡ 0 → ⊥ = eqb-false n 0 e in
    meet_left P r (interval 0 (n - 1))
    (record {
      to = λ v p. let k = lt v p in record { first = in_r v p; second = record { low = omega arith; high = omega arith } };
      from = λ v a b. from v a (omega (arith, b.high));
    }))

above_left : (P : ℕ → Type 0) (r : Interval) (n : ℕ) → r.hi ≤ greatest → ((v : ℕ) → P v → IsWithin r v) → ((v : ℕ) → P v → n < v) → ((v : ℕ) → IsWithin r v → n < v → P v) → IsLeft P (above r n)
above_left P r n most in_r lt from =
    meet_left P r (interval (n + 1) greatest)
    (record {
      to = λ v p. let k = lt v p in let w = in_r v p in record { first = w; second = record { low = omega arith; high = omega (arith, w.high) } };
      from = λ v a b. from v a (omega (arith, b.low));
    })

without_left : (r s : Interval) → HasNumber r → HasNumber s → r.hi ≤ greatest → s.lo ≡ s.hi → IsLeft (Meets Differs r s) (without r s.lo)
without_left r s hr hs most point =
    let at : (v : ℕ) → Meets Differs r s v → v ≡ s.lo → ⊥
    = λ v m e. eqb-false v m.other (not-true (nat_eq v m.other) m.compares) (omega (arith, m.second)) in
    let from : (v : ℕ) → IsWithin r v → (v ≡ s.lo → ⊥) → Meets Differs r s v
    = λ v w ne. record { other = s.lo; first = w; second = record { low = omega arith; high = hs }; compares = ap not (ne_eqb v s.lo ne) } in
    cond_both (nat_eq r.lo s.lo) (above r s.lo) (cond (nat_eq r.hi s.lo) (below r s.lo) (Some r)) (IsLeft (Meets Differs r s))
    (λ e. let lo : r.lo ≡ s.lo = eqb-true r.lo s.lo e in
    above_left (Meets Differs r s) r s.lo most (λ v m. m.first)
    (λ v m. let ne = at v m in let w = m.first in omega (arith, ne, w.low))
    (λ v w lt. from v w (λ h. omega arith)))
    (λ a. cond_both (nat_eq r.hi s.lo) (below r s.lo) (Some r) (IsLeft (Meets Differs r s))
    (λ e. let hi : r.hi ≡ s.lo = eqb-true r.hi s.lo e in
    below_left (Meets Differs r s) r s.lo (λ v m. m.first)
    (λ v m. let ne = at v m in let w = m.first in omega (arith, ne, w.high))
    (λ v w lt. from v w (λ h. omega arith)))
    (λ b. record {
      contains = λ v m. m.first;
      lowest = from r.lo (record { low = omega arith; high = hr }) (eqb-false r.lo s.lo a);
      highest = from r.hi (record { low = hr; high = omega arith }) (eqb-false r.hi s.lo b);
    }))

-- a number that differs from some number of an interval of at least two
some_other : (r s : Interval) (v : ℕ) → s.lo < s.hi → IsWithin r v → Meets Differs r s v
some_other r s v lt w =
    elim (cases_eq v s.lo) [
      | inl e ↦ record { other = s.hi; first = w; second = record { low = omega arith; high = omega arith }; compares = ap not (ne_eqb v s.hi (λ h. omega arith)) }
      | inr ne ↦ record { other = s.lo; first = w; second = record { low = omega arith; high = omega arith }; compares = ap not (ne_eqb v s.lo ne) }
    ]

pub narrow_keeps : NarrowKeeps
narrow_keeps Less r s hr hs mr ms =
    below_left (Meets Less r s) r s.hi (λ v m. m.first)
    (λ v m. let lt : v < m.other = ltb-true v m.other m.compares in let w = m.second in omega (arith, w.high))
    (λ v w lt. record { other = s.hi; first = w; second = record { low = hs; high = omega arith }; compares = lt-ltb v s.hi lt })
narrow_keeps AtMost r s hr hs mr ms =
    meet_left (Meets AtMost r s) r (interval 0 s.hi)
    (record {
      to = λ v m. let le : v ≤ m.other = leb-true v m.other m.compares in let w = m.second in
          record { first = m.first; second = record { low = omega arith; high = omega (arith, w.high) } };
      from = λ v a b. record { other = s.hi; first = a; second = record { low = hs; high = omega arith }; compares = le-leb v s.hi b.high };
    })
narrow_keeps More r s hr hs mr ms =
    above_left (Meets More r s) r s.lo mr (λ v m. m.first)
    (λ v m. let lt : m.other < v = ltb-true m.other v m.compares in let w = m.second in omega (arith, w.low))
    (λ v w lt. record { other = s.lo; first = w; second = record { low = omega arith; high = hs }; compares = lt-ltb s.lo v lt })
narrow_keeps AtLeast r s hr hs mr ms =
    meet_left (Meets AtLeast r s) r (interval s.lo greatest)
    (record {
      to = λ v m. let le : m.other ≤ v = leb-true m.other v m.compares in let w = m.second in let u = m.first in
          record { first = u; second = record { low = omega (arith, w.low); high = omega (arith, u.high) } };
      from = λ v a b. record { other = s.lo; first = a; second = record { low = omega arith; high = hs }; compares = le-leb s.lo v b.low };
    })
narrow_keeps Same r s hr hs mr ms =
    meet_left (Meets Same r s) r s
    (record {
      to = λ v m. let e : v ≡ m.other = eqb-true v m.other m.compares in
          record { first = m.first; second = subst (IsWithin s) (sym e) m.second };
      from = λ v a b. record { other = v; first = a; second = b; compares = eq-eqb v v refl };
    })
narrow_keeps Differs r s hr hs mr ms =
    cond_both (nat_eq s.lo s.hi) (without r s.lo) (Some r) (IsLeft (Meets Differs r s))
    (λ e. without_left r s hr hs mr (eqb-true s.lo s.hi e))
    (λ e. let ne : s.lo ≡ s.hi → ⊥ = eqb-false s.lo s.hi e in
    let lt : s.lo < s.hi = omega (arith, ne, hs) in
    record {
      contains = λ v m. m.first;
      lowest = some_other r s r.lo lt (record { low = omega arith; high = hr });
      highest = some_other r s r.hi lt (record { low = hr; high = omega arith });
    })

-- Numbers in the intervals that operators, meets, hulls and comparisons give.

pub sums_exact : SumsAreExact
sums_exact = search rules

pub differences_exact : DifferencesAreExact
differences_exact = search rules

pub meet_exact : MeetIsWhatIsInBoth
meet_exact = search rules

pub opposite_is_not : OppositeIsNot
opposite_is_not = search rules

pub turned_is_swapped : TurnedIsSwapped
turned_is_swapped = search rules

pub has_number : (r : Interval) (v : ℕ) → IsWithin r v → HasNumber r
has_number r v h = omega (arith, h)

contains_values : (operator : Operator) (r s i : Interval) (o : Option Interval) → o ≡ Some i → IsExact operator r s o → ContainsValues operator r s i
contains_values operator r s i o e h = (subst (IsExact operator r s) e h).contains

pub sum_within : (r s i : Interval) (v w : ℕ) → add r s ≡ Some i → IsWithin r v → IsWithin s w → IsValueWithin i (sum_of v w)
sum_within r s i v w e hv hw =
    contains_values sum_of r s i (add r s) e (sums_exact r s (has_number r v hv) (has_number s w hw)) v w hv hw

pub quotient_within : (r i : Interval) (d v : ℕ) → div r d ≡ Some i → IsWithin r v → IsValueWithin i (quotient_of v d)
quotient_within r i d v e hv =
    contains_values quotient_of r (only d) i (div r d) e (quotients_exact r d (has_number r v hv)) v d hv (itself d)

pub rest_within : (r i : Interval) (d v : ℕ) → rem r d ≡ Some i → IsWithin r v → IsValueWithin i (rest_of v d)
rest_within r i d v e hv = subst (ContainsRests r d) e (rests_contained r d) v d hv (itself d)

-- what a comparison or a meet leaves: a number, and it is in the interval
abbrev pub IsKept : Option Interval → ℕ → Type 0
IsKept None v = ⊥
IsKept (Some i) v = IsWithin i v

kept : (P : ℕ → Type 0) (o : Option Interval) (v : ℕ) → IsLeft P o → P v → IsKept o v
kept P None v h p = h v p
kept P (Some i) v h p = h.contains v p

pub meet_keeps : (r s : Interval) (v : ℕ) → IsWithin r v → IsWithin s v → IsKept (meet r s) v
meet_keeps r s v hr hs = kept (IsInBoth r s) (meet r s) v (meet_exact r s) (record { first = hr; second = hs })

below_keeps : (r : Interval) (n v : ℕ) → IsWithin r v → v < n → IsKept (below r n) v
below_keeps r n v h lt =
    cond_both (nat_eq n 0) None (meet r (interval 0 (n - 1))) (λ o. IsKept o v)
    (λ e. let none : n ≡ 0 = eqb-true n 0 e in absurd (omega arith))
    (λ e. meet_keeps r (interval 0 (n - 1)) v h (record { low = omega arith; high = omega arith }))

above_keeps : (r : Interval) (n v : ℕ) → IsWithin r v → v ≤ greatest → n < v → IsKept (above r n) v
above_keeps r n v h most lt = meet_keeps r (interval (n + 1) greatest) v h (record { low = omega arith; high = most })

without_keeps : (r : Interval) (n v : ℕ) → IsWithin r v → v ≤ greatest → (v ≡ n → ⊥) → IsKept (without r n) v
without_keeps r n v h most ne =
    cond_both (nat_eq r.lo n) (above r n) (cond (nat_eq r.hi n) (below r n) (Some r)) (λ o. IsKept o v)
    (λ e. let lo : r.lo ≡ n = eqb-true r.lo n e in above_keeps r n v h most (omega (arith, h.low, ne)))
    (λ _. cond_both (nat_eq r.hi n) (below r n) (Some r) (λ o. IsKept o v)
    (λ e. let hi : r.hi ≡ n = eqb-true r.hi n e in below_keeps r n v h (omega (arith, h.high, ne)))
    (λ _. h))

differs_keeps : (r s : Interval) (v w : ℕ) → IsWithin r v → IsWithin s w → v ≤ greatest → (v ≡ w → ⊥) → IsKept (narrow Differs r s) v
differs_keeps r s v w hv hw most ne =
    cond_both (nat_eq s.lo s.hi) (without r s.lo) (Some r) (λ o. IsKept o v)
    (λ e. let point : s.lo ≡ s.hi = eqb-true s.lo s.hi e in
    let is_w : s.lo ≡ w = omega (arith, hw) in
    without_keeps r s.lo v hv most (λ h. ne (h ∙ is_w)))
    (λ _. hv)

-- A number up to the greatest that compares so with a number of s is kept, whatever the ends of r and s.
pub narrowed_keeps : (c : Cmp) (r s : Interval) (v w : ℕ) → v ≤ greatest → IsWithin r v → IsWithin s w → compared c v w ≡ true → IsKept (narrow c r s) v
narrowed_keeps Less r s v w most hv hw e = let lt : v < w = ltb-true v w e in below_keeps r s.hi v hv (omega (arith, hw.high))
narrowed_keeps AtMost r s v w most hv hw e =
    let le : v ≤ w = leb-true v w e in meet_keeps r (interval 0 s.hi) v hv (record { low = omega arith; high = omega (arith, hw.high) })
narrowed_keeps More r s v w most hv hw e = let lt : w < v = ltb-true w v e in above_keeps r s.lo v hv most (omega (arith, hw.low))
narrowed_keeps AtLeast r s v w most hv hw e =
    let le : w ≤ v = leb-true w v e in meet_keeps r (interval s.lo greatest) v hv (record { low = omega (arith, hw.low); high = most })
narrowed_keeps Same r s v w most hv hw e = let same : v ≡ w = eqb-true v w e in meet_keeps r s v hv (subst (IsWithin s) (sym same) hw)
narrowed_keeps Differs r s v w most hv hw e = differs_keeps r s v w hv hw most (eqb-false v w (not-true (nat_eq v w) e))

pub hull_left : (r s : Interval) (v : ℕ) → IsWithin r v → IsWithin (hull r s) v
hull_left r s v h = record { low = omega (arith, h); high = omega (arith, h) }

pub hull_right : (r s : Interval) (v : ℕ) → IsWithin s v → IsWithin (hull r s) v
hull_right r s v h = record { low = omega (arith, h); high = omega (arith, h) }

pub inside_within : (r s : Interval) (v : ℕ) → is_inside r s ≡ true → IsWithin r v → IsWithin s v
inside_within r s v e h =
    let low : s.lo ≤ r.lo = leb-true s.lo r.lo (and_parts _ _ e).0 in
    let high : r.hi ≤ s.hi = leb-true r.hi s.hi (and_parts _ _ e).1 in
    record { low = omega (arith, h); high = omega (arith, h) }
