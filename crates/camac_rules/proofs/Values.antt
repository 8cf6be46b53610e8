-- What the rules say of expressions is true of their values.
use Rattle.std.proofs.Common.{◌≡◌, ℕ, ◌+◌, ◌-◌, ◌*◌, ◌/◌, ◌%◌, ◌<◌, ◌≤◌, Bool, true, false, cond, List, refl, sym, ap, subst, arith, Option, Some, None}
use Rattle.std.specs.Prelude.{nat_eq, nat_lt, nat_le, option_and_then}
use Rattle.std.proofs.Math.Nat.{le-div_iff_mul-le, div-mul-le_self, mod-lt, mod-eq_of_lt, le_trans}
use Rattle.std.proofs.lemmas.Bool.{ltb-true, leb-true, eqb-false, le-leb, cond_both}
use Rattle.std.proofs.lemmas.Nat.{mul-le}
use Rattle.camac_lang.specs.Tree.{Expression, number, variable, group, add, subtract, multiply, divide, remainder}
use Rattle.camac_range.specs.Number.{greatest, in_range, difference_of, quotient_of, rest_of}
use Rattle.camac_range.specs.Interval.{Interval, interval, only, IsWithin}
use Rattle.camac_range.specs.Operators as range
use Rattle.camac_model.specs.State.{Variables}
use Rattle.camac_model.specs.Value.{both, value}
use Rattle.camac_rules.specs.Expressions.{range_of}
use Rattle.camac_rules.proofs.Allows.{Allows, allowed, then_allowed, required_allowed, given_then, for_each}
use Rattle.camac_rules.proofs.Stores.{VariablesInside}
use Rattle.camac_lang.specs.declared.spot.Spot.{Spot}

-- an expression has a value, in the range
pub record Fits (r : Interval) (v : ℕ) : Type 0 where
  pub within : IsWithin r v
  pub small : v ≤ greatest

abbrev pub Gives : Option ℕ → Interval → Type 0
Gives None r = ⊥
Gives (Some v) r = Fits r v

pub some_if : {A : Type 0} (b : Bool) (x y : A) → cond b (Some x) None ≡ Some y → (b ≡ true) × (x ≡ y)
some_if true x y e = (refl, cc)
some_if false x y e = cc

none_if : {A : Type 0} (b : Bool) (x y : A) → cond b None (Some x) ≡ Some y → (b ≡ false) × (x ≡ y)
none_if true x y e = cc
none_if false x y e = (refl, cc)

small_gives : (n : ℕ) (r : Interval) → IsWithin r n → n ≤ greatest → Gives (in_range n) r
small_gives n r w le =
    let fits : Fits r n = record { within = w; small = le } in
    let is : in_range n ≡ Some n = ap (λ b. cond b (Some n) None) (le-leb n greatest le) in
    subst (λ o. Gives o r) (sym is) fits

add_gives : (x y : Option ℕ) (r s i : Interval) → Gives x r → Gives y s → range.add r s ≡ Some i → Gives (both (λ v w. in_range (v + w)) x y) i
add_gives None y r s i gx gy e = absurd gx
add_gives (Some x) None r s i gx gy e = absurd gy
add_gives (Some x) (Some y) r s i gx gy e =
    let p = some_if (nat_le (r.hi + s.hi) greatest) (interval (r.lo + s.lo) (r.hi + s.hi)) i e in
    let le : r.hi + s.hi ≤ greatest = leb-true (r.hi + s.hi) greatest p.0 in
    subst (Gives (in_range (x + y))) p.1
    (small_gives (x + y) (interval (r.lo + s.lo) (r.hi + s.hi)) (record { low = omega (arith, gx.within, gy.within); high = omega (arith, gx.within, gy.within) }) (omega (arith, gx.within, gy.within)))

subtract_gives : (x y : Option ℕ) (r s i : Interval) → Gives x r → Gives y s → range.sub r s ≡ Some i → Gives (both difference_of x y) i
subtract_gives None y r s i gx gy e = absurd gx
subtract_gives (Some x) None r s i gx gy e = absurd gy
subtract_gives (Some x) (Some y) r s i gx gy e =
    let p = some_if (nat_le s.hi r.lo) (interval (r.lo - s.hi) (r.hi - s.lo)) i e in
    let le : s.hi ≤ r.lo = leb-true s.hi r.lo p.0 in
    let yx : y ≤ x = omega (arith, gx.within, gy.within) in
    let is : difference_of x y ≡ Some (x - y) = ap (λ b. cond b (Some (x - y)) None) (le-leb y x yx) in
    let fits : Fits (interval (r.lo - s.hi) (r.hi - s.lo)) (x - y) = record {
      within = record { low = omega (arith, gx.within, gy.within); high = omega (arith, gx.within, gy.within) };
      small = omega (arith, gx.small);
    } in
    subst (Gives (difference_of x y)) p.1 (subst (λ o. Gives o (interval (r.lo - s.hi) (r.hi - s.lo))) (sym is) fits)

multiply_gives : (x y : Option ℕ) (r s i : Interval) → Gives x r → Gives y s → range.mul r s ≡ Some i → Gives (both (λ v w. in_range (v * w)) x y) i
multiply_gives None y r s i gx gy e = absurd gx
multiply_gives (Some x) None r s i gx gy e = absurd gy
multiply_gives (Some x) (Some y) r s i gx gy e =
    let p = some_if (nat_le (r.hi * s.hi) greatest) (interval (r.lo * s.lo) (r.hi * s.hi)) i e in
    let high : x * y ≤ r.hi * s.hi = mul-le x y r.hi s.hi gx.within.high gy.within.high in
    subst (Gives (in_range (x * y))) p.1
    (small_gives (x * y) (interval (r.lo * s.lo) (r.hi * s.hi)) (record { low = mul-le r.lo s.lo x y gx.within.low gy.within.low; high = high }) (le_trans high (leb-true (r.hi * s.hi) greatest p.0)))

div_mono : (a b d : ℕ) → 0 < d → a ≤ b → a / d ≤ b / d
div_mono a b d pos h = (le-div_iff_mul-le pos).1 (le_trans (div-mul-le_self a d) h)

div_small : (a d : ℕ) → 0 < d → a / d ≤ a
div_small a d pos = omega arith

divide_gives : (d : ℕ) (x : Option ℕ) (r i : Interval) → Gives x r → range.div r d ≡ Some i → Gives (option_and_then (λ v. quotient_of v d) x) i
divide_gives d None r i g e = absurd g
divide_gives d (Some x) r i g e =
    let p = none_if (nat_eq d 0) (interval (r.lo / d) (r.hi / d)) i e in
    let ne = eqb-false d 0 p.0 in
    let pos : 0 < d = omega arith in
    let is : quotient_of x d ≡ Some (x / d) = ap (λ b. cond b None (Some (x / d))) p.0 in
    let fits : Fits (interval (r.lo / d) (r.hi / d)) (x / d) = record {
      within = record { low = div_mono r.lo x d pos g.within.low; high = div_mono x r.hi d pos g.within.high };
      small = le_trans (div_small x d pos) g.small;
    } in
    subst (Gives (quotient_of x d)) p.1 (subst (λ o. Gives o (interval (r.lo / d) (r.hi / d))) (sym is) fits)

rest_fits : (d x : ℕ) (r : Interval) → 0 < d → Fits r x → Fits (cond (nat_lt r.hi d) r (interval 0 (d - 1))) (x % d)
rest_fits d x r pos g =
    let lt : x % d < d = mod-lt x pos in
    cond_both (nat_lt r.hi d) r (interval 0 (d - 1)) (λ s. Fits s (x % d))
    (λ e. let b : r.hi < d = ltb-true r.hi d e in
    let c : x < d = omega (arith, g.within) in
    subst (Fits r) (sym (mod-eq_of_lt c)) g)
    (λ e. record { within = record { low = omega arith; high = omega arith }; small = le_trans (omega arith) g.small })

remainder_gives : (d : ℕ) (x : Option ℕ) (r i : Interval) → Gives x r → range.rem r d ≡ Some i → Gives (option_and_then (λ v. rest_of v d) x) i
remainder_gives d None r i g e = absurd g
remainder_gives d (Some x) r i g e =
    let left : Interval = cond (nat_lt r.hi d) r (interval 0 (d - 1)) in
    let p = none_if (nat_eq d 0) left i e in
    let ne = eqb-false d 0 p.0 in
    let pos : 0 < d = omega arith in
    let is : rest_of x d ≡ Some (x % d) = ap (λ b. cond b None (Some (x % d))) p.0 in
    subst (Gives (rest_of x d)) p.1 (subst (λ o. Gives o left) (sym is) (rest_fits d x r pos g))

pub only_within : (n : ℕ) → IsWithin (only n) n
only_within n = record { low = omega arith; high = omega arith }

pub range_holds : (spot : Spot) (e : Expression) (rs : List Interval) (env : Variables) → VariablesInside rs env → Allows (range_of spot e rs) (Gives (value e env))
range_holds spot (number n) rs env h = required_allowed _ spot _ (λ e. allowed (small_gives n (only n) (only_within n) (leb-true n greatest e)))
range_holds spot (variable x) rs env h = allowed (small_gives (env x) _ (h.each x) (h.small x))
range_holds spot (group e) rs env h = range_holds spot e rs env h
range_holds spot (add a b) rs env h =
    then_allowed (range_holds spot a rs env h) (λ r ga. then_allowed (range_holds spot b rs env h)
    (λ s gb. given_then (range.add r s) _ spot _ (λ i e. add_gives (value a env) (value b env) r s i ga gb e)))
range_holds spot (subtract a b) rs env h =
    then_allowed (range_holds spot a rs env h) (λ r ga. then_allowed (range_holds spot b rs env h)
    (λ s gb. given_then (range.sub r s) _ spot _ (λ i e. subtract_gives (value a env) (value b env) r s i ga gb e)))
range_holds spot (multiply a b) rs env h =
    then_allowed (range_holds spot a rs env h) (λ r ga. then_allowed (range_holds spot b rs env h)
    (λ s gb. given_then (range.mul r s) _ spot _ (λ i e. multiply_gives (value a env) (value b env) r s i ga gb e)))
range_holds spot (divide a d) rs env h =
    then_allowed (range_holds spot a rs env h) (λ r ga. given_then (range.div r d) _ spot _ (λ i e. divide_gives d (value a env) r i ga e))
range_holds spot (remainder a d) rs env h =
    then_allowed (range_holds spot a rs env h) (λ r ga. given_then (range.rem r d) _ spot _ (λ i e. remainder_gives d (value a env) r i ga e))

-- for every state inside the ranges
pub range_each : (spot : Spot) (e : Expression) (rs : List Interval) → Allows (range_of spot e rs) (λ r. (env : Variables) → VariablesInside rs env → Gives (value e env) r)
range_each spot e rs = for_each (VariablesInside rs) (λ env r. Gives (value e env) r) (λ env h. range_holds spot e rs env h)
