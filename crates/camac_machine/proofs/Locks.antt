-- Locks: which of the open blocks hold them, and how many there are.
use Rattle.std.proofs.Common.{◌≡◌, ℕ, zero, suc, ◌+◌, ◌<◌, ◌≤◌, List, [], ◌∷◌, ◌++◌, Bool, true, false, refl, sym, ap, ◌∙◌, arith, eq-eqb}
use Rattle.std.proofs.lemmas.Bool.{eqb-true, false≢true}
use Rattle.std.specs.Prelude.{nat_eq, if◌then◌else◌}
use Rattle.camac_lang.specs.Tree.{Block}
use Rattle.camac_branch.specs.Branch.{Branch, with_lock}
use Rattle.camac_machine.specs.MachineState.{holds, times_held, AreHeld, locked_among}
use Rattle.camac_machine.specs.Rest.{releases, Open}

abbrev bit : Bool → ℕ
bit t = if t then 1 else 0

pub times_push : (c : ℕ) (os : List Open) (o : Open) → times_held c (os ++ o ∷ []) ≡ times_held c os + holds c o.owner
times_push c [] o = omega arith
times_push c (p ∷ os) o = let e = times_push c os o in omega (arith, e)

-- no block is open, so that no crate is locked
pub none_held : (b : Branch) → AreHeld b [] → (c : ℕ) → (b c).locked ≡ false
none_held b h c = go (b c).locked (h c)
  where
    go : (t : Bool) → 0 ≡ bit t → t ≡ false
    go true e = absurd (omega (arith, e))
    go false e = refl

pub none_locked : (b : Branch) → ((c : ℕ) → (b c).locked ≡ false) → AreHeld b []
none_locked b h c = ap bit (sym (h c))

-- along branches with the same locks
pub held_along : (b d : Branch) (os : List Open) → ((c : ℕ) → (d c).locked ≡ (b c).locked) → AreHeld b os → AreHeld d os
held_along b d os e h c = h c ∙ ap bit (sym (e c))

pub among_along : (b d : Branch) (n : ℕ) → ((c : ℕ) → (d c).locked ≡ (b c).locked) → locked_among d n ≡ locked_among b n
among_along b d zero e = refl
among_along b d (suc n) e =
    ap (λ k. k + bit (d (suc n)).locked) (among_along b d n e) ∙ ap (λ t. locked_among b n + bit t) (e (suc n))

-- by another owner that holds the same
pub held_same : (b : Branch) (os : List Open) (o p : Open) → ((c : ℕ) → holds c o.owner ≡ holds c p.owner) → AreHeld b (os ++ o ∷ []) → AreHeld b (os ++ p ∷ [])
held_same b os o p e h c = times_push c os p ∙ ap (λ n. times_held c os + n) (sym (e c)) ∙ sym (times_push c os o) ∙ h c

pub held_push : (b : Branch) (os : List Open) (o : Open) → ((c : ℕ) → holds c o.owner ≡ 0) → AreHeld b os → AreHeld b (os ++ o ∷ [])
held_push b os o e h c =
    let t = times_push c os o in
    let z = e c in
    let k = h c in omega (arith, t, z, k)

pub held_pop : (b : Branch) (os : List Open) (o : Open) → ((c : ℕ) → holds c o.owner ≡ 0) → AreHeld b (os ++ o ∷ []) → AreHeld b os
held_pop b os o e h c =
    let t = times_push c os o in
    let z = e c in
    let k = h c in omega (arith, t, z, k)

self_held : (k : ℕ) → holds k (releases k) ≡ 1
self_held k = ap bit (eq-eqb k k refl)

-- a crate whose lock the last block holds is locked
pub held_last : (b : Branch) (os : List Open) (body : Block) (k : ℕ) → AreHeld b (os ++ record { block = body; owner = releases k } ∷ []) → (b k).locked ≡ true
held_last b os body k h = go (b k).locked (h k)
  where
    t : times_held k (os ++ record { block = body; owner = releases k } ∷ []) ≡ times_held k os + 1
    t = times_push k os (record { block = body; owner = releases k }) ∙ ap (λ n. times_held k os + n) (self_held k)

    go : (l : Bool) → times_held k (os ++ record { block = body; owner = releases k } ∷ []) ≡ bit l → l ≡ true
    go true e = refl
    go false e = absurd (omega (arith, t, e))

-- the lock of a crate, as it is set
lock_at : (b : Branch) (k : ℕ) (l : Bool) → (with_lock k l b k).locked ≡ l
lock_at b k l = ap (λ t. (if t then record (b k) { locked = l } else b k).locked) (eq-eqb k k refl)

lock_other : (b : Branch) (k c : ℕ) (l : Bool) → nat_eq c k ≡ false → (with_lock k l b c).locked ≡ (b c).locked
lock_other b k c l e = ap (λ t. (if t then record (b k) { locked = l } else b c).locked) e

-- it is taken by a block
pub held_taken : (b : Branch) (os : List Open) (body : Block) (k : ℕ) → (b k).locked ≡ false → AreHeld b os → AreHeld (with_lock k true b) (os ++ record { block = body; owner = releases k } ∷ [])
held_taken b os body k free h c = times_push c os (record { block = body; owner = releases k }) ∙ go (nat_eq c k) refl
  where
    go : (t : Bool) → nat_eq c k ≡ t → times_held c os + bit t ≡ bit (with_lock k true b c).locked
    go true e =
        let same : c ≡ k = eqb-true c k e in
        let one : (with_lock k true b c).locked ≡ true = ap (λ i. (with_lock k true b i).locked) same ∙ lock_at b k true in
        let none : times_held c os ≡ 0 = h c ∙ ap (λ i. bit (b i).locked) same ∙ ap bit free in
        ap (λ n. n + 1) none ∙ ap bit (sym one)
    go false e =
        let other : (with_lock k true b c).locked ≡ (b c).locked = lock_other b k c true e in
        let z : times_held c os + 0 ≡ times_held c os = omega arith in z ∙ h c ∙ ap bit (sym other)

-- it is released
pub held_released : (b : Branch) (os : List Open) (body : Block) (k : ℕ) → AreHeld b (os ++ record { block = body; owner = releases k } ∷ []) → AreHeld (with_lock k false b) os
held_released b os body k h c = go (nat_eq c k) refl
  where
    go : (t : Bool) → nat_eq c k ≡ t → times_held c os ≡ bit (with_lock k false b c).locked
    go true e =
        let same : c ≡ k = eqb-true c k e in
        let off : (with_lock k false b c).locked ≡ false = ap (λ i. (with_lock k false b i).locked) same ∙ lock_at b k false in
        let t = times_push c os (record { block = body; owner = releases k }) in
        let one : bit (nat_eq c k) ≡ 1 = ap bit e in
        let was : bit (b c).locked ≡ 1 = ap (λ i. bit (b i).locked) same ∙ ap bit (held_last b os body k h) in
        let now = h c in
        let none : times_held c os ≡ 0 = omega (arith, t, one, was, now) in none ∙ ap bit (sym off)
    go false e =
        let other : (with_lock k false b c).locked ≡ (b c).locked = lock_other b k c false e in
        let t = times_push c os (record { block = body; owner = releases k }) in
        let zero' : bit (nat_eq c k) ≡ 0 = ap bit e in
        let now = h c in
        let same : times_held c os ≡ bit (b c).locked = omega (arith, t, zero', now) in same ∙ ap bit (sym other)

pub among_few : (b : Branch) (n : ℕ) → locked_among b n ≤ n
among_few b zero = omega arith
among_few b (suc n) = go (b (suc n)).locked (among_few b n)
  where
    go : (t : Bool) → locked_among b n ≤ n → locked_among b n + bit t ≤ suc n
    go true h = omega (arith, h)
    go false h = omega (arith, h)

abbrev OneFewer : Branch → ℕ → ℕ → Type 0
OneFewer b k n =
    (k ≤ n → locked_among (with_lock k false b) n + 1 ≡ locked_among b n)
    × (n < k → locked_among (with_lock k false b) n ≡ locked_among b n)

one_fewer : (b : Branch) (k n : ℕ) → (b k).locked ≡ true → OneFewer b k n → (t : Bool) → nat_eq (suc n) k ≡ t → OneFewer b k (suc n)
one_fewer b k n on before true e =
    let same : suc n ≡ k = eqb-true (suc n) k e in
    let off : bit (with_lock k false b (suc n)).locked ≡ 0 = ap (λ i. bit (with_lock k false b i).locked) same ∙ ap bit (lock_at b k false) in
    let was : bit (b (suc n)).locked ≡ 1 = ap (λ i. bit (b i).locked) same ∙ ap bit on in
    let rest = before.1 (omega (arith, same)) in
    (λ le. omega (arith, off, was, rest), λ lt. absurd (omega (arith, lt, same)))
one_fewer b k n on before false e =
    let other : bit (with_lock k false b (suc n)).locked ≡ bit (b (suc n)).locked = ap bit (lock_other b k (suc n) false e) in
    let not_same : suc n ≡ k → ⊥ = λ same. absurd (false≢true (sym e ∙ eq-eqb (suc n) k same)) in (
      λ le. let le' : k ≤ n = omega (arith, le, not_same) in let rest = before.0 le' in omega (arith, other, rest),
      λ lt. let rest = before.1 (omega (arith, lt)) in omega (arith, other, rest),
    )

-- with one lock fewer
pub among_released : (b : Branch) (k n : ℕ) → 1 ≤ k → (b k).locked ≡ true → OneFewer b k n
among_released b k zero some on = (λ le. absurd (omega (arith, some, le)), λ lt. refl)
among_released b k (suc n) some on = one_fewer b k n on (among_released b k n some on) (nat_eq (suc n) k) refl
