-- The open blocks: with one block more, and one less.
use Rattle.std.proofs.Common.{◌≡◌, ℕ, suc, ◌+◌, ◌*◌, ◌-◌, ◌<◌, ◌≤◌, List, [], ◌∷◌, ◌++◌, length, refl, sym, ap, subst, ◌∙◌, arith}
use Rattle.camac_model.specs.State.{State}
use Rattle.camac_model.specs.Behaviour.{Behaviour, does, ends, stops, then_do, lock_released}
use Rattle.camac_model.specs.Meaning.{Context}
use Rattle.camac_model.proofs.Runs.{then_assoc}
use Rattle.camac_machine.specs.Rest.{Open, left_of, rest_in, says}
use Rattle.camac_lang.specs.Tree.{Script}
use Rattle.camac_machine.specs.declared.scope.Scope.{Scope}
use Rattle.camac_machine.specs.Within.{reach_of, Opens, OwnerFits, outer, outside, OpenFit}

pub then_ends : {A : Type 0} (b : Behaviour A) → then_do b (λ a. ends a) ≡ b
then_ends (does p b) = ap (does p) (then_ends b)
then_ends (ends a) = refl
then_ends (stops w s) = refl

-- with one block more, that block comes first
pub rest_push : (c : Context) (os : List Open) (o : Open) (s : State) → rest_in c (os ++ o ∷ []) s ≡ then_do (left_of c o s) (rest_in c os)
unfolding rest_in
rest_push c [] o s = sym (then_ends (left_of c o s))
rest_push c (d ∷ os) o s =
    ap (λ r. then_do r (left_of c d)) (rest_push c os o s) ∙ then_assoc (left_of c o s) (rest_in c os) (left_of c d)

module _ (v : ℕ) (s : Script) where
  -- what is seen outside of a block more
  pub outside_push : (c : Scope) (os : List Open) (o : Open) → outside c (os ++ o ∷ []) ≡ outside (outer c o.owner) os
  outside_push c [] o = refl
  outside_push c (p ∷ os) o = ap (λ u. outer u p.owner) (outside_push c os o)

  pub opens_push : (c : Scope) (d : ℕ) (os : List Open) (o : Open) → OpenFit v s (outer c o.owner) d os → Opens (reach_of s c) (d - length os) o.block → OwnerFits v s c (d - length os) o.owner → OpenFit v s c d (os ++ o ∷ [])
  opens_push c d [] o h b w =
      let e : d - 0 ≡ d = omega arith in
      (subst (λ n. Opens (reach_of s c) n o.block) e b, subst (λ n. OwnerFits v s c n o.owner) e w, tt)
  opens_push c d (p ∷ os) o h b w =
      let e : d - suc (length os) ≡ d - 1 - length os = omega arith in
      let same = sym (outside_push c os o) in (
        subst (λ (u : Scope). Opens (reach_of s u) d p.block) same h.0,
        subst (λ (u : Scope). OwnerFits v s u d p.owner) same h.1,
        opens_push c (d - 1) os o h.2 (subst (λ n. Opens (reach_of s c) n o.block) e b) (subst (λ n. OwnerFits v s c n o.owner) e w),
      )

  -- what the last one has
  pub record LastFits (c : Scope) (d : ℕ) (os : List Open) (o : Open) : Type 0 where
    pub others : OpenFit v s (outer c o.owner) d os
    pub block : Opens (reach_of s c) (d - length os) o.block
    pub owner : OwnerFits v s c (d - length os) o.owner
    pub depth : length os < d

  pub opens_pop : (c : Scope) (d : ℕ) (os : List Open) (o : Open) → OpenFit v s c d (os ++ o ∷ []) → LastFits c d os o
  opens_pop c d [] o h =
      let e : d ≡ d - 0 = omega arith in
      let some = h.0.0 in
      record { others = tt; block = subst (λ n. Opens (reach_of s c) n o.block) e h.0; owner = subst (λ n. OwnerFits v s c n o.owner) e h.1; depth = omega (arith, some) }
  opens_pop c d (p ∷ os) o h =
      let k = opens_pop c (d - 1) os o h.2 in
      let e : d - 1 - length os ≡ d - suc (length os) = omega arith in
      let same = outside_push c os o in
      let lt = k.depth in
      record {
        others = (subst (λ (u : Scope). Opens (reach_of s u) d p.block) same h.0, subst (λ (u : Scope). OwnerFits v s u d p.owner) same h.1, k.others);
        block = subst (λ n. Opens (reach_of s c) n o.block) e k.block;
        owner = subst (λ n. OwnerFits v s c n o.owner) e k.owner;
        depth = omega (arith, lt);
      }

-- releases, and then more of them
pub says_more : {A : Type 0} (ks ls : List ℕ) (b : Behaviour A) → says (ks ++ ls) b ≡ says ks (says ls b)
says_more [] ls b = refl
says_more (k ∷ ks) ls b = ap (does (lock_released k)) (says_more ks ls b)

pub says_then : {A B : Type 0} (ks : List ℕ) (b : Behaviour A) (go : A → Behaviour B) → then_do (says ks b) go ≡ says ks (then_do b go)
says_then [] b go = refl
says_then (k ∷ ks) b go = ap (does (lock_released k)) (says_then ks b go)

-- the measure falls where a block is taken, and each block more costs a step
pub measure_falls : (b s s' n n' p : ℕ) → s' ≤ b → n' + 2 * s ≤ 2 * s' + p → n ≡ p + 1 → 2 * (b - s') + n' < 2 * (b - s) + n
measure_falls b s s' n n' p f g h = omega arith
