-- A list as a function of its places.
use Rattle.std.proofs.Common.{◌≡◌, ℕ, ◌<◌, List, length, set, get_or, get_or-set_same, get_or-set_other, replicate, false, refl, sym, ap, inl, inr, eq-eqb}
use Rattle.std.proofs.lemmas.Bool.{cases_eq, ne_eqb, cases_lt}
use Rattle.std.proofs.lemmas.List.{get_or-replicate, get_or_past, length-replicate}
use Rattle.std.proofs.Math.Path.{fun_ext}
use Rattle.camac_branch.specs.Branch.{Branch}
use Rattle.camac_model.specs.State.{set_at, unlocked}

set_here : {A : Type 0} (d : A) (xs : List A) (k : ℕ) (v : A) → k < length xs → (i : ℕ) → get_or (set xs k v) i d ≡ set_at k v (λ j. get_or xs j d) i
set_here d xs k v below i =
    elim (cases_eq i k) [
      | inl same ↦ rw (same, eq-eqb k k refl, get_or-set_same xs k v d below) refl
      | inr other ↦ rw (ne_eqb i k other, get_or-set_other xs k i v d other) refl
    ]

-- with one place changed
pub set_is : {A : Type 0} (d : A) (xs : List A) (k : ℕ) (v : A) → k < length xs → (λ i. get_or (set xs k v) i d) ≡ set_at k v (λ j. get_or xs j d)
set_is d xs k v below = fun_ext (set_here d xs k v below)

pub all_same : {A : Type 0} (d : A) (n i : ℕ) → get_or (replicate n d) i d ≡ d
all_same d n i =
    elim (cases_lt i n) [
      | inl less ↦ get_or-replicate n i d d less
      | inr past ↦ get_or_past (replicate n d) i d (rw length-replicate past)
    ]

-- where no crate is locked, unlocking changes nothing
pub unlocked_same : (b : Branch) → ((c : ℕ) → (b c).locked ≡ false) → unlocked b ≡ b
unlocked_same b free = fun_ext (λ c. ap (λ l. record (b c) { locked = l }) (sym (free c)))
