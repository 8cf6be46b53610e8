-- Entries by their numbers from 1, and what they are after a write.
use Rattle.std.proofs.Common.{◌≡◌, ◌≢◌, ℕ, ◌-◌, ◌<◌, ◌≤◌, List, [], ◌∷◌, map, Option, Some, None, length, get_or, set, zero, suc, refl, sym, ◌∙◌, ap, arith, ◌⊎◌, inl, inr, get_or-set_same, get_or-set_other, Bool, true, false, is_some}
use Rattle.std.proofs.lemmas.Bool.{cases_lt, false≢true}
use Rattle.std.proofs.Math.Bool.{or-true}
use Rattle.std.specs.List.{list_any}
use Rattle.std.proofs.lemmas.List.{get_or_past}
use Rattle.camac_branch.specs.Plan.{numbered}

pub numbered-from : {A : Type 0} (xs : List (Option A)) (k : ℕ) → 1 ≤ k → numbered xs k ≡ get_or xs (k - 1) None
numbered-from xs zero h = absurd (omega arith)
numbered-from xs (suc k) h = let less : suc k - 1 ≡ k = omega arith in rw less refl

-- no entry has the number 0, or one past the last
pub numbered-outside : {A : Type 0} (xs : List (Option A)) (k : ℕ) → (k < 1) ⊎ (length xs < k) → numbered xs k ≡ None
numbered-outside xs zero h = refl
numbered-outside xs (suc k) (inl h) = absurd (omega arith)
numbered-outside xs (suc k) (inr h) = get_or_past xs k None (omega arith)

pub numbered-set_same : {A : Type 0} (xs : List (Option A)) (k : ℕ) (x : Option A) → 1 ≤ k → k - 1 < length xs → numbered (set xs (k - 1) x) k ≡ x
numbered-set_same xs k x from below = rw (numbered-from (set xs (k - 1) x) k from) (get_or-set_same xs (k - 1) x None below)

pub numbered-set_other : {A : Type 0} (xs : List (Option A)) (k j : ℕ) (x : Option A) → 1 ≤ k → j ≢ k → numbered (set xs (k - 1) x) j ≡ numbered xs j
numbered-set_other xs k zero x from other = refl
numbered-set_other xs k (suc j) x from other = let apart : j ≢ k - 1 = (λ e. other (omega (arith, e, from))) in get_or-set_other xs (k - 1) j x None apart

pub nothing_numbered : {A : Type 0} (n : ℕ) (xs : List ℕ) → numbered {A = A} (map (λ _. None) xs) n ≡ None
nothing_numbered zero xs = refl
nothing_numbered (suc n) [] = refl
nothing_numbered (suc zero) (x ∷ xs) = refl
nothing_numbered (suc (suc n)) (x ∷ xs) = nothing_numbered (suc n) xs

pub none_is_some : {A : Type 0} (x : A) → None ≡ Some x → ⊥
none_is_some x e = false≢true (ap is_some e)

-- what stands under a number passes the test, so one of all does
pub numbered_passes : {A : Type 0} (test : Option A → Bool) (xs : List (Option A)) (k : ℕ) (x : A) → numbered xs k ≡ Some x → test (Some x) ≡ true → list_any test xs ≡ true
numbered_passes test xs zero x is passes = absurd (none_is_some x is)
numbered_passes test [] (suc i) x is passes = absurd (none_is_some x is)
numbered_passes test (y ∷ ys) (suc zero) x is passes = rw (is, passes) refl
numbered_passes test (y ∷ ys) (suc (suc i)) x is passes = rw (numbered_passes test ys (suc i) x is passes) (or-true (test y))

-- inside a list the default of a read says nothing
pub any_default : {A : Type 0} (xs : List A) (i : ℕ) (d e : A) → i < length xs → get_or xs i d ≡ get_or xs i e
any_default [] i d e h = absurd (omega arith)
any_default (x ∷ xs) zero d e h = refl
any_default (x ∷ xs) (suc i) d e h = any_default xs i d e (omega arith)

-- what code reads at a number less 1
pub numbered-read : {A : Type 0} (xs : List (Option A)) (k : ℕ) (d : Option A) → 1 ≤ k → k - 1 < length xs → get_or xs (k - 1) d ≡ numbered xs k
numbered-read xs k d from below = any_default xs (k - 1) d None below ∙ sym (numbered-from xs k from)

pub is_none : {A : Type 0} (o : Option A) → false ≡ is_some o → o ≡ None
is_none None e = refl
is_none (Some x) e = absurd (false≢true e)

-- a number that names something is one of those that there are
some_at : {A : Type 0} (xs : List (Option A)) (i : ℕ) (x : A) → get_or xs i None ≡ Some x → i < length xs
some_at xs i x h = elim (cases_lt i (length xs)) [ inl below ↦ below | inr past ↦ absurd (none_is_some x (sym (get_or_past xs i None past) ∙ h)) ]

pub numbered-in_range : {A : Type 0} (xs : List (Option A)) (k : ℕ) (x : A) → numbered xs k ≡ Some x → (1 ≤ k) × (k ≤ length xs)
numbered-in_range xs zero x h = absurd (none_is_some x h)
numbered-in_range xs (suc i) x h = let below = some_at xs i x h in (omega arith, omega (arith, below))
