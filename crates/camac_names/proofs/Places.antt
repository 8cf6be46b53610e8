-- Nothing is installed outside the crates and stations of a plan.
use Rattle.std.proofs.Common.{◌≡◌, ℕ, ◌<◌, ◌≤◌, List, [], ◌∷◌, Option, Some, None, option_map, option_and_then, map, slice_get, get_or, is_some, length, zero, suc, refl, sym, ap, ◌∙◌, arith, inl, inr}
use Rattle.std.proofs.lemmas.Bool.{cases_lt, false≢true}
use Rattle.std.proofs.lemmas.List.{get_or_past, length-map}
use Rattle.std.proofs.lemmas.Option.{slice_get-map, same_Some}
use Rattle.camac_branch.specs.declared.plan.Crate.{Crate}
use Rattle.camac_branch.specs.Plan.{Layout, IsPlan, numbered, crate_at, installed}

-- no entry stands past the last
past : {A : Type 0} (xs : List (Option A)) (k n : ℕ) → length xs ≡ n → n < k → numbered xs k ≡ None
past xs zero n e h = refl
past xs (suc k) n e h = get_or_past xs k None (omega (arith, e, h))

outside : {A : Type 0} (xs : List (Option A)) (k n : ℕ) → length xs ≡ n → ((1 ≤ k) × (k ≤ n) → ⊥) → numbered xs k ≡ None
outside xs zero n e h = refl
outside xs (suc k) n e h = elim (cases_lt n (suc k)) [ inl less ↦ past xs (suc k) n e less | inr at_most ↦ absurd (h (omega arith, at_most)) ]

pub no_crate : (plan : Layout) (c n : ℕ) → IsPlan plan → ((1 ≤ c) × (c ≤ 7) → ⊥) → installed plan c n ≡ None
no_crate plan c n is h = rw (outside plan.crates c 7 is.crate_places h) refl

pub no_station : (plan : Layout) (c n : ℕ) → IsPlan plan → (n < 32 → ⊥) → installed plan c n ≡ None
no_station plan c n is h = go (crate_at plan c) (λ k e. is.station_places c k e)
  where
    go : (o : Option Crate) → ((k : Crate) → o ≡ Some k → length k.stations ≡ 23) → option_and_then (λ k. numbered k.stations n) o ≡ None
    go None places = refl
    go (Some k) places = outside k.stations n 23 (places k refl) (λ p. h (omega (arith, p.1)))

-- a found entry, as contracts see it
pub found : {A B : Type 0} (f : A → B) (xs : List A) (i : ℕ) → slice_get (map f xs) i ≡ option_map f (slice_get xs i)
found f xs i = slice_get-map f xs i

-- what an entry was found to have
pub found_bit : {A : Type 0} (f : A → Option ℕ) (xs : List A) (bits : List ℕ) (i b : ℕ) → map f xs ≡ map Some bits → i < length xs → b ≡ get_or bits i b → option_and_then f (slice_get xs i) ≡ Some b
found_bit f xs bits i b e h is = and_then f (slice_get xs i) b (sym (slice_get-map f xs i) ∙ ap (λ l. slice_get l i) e ∙ slice_get-map Some bits i ∙ at bits i b (omega (arith, h, same_length f xs bits e)) is)
  where
    same_length : {A : Type 0} (f : A → Option ℕ) (xs : List A) (bits : List ℕ) → map f xs ≡ map Some bits → length xs ≡ length bits
    same_length f xs bits e = sym (length-map xs f) ∙ ap length e ∙ length-map bits Some

    at : (bits : List ℕ) (i b : ℕ) → i < length bits → b ≡ get_or bits i b → option_map Some (slice_get bits i) ≡ Some (Some b)
    at [] i b h is = absurd (omega arith)
    at (x ∷ xs) zero b h is = rw is refl
    at (x ∷ xs) (suc i) b h is = at xs i b (omega (arith, h)) is

    and_then : {A : Type 0} (f : A → Option ℕ) (o : Option A) (b : ℕ) → option_map f o ≡ Some (Some b) → option_and_then f o ≡ Some b
    and_then f None b e = absurd (false≢true (ap is_some e))
    and_then f (Some a) b e = same_Some (f a) (Some b) e
