-- Commands of safe cycles.
use Rattle.std.proofs.Common.{◌≡◌, ℕ, zero, suc, ◌^◌, ◌<◌, ◌≤◌, Option, None, arith, inl, inr, subst, ◌⊎◌}
use Rattle.std.proofs.lemmas.Bool.{cases_lt, false≢true}
use Rattle.std.proofs.lemmas.List.{get_or_past}
use Rattle.std.proofs.lemmas.Nat.{pow_below}
use Rattle.camac_func.specs.declared.data.DataMove.{DataMove}
use Rattle.camac_func.specs.declared.data.DataMove.TheVariants as moved
use Rattle.camac_branch.specs.Address.{Address}
use Rattle.camac_branch.specs.Allowed.{AllowsCommands, IsCommand}
use Rattle.std.specs.Prelude.{IsSome, option_map}
use Rattle.camac_branch.specs.Plan.{Layout, IsPlan, crate_at, crate_waits}
use Rattle.camac_esone.specs.Calls.{IsOnBranch}
use Rattle.camac_model.specs.Safe.{IsSafe}

module _ (plan : Layout) (all : AllowsCommands plan) (at : Address) (f : ℕ) where
  is_command : (d : DataMove) (h : IsSafe plan at f d) → IsCommand at f h.width
  is_command d h = all at f h.width h.is_allowed

  pub on_branch : (d : DataMove) → IsSafe plan at f d → IsOnBranch at
  on_branch d h =
      let k = is_command d h in
      record { crate_from_1 = k.crate_from_1; crate_to_7 = k.crate_to_7; station = k.station; sub_address = k.sub_address }

  pub word_fits : (v : ℕ) → IsSafe plan at f (moved.Out v) → v < 2 ^ 24
  word_fits v h = go (cases_lt h.width 24)
    where
      low : v < 2 ^ h.width
      low = h.fits_width

      go : (h.width < 24) ⊎ (24 ≤ h.width) → v < 2 ^ 24
      go (inl less) = let p : 2 ^ h.width < 2 ^ 24 = pow_below h.width 24 less in omega (arith, low, p)
      go (inr more) =
          let most = (is_command (moved.Out v) h).width_to_24 in
          let same : h.width ≡ 24 = omega (arith, most, more) in subst (λ w. v < 2 ^ w) same low

option_none : {A B : Type 0} (f : A → B) (o : Option A) → o ≡ None → IsSome (option_map f o) → ⊥
option_none f o e h = false≢true (subst (λ p. IsSome (option_map f p)) e h)

-- a crate of the plan has one of the numbers
pub crate_in_range : (plan : Layout) (c : ℕ) → IsPlan plan → IsSome (crate_waits plan c) → (1 ≤ c) × (c ≤ 7)
crate_in_range plan zero p h = absurd (false≢true h)
crate_in_range plan (suc c) p h =
    elim (cases_lt c 7) [
      | inl less ↦ (omega arith, omega (arith, less))
      | inr past ↦ absurd (option_none (λ k. k.waits) (crate_at plan (suc c)) (get_or_past plan.crates c None (rw p.crate_places past)) h)
    ]
