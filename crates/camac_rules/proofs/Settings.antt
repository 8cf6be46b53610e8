-- The procedures of a script so far, each with a body that is sound.
use Rattle.std.proofs.Common.{◌≡◌, ℕ, zero, suc, List, [], ◌∷◌, ◌++◌, map, Some, refl, subst, false}
use Rattle.std.specs.Prelude.{slice_get}
use Rattle.camac_lang.specs.Tree.{Procedure, Script}
use Rattle.camac_branch.specs.Plan.{Layout}
use Rattle.camac_model.specs.Behaviour.{Action}
use Rattle.camac_model.specs.Meaning.{Context, lam_address, bare, context, with_procedure, routines_with}
use Rattle.camac_rules.proofs.Actions.{Setting}
use Rattle.camac_rules.proofs.Lockless.{block_has_lock}
use Rattle.camac_rules.proofs.Routines.{RoutineSound, Serves}

abbrev pub bare_with : Layout → Script → List (ℕ → Action) → Context
bare_with plan script rs = record (bare plan script) { routines = rs }

abbrev pub setting : Layout → Script → List (ℕ → Action) → List Procedure → Setting
setting plan script rs ps = record {
  plan = plan;
  tables = map (λ t. t.words) script.tables;
  lams = map lam_address script.lams;
  routines = rs;
  procedures = ps;
}

-- each body is sound for the heading in its place
abbrev pub Matched : Layout → List (ℕ → Action) → List Procedure → Type 0
Matched plan [] [] = Unit {0}
Matched plan [] (q ∷ qs) = ⊥
Matched plan (r ∷ rs) [] = ⊥
Matched plan (r ∷ rs) (q ∷ qs) = RoutineSound plan q r × Matched plan rs qs

pub matched_push : (plan : Layout) (rs : List (ℕ → Action)) (qs : List Procedure) (r : ℕ → Action) (q : Procedure) → Matched plan rs qs → RoutineSound plan q r → Matched plan (rs ++ r ∷ []) (qs ++ q ∷ [])
matched_push plan [] [] r q m h = (h, tt)
matched_push plan [] (p ∷ qs) r q m h = absurd m
matched_push plan (x ∷ rs) [] r q m h = absurd m
matched_push plan (x ∷ rs) (p ∷ qs) r q m h = (m.0, matched_push plan rs qs r q m.1 h)

pub record Found (plan : Layout) (rs : List (ℕ → Action)) (j : ℕ) (q : Procedure) : Type 0 where
  pub routine : ℕ → Action
  pub is : slice_get rs j ≡ Some routine
  pub sound : RoutineSound plan q routine

pub found_at : (plan : Layout) (rs : List (ℕ → Action)) (qs : List Procedure) (j : ℕ) (q : Procedure) → Matched plan rs qs → slice_get qs j ≡ Some q → Found plan rs j q
found_at plan [] [] j q m e = cc
found_at plan [] (p ∷ qs) j q m e = absurd m
found_at plan (r ∷ rs) [] j q m e = absurd m
found_at plan (r ∷ rs) (p ∷ qs) zero q m e = let same : p ≡ q = cc in record { routine = r; is = refl; sound = subst (λ x. RoutineSound plan x r) same m.0 }
found_at plan (r ∷ rs) (p ∷ qs) (suc j) q m e =
    let h = found_at plan rs qs j q m.1 e in
    record { routine = h.routine; is = h.is; sound = h.sound }

still_there : (rs : List (ℕ → Action)) (x r : ℕ → Action) (j : ℕ) → slice_get rs j ≡ Some r → slice_get (rs ++ x ∷ []) j ≡ Some r
still_there [] x r j e = cc
still_there (y ∷ rs) x r zero e = e
still_there (y ∷ rs) x r (suc j) e = still_there rs x r j e

-- the procedures after these leave them in their places
stays : (c : Context) (ps : List Procedure) (j : ℕ) (r : ℕ → Action) → slice_get c.routines j ≡ Some r → slice_get (routines_with c ps) j ≡ Some r
stays c [] j r e = e
stays c (p ∷ ps) j r e = stays (with_procedure c p) ps j r (still_there c.routines _ r j e)

pub serves_own : (plan : Layout) (script : Script) (rs : List (ℕ → Action)) (qs : List Procedure) → Matched plan rs qs → Serves (setting plan script rs qs)
serves_own plan script rs qs m = record {
  each = λ j q e. (let h = found_at plan rs qs j q m e in record { routine = h.routine; is = h.is; sound = h.sound });
}

-- they serve where all procedures of the script are there too
pub serves_all : (plan : Layout) (script : Script) (rs : List (ℕ → Action)) (qs ps : List Procedure) → Matched plan rs qs → routines_with (bare_with plan script rs) ps ≡ (context plan script).routines → Serves (setting plan script (context plan script).routines qs)
serves_all plan script rs qs ps m e = record {
  each = λ j q is. (
      let h = found_at plan rs qs j q m is in
      record { routine = h.routine; is = subst (λ l. slice_get l j ≡ Some h.routine) e (stays (bare_with plan script rs) ps j h.routine h.is); sound = h.sound }
      );
}

-- no body takes a lock
abbrev pub AreLockless : List Procedure → Type 0
AreLockless [] = Unit {0}
AreLockless (p ∷ ps) = (block_has_lock p.body ≡ false) × AreLockless ps

pub are_lockless : (ps : List Procedure) → ((j : ℕ) (p : Procedure) → slice_get ps j ≡ Some p → block_has_lock p.body ≡ false) → AreLockless ps
are_lockless [] h = tt
are_lockless (p ∷ ps) h = (h zero p refl, are_lockless ps (λ j q e. h (suc j) q e))
