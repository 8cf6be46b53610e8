-- A checked script has as many bounds as services, and fits a store with room for what the limits allow.
use Rattle.std.proofs.Common.{◌≡◌, List, [], ◌∷◌, length, refl, arith, ℕ, ◌+◌, ◌≤◌, Bool, true}
use Rattle.std.proofs.lemmas.Bool.{and_from, le-leb}
use Rattle.std.specs.Prelude.{◌&&◌, IsTrue, nat_le}
use Rattle.camac_lang.specs.Tree.{Service, Script}
use Rattle.camac_lang.specs.Depth.{script_depth}
use Rattle.camac_lang.specs.Scope.{is_well_formed}
use Rattle.camac_lang.specs.Tests.{total, most}
use Rattle.camac_lang.specs.Fits.{fits}
use Rattle.camac_lang.proofs.Standing.{limits_hold}
use Rattle.camac_lang.proofs.Depths.{shallow, services_shallow}
use Rattle.camac_branch.specs.Plan.{Layout, IsPlan}
use Rattle.camac_model.specs.Fine.{Bounds, AreFine}
use Rattle.camac_model.specs.Headline.{AreWithinHeadings, WithinHeadings}

-- A checked script has as many bounds as services.

pub fine_count : (plan : Layout) (script : Script) (ks : List Bounds) (vs : List Service) → AreFine plan script ks vs → length ks ≡ length vs
fine_count plan script [] [] h = refl
fine_count plan script [] (v ∷ vs) h = absurd h
fine_count plan script (k ∷ ks) [] h = absurd h
fine_count plan script (k ∷ ks) (v ∷ vs) h = let e = fine_count plan script ks vs h.1 in omega arith

-- Each checked script fits a store that has room for what the limits of the language, and of a plan's buffer, allow.

words_below : (plan : Layout) (ks : List Bounds) (vs : List Service) → plan.buffer ≤ 4096 → AreWithinHeadings plan ks vs → most (λ q. q.words) vs ≤ 4096
words_below plan ks [] small h = omega arith
words_below plan [] (v ∷ vs) small h = absurd h
words_below plan (k ∷ ks) (v ∷ vs) small h =
    let rest = words_below plan ks vs small h.1 in
    let here = h.0.buffer in
    omega arith

pub fits_greatest : (plan : Layout) (s : Script) (ks : List Bounds) → IsPlan plan → IsTrue (is_well_formed s) → WithinHeadings plan s ks → fits s 64 16 4096 ≡ true
fits_greatest plan s ks is formed h =
    let limits = limits_hold s formed in
    let n1 : ℕ = length s.variables + total (λ p. length p.parameters) s.procedures in
    let n2 : ℕ = total (λ p. length p.registers) s.procedures + most (λ q. length q.registers) s.services in
    let n4 : ℕ = most (λ q. q.words) s.services in
    let procedures = shallow s formed in
    let services = services_shallow s formed in
    let deep : script_depth s ≤ 16 = omega arith in
    let t4 : Bool = nat_le n4 4096 in
    let t3 : Bool = nat_le (script_depth s) 16 && t4 in
    let last : t3 ≡ true = and_from (nat_le (script_depth s) 16) t4 (le-leb (script_depth s) 16 deep) (le-leb n4 4096 (words_below plan ks s.services is.buffer_to_4096 h)) in
    and_from (nat_le n1 64) (nat_le n2 64 && t3) (le-leb n1 64 limits.variables) (and_from (nat_le n2 64) t3 (le-leb n2 64 limits.registers) last)
