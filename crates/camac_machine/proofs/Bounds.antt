-- The bounds of a service fit a store that is large enough.
use Rattle.std.proofs.Common.{◌≡◌, ℕ, zero, suc, ◌+◌, ◌-◌, ◌≤◌, List, [], ◌∷◌, length, Some, Bool, true, refl, sym, ap, subst, take, arith}
use Rattle.std.specs.Prelude.{◌&&◌, IsTrue, slice_get, slice_index_or, nat_le}
use Rattle.std.proofs.lemmas.Bool.{and_parts, leb-true}
use Rattle.std.proofs.lemmas.List.{take_all}
use Rattle.camac_lang.specs.Depth.{inner_depth, callables_after, script_depth}
use Rattle.camac_lang.specs.Laws.{whole, ServiceStands}
use Rattle.camac_lang.specs.Scope.{is_well_formed}
use Rattle.camac_lang.specs.Tests.{total, most}
use Rattle.camac_lang.specs.Tree.{Service, Script}
use Rattle.camac_lang.proofs.Places.{most_at}
use Rattle.camac_lang.proofs.Standing.{services_stand}
use Rattle.camac_branch.specs.Plan.{Layout}
use Rattle.camac_rules.specs.Checked.{CheckedScript, IsChecked}
use Rattle.camac_lang.specs.Fits.{fits}
use Rattle.camac_model.specs.Fine.{Bounds, IsFineService, AreFine}
use Rattle.camac_model.specs.Headline.{IsWithinHeading, AreWithinHeadings}
use Rattle.camac_model.specs.Value.{greatest}
use Rattle.camac_machine.specs.MachineState.{bounds_at}
use Rattle.camac_machine.specs.Store.{seen_by_service}
use Rattle.camac_machine.specs.Within.{reach_of, ScopeFits, Opens}
use Rattle.camac_machine.proofs.Fitted.{block_fits}

-- what a store has room for
pub record HasStore (s : Script) (v d w : ℕ) : Type 0 where
  pub variables : length s.variables + total (λ p. length p.parameters) s.procedures ≤ v
  pub registers : total (λ p. length p.registers) s.procedures + most (λ q. length q.registers) s.services ≤ v
  pub depth : script_depth s ≤ d
  pub words : most (λ q. q.words) s.services ≤ w

pub fits_parts : (s : Script) (v d w : ℕ) → fits s v d w ≡ true → HasStore s v d w
fits_parts s v d w h =
    let n1 : ℕ = length s.variables + total (λ p. length p.parameters) s.procedures in
    let n2 : ℕ = total (λ p. length p.registers) s.procedures + most (λ q. length q.registers) s.services in
    let n4 : ℕ = most (λ q. q.words) s.services in
    let t3 : Bool = nat_le (script_depth s) d && nat_le n4 w in
    let a = and_parts (nat_le n1 v) (nat_le n2 v && t3) h in
    let b = and_parts (nat_le n2 v) t3 a.1 in
    let c = and_parts (nat_le (script_depth s) d) (nat_le n4 w) b.1 in
    record {
      variables = leb-true n1 v a.0;
      registers = leb-true n2 v b.0;
      depth = leb-true (script_depth s) d c.0;
      words = leb-true n4 w c.1;
    }

-- the bounds of a service by its number, and the service
bounds_with : (plan : Layout) (ks : List Bounds) (vs : List Service) (i : ℕ) (d : Bounds) (P : Bounds → Type 0) → P d → ((v : Service) (k : Bounds) → slice_get vs i ≡ Some v → IsWithinHeading plan k v → P k) → AreWithinHeadings plan ks vs → P (slice_index_or ks i d)
bounds_with plan [] vs i d P base step h = base
bounds_with plan (k ∷ ks) [] i d P base step h = absurd h
bounds_with plan (k ∷ ks) (v ∷ vs) zero d P base step h = step v k refl h.0
bounds_with plan (k ∷ ks) (v ∷ vs) (suc i) d P base step h = bounds_with plan ks vs i d P base step h.1

pub record Small (w : ℕ) (k : Bounds) : Type 0 where
  pub words : k.words ≤ w
  pub steps : k.steps ≤ greatest
  pub cycles : k.cycles ≤ greatest

module _ (c : CheckedScript) (checked : IsChecked c) (formed : IsTrue (is_well_formed c.script)) (v d w : ℕ) (store : HasStore c.script v d w) where
  stands : (i : ℕ) (s : Service) → slice_get c.script.services i ≡ Some s → ServiceStands c.script s
  stands i s e = services_stand c.script formed i s e

  pub bounds_small : (i : ℕ) → Small w (bounds_at c i)
  bounds_small i =
      bounds_with c.plan c.bounds c.script.services i (record { cycles = 0; words = 0; steps = 0 }) (Small w)
      (record { words = omega arith; steps = omega arith; cycles = omega arith })
      (λ s k e h.
      let few : s.words ≤ most (λ q. q.words) c.script.services = most_at (λ q. q.words) c.script.services i s e in
      let most_words = store.words in
      let cycles = (stands i s e).cycles in
      record {
        words = omega (arith, h.words, few, most_words);
        steps = h.steps;
        cycles = omega (arith, h.cycles, cycles);
      })
      checked.headings

  -- the scope of a service fits, and its body
  pub scope_fits : (i : ℕ) (s : Service) → slice_get c.script.services i ≡ Some s → ScopeFits v c.script (seen_by_service c.script s)
  scope_fits i s e =
      let every : take (length c.script.procedures) c.script.procedures ≡ c.script.procedures = take_all (length c.script.procedures) c.script.procedures (omega arith) in
      let few : length s.registers ≤ most (λ q. length q.registers) c.script.services = most_at (λ q. length q.registers) c.script.services i s e in
      let registers = store.registers in
      let room : length s.registers + total (λ p. length p.registers) c.script.procedures ≤ v = omega (arith, few, registers) in
      record {
        variables = omega arith;
        registers = omega arith;
        more_variables = subst (λ ps. length c.script.variables + total (λ p. length p.parameters) ps ≤ v) (sym every) store.variables;
        more_registers = subst (λ ps. length s.registers + total (λ p. length p.registers) ps ≤ v) (sym every) room;
      }

  pub body_fits : (i : ℕ) (s : Service) → slice_get c.script.services i ≡ Some s → Opens (reach_of c.script (seen_by_service c.script s)) d s.body
  body_fits i s e =
      let every : take (length c.script.procedures) c.script.procedures ≡ c.script.procedures = take_all (length c.script.procedures) c.script.procedures (omega arith) in
      let st = stands i s e in
      let deep : suc (inner_depth (whole c.script).callables s.body) ≤ most (λ q. suc (inner_depth (callables_after [] c.script.procedures) q.body)) c.script.services =
      most_at (λ q. suc (inner_depth (callables_after [] c.script.procedures) q.body)) c.script.services i s e in
      let depth = store.depth in (
        omega (arith, deep, depth),
        block_fits (whole c.script) (reach_of c.script (seen_by_service c.script s))
            (record { variables = omega arith; tables = omega arith; lams = omega arith; procedures = ap (λ ps. callables_after [] ps) (sym every) })
            s.body 0 (length s.registers) (d - 1) st.body (omega arith) (omega (arith, deep, depth)),
      )

-- a service is fine by the bounds of its number
pub fine_at : (c : CheckedScript) (ks : List Bounds) (vs : List Service) (i : ℕ) (s : Service) (z : Bounds) → AreFine c.plan c.script ks vs → slice_get vs i ≡ Some s → IsFineService c.plan c.script (slice_index_or ks i z) s
fine_at c [] [] i s z h e = absurd (cc)
fine_at c [] (v ∷ vs) i s z h e = absurd h
fine_at c (k ∷ ks) [] i s z h e = absurd h
fine_at c (k ∷ ks) (v ∷ vs) zero s z h e = let same : v ≡ s = cc in subst (λ u. IsFineService c.plan c.script k u) same h.0
fine_at c (k ∷ ks) (v ∷ vs) (suc i) s z h e = fine_at c ks vs i s z h.1 e
