-- States that are inside what the checker knows.
use Rattle.std.proofs.Common.{◌≡◌, ℕ, zero, suc, ◌≤◌, Bool, List, [], ◌∷◌, Option, Some, None, get_or, refl, sym, ap, subst}
use Rattle.std.specs.Prelude.{◌||◌, nat_eq}
use Rattle.std.proofs.lemmas.Bool.{cond_both, eqb-true, eqb-false}
use Rattle.camac_range.specs.Number.{greatest}
use Rattle.camac_range.specs.Interval.{Interval, only, IsWithin}
use Rattle.camac_branch.specs.Address.{Address}
use Rattle.camac_branch.specs.Branch.{Branch}
use Rattle.camac_model.specs.State.{State, Variables, Registers, set_at}
use Rattle.camac_rules.specs.declared.case.Body.{Body}
use Rattle.camac_rules.specs.Known.{write, Region, range_at, region_at, Facts, Known}
use Rattle.camac_rules.specs.Addresses.{is_among}
use Rattle.camac_rules.specs.Cycles.{Around}

pub read_same : {X : Type 0} (d : X) (xs : List X) (i : ℕ) (v : X) → get_or (write d xs i v) i d ≡ v
read_same d [] zero v = refl
read_same d [] (suc i) v = read_same d [] i v
read_same d (x ∷ xs) zero v = refl
read_same d (x ∷ xs) (suc i) v = read_same d xs i v

pub read_other : {X : Type 0} (d : X) (xs : List X) (i j : ℕ) (v : X) → (j ≡ i → ⊥) → get_or (write d xs i v) j d ≡ get_or xs j d
read_other d [] zero zero v ne = absurd (ne refl)
read_other d [] zero (suc j) v ne = refl
read_other d [] (suc i) zero v ne = refl
read_other d [] (suc i) (suc j) v ne = read_other d [] i j v (λ e. ne (ap suc e))
read_other d (x ∷ xs) zero zero v ne = absurd (ne refl)
read_other d (x ∷ xs) zero (suc j) v ne = refl
read_other d (x ∷ xs) (suc i) zero v ne = refl
read_other d (x ∷ xs) (suc i) (suc j) v ne = read_other d xs i j v (λ e. ne (ap suc e))

-- a list and a function that agree stay so where both are changed at one place
pub changed_both : {X Y : Type 0} (P : X → Y → Type 0) (d : X) (xs : List X) (f : ℕ → Y) (i j : ℕ) (v : X) (w : Y) → P v w → P (get_or xs j d) (f j) → P (get_or (write d xs i v) j d) (set_at i w f j)
changed_both P d xs f i j v w new old =
    cond_both (nat_eq j i) w (f j) (P (get_or (write d xs i v) j d))
    (λ e. subst (λ k. P (get_or (write d xs i v) k d) w) (sym (eqb-true j i e)) (subst (λ x. P x w) (sym (read_same d xs i v)) new))
    (λ e. subst (λ x. P x (f j)) (sym (read_other d xs i j v (eqb-false j i e))) old)

-- each variable is in its range, and none is too large
pub record VariablesInside (rs : List Interval) (env : Variables) : Type 0 where
  pub each : (x : ℕ) → IsWithin (range_at rs x) (env x)
  pub small : (x : ℕ) → env x ≤ greatest

pub record InRegion (g : Region) (at : Address) : Type 0 where
  pub crate_no : IsWithin g.crates at.crate_no
  pub station : IsWithin g.stations at.station
  pub sub_address : IsWithin g.sub_addresses at.sub_address

-- a register that is known to be set is set, inside
abbrev pub IsSetInside : Option Region → Option Address → Type 0
IsSetInside None o = Unit {0}
IsSetInside (Some g) None = ⊥
IsSetInside (Some g) (Some at) = InRegion g at

abbrev pub RegistersInside : List (Option Region) → Registers → Type 0
RegistersInside gs registers = (r : ℕ) → IsSetInside (region_at gs r) (registers r)

-- what stands around a statement where it runs: besides what the rules see, which crates are locked around a call of its procedure
pub record Place : Type 0 where
  pub body : Body
  pub fixed : List ℕ
  pub locked : List ℕ
  pub outside : ℕ → Bool

-- what the rules see of it
abbrev pub around_of : Place → Around
around_of p = record { body = p.body; fixed = p.fixed; locked = p.locked }

abbrev pub holding : ℕ → Place → Place
holding c p = record { body = p.body; fixed = p.fixed; locked = c ∷ p.locked; outside = p.outside }

abbrev pub fixing : ℕ → Place → Place
fixing x p = record { body = p.body; fixed = x ∷ p.fixed; locked = p.locked; outside = p.outside }

-- just these crates are locked
abbrev pub AreLocked : Place → Branch → Type 0
AreLocked p b = (c : ℕ) → (b c).locked ≡ (is_among c p.locked || p.outside c)

pub record Inside (around : Place) (k : Facts) (s : State) : Type 0 where
  pub variables : VariablesInside k.ranges s.variables
  pub registers : RegistersInside k.registers s.registers
  pub locks : AreLocked around s.branch

-- A state that can't be reached is no state.
abbrev pub Reaches : Place → Known → State → Type 0
Reaches around None s = ⊥
Reaches around (Some k) s = Inside around k s

pub variables_write : (rs : List Interval) (env : Variables) (x v : ℕ) (r : Interval) → VariablesInside rs env → IsWithin r v → v ≤ greatest → VariablesInside (write (only 0) rs x r) (set_at x v env)
variables_write rs env x v r h w le = record {
  each = λ y. changed_both IsWithin (only 0) rs env x y r v w (h.each y);
  small = λ y. cond_both (nat_eq y x) v (env y) (λ n. n ≤ greatest) (λ e. le) (λ e. h.small y);
}

pub registers_write : (gs : List (Option Region)) (registers : Registers) (r : ℕ) (g : Region) (at : Address) → RegistersInside gs registers → InRegion g at → RegistersInside (write None gs r (Some g)) (set_at r (Some at) registers)
registers_write gs registers r g at h w q = changed_both IsSetInside None gs registers r q (Some g) (Some at) w (h q)
