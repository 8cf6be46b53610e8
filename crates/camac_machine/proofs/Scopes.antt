-- What the innermost body sees of a store, and a write to it.
use Rattle.std.proofs.Common.{◌≡◌, ℕ, zero, suc, ◌+◌, ◌-◌, ◌<◌, ◌≤◌, List, [], ◌∷◌, length, set, take, drop, get_or, replicate, Option, refl, sym, ap, subst, ◌∙◌, arith, inl, inr}
use Rattle.std.proofs.lemmas.Bool.{cases_lt}
use Rattle.std.proofs.lemmas.List.{length-set, length-take-le, length-take, length-drop, drop-set-add, get_or-take, get_or-drop, get_or_past, take-take, take-set-le}
use Rattle.std.proofs.lemmas.Slice.{between_is}
use Rattle.std.proofs.Math.Path.{fun_ext}
use Rattle.camac_branch.specs.Address.{Address}
use Rattle.camac_branch.specs.Branch.{Answer}
use Rattle.camac_branch.specs.Crates.{branch_of}
use Rattle.camac_lang.specs.Tree.{Script}
use Rattle.camac_lang.specs.View.{statements_of}
use Rattle.camac_model.specs.State.{Variables, set_at, with_variable}
use Rattle.camac_machine.specs.declared.machine.Frame.{Frame}
use Rattle.camac_machine.specs.declared.machine.Machine.{Machine}
use Rattle.camac_machine.specs.declared.machine.Owner as rust
use Rattle.camac_machine.specs.declared.scope.Scope.{Scope}
use Rattle.camac_machine.specs.declared.scope.Places.{Places}
use Rattle.camac_machine.specs.MachineState.{owner_of, opens_of, opens_in, AreHeld, reach, with_value, state_of, variables_here, HasRoom}
use Rattle.camac_machine.specs.Rest.{Owner, nothing, releases, for_loop, while_loop, returns, Open}
use Rattle.camac_machine.specs.Within.{OwnerFits, outer, outside, OpenFit}
use Rattle.camac_machine.specs.Store.{size, held_at}
use Rattle.camac_machine.proofs.Rooms.{room_with}
use Rattle.camac_machine.proofs.Stores.{set_is, all_same}

take_set : {A : Type 0} (n : ℕ) (xs : List A) (i : ℕ) (v : A) → take n (set xs i v) ≡ set (take n xs) i v
take_set zero xs i v = refl
take_set (suc n) [] i v = refl
take_set (suc n) (x ∷ xs) zero v = refl
take_set (suc n) (x ∷ xs) (suc i) v = ap (λ ys. x ∷ ys) (take_set n xs i v)

-- as many places as there are
pub held_length : {A : Type 0} (p : Places) (xs : List A) → p.end ≤ length xs → length (held_at p xs) ≡ size p
held_length p xs fits = length-take-le (size p) (drop p.start xs) (omega (arith, fits, length-drop p.start xs))

-- a write at one of the places
pub held_set : {A : Type 0} (d : A) (p : Places) (xs : List A) (x : ℕ) (v : A) → x < size p → p.end ≤ length xs → (λ i. get_or (held_at p (set xs (p.start + x) v)) i d) ≡ set_at x v (λ j. get_or (held_at p xs) j d)
held_set d p xs x v below fits =
    let n = held_length p xs fits in
    ap (λ ys i. get_or (take (size p) ys) i d) (drop-set-add p.start xs x v)
    ∙ ap (λ ys i. get_or ys i d) (take_set (size p) (drop p.start xs) x v)
    ∙ set_is d (held_at p xs) x v (omega (arith, below, n))

held_same : {A : Type 0} (d : A) (p : Places) (n i : ℕ) → get_or (held_at p (replicate n d)) i d ≡ d
held_same d p n i =
    elim (cases_lt i (size p)) [
      | inl less ↦ get_or-take (size p) (drop p.start (replicate n d)) i d less ∙ get_or-drop p.start (replicate n d) i d ∙ all_same d n (p.start + i)
      | inr past ↦ get_or_past (held_at p (replicate n d)) i d (omega (arith, past, length-take (size p) (drop p.start (replicate n d))))
    ]

-- where all places hold the same
pub held_all : {A : Type 0} (d : A) (p : Places) (n : ℕ) → ◌≡◌ {A = ℕ → A} (λ i. get_or (held_at p (replicate n d)) i d) (λ i. d)
held_all d p n = fun_ext (held_same d p n)

-- what lies before is as it was
pub held_before : {A : Type 0} (p : Places) (n : ℕ) (xs ys : List A) → p.end ≤ n → take n xs ≡ take n ys → held_at p xs ≡ held_at p ys
held_before p n xs ys le e =
    between_is xs p.start p.end
    ∙ ap (drop p.start) (sym (take-take p.end n xs le) ∙ ap (take p.end) e ∙ take-take p.end n ys le)
    ∙ sym (between_is ys p.start p.end)

-- the places that are seen outside of open blocks lie before those of the last one
module _ (v : ℕ) (s : Script) (c : Scope) (d : ℕ) where
  outer_before : (u : Scope) (d : ℕ) (o : Owner) → OwnerFits v s u d o → ((outer u o).variables.start ≤ u.variables.start) × ((outer u o).registers.start ≤ u.registers.start)
  outer_before u d nothing h = (omega arith, omega arith)
  outer_before u d (releases k) h = (omega arith, omega arith)
  outer_before u d (for_loop x i last n body) h = (omega arith, omega arith)
  outer_before u d (while_loop test n body) h = (omega arith, omega arith)
  outer_before u d (returns p vs rs) h =
      let a = h.0.0 in
      let b = h.0.1 in
      let x = h.1.variables in
      let y = h.1.registers in (omega (arith, a, x), omega (arith, b, y))

pub outside_before : (v : ℕ) (s : Script) (c : Scope) (d : ℕ) (os : List Open) → OpenFit v s c d os → ((outside c os).variables.start ≤ c.variables.start) × ((outside c os).registers.start ≤ c.registers.start)
outside_before v s c d [] h = (omega arith, omega arith)
outside_before v s c d (o ∷ os) h =
    let k = outside_before v s c (d - 1) os h.2 in
    let o' = outer_before v s c d (outside c os) d o.owner h.1 in
    (omega (arith, k.0, o'.0), omega (arith, k.1, o'.1))

module _ (v : ℕ) (s : Script) (c : Scope) (vs ws : List ℕ) (rs qs : List (Option Address)) (variables : take c.variables.start vs ≡ take c.variables.start ws) (registers : take c.registers.start rs ≡ take c.registers.start qs) where
  owner_same : (u : Scope) (d : ℕ) (o : rust.Owner) → (u.variables.start ≤ c.variables.start) × (u.registers.start ≤ c.registers.start) → OwnerFits v s u d (owner_of vs rs o) → owner_of vs rs o ≡ owner_of ws qs o
  owner_same u d rust.TheVariants.Plain k h = refl
  owner_same u d (rust.TheVariants.Locked n) k h = refl
  owner_same u d (rust.TheVariants.For x i last n body) k h = refl
  owner_same u d (rust.TheVariants.While test n body) k h = refl
  owner_same u d (rust.TheVariants.Return p) k h =
      let a = h.0.0 in
      let b = h.0.1 in
      ap (λ l. returns p l (held_at p.registers rs)) (held_before p.variables c.variables.start vs ws (omega (arith, a, k.0)) variables)
      ∙ ap (returns p (held_at p.variables ws)) (held_before p.registers c.registers.start rs qs (omega (arith, b, k.1)) registers)

  -- what callers hold lies before the places of the last block, so that a write after them leaves it
  pub opens_same : (d : ℕ) (fs : List Frame) → OpenFit v s c d (opens_of vs rs fs) → opens_of vs rs fs ≡ opens_of ws qs fs
  opens_same d [] h = refl
  opens_same d (f ∷ fs) h =
      let k = outside_before v s c (d - 1) (opens_of vs rs fs) h.2 in
      let o = owner_same (outside c (opens_of vs rs fs)) d f.owner k h.1 in
      ap (λ w. record { block = statements_of f.rest.now; owner = w } ∷ opens_of vs rs fs) o
      ∙ ap (λ os. record { block = statements_of f.rest.now; owner = owner_of ws qs f.owner } ∷ os) (opens_same (d - 1) fs h.2)

module _ {V D C : ℕ} (h : Machine V D C) where
  -- by another store that is the same before the places of the innermost body
  pub room_stored : (vs : List ℕ) (rs : List (Option Address)) → length vs ≡ V → length rs ≡ V → opens_in h ≡ opens_of vs rs h.frames.items → HasRoom h → HasRoom (record h { variables = vs; registers = rs })
  room_stored vs rs n m e r = room_with r n m r.scope (subst (OpenFit V h.checked.now.script h.scope D) e r.blocks) (subst (AreHeld (branch_of h.branch)) e r.locks) r.unlocks

  -- a register of the innermost body is set
  pub opens_register : (i : ℕ) (at : Option Address) → HasRoom h → opens_in h ≡ opens_of h.variables (set h.registers (h.scope.registers.start + i) at) h.frames.items
  opens_register i at r =
      opens_same V h.checked.now.script h.scope h.variables h.variables h.registers (set h.registers (h.scope.registers.start + i) at) refl (sym (take-set-le h.scope.registers.start h.registers (h.scope.registers.start + i) at (omega arith))) D h.frames.items r.blocks

  pub room_register : (i : ℕ) (at : Option Address) → HasRoom h → HasRoom (record h { registers = set h.registers (h.scope.registers.start + i) at })
  room_register i at r =
      room_stored h.variables (set h.registers (h.scope.registers.start + i) at) r.variables (length-set h.registers (h.scope.registers.start + i) at ∙ r.registers) (opens_register i at r) r

module _ {V D C : ℕ} (h : Machine V D C) (x v : ℕ) where
  pub opens_written : HasRoom h → opens_in h ≡ opens_in (with_value h x v)
  opens_written r =
      opens_same V h.checked.now.script h.scope h.variables (set h.variables (h.scope.variables.start + x) v) h.registers h.registers (sym (take-set-le h.scope.variables.start h.variables (h.scope.variables.start + x) v (omega arith))) refl D h.frames.items r.blocks

  pub room_written : HasRoom h → HasRoom (with_value h x v)
  room_written r =
      room_stored h (set h.variables (h.scope.variables.start + x) v) h.registers (length-set h.variables (h.scope.variables.start + x) v ∙ r.variables) r.registers (opens_written r) r

  -- the variable of the innermost body is set
  pub variables_written : x < (reach h).variables → HasRoom h → variables_here (with_value h x v) ≡ set_at x v (variables_here h)
  variables_written below r =
      let few = r.scope.more_variables in
      held_set 0 h.scope.variables h.variables x v below (omega (arith, few, r.variables))

  pub state_written : x < (reach h).variables → HasRoom h → (answers : List Answer) → state_of (with_value h x v) answers ≡ with_variable x v (state_of h answers)
  state_written below r answers = ap (λ (vs : Variables). record (state_of h answers) { variables = vs }) (variables_written below r)
