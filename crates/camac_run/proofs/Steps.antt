-- What statements surely do.
use Rattle.std.proofs.Common.{◌≡◌, ◌∙◌, ℕ, zero, suc, ◌+◌, ◌-◌, ◌<◌, ◌≤◌, List, [], ◌∷◌, length, length-set, drop, get_or, get_or-set_same, get_or-set_other, set, true, Option, Some, None, inl, inr, refl, sym, ap, subst, arith}
use Rattle.std.specs.Prelude.{is_some, IfSome, slice_get, slice_index_or}
use Rattle.std.proofs.lemmas.Bool.{false≢true, cases_eq, cases_lt}
use Rattle.std.proofs.lemmas.List.{get_or_past}
use Rattle.std.proofs.lemmas.Option.{get_or_from_slice_get, slice_get-get_or}
use Rattle.camac_branch.specs.Address.{Address, address}
use Rattle.camac_branch.specs.Allowed.{width}
use Rattle.camac_branch.specs.Branch.{Answer}
use Rattle.camac_branch.specs.declared.answer.Command.{Command}
use Rattle.camac_esone.specs.Calls.{command_at, crate_address, crate_function, lam_function}
use Rattle.camac_func.specs.declared.data.DataMove.TheVariants as moved
use Rattle.camac_lang.specs.Tree.{Expression, Statement, Move, no_data, into, from, assign, set_register, single, put, crate_call, lam_call}
use Rattle.camac_lang.specs.declared.word.CrateCall.{CrateCall}
use Rattle.camac_lang.specs.declared.word.LamCall.{LamCall}
use Rattle.camac_lang.specs.declared.word.WordSize.{WordSize}
use Rattle.camac_lang.specs.declared.word.WordSize.TheVariants.{Full}
use Rattle.camac_model.specs.Behaviour.{Action, ends, given, unless_wrong}
use Rattle.camac_model.specs.Cycle.{cycle, sized}
use Rattle.camac_model.specs.Fine.{most_turns}
use Rattle.camac_model.specs.Meaning.{Context, act, effect, fits_size}
use Rattle.camac_model.specs.State.{State, Variables, set_at, with_variable, with_register, with_word}
use Rattle.camac_model.specs.Value.{value}
use Rattle.camac_machine.specs.Rest.{makes, reads, awaited}
use Rattle.camac_run.specs.Sure.{KnowsVariables, IsKnown, HasValue, on, MakesCycle, PassesFrom, NeedsNone, IsSure, sure_of}
use Rattle.camac_machine.specs.Store.{held_at}
use Rattle.camac_machine.specs.declared.scope.Places.{Places}
use Rattle.camac_machine.proofs.Procedures.{taken_at}
use Rattle.camac_run.proofs.Following.{knows_set}
use Rattle.camac_lang.specs.declared.spot.Spot.{Spot}

pub map_some : {A : Type 0} (o : Option A) (P Q : A → Type 0) → ((v : A) → P v → Q v) → IfSome o P → IfSome o Q
map_some None P Q f h = tt
map_some (Some v) P Q f h = f v h

pub some_of : {A : Type 0} (o : Option A) → is_some o ≡ true → (v : A) × (o ≡ Some v)
some_of None e = absurd (false≢true e)
some_of (Some v) e = (v, refl)

-- ---- values

-- what lies at these places
dropped_at : {A : Type 0} (xs : List A) (s i : ℕ) → slice_get (drop s xs) i ≡ slice_get xs (s + i)
dropped_at xs zero i = let e : i ≡ 0 + i = omega arith in ap (λ j. slice_get xs j) e
dropped_at [] (suc s) i = refl
dropped_at (x ∷ xs) (suc s) i = let e : suc (s + i) ≡ suc s + i = omega arith in dropped_at xs s i ∙ ap (λ j. slice_get (x ∷ xs) j) e

pub seen_is : {A : Type 0} (p : Places) (all : List A) (i : ℕ) (v : A) → i < p.end - p.start → p.end ≤ length all → v ≡ get_or all (p.start + i) v → slice_get (held_at p all) i ≡ Some v
seen_is p all i v less within is =
    taken_at (drop p.start all) (p.end - p.start) i less
    ∙ dropped_at all p.start i
    ∙ slice_get-get_or all (p.start + i) v (omega (arith, less, within))
    ∙ ap Some (sym is)

-- a register that lies at a place
pub register_held : (held : List (Option Address)) (i : ℕ) (o : Option Address) → slice_get held i ≡ Some o → IfSome o (λ v. get_or held i None ≡ Some v)
register_held held i None there = tt
register_held held i (Some v) there = get_or_from_slice_get held i (Some v) None there

-- a list of what is known, filled up to a place
module _ {A : Type 0} (P : ℕ → A → Type 0) (known : List (Option A)) where
  pub filled_on : (i : ℕ) (o : Option A) → ((j : ℕ) (v : A) → j < i → get_or known j None ≡ Some v → P j v) → IfSome o (P i) → (j : ℕ) (v : A) → j < i + 1 → get_or (set known i o) j None ≡ Some v → P j v
  filled_on i o h here j v less e =
      elim (cases_eq j i) [
        | inl same ↦
            elim (cases_lt i (length known)) [
              | inl within ↦ subst (λ k. P k v) (sym same) (at o here (sym (get_or-set_same known i o None within) ∙ ap (λ k. get_or (set known i o) k None) (sym same) ∙ e))
              | inr past ↦ absurd (none_some v (sym (get_or_past (set known i o) j None (rw (length-set, same) past)) ∙ e))
            ]
        | inr other ↦
            let below : j < i = omega (arith, less, other) in
            h j v below (sym (get_or-set_other known i j o None other) ∙ e)
      ]
    where
      none_some : (v : A) → ◌≡◌ {A = Option A} None (Some v) → ⊥
      none_some v e = absurd (cc)

      at : (o : Option A) → IfSome o (P i) → o ≡ Some v → P i v
      at None here q = absurd (cc)
      at (Some u) here q = let same : u ≡ v = cc in subst (P i) same here

  pub filled : ((j : ℕ) (v : A) → j < length known → get_or known j None ≡ Some v → P j v) → (j : ℕ) (v : A) → get_or known j None ≡ Some v → P j v
  filled h j v e =
      elim (cases_lt j (length known)) [
        | inl less ↦ h j v less e
        | inr past ↦ absurd (none_some v (sym (get_or_past known j None past) ∙ e))
      ]
    where
      none_some : (v : A) → ◌≡◌ {A = Option A} None (Some v) → ⊥
      none_some v e = absurd (cc)

-- what was read is not known
pub read_known : (known : List (Option ℕ)) (f g : Variables) (x v : ℕ) → g ≡ set_at x v f → KnowsVariables known f → KnowsVariables (set known x None) g
read_known known f g x v is k =
    subst (λ (vs : Variables). KnowsVariables (set known x None) vs) (sym is) (knows_set (λ i. i) known f x None v k (λ i e. absurd (cc)))

-- ---- statements with a cycle

module _ (c : Context) (known : List (Option ℕ)) (registers : List (Option Address)) (k : Command) (spot : Spot) where
  -- a cycle that keeps no word
  sent_makes : (st : Statement) → ((s : State) → IsKnown known registers s → effect c most_turns st s ≡ awaited c (makes k) s) → MakesCycle c known registers st k known
  sent_makes st begins = record {
    operation = makes k;
    is_cycle = refl;
    begins = begins;
    known = λ f g h e. subst (λ (vs : Variables). KnowsVariables known vs) (sym e) h;
  }

  pub lam_makes : (call : LamCall) (l : ℕ) (at : Address) → slice_get c.lams l ≡ Some at → k ≡ command_at at (lam_function call) moved.None → MakesCycle c known registers (lam_call spot call l) k known
  unfolding awaited
  lam_makes call l at there is = sent_makes (lam_call spot call l) (λ s kn.
      ap (λ o. given o (λ a. act c.plan a (lam_function call) Full no_data) s) there ∙ ap (λ j. awaited c (makes j) s) (sym is))

  pub crate_makes : (call : CrateCall) (e : Expression) (n : ℕ) → HasValue known e n → k ≡ command_at (crate_address call n) (crate_function call) moved.None → MakesCycle c known registers (crate_call spot call e) k known
  unfolding awaited
  crate_makes call e n has is = sent_makes (crate_call spot call e) (λ s kn.
      ap (λ o. given o (λ d. act c.plan (crate_address call d) (crate_function call) Full no_data) s) (has s.variables kn.variables_are) ∙ ap (λ j. awaited c (makes j) s) (sym is))

  module _ (size : WordSize) (f r : ℕ) (at : Address) (there : slice_index_or registers r None ≡ Some at) where
    -- the register holds the address
    at_address : (m : Move) (s : State) → IsKnown known registers s → effect c most_turns (single spot size f r m) s ≡ act c.plan at f size m s
    at_address m s kn = ap (λ o. given o (λ a. act c.plan a f size m) s) (kn.registers_are r at there)

    pub control_makes : k ≡ command_at at f moved.None → MakesCycle c known registers (single spot size f r no_data) k known
    unfolding awaited
    control_makes is = sent_makes (single spot size f r no_data) (λ s kn. at_address no_data s kn ∙ ap (λ j. awaited c (makes j) s) (sym is))

    pub write_makes : (e : Expression) (word : ℕ) → HasValue known e word → fits_size size word ≡ true → k ≡ command_at at f (moved.Out word) → MakesCycle c known registers (single spot size f r (from e)) k known
    unfolding awaited
    write_makes e word has fits is = sent_makes (single spot size f r (from e)) (λ s kn.
        at_address (from e) s kn
        ∙ ap (λ o. given o (λ v. unless_wrong (fits_size size v) (λ t. cycle c.plan at f (moved.Out v) t.answers (λ r. ends) t)) s) (has s.variables kn.variables_are)
        ∙ ap (λ b. unless_wrong b (λ t. cycle c.plan at f (moved.Out word) t.answers (λ r. ends) t) s) fits ∙ ap (λ j. awaited c (makes j) s) (sym is))

    pub read_makes : (x : ℕ) → k ≡ command_at at f moved.In → MakesCycle c known registers (single spot size f r (into x)) k (set known x None)
    unfolding awaited
    read_makes x is = record {
      operation = reads k x (sized size (width c.plan at f));
      is_cycle = refl;
      begins = λ s kn. at_address (into x) s kn ∙ ap (λ j. awaited c (reads j x (sized size (width c.plan at f))) s) (sym is);
      known = λ g h kn a. read_known known g h x a.0 a.1 kn;
    }

-- the same of what a statement gives, if it gives something
pub sure_is : (c : Context) (known : List (Option ℕ)) (registers : List (Option Address)) (st : Statement) (o : Option Command) (after : List (Option ℕ)) → IfSome o (λ k. MakesCycle c known registers st k after) → IsSure c known registers st (sure_of o) after registers
sure_is c known registers st None after h = tt
sure_is c known registers st (Some k) after h = (refl, h)

-- ---- statements without a cycle

module _ (c : Context) (known : List (Option ℕ)) (registers : List (Option Address)) where
  pub put_needs_none : (spot : Spot) (e : Expression) → NeedsNone c known registers (put spot e) known registers
  put_needs_none spot e s kn = go (value e s.variables) refl
    where
      go : (o : Option ℕ) → value e s.variables ≡ o → PassesFrom s (effect c most_turns (put spot e)) known registers
      go None is = inl (s, λ answers. ap (λ p. given p (λ v t. ends (with_word v t)) (on answers s)) is)
      go (Some v) is =
          inr (with_word v s, record { variables_are = kn.variables_are; registers_are = kn.registers_are }, λ answers. ap (λ p. given p (λ v t. ends (with_word v t)) (on answers s)) is)

  pub assign_needs_none : (spot : Spot) (x : ℕ) (e : Expression) (o : Option ℕ) → IfSome o (HasValue known e) → NeedsNone c known registers (assign spot x e) (set known x o) registers
  assign_needs_none spot x e o has s kn = go (value e s.variables) refl
    where
      is_it : (o : Option ℕ) (v : ℕ) → IfSome o (HasValue known e) → value e s.variables ≡ Some v → (w : ℕ) → o ≡ Some w → v ≡ w
      is_it None v h is w q = absurd (cc)
      is_it (Some u) v h is w q = let a : Some u ≡ Some v = sym (h s.variables kn.variables_are) ∙ is in cc

      go : (p : Option ℕ) → value e s.variables ≡ p → PassesFrom s (effect c most_turns (assign spot x e)) (set known x o) registers
      go None is = inl (s, λ answers. ap (λ p. given p (λ v t. ends (with_variable x v t)) (on answers s)) is)
      go (Some v) is =
          inr (
            with_variable x v s,
            record { variables_are = knows_set (λ v. v) known s.variables x o v kn.variables_are (is_it o v has is); registers_are = kn.registers_are },
            λ answers. ap (λ p. given p (λ v t. ends (with_variable x v t)) (on answers s)) is,
          )

  module _ (spot : Spot) (r : ℕ) (e1 e2 e3 : Expression) where
    abbrev pub HasAddress : Address → Type 0
    HasAddress at = HasValue known e1 at.crate_no × HasValue known e2 at.station × HasValue known e3 at.sub_address

    abbrev sets : Option ℕ → Option ℕ → Option ℕ → Action
    sets p1 p2 p3 = given p1 (λ x. given p2 (λ y. given p3 (λ z t. ends (with_register r (address x y z) t))))

    module _ (s : State) (kn : IsKnown known registers s) where
      same_at : (o : Option Address) (x y z : ℕ) → IfSome o HasAddress → value e1 s.variables ≡ Some x → value e2 s.variables ≡ Some y → value e3 s.variables ≡ Some z → (at : Address) → o ≡ Some at → Some (address x y z) ≡ Some at
      same_at None x y z h i1 i2 i3 at q = absurd (cc)
      same_at (Some a) x y z h i1 i2 i3 at q =
          let k = kn.variables_are in
          let a1 : Some a.crate_no ≡ Some x = sym (h.0 s.variables k) ∙ i1 in
          let a2 : Some a.station ≡ Some y = sym (h.1 s.variables k) ∙ i2 in
          let a3 : Some a.sub_address ≡ Some z = sym (h.2 s.variables k) ∙ i3 in
          ap Some (same a x y z (some_same a.crate_no x a1) (some_same a.station y a2) (some_same a.sub_address z a3)) ∙ q
        where
          some_same : (u v : ℕ) → Some u ≡ Some v → u ≡ v
          some_same u v e = cc

          same : (a : Address) (x y z : ℕ) → a.crate_no ≡ x → a.station ≡ y → a.sub_address ≡ z → address x y z ≡ a
          same a x y z p q r = rw (← p, ← q, ← r) refl

    pub register_needs_none : (o : Option Address) → IfSome o HasAddress → NeedsNone c known registers (set_register spot r e1 e2 e3) known (set registers r o)
    register_needs_none o has s kn = go (value e1 s.variables) (value e2 s.variables) (value e3 s.variables) refl refl refl
      where
        by : (p1 p2 p3 : Option ℕ) (answers : List Answer) → value e1 s.variables ≡ p1 → value e2 s.variables ≡ p2 → value e3 s.variables ≡ p3 → effect c most_turns (set_register spot r e1 e2 e3) (on answers s) ≡ sets p1 p2 p3 (on answers s)
        by p1 p2 p3 answers i1 i2 i3 = rw (← i1, ← i2, ← i3) refl

        go : (p1 p2 p3 : Option ℕ) → value e1 s.variables ≡ p1 → value e2 s.variables ≡ p2 → value e3 s.variables ≡ p3 → PassesFrom s (effect c most_turns (set_register spot r e1 e2 e3)) known (set registers r o)
        go None p2 p3 i1 i2 i3 = inl (s, λ answers. by None p2 p3 answers i1 i2 i3)
        go (Some x) None p3 i1 i2 i3 = inl (s, λ answers. by (Some x) None p3 answers i1 i2 i3)
        go (Some x) (Some y) None i1 i2 i3 = inl (s, λ answers. by (Some x) (Some y) None answers i1 i2 i3)
        go (Some x) (Some y) (Some z) i1 i2 i3 =
            inr (
              with_register r (address x y z) s,
              record { variables_are = kn.variables_are; registers_are = knows_set Some registers s.registers r o (Some (address x y z)) kn.registers_are (same_at s kn o x y z has i1 i2 i3) },
              λ answers. by (Some x) (Some y) (Some z) answers i1 i2 i3,
            )
