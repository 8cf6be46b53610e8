-- What goes on after open blocks.
use Rattle.std.proofs.Common.{◌≡◌, ◌∙◌, ℕ, zero, suc, ◌+◌, ◌-◌, ◌<◌, ◌≤◌, List, [], ◌∷◌, ◌++◌, length, set, take, drop, get_or, true, false, Bool, Option, Some, inr, refl, sym, ap, subst, arith}
use Rattle.std.proofs.lemmas.List.{take_all}
use Rattle.std.specs.Borrow.{Bor}
use Rattle.camac_branch.specs.Address.{Address}
use Rattle.camac_rules.specs.Checked.{CheckedScript}
use Rattle.camac_lang.specs.Tree.{Block, Procedure}
use Rattle.camac_lang.specs.View.{statements_of}
use Rattle.camac_model.specs.Behaviour.{Behaviour, Action, then_do, ends}
use Rattle.camac_model.specs.Fine.{most_turns}
use Rattle.camac_model.specs.Meaning.{Context, context, block_meaning, for_turns}
use Rattle.camac_model.proofs.Runs.{then_assoc}
use Rattle.camac_machine.specs.MachineState.{bounds_of, context_in, left_in, open_of, opens_of, owner_of, pending_of}
use Rattle.camac_model.specs.State.{State}
use Rattle.std.specs.Prelude.{if◌then◌else◌}
use Rattle.camac_machine.specs.Rest.{for_loop, locks, nothing, releases, returns, owed, rest_in}
use Rattle.camac_machine.specs.Store.{held_at, registers_in, variables_in}
use Rattle.camac_machine.specs.declared.machine.Frame.{Frame}
use Rattle.camac_machine.specs.declared.machine.Machine.{Machine}
use Rattle.camac_machine.specs.declared.machine.Pending.{Pending}
use Rattle.camac_machine.specs.declared.machine.Pending.TheVariants.{Cycle, Read, Lock, Transfer, Pause}
use Rattle.camac_lang.specs.declared.tree.Stmt.{Stmt}
use Rattle.camac_machine.specs.declared.scope.Scope.{Scope}
use Rattle.camac_machine.proofs.Blocks.{then_ends}
use Rattle.camac_machine.proofs.Frames.{left_pushed}
use Rattle.camac_run.specs.Sure.{IsKnown, KnowsRegisters, KnowsVariables, goes_on_with, context_before, context_of, LeadsTo, Adds, on}
use Rattle.camac_run.specs.declared.ahead.Inside.{Inside}
use Rattle.camac_run.specs.declared.ahead.Known.{Known}
use Rattle.camac_run.specs.declared.member.Member.{Member}
use Rattle.camac_run.specs.declared.member.Member.TheVariants as member
use Rattle.camac_run.proofs.Making.{MakesFirst, adds_both, adds_first, adds_last, adds_none, adds_passing, adds_release, leads_along}

-- all procedures of a script are before no procedure
pub before_none : (c : CheckedScript) → context_before c (length c.script.procedures) ≡ context_in c
before_none c = ap (λ (ps : List Procedure). context c.plan (record c.script { procedures = ps })) (take_all (length c.script.procedures) c.script.procedures (omega arith))

-- where a block sees all procedures
pub in_all : (b : Inside) (checked : Bor CheckedScript) (go : Context → Action) (k k' : Known) (old new : List Member) (r all : Bool) → b.checked ≡ checked → context_of b ≡ context_in checked.now → r ≡ all → Adds b.checked.now.plan (go (context_of b)) k old r k' new → Adds checked.now.plan (go (context_in checked.now)) k old all k' new
in_all b checked go k k' old new r all e1 e2 e3 a =
    subst (λ (t : Bool). Adds checked.now.plan (go (context_in checked.now)) k old t k' new) e3
    (subst (λ (x : Context). Adds checked.now.plan (go x) k old r k' new) e2
    (subst (λ (x : Bor CheckedScript). Adds x.now.plan (go (context_of b)) k old r k' new) e1 a))

last_of : {A : Type 0} (n : ℕ) (xs : List A) (last : A) → length xs ≡ suc n → last ≡ get_or xs n last → xs ≡ take n xs ++ last ∷ []
last_of zero [] last e is = absurd (omega (arith, e))
last_of zero (x ∷ []) last e is = ap (λ y. y ∷ []) (sym is)
last_of zero (x ∷ y ∷ ys) last e is = absurd (omega (arith, e))
last_of (suc n) [] last e is = absurd (omega (arith, e))
last_of (suc n) (x ∷ xs) last e is = ap (λ l. x ∷ l) (last_of n xs last (omega (arith, e)) is)

-- blocks by the innermost of them
pub innermost_is : (fs : List Frame) (last : Frame) → 1 ≤ length fs → last ≡ get_or fs (length fs - 1) last → fs ≡ take (length fs - 1) (drop 0 fs) ++ last ∷ []
innermost_is fs last some is = last_of (length fs - 1) fs last (omega (arith, some)) is

module _ (c : Context) (us : List ℕ) (qs : List (Option Address)) (outer : List Frame) (last : Frame) where
  abbrev outside : Action
  outside = rest_in c (opens_of us qs outer)

  abbrev block : Action
  block = block_meaning c most_turns (statements_of last.rest.now)

  abbrev after : Action
  after = owed c (owner_of us qs last.owner)

  abbrev whole : Action
  whole = rest_in c (opens_of us qs (outer ++ last ∷ []))

  abbrev further : Action
  further t = then_do (after t) outside

  whole_is : (s : State) → whole s ≡ then_do (block s) further
  whole_is s = left_pushed c (open_of us qs) outer last s ∙ then_assoc (block s) after outside

  module _ (k k1 k2 k3 : Known) (old new mid last' : List Member) where
    pub adds_no_block : Adds c.plan block k old false k1 new → Adds c.plan whole k old false k3 new
    adds_no_block a = adds_first c.plan block further whole whole_is k k1 k3 old new a

    pub adds_no_after : Adds c.plan block k old true k1 mid → Adds c.plan after k1 mid false k2 new → Adds c.plan whole k old false k3 new
    adds_no_after a b =
        adds_both c.plan block further whole whole_is k k1 k3 old mid new false a (adds_first c.plan after outside further (λ s. refl) k1 k2 k3 mid new b)

    pub adds_outer : Adds c.plan block k old true k1 mid → Adds c.plan after k1 mid true k2 last' → Adds c.plan outside k2 last' false k3 new → Adds c.plan whole k old false k3 new
    adds_outer a b d =
        adds_both c.plan block further whole whole_is k k1 k3 old mid new false a (adds_both c.plan after outside further (λ s. refl) k1 k2 k3 mid last' new false b d)

-- ---- what goes on after a block

pub adds_plain : (c : Context) (k : Known) (old : List Member) → Adds c.plan (owed c nothing) k old true k old
unfolding owed
adds_plain c k old = adds_none c.plan k (owed c nothing) old old refl (λ s. refl)

pub adds_owed : (c : Context) (n : ℕ) (k : Known) (old new : List Member) (r : Bool) → new ≡ old ++ (if r then member.Release n ∷ [] else []) → Adds c.plan (owed c (releases n)) k old r k new
unfolding owed
adds_owed c n k old new r e = adds_release c.plan n k old new r e

pub adds_return : (c : Context) (p : Scope) (us : List ℕ) (qs : List (Option Address)) (k k' : Known) (old : List Member) → KnowsVariables k'.variables (variables_in (held_at p.variables us)) → KnowsRegisters k'.registers (registers_in (held_at p.registers qs)) → Adds c.plan (owed c (returns p (held_at p.variables us) (held_at p.registers qs))) k old true k' old
unfolding owed
adds_return c p us qs k k' old knows knows' =
    adds_passing c.plan k k' (owed c (returns p (held_at p.variables us) (held_at p.registers qs))) old old refl
    (λ s known.
    inr (
      record s { variables = variables_in (held_at p.variables us); registers = registers_in (held_at p.registers qs) },
      record { variables_are = knows; registers_are = knows' },
      λ answers. refl,
    ))

module _ (c : Context) (x v w n : ℕ) (body : Block) (k : Known) (old : List Member) where
  abbrev turns_body : Action
  turns_body = block_meaning c most_turns body

  pub adds_turns_left : (k' : Known) (new : List Member) (all : Bool) → v < w → Adds c.plan (for_turns (w + 1 - (v + 1)) n x (v + 1) w turns_body) k old all k' new → Adds c.plan (owed c (for_loop x v w n body)) k old all k' new
  unfolding owed
  adds_turns_left k' new all less a =
      let same : w + 1 - (v + 1) ≡ w - v = omega (arith, less) in
      subst (λ j. Adds c.plan (for_turns j n x (v + 1) w turns_body) k old all k' new) same a

  pub adds_no_turn : w ≤ v → Adds c.plan (owed c (for_loop x v w n body)) k old true (record k { variables = set k.variables x (Some w) }) old
  unfolding owed
  adds_no_turn over =
      let none : 0 ≡ w - v = omega (arith, over) in
      subst (λ j. Adds c.plan (for_turns j n x (v + 1) w turns_body) k old true (record k { variables = set k.variables x (Some w) }) old) none
      (adds_last c.plan n x (v + 1) w turns_body k old old refl)

-- ---- what is ahead of all open blocks

module _ {V D C : ℕ} (h : Machine V D C) where
  abbrev here : Context
  here = context_in h.checked.now

  -- behind a cycle or a transfer
  pub adds_following : (w : Pending) (k : Known) (made : List Member) → ((c : ℕ) (body : Bor (List Stmt)) → w ≡ Lock c body → ⊥) → MakesFirst h.checked.now.plan (left_in h) k made → (t : State) → IsKnown k.variables k.registers t
      → LeadsTo h.checked.now.plan (bounds_of h) (λ u. then_do (goes_on_with here (pending_of w) u) (left_in h)) t made
  adds_following w k made unlocked m t known =
      leads_along h.checked.now.plan (bounds_of h) (λ u. then_do (goes_on_with here (pending_of w) u) (left_in h)) (λ u. then_do (left_in h u) (λ s. ends s)) t t made
      (λ answers. ap (λ (b : Behaviour State). then_do b (left_in h)) (alone w unlocked (on answers t)) ∙ sym (then_ends (left_in h (on answers t))))
      (m (bounds_of h) (λ s. ends s) t known)
    where
      alone : (v : Pending) → ((c : ℕ) (body : Bor (List Stmt)) → v ≡ Lock c body → ⊥) → (s : State) → goes_on_with here (pending_of v) s ≡ ends s
      alone (Cycle k) n s = refl
      alone (Read k x bits) n s = refl
      alone (Lock c body) n s = absurd (n c body refl)
      alone (Transfer v) n s = refl
      alone Pause n s = refl

  module _ (n : ℕ) (body : Block) where
    -- behind a lock
    abbrev behind : Action
    behind s = then_do (goes_on_with here (locks n body) s) (left_in h)

    pub leads_behind : (k : Known) (made : List Member) → MakesFirst h.checked.now.plan behind k made → (t : State) → IsKnown k.variables k.registers t → LeadsTo h.checked.now.plan (bounds_of h) behind t made
    leads_behind k made m t known =
        leads_along h.checked.now.plan (bounds_of h) behind (λ u. then_do (behind u) (λ s. ends s)) t t made (λ answers. sym (then_ends (behind (on answers t)))) (m (bounds_of h) (λ s. ends s) t known)

    module _ (k k1 k2 : Known) (old mid new : List Member) where
      pub adds_behind_part : Adds h.checked.now.plan (goes_on_with here (locks n body)) k old false k1 new → Adds h.checked.now.plan behind k old false k2 new
      adds_behind_part a = adds_first h.checked.now.plan (goes_on_with here (locks n body)) (left_in h) behind (λ s. refl) k k1 k2 old new a

      pub adds_behind : (r : Bool) → r ≡ true → Adds h.checked.now.plan (goes_on_with here (locks n body)) k old r k1 mid → Adds h.checked.now.plan (left_in h) k1 mid false k2 new → Adds h.checked.now.plan behind k old false k2 new
      adds_behind r it a b =
          adds_both h.checked.now.plan (goes_on_with here (locks n body)) (left_in h) behind (λ s. refl) k k1 k2 old mid new false
          (subst (λ t. Adds h.checked.now.plan (goes_on_with here (locks n body)) k old t k1 mid) it a) b
