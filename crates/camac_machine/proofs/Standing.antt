-- The statement that a machine stands in.
use Rattle.std.proofs.Common.{◌≡◌, ℕ, [], refl, sym, subst}
use Rattle.std.specs.Prelude.{Option, Some, None, IfSome, IsSomeAnd}
use Rattle.std.specs.Borrow.{Bor}
use Rattle.camac_rules.specs.Checked.{CheckedScript}
use Rattle.camac_lang.specs.Tree.{Statement}
use Rattle.camac_lang.specs.View.{statement_of}
use Rattle.camac_lang.specs.declared.tree.Stmt.{Stmt}
use Rattle.camac_model.specs.Fine.{most_turns}
use Rattle.camac_model.specs.Meaning.{Context, effect}
use Rattle.camac_model.specs.State.{stepped}
use Rattle.camac_machine.specs.declared.machine.Machine.{Machine}
use Rattle.camac_machine.specs.declared.machine.Pending.{Pending}
use Rattle.camac_machine.specs.MachineState.{context_in, state_of, pending_of, IsOf, IsOperationOf, StandsIn, Wants}
use Rattle.camac_machine.specs.Rest.{Operation, makes, reads, locks, transfers, pauses}

self_of : (w : Operation) → IsOf w w
self_of (makes k) = refl
self_of (reads k x bits) = refl
self_of (locks k body) = refl
self_of (transfers t f table x) = (t, refl)
self_of pauses = refl

later_of : (first w v : Operation) → IsOf first w → IsOf w v → IsOf first v
later_of (makes k) w v e f = subst (λ u. IsOf u v) e f
later_of (reads k x bits) w v e f = subst (λ u. IsOf u v) e f
later_of (locks k body) w v e f = subst (λ u. IsOf u v) e f
later_of (transfers t f table x) w v e g = subst (λ u. IsOf u v) e.1 g
later_of pauses w v e f = subst (λ u. IsOf u v) e f

goes_on : (c : Context) (w v : Operation) (st : Statement) → IsOf w v → IsOperationOf c w st → IsOperationOf c v st
goes_on c w v st later k = record { first = k.first; from = k.from; at = k.at; begins = k.begins; is_of = later_of k.first w v k.is_of later }

some_along : {A : Type 0} (o : Option A) (P Q : A → Type 0) → ((a : A) → P a → Q a) → IsSomeAnd o P → IsSomeAnd o Q
some_along None P Q go p = absurd p
some_along (Some a) P Q go p = go a p

module _ {V D C : ℕ} (h new : Machine V D C) where
  -- in the one that was begun now
  pub stands_first : (first : Bor Stmt) (o : Option Pending) → new.checked ≡ h.checked → IfSome o (Wants h (λ c s. effect c most_turns (statement_of first.now) (stepped s)) new) → IfSome o (StandsIn (record new { begun = Some first }))
  stands_first first None e w = tt
  stands_first first (Some v) e w =
      subst (λ (k : Bor CheckedScript). IsOperationOf (context_in k.now) (pending_of v) (statement_of first.now)) (sym e)
      (record { first = pending_of v; from = stepped (state_of h []); at = state_of new []; begins = λ answers. sym (w answers); is_of = self_of (pending_of v) })

  -- or still in the same
  pub stands_on : (o next' : Option Pending) → new ≡ record h { variables = new.variables } → IfSome o (StandsIn h) → IsSomeAnd o (λ w. IfSome next' (λ v. IsOf (pending_of w) (pending_of v))) → IfSome next' (StandsIn new)
  stands_on o None same s later = tt
  stands_on None (Some v) same s later = absurd later
  stands_on (Some w) (Some v) same s later =
      subst (λ (n : Machine V D C). StandsIn n v) (sym same)
      (some_along h.begun (λ b. IsOperationOf (context_in h.checked.now) (pending_of w) (statement_of b.now)) (λ b. IsOperationOf (context_in h.checked.now) (pending_of v) (statement_of b.now))
      (λ b. goes_on (context_in h.checked.now) (pending_of w) (pending_of v) (statement_of b.now) later) s)
