use Rattle.std.proofs.Common.{◌≡◌, Option, None, subst, sym, inl, ◌∙◌}
use Rattle.std.specs.Prelude.{IfSome}
use Rattle.camac_run.specs.Requested.{IsSafeRequest, held_in}
use Rattle.camac_run.specs.Runner.{RunnerState}
use Rattle.camac_run.specs.Sound.{runner_state}
use Rattle.camac_run.specs.declared.progress.Wanted.{Wanted}
use Rattle.camac_run.specs.Waits.{GoesOnUpTo, waits_of}
use Rattle.camac_run.proofs.Operation.{not_some, none_paused, can_send, wants_some, wants_none, goes_up_to, idle_up_to}
use Rattle.camac_run.proofs.runner.Runner.wants.Goals as goal

pub returns-in-Some-clause-wants : goal.returns-in-Some-clause-wants
returns-in-Some-clause-wants g c =
    let r = c.self.inside in
    let first : r.overrun ≡ None = not_some r.overrun (sym c.is_some.ensures ∙ c.if-is_some.false) in
    rw (c.operation.ensures, ← c.self.view_is)
    (wants_some r.machine r.fed r.events r.has_event r.overrun r.at_demand r.limit first r.pending c.in-Some.pending c.in-Some.is c.self.invariant.awaits)

pub returns-in-Some-clause-paused : goal.returns-in-Some-clause-paused
returns-in-Some-clause-paused g c = rw (c.operation.ensures, ← c.self.view_is) (λ paused. let p = rw c.in-Some.is at paused in none_paused c.in-Some.pending p)

pub returns-in-Some-clause-safe : goal.returns-in-Some-clause-safe
returns-in-Some-clause-safe g c =
    let r = c.self.inside in
    subst (λ (x : RunnerState). IfSome c.operation.result (IsSafeRequest x.checked.plan (held_in x))) c.self.view_is
    (subst (λ (o : Option Wanted). IfSome o (IsSafeRequest r.machine.checked.now.plan (held_in (runner_state r.machine r.pending r.fed r.events r.has_event r.overrun r.at_demand r.limit)))) (sym c.operation.ensures)
    (can_send r.machine c.in-Some.pending r.pending r.fed r.events r.has_event r.overrun r.at_demand r.limit c.in-Some.is c.self.invariant.awaits c.self.invariant.fine))

pub returns-in-None-clause-wants : goal.returns-in-None-clause-wants
returns-in-None-clause-wants g c =
    let r = c.self.inside in
    let first : r.overrun ≡ None = not_some r.overrun (sym c.is_some.ensures ∙ c.if-is_some.false) in
    rw (← c.self.view_is) (wants_none r.machine r.fed r.events r.has_event r.overrun r.at_demand r.limit first r.pending c.in-None.is)

pub returns-then-is_some-clause-wants : goal.returns-then-is_some-clause-wants
returns-then-is_some-clause-wants g c = rw (← c.self.view_is) (inl (sym c.is_some.ensures ∙ c.if-is_some.true))

pub returns-in-Some-clause-waits : goal.returns-in-Some-clause-waits
returns-in-Some-clause-waits g c =
    let r = c.self.inside in
    subst (λ (x : RunnerState). IfSome c.operation.result (λ o. GoesOnUpTo x (waits_of x o))) c.self.view_is
    (subst (λ (o : Option Wanted). IfSome o (λ x. GoesOnUpTo (runner_state r.machine r.pending r.fed r.events r.has_event r.overrun r.at_demand r.limit) (waits_of (runner_state r.machine r.pending r.fed r.events r.has_event r.overrun r.at_demand r.limit) x))) (sym c.operation.ensures)
    (goes_up_to r.machine r.fed r.events r.has_event r.overrun r.at_demand r.limit r.pending c.in-Some.pending c.in-Some.is c.self.invariant.awaits))

pub returns-in-None-clause-waits : goal.returns-in-None-clause-waits
returns-in-None-clause-waits g c =
    let r = c.self.inside in
    rw (← c.self.view_is) (idle_up_to r.machine r.fed r.events r.has_event r.overrun r.at_demand r.limit r.pending c.in-None.is)
