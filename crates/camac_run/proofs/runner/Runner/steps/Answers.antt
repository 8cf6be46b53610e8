use Rattle.std.proofs.Common.{[], ap, sym, refl, arith}
use Rattle.std.proofs.lemmas.Bool.{false≢true}
use Rattle.camac_machine.proofs.Settled.{steps_within}
use Rattle.camac_run.specs.Runner.{steps_of}
use Rattle.camac_run.proofs.Told.{rest_short, rest_over}
use Rattle.camac_run.proofs.runner.Runner.steps.Goals as goal

pub returns-in-Some-clause-steps : goal.returns-in-Some-clause-steps
returns-in-Some-clause-steps g c =
    let r = c.self.inside in
    rw (← c.self.view_is) (λ awake. sym (ap steps_of (rest_short r.machine r.pending c.in-Some.field-0 r.fed r.events r.has_event r.overrun r.at_demand r.limit c.in-Some.is awake c.self.invariant.awaits)))

pub returns-in-Some-clause-so_far : goal.returns-in-Some-clause-so_far
returns-in-Some-clause-so_far g c = λ some. rw (← c.self.view_is) refl

pub returns-in-Some-clause-within : goal.returns-in-Some-clause-within
returns-in-Some-clause-within g c =
    let r = c.self.inside in
    let fine = rw c.in-Some.is at c.self.invariant.fine in
    rw (← c.self.view_is) (steps_within r.machine c.in-Some.field-0 (rw c.in-Some.is at c.self.invariant.awaits) (fine []))

pub returns-in-None-clause-steps : goal.returns-in-None-clause-steps
returns-in-None-clause-steps g c =
    let r = c.self.inside in
    rw (← c.self.view_is) (λ awake. sym (ap steps_of (rest_over r.machine r.pending r.fed r.events r.has_event r.overrun r.at_demand r.limit c.in-None.is)))

pub returns-in-None-clause-so_far : goal.returns-in-None-clause-so_far
returns-in-None-clause-so_far g c = rw (← c.self.view_is, c.in-None.is) (λ some. absurd (false≢true some))

pub returns-in-None-clause-within : goal.returns-in-None-clause-within
returns-in-None-clause-within g c = omega arith
