use Rattle.std.proofs.Common.{ap, ◌∙◌}
use Rattle.camac_branch.specs.Crates.{branch_of}
use Rattle.camac_branch.proofs.branch.cycle.Goals as goal
use Rattle.camac_branch.proofs.branch.cycle.Goals.{in-Some, in-None}

pub returns-clause-next : goal.returns-clause-next
returns-clause-next c =
    elim c.match-controller.branch [
      | in-Some w ↦ rw (← c.controller.ensures, w.in-Some.is) (ap branch_of w.branch'-is ∙ w.controlled-q.ensures.next)
      | in-None w ↦ rw (← c.controller.ensures, w.in-None.is) (ap branch_of w.branch'-is)
    ]
